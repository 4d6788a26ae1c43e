-- `sealing::Draft::write_directory` meets its contract: after i turns the first i entries are written, and `start` is where the next body
-- begins.
use Rattle.std.proofs.Common.{◌≡◌, ◌++◌, ◌+◌, ◌*◌, drop}
use Rattle.blocks.specs.Blocks.{row}
use Rattle.sheet.specs.Sheet.{lines, sizes_on}
use Rattle.sealing.specs.Internal.{entry_on}
use Rattle.sealing.proofs.Draft.write_directory.Given as goal

abbrev pub invariant-loop-i : goal.invariant-loop-i
invariant-loop-i l = record {
  started : l.start ≡ 20 + 16 * lines l.self.sheet.now + sizes_on l.self.sheet.now l.i;
  written : l.run ≡ row (entry_on l.self.sheet.now (20 + 16 * lines l.self.sheet.now)) l.i ++ drop (16 * l.i) l.initial.run;
}
