-- `sealing::Draft::write_bodies` meets its contract: after i turns the first i bodies are sealed, and the rest is plain.
use Rattle.std.proofs.Common.{◌≡◌, ◌++◌, drop}
use Rattle.blocks.specs.Blocks.{row}
use Rattle.sheet.specs.Sheet.{sizes_on}
use Rattle.sealing.specs.Internal.{body_on}
use Rattle.sealing.proofs.Draft.write_bodies.Given as goal

abbrev pub invariant-loop-i : goal.invariant-loop-i
invariant-loop-i l = record {
  begun : l.at ≡ sizes_on l.self.sheet.now l.i;
  written : l.run ≡ row (body_on l.schedule.schedule l.self.sheet.now l.self.plain.now) l.i
      ++ drop (sizes_on l.self.sheet.now l.i) l.self.plain.now;
}
