-- `dropping::Left::write_directory` meets its contract: after i turns the entries of the jobs left of the first i are written, and `start`
-- is where the next body begins.
use Rattle.std.specs.Prelude.{◌≡◌, ◌++◌, ◌+◌, ◌*◌, ◌≤◌, length, drop}
use Rattle.codec.specs.Jobs.{directory_from, bodies_in}
use Rattle.dropping.specs.Internal.{left_of}
use Rattle.dropping.proofs.Left.write_directory.Given as goal

abbrev pub invariant-loop-i : goal.invariant-loop-i
invariant-loop-i l = record {
  started : l.start ≡ 20 + length l.initial.run + length (bodies_in (left_of l.goes-items l.self.file.now l.i));
  bounded : l.start ≤ 20 + length l.initial.run + 65536 * l.i;
  counted : l.at ≡ 16 * length (left_of l.goes-items l.self.file.now l.i);
  sized : l.at ≡ length (directory_from (20 + length l.initial.run) (left_of l.goes-items l.self.file.now l.i));
  written : l.run ≡ directory_from (20 + length l.initial.run) (left_of l.goes-items l.self.file.now l.i) ++ drop l.at l.initial.run;
}
