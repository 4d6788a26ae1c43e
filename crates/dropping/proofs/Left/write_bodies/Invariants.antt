-- `dropping::Left::write_bodies` meets its contract: after i turns the bodies of the jobs left of the first i are written.
use Rattle.std.specs.Prelude.{◌≡◌, ◌++◌, length, drop}
use Rattle.codec.specs.Jobs.{bodies_in}
use Rattle.dropping.specs.Internal.{left_of}
use Rattle.dropping.proofs.Left.write_bodies.Given as goal

abbrev pub invariant-loop-i : goal.invariant-loop-i
invariant-loop-i l = record {
  sized : l.at ≡ length (bodies_in (left_of l.goes-items l.self.file.now l.i));
  written : l.run ≡ bodies_in (left_of l.goes-items l.self.file.now l.i) ++ drop l.at l.initial.run;
}
