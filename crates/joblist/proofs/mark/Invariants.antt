-- `joblist::mark` meets its contract: after k turns the first k numbers have no case, and the entries that they name are marked.
use mathlib.Core.Path.{◌≡◌}
use mathlib.Core.Bool.{false}
use Prim.Native.Nat.{ℕ, ◌<◌}
use lib.ListN.{get_or}
use Rattle.refusals.specs.Cases.{first_of}
use Rattle.bodies.specs.Bodies.{number_cases}
use Rattle.joblist.specs.List.{listed}
use Rattle.joblist.specs.Marks.{named_by}
use Rattle.joblist.proofs.mark.Given as goal

abbrev pub invariant-loop-k : goal.invariant-loop-k
invariant-loop-k l =
    ((j : ℕ) → j < l.k → first_of (number_cases l.file (listed l.list j)) ≡ 0)
    × ((i : ℕ) → i < 64 → get_or l.named i false ≡ named_by l.file l.list l.k i)
