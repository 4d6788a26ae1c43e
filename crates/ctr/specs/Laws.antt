-- What is claimed of counter mode: it undoes itself, and a run may be worked on in pieces, each from its own first byte on. Under a good
-- schedule that is so by the keystream, under a bad one because nothing is changed.
-- Assumes nothing.
use Rattle.std.specs.Prelude.{◌≡◌, List, ◌++◌, ℕ, ◌+◌, length}
use Rattle.circuit.specs.declared.Schedule.{Schedule}
use Rattle.ctr.specs.Counter.{ctr_bytes}

abbrev pub CtrTwice : Type 0
CtrTwice = (s : Schedule) (prefix : List ℕ) (first : ℕ) (xs : List ℕ) → ctr_bytes s prefix first (ctr_bytes s prefix first xs) ≡ xs

abbrev pub CtrPieces : Type 0
CtrPieces = (s : Schedule) (prefix : List ℕ) (first : ℕ) (xs ys : List ℕ)
    → ctr_bytes s prefix first (xs ++ ys) ≡ ctr_bytes s prefix first xs ++ ctr_bytes s prefix (first + length xs) ys
