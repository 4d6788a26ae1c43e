-- Looking a job number up: what its cases tell.
-- Assumes nothing.
use mathlib.Core.Path.{◌≡◌, refl, sym}
use mathlib.Core.Bool.{Bool, true, false, not, cond}
use mathlib.Core.List.{List, [], ◌∷◌}
use Prim.Native.Nat.{ℕ}
use native.Mathlib.Omega.{arith}
use borrow.Author.Tests.{eqb-true, not-false}
use lib.Dec.{eqb}
use lib.ListN.{length}
use Rattle.refusals.specs.Cases.{when, first_of, positive}
use Rattle.refusals.specs.Answers.{gives}
use Rattle.refusals.proofs.Booleans.{both_true}
use Rattle.refusals.proofs.Cases.{clear, first_none}
use Rattle.refusals.proofs.Answers.{answer_gives}
use Rattle.header.specs.Fields.{directory_of}
use Rattle.jobnumber.specs.Number.{digits, is_job_number}
use Rattle.directory.specs.Search.{search_cases, search_of}
use Rattle.bodies.specs.Bodies.{number_cases, lookup_of}

module _ (file number : List ℕ) where
  pub number_positive : positive (number_cases file number) ≡ true
  unfolding number_cases search_cases positive
  number_positive = refl

  -- no case of the number: those of the search are none
  pub number_search : first_of (number_cases file number) ≡ 0 → first_of (search_cases (directory_of file) number) ≡ 0
  unfolding number_cases positive
  number_search e = (first_none (when (not (is_job_number number)) 18 ∷ []) (search_cases (directory_of file) number) refl e).1

  -- 19 is the search's own
  pub number_missing : first_of (number_cases file number) ≡ 19 → first_of (search_cases (directory_of file) number) ≡ 19
  unfolding number_cases first_of
  number_missing e = go (not (is_job_number number)) e
    where
      go : (b : Bool) → cond b 18 (first_of (search_cases (directory_of file) number)) ≡ 19
          → first_of (search_cases (directory_of file) number) ≡ 19
      go true e = absurd (omega arith)
      go false e = e

  -- nor is 18
  pub number_good : first_of (number_cases file number) ≡ 0 → is_job_number number ≡ true
  unfolding number_cases
  number_good e = not-false _ (clear (number_cases file number) number_positive e 0)

  -- a number that is found has eight bytes
  pub lookup_eight : (i : ℕ) → gives i ≡ lookup_of file number → length number ≡ 8
  unfolding is_job_number
  lookup_eight i e =
      let good = number_good (answer_gives _ _ i (sym e)).0 in
      eqb-true (length number) 8 (both_true (eqb (length number) 8) (digits number) good).0

  -- of a job number the search is left
  pub number_asked : is_job_number number ≡ true → lookup_of file number ≡ search_of (directory_of file) number
  unfolding number_cases first_of
  number_asked e = rw e
