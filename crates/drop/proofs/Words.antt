-- `--preview` is no job number; a word that is a job number stays it, and one that is none becomes none.
-- Assumes nothing.
use mathlib.Core.Path.{◌≡◌, refl, ap, ◌∙◌}
use mathlib.Core.Bool.{false}
use mathlib.Core.List.{List}
use Prim.Native.Nat.{ℕ}
use lib.Dec.{eqb}
use lib.ListN.{length, replicate}
use Rattle.refusals.proofs.Booleans.{by_test, both_true}
use Rattle.octets.specs.Below.{all_below}
use Rattle.octets.proofs.Equality.{same_eq}
use Rattle.jobnumber.specs.Number.{digits, is_job_number}
use Rattle.drop.specs.Words.{preview_word, slot_of, PreviewNoNumber, OwnNumber, NoNumber}

preview_none : is_job_number preview_word ≡ false
unfolding is_job_number digits all_below
preview_none = refl

pub preview_no_number : PreviewNoNumber
preview_no_number word e = ap is_job_number (same_eq word preview_word e) ∙ preview_none

pub own_number : OwnNumber
unfolding slot_of is_job_number
own_number word e = rw (both_true (eqb (length word) 8) (digits word) e).0

pub no_number : NoNumber
unfolding slot_of is_job_number digits all_below
no_number word e =
    let zeros : is_job_number (replicate 8 0) ≡ false = refl in
    by_test (λ (s : List ℕ). is_job_number s ≡ false) (eqb (length word) 8) e zeros
