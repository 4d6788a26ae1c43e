-- Which numbers the cases of a header have.
-- Assumes nothing.
use mathlib.Core.Path.{◌≡◌, refl}
use mathlib.Core.Bool.{Bool, true, not, ◌&&◌}
use mathlib.Core.List.{List}
use Prim.Native.Nat.{ℕ}
use lib.Dec.{eqb}
use Rattle.refusals.specs.Cases.{positive, lacks}
use Rattle.refusals.proofs.Cases.{first_stop, first_pass}
use Rattle.refusals.proofs.Numbers.{number_some}
use Rattle.header.specs.Cases.{front_cases, field_cases, header_cases}

-- m is the number of no case: computed where m is a numeral
abbrev pub not_of_header : ℕ → Bool
not_of_header m =
    not (eqb 5 m)
    && (not (eqb 6 m)
    && (not (eqb 7 m)
    && (not (eqb 24 m) && (not (eqb 8 m) && (not (eqb 9 m) && (not (eqb 10 m) && (not (eqb 11 m) && (not (eqb 12 m) && true))))))))

pub front_positive : (layout : ℕ) (file : List ℕ) → positive (front_cases layout file) ≡ true
unfolding front_cases positive
front_positive layout file = refl

-- the length and the layout first, then the other fields: a refusal of the first stands, and else the second is left
pub ruleset in_stages = (first_stop, first_pass, number_some, front_positive)

module _ (layout keysize : ℕ) (check file : List ℕ) where
  pub header_positive : positive (header_cases layout keysize check file) ≡ true
  unfolding header_cases front_cases field_cases positive
  header_positive = refl

  pub header_lacks : (m : ℕ) → not_of_header m ≡ true → lacks m (header_cases layout keysize check file) ≡ true
  unfolding header_cases front_cases field_cases lacks
  header_lacks m e = e
