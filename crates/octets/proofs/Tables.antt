-- Tables and lists of a rule's values: how long they are, their entries, and a list as that of its entries.
-- Assumes nothing.
use mathlib.Core.Path.{◌≡◌, refl, ◌∙◌, ap, ap₂, sym}
use mathlib.Core.List.{List, [], ◌∷◌}
use Prim.Native.Nat.{ℕ, zero, suc, ◌+◌, ◌<◌}
use native.Mathlib.Nat.{add-zero, zero-add, add-suc, suc-add, le_of_suc-le-suc, not-suc-le-zero}
use native.Mathlib.Omega.{arith}
use lib.ListN.{length, get_or}
use Rattle.octets.specs.Tables.{values_from, values, tables}

module _ {A : Type 0} (rule : ℕ → A) (none : A) where
  values_from_lem : (n i k : ℕ) → k < n → get_or (values_from rule i n) k none ≡ rule (i + k)
  values_from_lem zero i k h = absurd (not-suc-le-zero h)
  values_from_lem (suc n) i zero h = ap rule (sym (add-zero i))
  values_from_lem (suc n) i (suc k) h = values_from_lem n (suc i) k (le_of_suc-le-suc h) ∙ ap rule (suc-add i k ∙ sym (add-suc i k))

  pub values_at : (n k : ℕ) → k < n → get_or (values rule n) k none ≡ rule k
  values_at n k h = values_from_lem n 0 k h ∙ ap rule (zero-add k)

module _ {A : Type 0} where
  length_from : (rule : ℕ → A) (n i : ℕ) → length (values_from rule i n) ≡ n
  length_from rule zero i = refl
  length_from rule (suc n) i = ap suc (length_from rule n (suc i))

  pub values_length : (rule : ℕ → A) (n : ℕ) → length (values rule n) ≡ n
  values_length rule n = length_from rule n 0

  -- counted from the next number on
  shifted : (rule : ℕ → A) (n i : ℕ) → values_from rule (suc i) n ≡ values_from (λ (k : ℕ). rule (suc k)) i n
  shifted rule zero i = refl
  shifted rule (suc n) i = ap (λ (l : List A). rule (suc i) ∷ l) (shifted rule n (suc i))

  -- the first value, and then those of the rule one further on
  pub values_next : (rule : ℕ → A) (n : ℕ) → values rule (suc n) ≡ rule 0 ∷ values (λ (k : ℕ). rule (suc k)) n
  values_next rule n = ap (λ (l : List A). rule 0 ∷ l) (shifted rule n 0)

  -- a list is that of its entries
  pub values_of : (rule : ℕ → A) (xs : List A) (none : A) → ((i : ℕ) → i < length xs → rule i ≡ get_or xs i none)
      → values rule (length xs) ≡ xs
  values_of rule [] none h = refl
  values_of rule (x ∷ xs) none h =
      values_next rule (length xs)
      ∙ ap₂ (λ (y : A) (ys : List A). y ∷ ys) (h zero (omega arith))
      (values_of (λ (k : ℕ). rule (suc k)) xs none (λ i l. h (suc i) (omega arith)))

-- entry x of table p of group b is the rule's value at b, p and x
pub tables_at : (rule : ℕ → ℕ → ℕ → ℕ) (l m n b p x : ℕ) → b < l → p < m → x < n
    → get_or (get_or (get_or (tables rule l m n) b []) p []) x 0 ≡ rule b p x
tables_at rule l m n b p x hb hp hx =
    ap (λ (t : List (List ℕ)). get_or (get_or t p []) x 0) (values_at (λ (b : ℕ). values (λ (p : ℕ). values (rule b p) n) m) [] l b hb)
    ∙ ap (λ (t : List ℕ). get_or t x 0) (values_at (λ (p : ℕ). values (rule b p) n) [] m p hp)
    ∙ values_at (rule b p) 0 n x hx

-- what stands past a table's end does not matter at an entry of it
pub default : (l : List ℕ) (x d e : ℕ) → x < length l → get_or l x d ≡ get_or l x e
default [] x d e h = absurd (not-suc-le-zero h)
default (y ∷ l) zero d e h = refl
default (y ∷ l) (suc x) d e h = default l x d e (le_of_suc-le-suc h)
