-- Marks of entries, number by number; and the ways out of marking.
-- Assumes nothing.
use mathlib.Core.Path.{◌≡◌, refl, sym, ap, ◌∙◌}
use mathlib.Core.Bool.{Bool, true, false, not, ◌&&◌, ◌||◌}
use mathlib.Core.List.{List}
use Prim.Native.Nat.{ℕ, zero, suc, ◌<◌}
use native.Mathlib.Omega.{arith}
use borrow.Author.Tests.{eq-eqb, ne_eqb, eqb-true}
use lib.Dec.{eqb}
use lib.ListN.{length, get_or, set, replicate}
use lib.Seq.{get_or-set_same, get_or-set_other}
use Rattle.refusals.specs.Cases.{first_of}
use Rattle.refusals.proofs.Booleans.{not_and, not_twice}
use Rattle.octets.specs.Below.{all_below}
use Rattle.octets.proofs.Below.{all_next}
use Rattle.header.specs.Fields.{directory_of}
use Rattle.directory.specs.Search.{index_of}
use Rattle.joblist.specs.List.{numbers, listed, list_cases}
use Rattle.joblist.specs.Marks.{named_by, Marked}
use Rattle.std.specs.Prelude.{Result, Ok, Err}
use Rattle.refusals.specs.Numbers.{number, number_in}
use Rattle.refusals.specs.declared.Refusal.{Refusal}
use Rattle.refusals.proofs.Numbers.{number_some}

-- ---- marks

module _ (file list : List ℕ) (i : ℕ) where
  pub named_none : named_by file list 0 i ≡ false
  unfolding named_by all_below
  named_none = refl

  pub named_next : (k : ℕ) → named_by file list (suc k) i ≡ (named_by file list k i || eqb (index_of (directory_of file) (listed list k)) i)
  unfolding named_by
  named_next k =
      let other : ℕ → Bool = λ m. not (eqb (index_of (directory_of file) (listed list m)) i) in
      ap not (all_next other k)
      ∙ not_and (all_below other k) (other k)
      ∙ ap (λ (b : Bool). not (all_below other k) || b) (not_twice (eqb (index_of (directory_of file) (listed list k)) i))

-- none is marked at first
pub fresh : (n i : ℕ) → get_or (replicate n false) i false ≡ false
fresh zero i = refl
fresh (suc n) zero = refl
fresh (suc n) (suc i) = fresh n i

-- one entry more is marked
pub mark_more : (named : List Bool) (i j : ℕ) → i < length named → get_or (set named i true) j false ≡ (get_or named j false || eqb i j)
mark_more named i j l = by_test (eqb i j) refl
  where
    or_true : (b : Bool) → true ≡ (b || true)
    or_true true = refl
    or_true false = refl

    or_false : (b : Bool) → b ≡ (b || false)
    or_false true = refl
    or_false false = refl

    by_test : (b : Bool) → eqb i j ≡ b → get_or (set named i true) j false ≡ (get_or named j false || b)
    by_test true e =
        let same : j ≡ i = sym (eqb-true i j e) in
        ap (λ (k : ℕ). get_or (set named i true) k false) same ∙ get_or-set_same named i true false l ∙ or_true (get_or named j false)
    by_test false e =
        get_or-set_other named i j true false
        (λ q. let z : ◌≡◌ {A = Bool} true false = sym (eq-eqb i j (sym q)) ∙ e in let y : ◌≡◌ {A = ℕ} 0 1 = cc in omega arith)
        ∙ or_false (get_or named j false)

-- one past the 64th is not
pub mark_none : (named : List Bool) (i j : ℕ) → (i ≡ j → ⊥) → get_or named j false ≡ (get_or named j false || eqb i j)
mark_none named i j h = rw (ne_eqb i j h) (or_false (get_or named j false))
  where
    or_false : (b : Bool) → b ≡ (b || false)
    or_false true = refl
    or_false false = refl

-- ---- the ways out

module _ (file list : List ℕ) where
  pub marked_refused : (r : Result (List Bool) Refusal) (e : Refusal) → number_in r ≡ number e → number e ≡ first_of (list_cases file list)
      → Marked file list r
  marked_refused (Ok named) e is q = absurd (number_some e (sym is))
  marked_refused (Err d) e is q = record {
    number = is ∙ q;
    named = λ i l. ap (λ (b : Bool). b && named_by file list (numbers list) i) (sym (ne_eqb (number d) 0 (number_some d)));
  }

  pub marked_all : (named : List Bool) → first_of (list_cases file list) ≡ 0
      → ((i : ℕ) → i < 64 → get_or named i false ≡ named_by file list (numbers list) i) → Marked file list (Ok named)
  marked_all named e all = record { number = sym e; named = all }
