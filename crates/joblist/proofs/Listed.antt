-- Numbers of a list: all of them, those that are in it and those that are not, and the entries that it names in a sound directory.
-- Assumes nothing.
use mathlib.Core.Path.{◌≡◌, refl, sym, ap, ◌∙◌}
use mathlib.Core.Bool.{true, false, not}
use mathlib.Core.List.{List, ◌++◌}
use Prim.Native.Nat.{ℕ, zero, suc, ◌+◌, ◌*◌, ◌%◌, ◌<◌, ◌≤◌}
use native.Mathlib.Omega.{arith}
use borrow.Author.Tests.{eqb-true, eqb-false, eq-eqb, not-true, not-false}
use lib.Dec.{eqb}
use lib.ListN.{length, take}
use lib.Seq.{take_all, take-add}
use Rattle.refusals.specs.Cases.{first_of}
use Rattle.refusals.proofs.Booleans.{true_false, not_yes, both_ways}
use Rattle.octets.specs.Equality.{same_bytes}
use Rattle.octets.proofs.Equality.{same_refl, same_eq, eq_same, ne_same}
use Rattle.octets.proofs.Below.{all_yes, all_no, all_same}
use Rattle.blocks.specs.Blocks.{row}
use Rattle.header.specs.Fields.{directory_of}
use Rattle.directory.specs.Entries.{entries, entry_at, number_of}
use Rattle.directory.specs.Search.{index_of, search_cases}
use Rattle.directory.specs.Sound.{Sound}
use Rattle.directory.proofs.Searching.{some_inside, some_bears}
use Rattle.bodies.specs.Bodies.{number_cases}
use Rattle.bodies.proofs.Numbers.{number_search}
use Rattle.joblist.specs.List.{numbers, listed, is_listed, list_cases, ListedAll}
use Rattle.joblist.specs.Marks.{named_by, MarksListed}
use Rattle.joblist.proofs.Cases.{list_none, list_clear}

-- the first n numbers are as many bytes of the list
listed_front : (list : List ℕ) (n : ℕ) → row (listed list) n ≡ take (8 * n) list
unfolding row listed
listed_front list zero = refl
listed_front list (suc n) =
    let next : 8 * n + 8 ≡ 8 * suc n = omega arith in
    ap (λ (l : List ℕ). l ++ listed list n) (listed_front list n)
    ∙ sym (take-add (8 * n) 8 list)
    ∙ ap (λ (k : ℕ). take k list) next

pub listed_all : ListedAll
listed_all list whole =
    let all : length list ≤ 8 * numbers list = omega arith in
    listed_front list (numbers list) ∙ take_all (8 * numbers list) list all

-- a number of the list is in it
pub is_listed_lem : (list : List ℕ) (k : ℕ) → k < numbers list → is_listed list (listed list k) ≡ true
unfolding is_listed
is_listed_lem list k l = ap not (all_no _ (numbers list) k l (ap not (same_refl (listed list k))))

-- one that is none of its numbers is not
pub listed_no : (list number : List ℕ) → ((k : ℕ) → k < numbers list → listed list k ≡ number → ⊥) → is_listed list number ≡ false
unfolding is_listed
listed_no list number h = ap not (all_yes _ (numbers list) (λ k l. ap not (ne_same (listed list k) number (h k l))))

-- a number that is in a list without a case has none itself
listed_clear : (file list number : List ℕ) → first_of (list_cases file list) ≡ 0 → is_listed list number ≡ true
    → first_of (number_cases file number) ≡ 0
unfolding is_listed
listed_clear file list number e inside =
    let n : ℕ = first_of (number_cases file number) in
    let differ : (n ≡ 0 → ⊥) → (k : ℕ) → k < numbers list → not (same_bytes (listed list k) number) ≡ true =
    λ h k l.
    ap not
    (ne_same (listed list k) number
    (λ same. h (ap (λ (s : List ℕ). first_of (number_cases file s)) (sym same) ∙ (list_clear file list e).1 k l)))
    in
    let not_some : not (eqb n 0) ≡ true → ⊥ =
    λ q. true_false (sym inside ∙ ap not (all_yes _ (numbers list) (differ (eqb-false n 0 (not-true _ q)))))
    in
    eqb-true n 0 (not-false _ (not_yes _ not_some))

-- so another list of the same numbers, in whole numbers, has no case either
pub alike_clear : (file list other : List ℕ) → ((number : List ℕ) → is_listed list number ≡ is_listed other number) → length other % 8 ≡ 0
    → first_of (list_cases file list) ≡ 0 → first_of (list_cases file other) ≡ 0
alike_clear file list other alike whole e =
    list_none file other whole
    (λ k l. listed_clear file list (listed other k) e (alike (listed other k) ∙ is_listed_lem other k l))

-- the search of a number that is found comes to entry i where that bears it, and nowhere else
search_same : (d number : List ℕ) (from limit : ℕ) → Sound d from limit → first_of (search_cases d number) ≡ 0 → (i : ℕ) → i < entries d
    → eqb (index_of d number) i ≡ same_bytes number (number_of (entry_at d i))
search_same d number from limit sound found i l =
    let inside = some_inside d number found in
    let bears = some_bears d number found in
    both_ways (eqb (index_of d number) i) (same_bytes number (number_of (entry_at d i)))
    (λ e. eq_same _ _ (sym bears ∙ ap (λ (k : ℕ). number_of (entry_at d k)) (eqb-true _ _ e)))
    (λ e. eq-eqb _ _ (sound.single (index_of d number) i inside l (bears ∙ same_eq _ _ e)))

pub marks_listed : MarksListed
unfolding named_by is_listed
marks_listed file list from limit sound e i l =
    ap not
    (all_same _ _ (numbers list)
    (λ k h.
    let found = number_search file (listed list k) ((list_clear file list e).1 k h) in
    ap not (search_same (directory_of file) (listed list k) from limit sound found i l)))
