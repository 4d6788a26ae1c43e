-- The search answers the same whatever stands after an entry above the number, and on accepted directories what the full search does.
-- Assumes nothing.
use mathlib.Core.Path.{◌≡◌, refl, sym, ap, ◌∙◌}
use mathlib.Core.Bool.{Bool, true, false}
use mathlib.Core.List.{List, [], ◌∷◌}
use Prim.Native.Nat.{ℕ, suc, ◌+◌, ◌*◌, ◌<◌, ◌≤◌}
use native.Mathlib.Omega.{arith}
use borrow.Author.Tests.{ltb-true, ltb-false}
use lib.Dec.{eqb, ltb}
use lib.ListN.{take}
use Rattle.refusals.specs.Cases.{when, first_of}
use Rattle.refusals.specs.Answers.{gives, answer}
use Rattle.refusals.proofs.Booleans.{not_yes}
use Rattle.octets.specs.Below.{first_index}
use Rattle.octets.proofs.Below.{index_le, index_hit, index_before, index_most}
use Rattle.octets.proofs.Parts.{part_same}
use Rattle.jobnumber.specs.Number.{order_of}
use Rattle.directory.specs.Entries.{entries, entry_at, number_of}
use Rattle.directory.specs.Search.{bears, above, ends_at, stop_of, index_of, search_cases, search_of}
use Rattle.directory.specs.EarlyEnd.{EarlyEnd, full_index_of, full_search_cases, Unchanged}
use Rattle.directory.proofs.Entries.{entry_inside}
use Rattle.directory.proofs.Accepted.{sound_directories}
use Rattle.directory.proofs.Searching.{bearing, same_place, not_above, ends_above, goes_on, ends_so}
use Rattle.directory.proofs.Searching.{index_found, index_nowhere, search_at, search_past, none_behind}

-- ---- whatever stands after the entry

module _ (c d number : List ℕ) (k : ℕ) (lc : k < entries c) (ld : k < entries d) (same : take (16 * suc k) c ≡ take (16 * suc k) d) where
  -- the entries are the same as far as k
  entry_same : (i : ℕ) → i ≤ k → entry_at c i ≡ entry_at d i
  entry_same i l =
      let ic : i < entries c = omega arith in
      let id : i < entries d = omega arith in
      let within : 16 * i + 16 ≤ 16 * suc k = omega arith in
      entry_inside c i ic ∙ part_same c d (16 * i) 16 (16 * suc k) within same ∙ sym (entry_inside d i id)

  bears_same : (i : ℕ) → i ≤ k → bears c number i ≡ bears d number i
  unfolding bears
  bears_same i l = rw (entry_same i l)

  above_same : (i : ℕ) → i ≤ k → above c number i ≡ above d number i
  unfolding above
  above_same i l = rw (entry_same i l)

  ends_same : (i : ℕ) → i ≤ k → ends_at c number i ≡ ends_at d number i
  unfolding ends_at
  ends_same i l = rw (bears_same i l, above_same i l)

  -- both searches end at entry s
  module _ (s : ℕ) (l : s ≤ k) (ends : ends_at c number s ≡ true) (before : (j : ℕ) → j < s → ends_at c number j ≡ false) where
    before_same : (j : ℕ) → j < s → ends_at d number j ≡ false
    before_same j h = sym (ends_same j (omega arith)) ∙ before j h

    ends_alike : search_of c number ≡ search_of d number
    ends_alike = go (bears c number s) refl
      where
        ic : s < entries c
        ic = omega arith

        id : s < entries d
        id = omega arith

        go : (b : Bool) → bears c number s ≡ b → search_of c number ≡ search_of d number
        go true e = sym (search_at c number s ic before e) ∙ search_at d number s id before_same (sym (bears_same s l) ∙ e)
        go false e =
            let p = ends_so c number s e ends in
            sym (search_past c number s ic before p) ∙ search_past d number s id before_same (sym (above_same s l) ∙ p)

pub early_end : EarlyEnd
unfolding stop_of
early_end c d number k lc ld p same =
    let s : ℕ = stop_of c number in
    let most : s ≤ k = index_most (ends_at c number) (entries c) k (ends_above c number k p) in
    let inside : s < entries c = omega arith in
    ends_alike c d number k lc ld same s most
    (index_hit (ends_at c number) (entries c) inside)
    (index_before (ends_at c number) (entries c))

-- ---- the full search

module _ (d number : List ℕ) (ascending : (i j : ℕ) → i < j → j < entries d → order_of (entry_at d i) < order_of (entry_at d j)) where
  -- where numbers ascend, no entry before one that bears the number is above it, or bears it too
  bearer_first : (i : ℕ) → i < entries d → bears d number i ≡ true → (k : ℕ) → k < i → ends_at d number k ≡ false
  bearer_first i inside here k l =
      let place = same_place d number i here in
      let below = ascending k i l inside in
      goes_on d number k (not_yes (bears d number k) (λ b. omega (arith, same_place d number k b))) (not_above d number k (omega arith))

  -- so it is the entry that the search comes to
  pub search_bearer : (i : ℕ) → i < entries d → number_of (entry_at d i) ≡ number → gives i ≡ search_of d number
  search_bearer i l q = let here = bearing d number i q in search_at d number i l (bearer_first i l here) here

  pub index_full : index_of d number ≡ full_index_of d number
  unfolding full_index_of
  index_full = go (ltb f (entries d)) refl
    where
      f : ℕ
      f = first_index (bears d number) (entries d)

      go : (b : Bool) → ltb f (entries d) ≡ b → index_of d number ≡ f
      go true e =
          let inside = ltb-true f (entries d) e in
          let here = index_hit (bears d number) (entries d) inside in
          index_found d number f inside (bearer_first f inside here) here
      go false e =
          let none : f ≡ entries d = omega (arith, ltb-false f (entries d) e, index_le (bears d number) (entries d)) in
          index_nowhere d number (λ k l. index_before (bears d number) (entries d) k (omega arith)) ∙ sym none

  -- so 19 says that none bears it
  pub none_bears : first_of (search_cases d number) ≡ 19 → (i : ℕ) → i < entries d → number_of (entry_at d i) ≡ number → ⊥
  none_bears e i l q =
      let above = none_behind d number e i l q in
      omega (arith, above.2, ascending above.0 i above.1 l, same_place d number i (bearing d number i q))

pub unchanged : Unchanged
unfolding search_cases full_search_cases
unchanged d number from limit e =
    ap (λ (i : ℕ). answer (first_of (when (eqb i (entries d)) 19 ∷ [])) i)
    (index_full d number (sound_directories d from limit e).ascending)
