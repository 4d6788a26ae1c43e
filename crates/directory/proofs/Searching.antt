-- Laws of the search: the index that it comes to, by where it ends, and what its answer tells.
-- Assumes nothing.
use mathlib.Core.Path.{◌≡◌, refl, sym, ap, ap₂, ◌∙◌}
use mathlib.Core.Bool.{Bool, true, false, ◌||◌}
use mathlib.Core.List.{List}
use Prim.Native.Nat.{ℕ, ◌<◌, ◌≤◌}
use native.Mathlib.Omega.{arith}
use borrow.Author.Tests.{eqb-true, eqb-false, eq-eqb, ne_eqb, ltb-true, ltb-false, lt-ltb, le-ltb}
use lib.Arith.{lt_of_le-ne}
use lib.Dec.{eqb, ltb}
use lib.ListN.{take, drop}
use Rattle.refusals.specs.Cases.{first_of}
use Rattle.refusals.specs.Answers.{Answer, refused, gives}
use Rattle.refusals.proofs.Booleans.{true_false, not_yes, neither}
use Rattle.refusals.proofs.Cases.{one_applies, one_passes}
use Rattle.refusals.proofs.Answers.{answer_gives, answer_number, answer_none, refusal_is}
use Rattle.octets.specs.Equality.{same_bytes}
use Rattle.octets.proofs.Equality.{same_eq, eq_same}
use Rattle.octets.proofs.Below.{index_at, index_le, index_hit, index_before, index_most}
use Rattle.jobnumber.specs.Number.{order_of}
use Rattle.jobnumber.proofs.Order.{order_front}
use Rattle.directory.specs.Entries.{entries, entry_at, number_of}
use Rattle.directory.specs.Search.{bears, above, ends_at, stop_of, index_of, search_cases, search_of, Searched}

-- ---- case 19 applies exactly where the index that the search comes to is the number of entries

module _ (d number : List ℕ) where
  missing : index_of d number ≡ entries d → first_of (search_cases d number) ≡ 19
  unfolding search_cases
  missing e = one_applies _ 19 (eq-eqb _ _ e)

  present : (index_of d number ≡ entries d → ⊥) → first_of (search_cases d number) ≡ 0
  unfolding search_cases
  present h = one_passes _ 19 (ne_eqb _ _ h)

  -- the number tells the case
  pub missing_is : (n : ℕ) → first_of (search_cases d number) ≡ n → (n ≡ 0 → ⊥) → (index_of d number ≡ entries d) × (n ≡ 19)
  missing_is n e h = go (eqb (index_of d number) (entries d)) refl
    where
      go : (b : Bool) → eqb (index_of d number) (entries d) ≡ b → (index_of d number ≡ entries d) × (n ≡ 19)
      go true t = let q = eqb-true _ _ t in (q, sym e ∙ missing q)
      go false t = absurd (h (sym e ∙ present (eqb-false _ _ t)))

  present_not : first_of (search_cases d number) ≡ 0 → index_of d number ≡ entries d → ⊥
  present_not e q = let z = missing q in omega arith

  -- what the search answers, by the index that it comes to
  comes_to : (i : ℕ) → i < entries d → index_of d number ≡ i → gives i ≡ search_of d number
  comes_to i l e = sym (answer_none _ (index_of d number) (present (λ q. omega arith)) ∙ ap gives e)

  comes_to_none : index_of d number ≡ entries d → refused 19 ≡ search_of d number
  comes_to_none e = refusal_is 19 _ (index_of d number) (sym (missing e)) (λ q. omega arith)

module _ (d number : List ℕ) where
  -- ---- an entry by itself

  bearer : (i : ℕ) → bears d number i ≡ true → number_of (entry_at d i) ≡ number
  unfolding bears
  bearer i e = same_eq _ _ e

  pub bearing : (i : ℕ) → number_of (entry_at d i) ≡ number → bears d number i ≡ true
  unfolding bears
  bearing i e = eq_same _ _ e

  -- an entry that bears the number has its place in the order, so it is not above it
  pub same_place : (i : ℕ) → bears d number i ≡ true → order_of (entry_at d i) ≡ order_of number
  same_place i e = sym (order_front (entry_at d i)) ∙ ap order_of (bearer i e)

  pub not_above : (i : ℕ) → order_of (entry_at d i) ≤ order_of number → above d number i ≡ false
  unfolding above
  not_above i l = le-ltb _ _ l

  -- what the code reads of entry i: its place p in the order beside that of the number, and whether its eight bytes are the number
  module _ (i : ℕ) (e : List ℕ) (entry : e ≡ entry_at d i) where
    module _ (a p : ℕ) (asked : a ≡ order_of number) (place : p ≡ order_of e) where
      pub read_above : a < p → above d number i ≡ true
      unfolding above
      read_above l = ap₂ ltb (sym asked) (sym (place ∙ ap order_of entry)) ∙ lt-ltb a p l

      pub read_not_above : p ≤ a → above d number i ≡ false
      unfolding above
      read_not_above l = ap₂ ltb (sym asked) (sym (place ∙ ap order_of entry)) ∙ le-ltb a p l

    pub read_bears : (s : List ℕ) (b : Bool) → s ≡ take 8 (drop 0 e) → b ≡ same_bytes s number → bears d number i ≡ b
    unfolding bears
    read_bears s b front same = ap (λ (x : List ℕ). same_bytes x number) (sym (front ∙ ap (take 8) entry)) ∙ sym same

  ends_bearing : (i : ℕ) → bears d number i ≡ true → ends_at d number i ≡ true
  unfolding ends_at
  ends_bearing i e = rw e

  pub ends_above : (i : ℕ) → above d number i ≡ true → ends_at d number i ≡ true
  unfolding ends_at
  ends_above i p = go (bears d number i) p
    where
      go : (b : Bool) → above d number i ≡ true → (b || above d number i) ≡ true
      go true p = refl
      go false p = p

  pub goes_on : (i : ℕ) → bears d number i ≡ false → above d number i ≡ false → ends_at d number i ≡ false
  unfolding ends_at
  goes_on i b p = rw b p

  pub gone_on : (i : ℕ) → ends_at d number i ≡ false → (bears d number i ≡ false) × (above d number i ≡ false)
  unfolding ends_at
  gone_on i e = neither (bears d number i) (above d number i) e

  pub ends_so : (i : ℕ) → bears d number i ≡ false → ends_at d number i ≡ true → above d number i ≡ true
  unfolding ends_at
  ends_so i b e = rw b at e

  -- ---- the index that the search comes to

  index_stop : bears d number (stop_of d number) ≡ true → index_of d number ≡ stop_of d number
  unfolding index_of
  index_stop e = rw e

  index_missing : bears d number (stop_of d number) ≡ false → index_of d number ≡ entries d
  unfolding index_of
  index_missing e = rw e

  -- it ends at entry i
  module _ (i : ℕ) (l : i < entries d) (h : (k : ℕ) → k < i → ends_at d number k ≡ false) where
    stops : ends_at d number i ≡ true → stop_of d number ≡ i
    unfolding stop_of
    stops e = index_at (ends_at d number) (entries d) i l h e

    pub index_found : bears d number i ≡ true → index_of d number ≡ i
    index_found e = let at = stops (ends_bearing i e) in index_stop (rw at e) ∙ at

    index_past : above d number i ≡ true → index_of d number ≡ entries d
    unfolding above
    index_past p =
        let above : order_of number < order_of (entry_at d i) = ltb-true _ _ p in
        let no : bears d number i ≡ false = not_yes _ (λ e. omega (arith, same_place i e)) in
        index_missing (rw (stops (ends_above i p)) no)

    pub search_at : bears d number i ≡ true → gives i ≡ search_of d number
    search_at e = comes_to d number i l (index_found e)

    pub search_past : above d number i ≡ true → refused 19 ≡ search_of d number
    search_past p = comes_to_none d number (index_past p)

  -- no entry bears the number
  pub index_nowhere : ((k : ℕ) → k < entries d → bears d number k ≡ false) → index_of d number ≡ entries d
  unfolding stop_of
  index_nowhere h = go (bears d number (stop_of d number)) refl
    where
      go : (b : Bool) → bears d number (stop_of d number) ≡ b → index_of d number ≡ entries d
      go false e = index_missing e
      go true e =
          let most : stop_of d number ≤ entries d = index_le (ends_at d number) (entries d) in
          let past : entries d ≤ stop_of d number =
          ltb-false _ _ (not_yes (ltb (stop_of d number) (entries d)) (λ l. true_false (sym e ∙ h _ (ltb-true _ _ l)))) in
          index_stop e ∙ omega arith

  pub search_nowhere : ((k : ℕ) → k < entries d → bears d number k ≡ false) → refused 19 ≡ search_of d number
  search_nowhere h = comes_to_none d number (index_nowhere h)

  -- ---- what the answer tells

  module _ (e : first_of (search_cases d number) ≡ 0) where
    some_stop : (bears d number (stop_of d number) ≡ true) × (index_of d number ≡ stop_of d number)
    some_stop = go (bears d number (stop_of d number)) refl
      where
        go : (b : Bool) → bears d number (stop_of d number) ≡ b
            → (bears d number (stop_of d number) ≡ true) × (index_of d number ≡ stop_of d number)
        go true q = (q, index_stop q)
        go false q = absurd (present_not d number e (index_missing q))

    pub some_inside : index_of d number < entries d
    unfolding stop_of
    some_inside =
        let most : stop_of d number ≤ entries d = index_le (ends_at d number) (entries d) in
        lt_of_le-ne (omega (arith, some_stop.1)) (present_not d number e)

    pub some_bears : number_of (entry_at d (index_of d number)) ≡ number
    some_bears = bearer _ (rw some_stop.1 some_stop.0)

    some_before : (k : ℕ) → k < index_of d number → ends_at d number k ≡ false
    unfolding stop_of
    some_before k l = index_before (ends_at d number) (entries d) k (rw some_stop.1 at l)

    some_first : (k : ℕ) → k < index_of d number → (number_of (entry_at d k) ≡ number → ⊥) × (order_of (entry_at d k) ≤ order_of number)
    unfolding above
    some_first k l =
        let no = gone_on k (some_before k l) in
        (λ q. true_false (sym (bearing k q) ∙ no.0), ltb-false _ _ no.1)

  -- 19: the search has ended before an entry that bears the number, at one that is above it
  pub none_behind : first_of (search_cases d number) ≡ 19 → (i : ℕ) → i < entries d → number_of (entry_at d i) ≡ number
      → (k : ℕ) × (k < i) × (order_of number < order_of (entry_at d k))
  unfolding stop_of above
  none_behind e i l q =
      let s : ℕ = stop_of d number in
      let here = bearing i q in
      let most : s ≤ i = index_most (ends_at d number) (entries d) i (ends_bearing i here) in
      let inside : s < entries d = omega arith in
      let no : bears d number s ≡ false =
      not_yes (bears d number s) (λ b. let a = index_stop b in omega (arith, (missing_is d number 19 e (λ z. omega arith)).0)) in
      let before : s < i = lt_of_le-ne most (λ z. true_false (sym here ∙ rw z at no)) in
      (s, before, ltb-true _ _ (ends_so s no (index_hit (ends_at d number) (entries d) inside)))

  pub searched : (a : Answer) → a ≡ search_of d number → Searched d number a
  searched a e = record {
    answered = e;
    tells = record {
      inside = λ i g. let p = answer_gives _ _ i (sym e ∙ g) in let q = some_inside p.0 in omega (arith, p.1);
      bearer = λ i g. let p = answer_gives _ _ i (sym e ∙ g) in rw (← p.1) (some_bears p.0);
      first = λ i g k l. let p = answer_gives _ _ i (sym e ∙ g) in some_first p.0 k (rw p.1 l);
      behind = λ g. none_behind (answer_number _ _ 19 (sym e ∙ g)).0;
      only = λ n g. let p = answer_number _ _ n (sym e ∙ g) in (missing_is d number n p.0 (λ q. p.1 (p.0 ∙ q))).1;
    };
  }
