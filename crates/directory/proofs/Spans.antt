-- Within a span the order of years is that of the plain numbers; a directory of both spans in plain order does not ascend.
-- Assumes nothing.
use mathlib.Core.Path.{◌≡◌, refl, sym, subst, ◌∙◌}
use mathlib.Core.Bool.{Bool, true, false}
use mathlib.Core.List.{List}
use mathlib.Core.Logic.{⊎_elim}
use Prim.Native.Nat.{ℕ, zero, suc, ◌-◌, ◌<◌, ◌≤◌}
use native.Mathlib.Nat.{eq-or-lt_of_le}
use native.Mathlib.Omega.{arith}
use borrow.Author.Tests.{ltb-true, ltb-false, leb-true, leb-false, le-leb, le-ltb, ne_eqb}
use lib.Dec.{leb, ltb}
use Rattle.refusals.specs.Cases.{first_of, item_by_item}
use Rattle.refusals.proofs.Cases.{first_stop, first_alike, items_stop, items_alike}
use Rattle.octets.specs.Below.{first_index}
use Rattle.octets.proofs.Below.{index_most, index_hit, index_before}
use Rattle.jobnumber.specs.Number.{digits, job_number, order_of}
use Rattle.jobnumber.specs.Ascending.{ascends_in}
use Rattle.jobnumber.proofs.Order.{both_old, both_recent, old_recent}
use Rattle.directory.specs.Entries.{entries, entry_at}
use Rattle.directory.specs.Check.{ascends_by, entry_cases_by, directory_cases, directory_cases_by}
use Rattle.directory.specs.Spans.{SameSpan, MixedSpan}
use Rattle.directory.proofs.Cases.{entry_positive, entries_positive}
use Rattle.directory.proofs.Accepted.{entry_good, directory_none, directory_entry, directory_ascends}

-- ---- two orders

module _ (o p : List ℕ → ℕ) (d : List ℕ) where
  ascends_alike : (i : ℕ) → ltb (o (entry_at d i)) (o (entry_at d (suc i))) ≡ ltb (p (entry_at d i)) (p (entry_at d (suc i)))
      → ascends_by o d (suc i) ≡ ascends_by p d (suc i)
  unfolding ascends_in
  ascends_alike i e =
      let q : suc i - 1 ≡ i = omega arith in
      rw (ne_eqb (suc i) 0 (λ z. omega arith), q) e

  ascends_first : ascends_by o d 0 ≡ ascends_by p d 0
  unfolding ascends_in
  ascends_first = refl

  module _ (from limit : ℕ) where
    -- case 14 is looked at where the job number has digits
    entry_alike : (i : ℕ) → (digits (entry_at d i) ≡ true → ascends_by o d i ≡ ascends_by p d i)
        → first_of (entry_cases_by o d from limit i) ≡ first_of (entry_cases_by p d from limit i)
    unfolding entry_cases_by first_of
    entry_alike i h = go (digits (entry_at d i)) refl
      where
        go : (b : Bool) → digits (entry_at d i) ≡ b
            → first_of (entry_cases_by o d from limit i) ≡ first_of (entry_cases_by p d from limit i)
        go true e = rw (h e)
        go false e = rw e

    -- the orders agree on neighbours with digits
    module _ (agree : (i : ℕ) → suc i < entries d → digits (entry_at d i) ≡ true → digits (entry_at d (suc i)) ≡ true
        → ltb (o (entry_at d i)) (o (entry_at d (suc i))) ≡ ltb (p (entry_at d i)) (p (entry_at d (suc i)))) where
      ascends_agree : (i : ℕ) → i < entries d → ((k : ℕ) → k < i → first_of (entry_cases_by o d from limit k) ≡ 0)
          → digits (entry_at d i) ≡ true → ascends_by o d i ≡ ascends_by p d i
      ascends_agree zero l past h = ascends_first
      ascends_agree (suc i) l past h = ascends_alike i (agree i l (entry_good o d from limit i (past i (omega arith))).numeric h)

      directory_alike : first_of (directory_cases_by o d from limit) ≡ first_of (directory_cases_by p d from limit)
      unfolding directory_cases_by
      directory_alike =
          first_alike (item_by_item (entry_cases_by o d from limit) (entries d)) (item_by_item (entry_cases_by p d from limit) (entries d))
          _ _
          (entries_positive o d from limit) (entries_positive p d from limit)
          (items_alike (entry_cases_by o d from limit) (entry_cases_by p d from limit) (entries d)
          (entry_positive o d from limit) (entry_positive p d from limit)
          (λ i l past. entry_alike i (ascends_agree i l past)))
          (λ e. refl)

-- ---- the same span

pub same_span : SameSpan
same_span d from limit one =
    directory_alike order_of job_number d from limit
    (λ i l h g. ⊎_elim
    (λ low. both_recent (entry_at d i) (entry_at d (suc i)) h g (low i (omega arith) h) (low (suc i) l g))
    (λ high. both_old (entry_at d i) (entry_at d (suc i)) h g (high i (omega arith) h) (high (suc i) l g))
    one)

-- ---- both spans

-- accepted by one order; by the other entry m + 1 is the first that is not above the one before it
module _ (o p : List ℕ → ℕ) (d : List ℕ) (from limit m : ℕ) (l : suc m < entries d) (e : first_of (directory_cases_by o d from limit) ≡ 0)
    (agree : (i : ℕ) → i < m → ltb (p (entry_at d i)) (p (entry_at d (suc i))) ≡ ltb (o (entry_at d i)) (o (entry_at d (suc i))))
    (falls : p (entry_at d (suc m)) ≤ p (entry_at d m)) where
  passed : (i : ℕ) → i < suc m → first_of (entry_cases_by p d from limit i) ≡ 0
  passed i k = entry_alike p o d from limit i (λ h. same i k) ∙ directory_none o d from limit e i (omega arith)
    where
      same : (i : ℕ) → i < suc m → ascends_by p d i ≡ ascends_by o d i
      same zero k = ascends_first p o d
      same (suc i) k = ascends_alike p o d i (agree i (omega arith))

  not_ascending : ascends_by p d (suc m) ≡ false
  unfolding ascends_in
  not_ascending =
      let q : suc m - 1 ≡ m = omega arith in
      rw (ne_eqb (suc m) 0 (λ z. omega arith), q) (le-ltb _ _ falls)

  entry_14 : first_of (entry_cases_by p d from limit (suc m)) ≡ 14
  unfolding entry_cases_by first_of
  entry_14 = rw ((directory_entry o d from limit e (suc m) l).numeric, not_ascending)

  directory_14 : first_of (directory_cases_by p d from limit) ≡ 14
  unfolding directory_cases_by
  directory_14 =
      let here = items_stop (entry_cases_by p d from limit) (entries d) (suc m) (entry_positive p d from limit) l passed
      (λ z. let y = sym entry_14 ∙ z in omega arith) ∙ entry_14 in
      first_stop _ _ (λ z. let y = sym here ∙ z in omega arith) ∙ here

module _ (d : List ℕ) (from limit : ℕ) (e : first_of (directory_cases_by job_number d from limit) ≡ 0) where
  numeric : (i : ℕ) → i < entries d → digits (entry_at d i) ≡ true
  numeric i l = (directory_entry job_number d from limit e i l).numeric

  -- a job number of the recent span stands before one of the old
  recent_before : (i k : ℕ) → i < entries d → job_number (entry_at d i) < 70000000 → 70000000 ≤ job_number (entry_at d k) → i < k
  recent_before i k li low high = go (ltb i k) refl
    where
      go : (b : Bool) → ltb i k ≡ b → i < k
      go true f = ltb-true i k f
      go false f =
          ⊎_elim
          (λ q. absurd (omega (arith, subst (λ (n : ℕ). 70000000 ≤ job_number (entry_at d n)) q high)))
          (λ q. absurd (omega (arith, directory_ascends job_number d from limit e i k q li)))
          (eq-or-lt_of_le {n = k} {m = i} (ltb-false i k f))

  -- the first job number of the old span stands behind one of the recent
  module _ (k : ℕ) (l : k < entries d) (high : 70000000 ≤ job_number (entry_at d k))
      (low : (i : ℕ) → i < k → job_number (entry_at d i) < 70000000) where
    mixed_at : 0 < k → first_of (directory_cases d from limit) ≡ 14
    mixed_at z = go k refl
      where
        go : (n : ℕ) → k ≡ n → first_of (directory_cases d from limit) ≡ 14
        go zero q = absurd (omega arith)
        go (suc m) q =
            let lm : suc m < entries d = omega arith in
            let agree : (i : ℕ) → i < m
            → ltb (order_of (entry_at d i)) (order_of (entry_at d (suc i)))
            ≡ ltb (job_number (entry_at d i)) (job_number (entry_at d (suc i))) =
            λ i li. both_recent (entry_at d i) (entry_at d (suc i)) (numeric i (omega arith)) (numeric (suc i) (omega arith))
            (low i (omega arith)) (low (suc i) (omega arith))
            in
            let falls = old_recent (entry_at d (suc m)) (entry_at d m) (numeric (suc m) lm) (numeric m (omega arith))
            (subst (λ (j : ℕ). 70000000 ≤ job_number (entry_at d j)) q high) (low m (omega arith)) in
            directory_14 job_number order_of d from limit m lm e agree (omega (arith, falls))

pub mixed_span : MixedSpan
mixed_span d from limit e both =
    let test : ℕ → Bool = λ n. leb 70000000 (job_number (entry_at d n)) in
    let k : ℕ = first_index test (entries d) in
    let most : k ≤ both.early = index_most test (entries d) both.early (le-leb _ _ both.early_number) in
    let inside : k < entries d = omega (arith, both.early_inside) in
    let here : 70000000 ≤ job_number (entry_at d k) = leb-true _ _ (index_hit test (entries d) inside) in
    mixed_at d from limit e k inside here (λ n l. leb-false _ _ (index_before test (entries d) n l))
    (omega (arith, recent_before d from limit e both.late k both.late_inside both.late_number here))
