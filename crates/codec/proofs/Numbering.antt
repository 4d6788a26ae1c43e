-- Rows that bear the numbers of jobs: good jobs make rows of digits that ascend, and such rows make good jobs. A directory is so.
-- Assumes nothing.
use mathlib.Core.Path.{◌≡◌, sym, ap, ◌∙◌}
use mathlib.Core.Bool.{true}
use mathlib.Core.List.{List}
use Prim.Native.Nat.{ℕ, ◌<◌, ◌≤◌}
use native.Mathlib.Omega.{arith}
use borrow.Author.Tests.{eqb-true, eq-eqb}
use lib.Dec.{eqb}
use lib.ListN.{length}
use lib.Seq.{get_or-take, length-take-le}
use Rattle.refusals.proofs.Booleans.{both_true}
use Rattle.octets.specs.Tables.{values}
use Rattle.octets.proofs.Below.{all_same}
use Rattle.jobnumber.specs.Number.{digits, is_job_number, order_of}
use Rattle.jobnumber.proofs.Order.{order_front}
use Rattle.directory.specs.Entries.{number_of}
use Rattle.codec.specs.Jobs.{Job, job_in, Each, Ascending}
use Rattle.codec.proofs.JobLaws.{each_at, each_values, ascending_at, ascending_values}

-- ---- job numbers

-- digits are looked for in the first eight bytes only
digits_front : (e : List ℕ) → digits (number_of e) ≡ digits e
unfolding digits
digits_front e = all_same _ _ 8 (λ k l. rw (get_or-take 8 e k 0 l))

job_number_lem : (s : List ℕ) → length s ≡ 8 → digits s ≡ true → is_job_number s ≡ true
unfolding is_job_number
job_number_lem s l d = rw (eq-eqb _ _ l, d)

pub job_eight : (s : List ℕ) → is_job_number s ≡ true → length s ≡ 8
unfolding is_job_number
job_eight s e = eqb-true _ _ (both_true (eqb (length s) 8) (digits s) e).0

job_digits : (s : List ℕ) → is_job_number s ≡ true → digits s ≡ true
unfolding is_job_number
job_digits s e = (both_true (eqb (length s) 8) (digits s) e).1

-- ---- rows

module _ (row : ℕ → List ℕ) where
  module _ (js : List Job) (bears : (i : ℕ) → i < length js → number_of (row i) ≡ (job_in js i).number) where
    pub rows_numeric : Each (λ (j : Job). is_job_number j.number ≡ true) js → (i : ℕ) → i < length js → digits (row i) ≡ true
    rows_numeric numeric i l =
        sym (digits_front (row i)) ∙ ap digits (bears i l) ∙ job_digits (job_in js i).number (each_at numeric i l)

    order_at : (i : ℕ) → i < length js → order_of (row i) ≡ order_of (job_in js i).number
    order_at i l = sym (order_front (row i)) ∙ ap order_of (bears i l)

    pub rows_ascend : Ascending order_of js → (i j : ℕ) → i < j → j < length js → order_of (row i) < order_of (row j)
    rows_ascend ascending i j l m =
        omega (arith, ascending_at order_of ascending i j l m, order_at i (omega arith), order_at j m)

  module _ (f : ℕ → Job) (n : ℕ) (bears : (i : ℕ) → (f i).number ≡ number_of (row i)) where
    pub jobs_numeric : ((i : ℕ) → i < n → 8 ≤ length (row i)) → ((i : ℕ) → i < n → digits (row i) ≡ true)
        → Each (λ (j : Job). is_job_number j.number ≡ true) (values f n)
    jobs_numeric wide numeric =
        each_values f n
        (λ i l.
        rw (bears i)
        (job_number_lem (number_of (row i)) (length-take-le 8 (row i) (wide i l)) (digits_front (row i) ∙ numeric i l)))

    pub jobs_ascend : ((i j : ℕ) → i < j → j < n → order_of (row i) < order_of (row j)) → Ascending order_of (values f n)
    jobs_ascend above =
        ascending_values order_of f n
        (λ i j l m.
        omega (arith, ap order_of (bears i), ap order_of (bears j), order_front (row i), order_front (row j), above i j l m))
