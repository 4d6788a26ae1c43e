-- A file that holds jobs: its entries say number, start and size of each, and its bodies are theirs. Both a file that is built of jobs and
-- an accepted file with its own jobs are so; this is what the two directions have in common.
-- Assumes nothing.
use mathlib.Core.Path.{◌≡◌, sym, ap, ap₂, ◌∙◌}
use mathlib.Core.Bool.{true}
use mathlib.Core.List.{List}
use Prim.Native.Nat.{ℕ, zero, suc, ◌+◌, ◌<◌, ◌≤◌}
use native.Mathlib.Omega.{arith}
use lib.ListN.{length}
use Rattle.octets.specs.Tables.{values}
use Rattle.octets.proofs.Tables.{values_of}
use Rattle.header.specs.Fields.{count_of, directory_end, directory_of, bodies_end}
use Rattle.jobnumber.specs.Number.{is_job_number, order_of}
use Rattle.jobnumber.proofs.Ascending.{rows_single}
use Rattle.directory.specs.Entries.{entries, entry_at, number_of, start_of, size_of}
use Rattle.directory.specs.Check.{body_from}
use Rattle.directory.specs.Sound.{Sound}
use Rattle.directory.proofs.Accepted.{first_from, next_from}
use Rattle.bodies.specs.Bodies.{body_at}
use Rattle.codec.specs.Jobs.{Job, no_job, bodies_in, job_in, start_at, Each, Ascending}
use Rattle.codec.specs.Archive.{job_at, jobs_of}
use Rattle.codec.proofs.JobLaws.{bodies_within, start_first, start_next, start_end}
use Rattle.codec.proofs.Numbering.{rows_numeric, rows_ascend}

-- ---- where bodies have to start

-- at the sums of the sizes before them, also at the end of all: by the entries' sizes, and if an entry's start says so as soon as it has to
-- be there
pub from_at : (d : List ℕ) (from : ℕ) (js : List Job)
    → ((i : ℕ) → i < length js → body_from d from i ≡ start_at from js i → start_of (entry_at d i) ≡ start_at from js i)
    → ((i : ℕ) → i < length js → size_of (entry_at d i) ≡ length (job_in js i).body)
    → (i : ℕ) → i ≤ length js → body_from d from i ≡ start_at from js i
from_at d from js start size zero l = first_from d from ∙ sym (start_first from js)
from_at d from js start size (suc i) l =
    next_from d from i
    ∙ ap₂ (λ (m n : ℕ). m + n) (start i l (from_at d from js start size i (omega arith))) (size i l)
    ∙ sym (start_next from js i l)

-- ---- a file that holds jobs

pub record Laid (file : List ℕ) (js : List Job) : Type 0 where
  pub counted : count_of file ≡ length js
  pub whole : entries (directory_of file) ≡ length js
  pub number : (i : ℕ) → i < length js → number_of (entry_at (directory_of file) i) ≡ (job_in js i).number
  pub start : (i : ℕ) → i < length js → start_of (entry_at (directory_of file) i) ≡ start_at (directory_end file) js i
  pub size : (i : ℕ) → i < length js → size_of (entry_at (directory_of file) i) ≡ length (job_in js i).body
  pub body : (i : ℕ) → i < length js → body_at file i ≡ (job_in js i).body

module _ (file : List ℕ) (js : List Job) (laid : Laid file js) where
  abbrev entry : ℕ → List ℕ
  entry i = entry_at (directory_of file) i

  pub laid_jobs : jobs_of file ≡ js
  unfolding jobs_of
  laid_jobs =
      ap (values (job_at file)) laid.counted
      ∙ values_of (job_at file) js no_job
      (λ i l. ap₂ (λ (n b : List ℕ). record { number = n; body = b }) (laid.number i l) (laid.body i l))

  sums : (i : ℕ) → i ≤ length js → body_from (directory_of file) (directory_end file) i ≡ start_at (directory_end file) js i
  sums = from_at (directory_of file) (directory_end file) js (λ i l e. laid.start i l) laid.size

  inside : (i : ℕ) → i < entries (directory_of file) → i < length js
  inside i l = omega (arith, laid.whole)

  -- good jobs make a sound directory
  module _ (numeric : Each (λ (j : Job). is_job_number j.number ≡ true) js) (ascending : Ascending order_of js) where
    above : (i j : ℕ) → i < j → j < entries (directory_of file) → order_of (entry i) < order_of (entry j)
    above i j l m = rows_ascend entry js laid.number ascending i j l (inside j m)

    pub laid_sound : directory_end file + length (bodies_in js) ≡ bodies_end file
        → Sound (directory_of file) (directory_end file) (bodies_end file)
    laid_sound ends = record {
      numeric = λ i m. rows_numeric entry js laid.number numeric i (inside i m);
      ascending = above;
      first = first_from (directory_of file) (directory_end file);
      next = next_from (directory_of file) (directory_end file);
      placed = λ i m. let l = inside i m in laid.start i l ∙ sym (sums i (omega arith));
      within = λ i m. let l = inside i m in omega (arith, laid.start i l, laid.size i l, bodies_within js i l);
      ends =
          ap (body_from (directory_of file) (directory_end file)) laid.whole
          ∙ sums (length js) (omega arith)
          ∙ start_end (directory_end file) js
          ∙ ends;
      single = rows_single entry (entries (directory_of file)) above;
    }
