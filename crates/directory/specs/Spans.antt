-- What the order of years changes in the cases of a directory (02, e): "Archives whose job numbers all lie in the same span are judged as
-- before; a mixed one in plain number order, accepted until now, gets 14." Before, the order was `job_number`. A job number below 70000000
-- is of the years 2000 to 2069, any other of 1970 to 1999 (crate jobnumber, specs/Order). The theorems are `same_span` and `mixed_span` of
-- proofs/Spans; archives are for crate opened_jobs, specs/Spans.
-- Assumes nothing.
use Rattle.std.specs.Prelude.{◌≡◌, true, List, ◌⊎◌, ℕ, ◌<◌, ◌≤◌}
use Rattle.refusals.specs.Cases.{first_of}
use Rattle.jobnumber.specs.Number.{digits, job_number}
use Rattle.directory.specs.Entries.{entries, entry_at}
use Rattle.directory.specs.Check.{directory_cases, directory_cases_by}

-- the job numbers of a directory all lie in the same span. An entry without eight digits has no job number
abbrev pub OneSpan : List ℕ → Type 0
OneSpan d = ((i : ℕ) → i < entries d → digits (entry_at d i) ≡ true → job_number (entry_at d i) < 70000000)
    ⊎ ((i : ℕ) → i < entries d → digits (entry_at d i) ≡ true → 70000000 ≤ job_number (entry_at d i))

-- an entry `late` of 2000 to 2069, and an entry `early` of 1970 to 1999
pub record BothSpans (d : List ℕ) : Type 0 where
  pub late : ℕ
  pub early : ℕ
  pub late_inside : late < entries d
  pub early_inside : early < entries d
  pub late_number : job_number (entry_at d late) < 70000000
  pub early_number : 70000000 ≤ job_number (entry_at d early)

-- a directory of one span is judged as before
abbrev pub SameSpan : Type 0
SameSpan = (d : List ℕ) (from limit : ℕ) → OneSpan d
    → first_of (directory_cases d from limit) ≡ first_of (directory_cases_by job_number d from limit)

-- one of both, accepted until now, gets 14
abbrev pub MixedSpan : Type 0
MixedSpan = (d : List ℕ) (from limit : ℕ) → first_of (directory_cases_by job_number d from limit) ≡ 0 → BothSpans d
    → first_of (directory_cases d from limit) ≡ 14
