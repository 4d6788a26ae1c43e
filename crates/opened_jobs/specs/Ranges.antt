-- What is claimed of opening ranges (02, f); the theorems are `ranges_join` and `whole_jobs` of proofs/Ranges.
-- Assumes nothing.
use Rattle.std.specs.Prelude.{◌≡◌, List, ◌++◌, ℕ, ◌+◌, ◌≤◌, length, take, drop}
use Rattle.refusals.specs.Cases.{first_of}
use Rattle.refusals.specs.Answers.{Answer, gives, answer}
use Rattle.circuit.specs.declared.Schedule.{Schedule}
use Rattle.archive.specs.Find.{find_cases}
use Rattle.opening.specs.Open.{job_size, plain_of, plain_range, room_cases, open_of, Opens}

-- i and j bytes were opened at the front of two buffers, which then held `after₁` and `after₂`; what opening both at once answers, a, and
-- leaves in a buffer that held `before`
pub record Joined (i j : ℕ) (after₁ after₂ before : List ℕ) (a : Answer) (after : List ℕ) : Type 0 where
  pub answered : a ≡ gives (i + j)
  pub bytes : take (i + j) after ≡ take i after₁ ++ take j after₂
  pub rest : drop (i + j) after ≡ drop (i + j) before

-- "What two adjoining accepted ranges give, put end to end, is what one opening of both gives in a buffer long enough": any three calls
-- that meet the contract of opening, of m bytes from `first` on, of the n behind them, and of both
abbrev pub RangesJoin : Type 0
RangesJoin = (key tag_key file number : List ℕ) (first m n : ℕ) (before₁ before₂ before after₁ after₂ after : List ℕ) (i j : ℕ) (a : Answer)
    → Opens key tag_key file number first m before₁ (gives i) after₁ → Opens key tag_key file number (first + m) n before₂ (gives j) after₂
    → Opens key tag_key file number first (m + n) before a after → m + n ≤ length before → Joined i j after₁ after₂ before a after

-- opening a whole job is 01's opening: its cases are those of finding and then 20 on the body, its bytes the job's plain bytes. 26 never
-- applies
pub record WholeJob (key tag_key file number : List ℕ) (room : ℕ) : Type 0 where
  pub answered : open_of key tag_key file number 0 (job_size file number) room
      ≡ answer (first_of (find_cases key tag_key file number ++ room_cases (job_size file number) room)) (job_size file number)
  pub bytes : (s : Schedule) → plain_range s file number 0 (job_size file number) ≡ plain_of s file number

abbrev pub WholeJobs : Type 0
WholeJobs = (key tag_key file number : List ℕ) (room : ℕ) → WholeJob key tag_key file number room
