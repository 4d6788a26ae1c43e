-- Jobs, and what an archive writes of them (01, The dryer archive): an entry of sixteen bytes a job, its digits, its start and its length,
-- and "Then the sealed bodies in the same order without gaps."
-- Assumes nothing.
use Rattle.std.specs.Prelude.{List, [], ◌∷◌, ◌++◌, ℕ, ◌+◌, ◌<◌, length, get_or, take}
use Rattle.octets.specs.Numbers.{bytes32}

-- a job: its number, eight digits, and its body, which is sealed in an archive and plain where it comes from or goes to
pub record Job : Type 0 where
  pub number : List ℕ
  pub body : List ℕ

-- the entry of a job in the directory
unfoldable pub entry_of : List ℕ → ℕ → ℕ → List ℕ
entry_of number start size = number ++ (bytes32 start ++ bytes32 size)

-- the directory of jobs, the first body starting at a place
unfoldable pub directory_from : ℕ → List Job → List ℕ
directory_from start [] = []
directory_from start (j ∷ js) = entry_of j.number start (length j.body) ++ directory_from (start + length j.body) js

-- the bodies without gaps
unfoldable pub bodies_in : List Job → List ℕ
bodies_in [] = []
bodies_in (j ∷ js) = j.body ++ bodies_in js

-- ---- what laws speak of

-- job i, counted from 0; a job of no bytes where there are not so many
abbrev pub no_job : Job
no_job = record { number = []; body = [] }

abbrev pub job_in : List Job → ℕ → Job
job_in js i = get_or js i no_job

-- where the body of job i starts: after those before it
abbrev pub start_at : ℕ → List Job → ℕ → ℕ
start_at start js i = start + length (bodies_in (take i js))

-- ---- what an archive asks of its jobs

-- something holds of every job
pub data Each (P : Job → Type 0) : List Job → Type 0 where
  none : Each P []
  more : {j : Job} {js : List Job} → P j → Each P js → Each P (j ∷ js)

-- each job's number is above those of all jobs before it
pub data Ascending (order : List ℕ → ℕ) : List Job → Type 0 where
  none : Ascending order []
  more : {j : Job} {js : List Job} → Each (λ (k : Job). order j.number < order k.number) js → Ascending order js
      → Ascending order (j ∷ js)
