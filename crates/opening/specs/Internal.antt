-- Internal: what the inner functions promise each other. No public contract cites it.
-- Assumes nothing.
use Rattle.std.specs.Prelude.{◌≡◌, List, ℕ, length, Result, Ok, Err}
use Rattle.refusals.specs.Cases.{first_of}
use Rattle.refusals.specs.Answers.{Answer, answer, written_for}
use Rattle.refusals.specs.Numbers.{number_in}
use Rattle.refusals.specs.declared.Refusal.{Refusal}
use Rattle.circuit.specs.declared.Schedule.{Schedule}
use Rattle.ctr.specs.Counter.{keystream, add_stream}
use Rattle.header.specs.Fields.{archive_number}
use Rattle.bodies.specs.Bodies.{number_cases}
use Rattle.opening.specs.Open.{prefix_of, body_of, range_of, range_cases}
use Rattle.opening.specs.declared.Job.{Job}

-- opening a range of a body under a schedule and the prefix of its counter blocks: the cases of the range and of the buffer are left
pub record OpensBody (s : Schedule) (prefix body : List ℕ) (first count : ℕ) (before : List ℕ) (a : Answer) (after : List ℕ) : Type 0 where
  pub answered : a ≡ answer (first_of (range_cases (length body) first count (length before))) count
  pub bytes : after ≡ written_for a (add_stream (keystream s prefix) first (range_of first count body)) before

-- the job that was found: what its keystream is made from, and its sealed body
abbrev pub IsJob : Schedule → List ℕ → List ℕ → Result Job Refusal → Type 0
IsJob s file number (Ok job) =
    (job.schedule.schedule ≡ s) × (job.prefix ≡ prefix_of (archive_number file) number) × (job.body.now ≡ body_of file number)
IsJob s file number (Err e) = Unit {0}

-- finding a job of an accepted file, to be opened under a schedule
pub record FindsJob (s : Schedule) (file sought : List ℕ) (r : Result Job Refusal) : Type 0 where
  pub number : number_in r ≡ first_of (number_cases file sought)
  pub job : IsJob s file sought r
