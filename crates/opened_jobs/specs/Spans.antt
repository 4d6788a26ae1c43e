-- What the order of years changes on archives (02, e): "Archives whose job numbers all lie in the same span are judged as before; a mixed
-- one in plain number order, accepted until now, gets 14." Before, case 14 went by the plain number, `job_number`. The search is compared
-- with the full one, which knows no order, and to which the search of before came by b's theorem of then (docs/DECISIONS.md, 45). The
-- theorems are `same_span_archives` and `mixed_span_archives` of proofs/Spans.
-- Assumes nothing.
use Rattle.std.specs.Prelude.{◌≡◌, List, [], ℕ, length}
use Rattle.refusals.specs.Cases.{first_of}
use Rattle.refusals.specs.Answers.{Answer, refused, gives, answer, part_for, written_for}
use Rattle.expansion.specs.KeySchedule.{schedule_of}
use Rattle.header.specs.Fields.{count_of, directory_of}
use Rattle.jobnumber.specs.Number.{job_number}
use Rattle.directory.specs.Spans.{OneSpan, BothSpans}
use Rattle.admission.specs.Check.{check_cases_by}
use Rattle.archive.specs.Check.{check_of, directory_given}
use Rattle.archive.specs.Find.{find_of, body_given}
use Rattle.opening.specs.Open.{plain_range, open_of}
use Rattle.opened_jobs.specs.EarlyEnd.{AsFull}

-- what checking answers with case 14 by the plain number: without a tag key what it answered before, but 24 for 7 where the layout byte is
-- 2; with one, what it would have
abbrev pub plain_check_of : List ℕ → List ℕ → List ℕ → Answer
plain_check_of key tag_key file = answer (first_of (check_cases_by job_number key tag_key file)) (count_of file)

-- every call on an archive comes to what it comes to by the plain number, finding, the body and opening over the full search; `held` is
-- what the buffer for opening held. The places of the parts, and the listing, follow from what is answered
pub record AsBefore (key tag_key file number held : List ℕ) : Type 0 where
  pub checking : check_of key tag_key file ≡ plain_check_of key tag_key file
  pub directory : directory_given key tag_key file ≡ part_for (plain_check_of key tag_key file) (λ (n : ℕ). directory_of file)
  pub jobs : AsFull job_number key tag_key file number held

-- the job numbers of the file all lie in the same span
abbrev pub SameSpanArchives : Type 0
SameSpanArchives = (key tag_key file number held : List ℕ) → OneSpan (directory_of file) → AsBefore key tag_key file number held

-- every call refuses with n, hands back no byte and alters none; opening so of every range, a whole job being one of them
pub record AllRefuse (n : ℕ) (key tag_key file number held : List ℕ) : Type 0 where
  pub checking : check_of key tag_key file ≡ refused n
  pub directory : directory_given key tag_key file ≡ []
  pub finding : find_of key tag_key file number ≡ refused n
  pub body : body_given key tag_key file number ≡ []
  pub opening : (first count : ℕ) → open_of key tag_key file number first count (length held) ≡ refused n
  pub bytes : (first count : ℕ)
      → written_for (open_of key tag_key file number first count (length held))
      (plain_range (schedule_of key) file number first count) held ≡ held

-- those of one that was accepted lie in both spans
abbrev pub MixedSpanArchives : Type 0
MixedSpanArchives = (key tag_key file number held : List ℕ) (n : ℕ) → plain_check_of key tag_key file ≡ gives n
    → BothSpans (directory_of file)
    → AllRefuse 14 key tag_key file number held
