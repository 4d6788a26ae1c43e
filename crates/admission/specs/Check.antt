-- The check of an archive under a key and a tag key (01, Reasons for sending work back: "checking an archive 1 and 5 to 17"; 02, d), in the
-- papers' order: 1 for the key, "1 also for a bad tag key, straight after the first key", the header's cases, 13 to 16 entry by entry, 17,
-- and "25, the tag differs, after 17". The tag key says which layout is read; every rule that the layouts share is over the layout as a
-- value (`tag_size`, `bodies_end`).
-- Assumes nothing.
use Rattle.std.specs.Prelude.{◌≡◌, not, cond, List, [], ◌∷◌, ◌++◌, ℕ, eqb, length, take, replicate, Option, None, Some, Result, Ok, Err}
use Rattle.refusals.specs.Cases.{Case, when, first_of}
use Rattle.refusals.specs.Answers.{unless_refused}
use Rattle.refusals.specs.Numbers.{number}
use Rattle.refusals.specs.Shared.{good_key, key_cases, tag_key_cases, rounds_cases}
use Rattle.octets.specs.Equality.{same_bytes}
use Rattle.circuit.specs.Run.{encrypted}
use Rattle.circuit.specs.Good.{no_schedule}
use Rattle.circuit.specs.declared.GoodSchedule.{GoodSchedule}
use Rattle.circuit.specs.declared.Schedule.{Schedule}
use Rattle.expansion.specs.KeySchedule.{schedule_of}
use Rattle.cmac.specs.Tag.{tag_under}
use Rattle.header.specs.Fields.{layout_under, directory_end, directory_of, bodies_end, tag_of, tagged_of}
use Rattle.header.specs.Cases.{header_cases}
use Rattle.jobnumber.specs.Number.{order_of}
use Rattle.directory.specs.Check.{directory_cases_by}
use Rattle.admission.specs.declared.Admitted.{Admitted}
use Rattle.admission.specs.declared.NotAdmitted.{NotAdmitted}

-- the key check of a schedule: the first eight bytes of the block of sixteen `ff` through the cipher
unfoldable pub key_check : Schedule → List ℕ
key_check s = take 8 (encrypted s (replicate 16 255))

-- the contract of handing it out, of any schedule: eight zero bytes where the round count is refused
unfoldable pub key_check_under : Schedule → List ℕ
key_check_under s = unless_refused (first_of (rounds_cases s.rounds)) (key_check s) (replicate 8 0)

-- the tag of bytes under a tag key: CMAC; no bytes where there is no tag key
unfoldable pub tag_bytes : List ℕ → List ℕ → List ℕ
tag_bytes tag_key bytes = cond (eqb (length tag_key) 0) [] (tag_under (schedule_of tag_key) bytes)

-- 25: the file's last bytes, where the tag stands, are not the tag of all bytes before them. With no tag key and in layout 1 both sides
-- have no bytes, and it never applies
unfoldable pub wrong_tag_cases : List ℕ → List ℕ → List Case
wrong_tag_cases tag_key file = when (not (same_bytes (tag_bytes tag_key (tagged_of file)) (tag_of file))) 25 ∷ []

-- ---- by any order of job numbers

-- the cases of a file that has to be of a layout, under a schedule from a key of so many bytes, but for its tag: its header, then its
-- directory and bodies
unfoldable pub file_cases_by : (List ℕ → ℕ) → ℕ → Schedule → ℕ → List ℕ → List Case
file_cases_by order layout s keysize file =
    header_cases layout keysize (key_check s) file ++ directory_cases_by order (directory_of file) (directory_end file) (bodies_end file)

-- the cases under a good key: those of the tag key, then of the file, its tag last
unfoldable pub under_key_cases_by : (List ℕ → ℕ) → Schedule → ℕ → List ℕ → List ℕ → List Case
under_key_cases_by order s keysize tag_key file =
    tag_key_cases (length tag_key) ++ (file_cases_by order (layout_under tag_key) s keysize file ++ wrong_tag_cases tag_key file)

-- the cases of checking
unfoldable pub check_cases_by : (List ℕ → ℕ) → List ℕ → List ℕ → List ℕ → List Case
check_cases_by order key tag_key file = key_cases (length key) ++ under_key_cases_by order (schedule_of key) (length key) tag_key file

-- ---- by the order of years

abbrev pub file_cases : ℕ → Schedule → ℕ → List ℕ → List Case
file_cases layout s keysize file = file_cases_by order_of layout s keysize file

abbrev pub under_key_cases : Schedule → ℕ → List ℕ → List ℕ → List Case
under_key_cases s keysize tag_key file = under_key_cases_by order_of s keysize tag_key file

abbrev pub check_cases : List ℕ → List ℕ → List ℕ → List Case
check_cases key tag_key file = check_cases_by order_of key tag_key file

-- the tag key's schedule, as admission hands it on. It has no rounds and zero keys where there is no tag key, where the tag key is refused,
-- and where the key is refused, beside which no tag key is prepared; `schedule_of` is that of any bad key, and of no bytes
unfoldable pub tag_schedule_under : List ℕ → List ℕ → Schedule
tag_schedule_under key tag_key = cond (good_key (length key)) (schedule_of tag_key) (schedule_of key)

-- what admission answers, on every input: the number, 0 for none, and both schedules; one that is missing reads as no rounds and zero keys
abbrev pub schedule_or_none : Option GoodSchedule → Schedule
schedule_or_none None = no_schedule
schedule_or_none (Some s) = s.schedule

abbrev pub admitted_number : Result Admitted NotAdmitted → ℕ
admitted_number (Ok a) = 0
admitted_number (Err e) = number e.refusal

abbrev pub admitted_schedule : Result Admitted NotAdmitted → Schedule
admitted_schedule (Ok a) = a.schedule.schedule
admitted_schedule (Err e) = schedule_or_none e.schedule

abbrev pub admitted_tag_schedule : Result Admitted NotAdmitted → Schedule
admitted_tag_schedule (Ok a) = schedule_or_none a.tag_schedule
admitted_tag_schedule (Err e) = schedule_or_none e.tag_schedule

-- the tag key's schedule of an archive without a case: none where there is no tag key
abbrev pub IsTagSchedule : List ℕ → Option GoodSchedule → Type 0
IsTagSchedule tag_key None = length tag_key ≡ 0
IsTagSchedule tag_key (Some s) = (length tag_key ≡ 0 → ⊥) × (s.schedule ≡ schedule_of tag_key)

-- the schedules that go with an archive without a case: the key's and the tag key's
abbrev pub HandsOn : List ℕ → List ℕ → Result Admitted NotAdmitted → Type 0
HandsOn key tag_key (Ok a) = (a.schedule.schedule ≡ schedule_of key) × IsTagSchedule tag_key a.tag_schedule
HandsOn key tag_key (Err e) = Unit {0}

-- the contract of admission, with which every call that reads an archive begins: the number of the first case, 0 for none; the key's
-- schedule, which is no rounds and zero keys for a refused key; and the tag key's
pub record Admits (key tag_key file : List ℕ) (r : Result Admitted NotAdmitted) : Type 0 where
  pub number : admitted_number r ≡ first_of (check_cases key tag_key file)
  pub schedule : admitted_schedule r ≡ schedule_of key
  pub tagged : admitted_tag_schedule r ≡ tag_schedule_under key tag_key
  pub handed : HandsOn key tag_key r
