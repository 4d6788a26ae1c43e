-- What an archive without a case, by any order of job numbers, is known to have: each stage's part of it.
-- Assumes nothing.
use mathlib.Core.Path.{◌≡◌, refl, sym, ap, ◌∙◌}
use mathlib.Core.Bool.{true, not}
use mathlib.Core.List.{List, [], ◌∷◌, ◌++◌}
use Prim.Native.Nat.{ℕ, ◌+◌, ◌<◌, ◌≤◌}
use native.Mathlib.Omega.{arith}
use borrow.Author.Tests.{not-false}
use lib.ListN.{length}
use Rattle.std.specs.Prelude.{Option, None, Some, Result, Ok, Err}
use Rattle.refusals.specs.Cases.{first_of}
use Rattle.refusals.specs.Shared.{good_key, good_rounds, key_cases, tag_key_cases}
use Rattle.refusals.proofs.Cases.{first_none, one_passes, clear}
use Rattle.refusals.proofs.Shared.{key_positive, key_good, tag_key_positive, tag_key_some}
use Rattle.octets.proofs.Equality.{same_eq, eq_same}
use Rattle.circuit.specs.Good.{no_schedule}
use Rattle.circuit.specs.declared.GoodSchedule.{GoodSchedule}
use Rattle.circuit.specs.declared.Schedule.{Schedule}
use Rattle.expansion.specs.KeySchedule.{schedule_of}
use Rattle.expansion.proofs.KeyLengths.{good_rounds_lem}
use Rattle.header.specs.Fields.{layout_under, count_of, directory_end, directory_of, bodies_end, tag_of, tagged_of}
use Rattle.header.specs.Cases.{header_cases}
use Rattle.header.proofs.Cases.{header_positive}
use Rattle.header.proofs.Accepted.{HeaderGood, header_good, directory_length}
use Rattle.jobnumber.specs.Number.{order_of}
use Rattle.directory.specs.Entries.{entries, entry_at, start_of, size_of}
use Rattle.directory.specs.Check.{directory_cases_by}
use Rattle.directory.proofs.Accepted.{directory_within}
use Rattle.admission.specs.Check.{key_check, tag_bytes, wrong_tag_cases, file_cases_by, under_key_cases_by, check_cases_by}
use Rattle.admission.specs.Check.{check_cases, tag_schedule_under, schedule_or_none, admitted_number, admitted_schedule}
use Rattle.admission.specs.Check.{admitted_tag_schedule, IsTagSchedule, HandsOn}
use Rattle.admission.specs.declared.Admitted.{Admitted}
use Rattle.admission.specs.declared.NotAdmitted.{NotAdmitted}
use Rattle.admission.proofs.Checking.{file_positive, wrong_tag_positive, check_directory, tag_schedule_good}
use Rattle.admission.proofs.Tags.{no_bytes, none_schedule}

-- the tag of a file without case 25
pub tag_right : (tag_key file : List ℕ) → first_of (wrong_tag_cases tag_key file) ≡ 0 → tag_of file ≡ tag_bytes tag_key (tagged_of file)
unfolding wrong_tag_cases
tag_right tag_key file e =
    sym (same_eq _ _ (not-false _ (clear (wrong_tag_cases tag_key file) (wrong_tag_positive tag_key file) e 0)))

-- and one with the right tag has none
pub tag_passes : (tag_key file : List ℕ) → tag_of file ≡ tag_bytes tag_key (tagged_of file) → first_of (wrong_tag_cases tag_key file) ≡ 0
unfolding wrong_tag_cases
tag_passes tag_key file e = one_passes _ 25 (ap not (eq_same _ _ (sym e)))

module _ (order : List ℕ → ℕ) (key tag_key file : List ℕ) (e : first_of (check_cases_by order key tag_key file) ≡ 0) where
  key_stage : (first_of (key_cases (length key)) ≡ 0)
      × (first_of (under_key_cases_by order (schedule_of key) (length key) tag_key file) ≡ 0)
  unfolding check_cases_by
  key_stage = first_none (key_cases (length key)) _ (key_positive (length key)) e

  tag_key_stage : (first_of (tag_key_cases (length tag_key)) ≡ 0)
      × (first_of (file_cases_by order (layout_under tag_key) (schedule_of key) (length key) file ++ wrong_tag_cases tag_key file) ≡ 0)
  unfolding under_key_cases_by
  tag_key_stage = first_none (tag_key_cases (length tag_key)) _ (tag_key_positive (length tag_key)) key_stage.1

  tag_stage : (first_of (file_cases_by order (layout_under tag_key) (schedule_of key) (length key) file) ≡ 0)
      × (first_of (wrong_tag_cases tag_key file) ≡ 0)
  tag_stage =
      first_none (file_cases_by order (layout_under tag_key) (schedule_of key) (length key) file) _ (file_positive _ _ _ _ file)
      tag_key_stage.1

  file_stages : (first_of (header_cases (layout_under tag_key) (length key) (key_check (schedule_of key)) file) ≡ 0)
      × (first_of (directory_cases_by order (directory_of file) (directory_end file) (bodies_end file)) ≡ 0)
  unfolding file_cases_by
  file_stages =
      first_none (header_cases (layout_under tag_key) (length key) (key_check (schedule_of key)) file) _ (header_positive _ _ _ file)
      tag_stage.0

  pub accepted_key : good_key (length key) ≡ true
  accepted_key = key_good (length key) key_stage.0

  pub accepted_tag_key : first_of (tag_key_cases (length tag_key)) ≡ 0
  accepted_tag_key = tag_key_stage.0

  -- the tag key's schedule, where there is one, has good rounds
  pub accepted_tag_rounds : (length tag_key ≡ 0 → ⊥) → good_rounds (schedule_of tag_key).rounds ≡ true
  accepted_tag_rounds h =
      good_rounds_lem tag_key (key_good (length tag_key) (sym (tag_key_some (length tag_key) h) ∙ tag_key_stage.0))

  pub accepted_header : HeaderGood (layout_under tag_key) (length key) (key_check (schedule_of key)) file
  accepted_header = header_good (layout_under tag_key) (length key) (key_check (schedule_of key)) file file_stages.0

  pub accepted_directory : first_of (directory_cases_by order (directory_of file) (directory_end file) (bodies_end file)) ≡ 0
  accepted_directory = file_stages.1

  pub accepted_tag : tag_of file ≡ tag_bytes tag_key (tagged_of file)
  accepted_tag = tag_right tag_key file tag_stage.1

  -- by another order the directory and the tag are left
  pub accepted_directory_by : (other : List ℕ → ℕ) → first_of (check_cases_by other key tag_key file)
      ≡ first_of (directory_cases_by other (directory_of file) (directory_end file) (bodies_end file) ++ wrong_tag_cases tag_key file)
  accepted_directory_by other = check_directory other key tag_key file key_stage.0 tag_key_stage.0 file_stages.0

  pub accepted_entries : entries (directory_of file) ≡ count_of file
  accepted_entries =
      let room : directory_end file ≤ length file = omega (arith, accepted_header.room) in
      let size = directory_length file room in
      omega arith

  pub accepted_within : (i : ℕ) → i < entries (directory_of file)
      → start_of (entry_at (directory_of file) i) + size_of (entry_at (directory_of file) i) ≤ length file
  accepted_within i l =
      let w = directory_within order (directory_of file) (directory_end file) (bodies_end file) accepted_directory i l in
      omega arith

-- ---- what admission hands on then

-- a schedule of no rounds is none that a run accepts
no_rounds : (s : Schedule) → no_schedule ≡ s → good_rounds s.rounds ≡ true → ⊥
unfolding good_rounds
no_rounds s e good =
    let none : good_rounds no_schedule.rounds ≡ true = ap (λ (t : Schedule). good_rounds t.rounds) e ∙ good in
    let z : ◌≡◌ {A = ℕ} 0 1 = cc in omega arith

-- what reads as the tag key's schedule is it, and none where there is no tag key
tag_handed : (key tag_key file : List ℕ) (t : Option GoodSchedule) → first_of (check_cases key tag_key file) ≡ 0
    → schedule_or_none t ≡ schedule_of tag_key
    → IsTagSchedule tag_key t
tag_handed key tag_key file (Some s) e is =
    (λ z. no_rounds s.schedule (none_schedule ∙ ap schedule_of (sym (no_bytes tag_key z)) ∙ sym is) s.good, is)
tag_handed key [] file None e is = refl
tag_handed key (x ∷ xs) file None e is =
    absurd (no_rounds _ is (accepted_tag_rounds order_of key (x ∷ xs) file e (λ z. omega arith)))

pub handed_on : (key tag_key file : List ℕ) (r : Result Admitted NotAdmitted)
    → admitted_number r ≡ first_of (check_cases key tag_key file)
    → admitted_schedule r ≡ schedule_of key
    → admitted_tag_schedule r ≡ tag_schedule_under key tag_key
    → HandsOn key tag_key r
handed_on key tag_key file (Ok a) n s t =
    let none = sym n in
    let good = accepted_key order_of key tag_key file none in
    (s, tag_handed key tag_key file a.tag_schedule none (t ∙ sym (tag_schedule_good key tag_key good)))
handed_on key tag_key file (Err e) n s t = tt
