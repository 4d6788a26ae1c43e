-- What is known once an archive and a list have no case: the file is whole, the marks leave the jobs that the list leaves, and the layout
-- is that of the tag key's schedule.
-- Assumes nothing.
use mathlib.Core.Path.{◌≡◌, refl, sym, ap, ap₂, ◌∙◌}
use mathlib.Core.Bool.{Bool, false, cond}
use mathlib.Core.List.{List, [], ◌∷◌, ◌++◌}
use Prim.Native.Nat.{ℕ, zero, suc, ◌<◌, ◌≤◌}
use native.Mathlib.Omega.{arith}
use borrow.Author.Tests.{eq-eqb, ne_eqb}
use Rattle.std.specs.Prelude.{Option, Some, None}
use lib.ListN.{length, get_or, take}
use lib.Seq.{take-length}
use Rattle.refusals.specs.Cases.{first_of}
use Rattle.octets.proofs.Tables.{values_length, values_at}
use Rattle.expansion.specs.KeySchedule.{schedule_of}
use Rattle.header.specs.Fields.{layout_of, layout_under, count_of}
use Rattle.header.proofs.Accepted as header
use Rattle.jobnumber.specs.Number.{order_of}
use Rattle.admission.specs.Check.{key_check, check_cases}
use Rattle.admission.proofs.Accepted.{accepted_header, accepted_entries, accepted_directory}
use Rattle.directory.proofs.Accepted.{sound_directories}
use Rattle.codec.specs.Jobs.{Job, no_job, job_in}
use Rattle.codec.specs.Archive.{job_at, jobs_of}
use Rattle.joblist.specs.List.{numbers, is_listed}
use Rattle.joblist.specs.Marks.{named_by}
use Rattle.joblist.proofs.Listed.{marks_listed}
use Rattle.dropping.specs.Drop.{without, jobs_left, asked_cases}
use Rattle.dropping.specs.Internal.{left_at, left_of, left_all, layout_in, Whole}
use Rattle.circuit.specs.declared.GoodSchedule.{GoodSchedule}
use Rattle.admission.specs.Check.{IsTagSchedule}
use Rattle.dropping.proofs.Without.{without_next}
use Rattle.dropping.proofs.Cases.{asked_stages}

-- the layout under a tag key, by its schedule
layout_scheduled : (tag_key : List ℕ) (s : Option GoodSchedule) → IsTagSchedule tag_key s → layout_under tag_key ≡ layout_in s
unfolding layout_under
layout_scheduled tag_key None e = rw (eq-eqb (length tag_key) 0 e)
layout_scheduled tag_key (Some s) h = rw (ne_eqb (length tag_key) 0 h.0)

module _ (key tag_key file list : List ℕ) (none : first_of (asked_cases key tag_key file list) ≡ 0) where
  check : first_of (check_cases key tag_key file) ≡ 0
  check = (asked_stages key tag_key file list none).0

  pub good_header : header.HeaderGood (layout_under tag_key) (length key) (key_check (schedule_of key)) file
  good_header = accepted_header order_of key tag_key file check

  pub whole_file : Whole file
  whole_file =
      let good = good_header in
      record { few = good.few; room = omega (arith, good.room); short = good.short }

  pub file_laid : (s : Option GoodSchedule) → IsTagSchedule tag_key s → layout_of file ≡ layout_in s
  file_laid s h = good_header.laid ∙ layout_scheduled tag_key s h

  module _ (named : List Bool) (marked : (i : ℕ) → i < 64 → get_or named i false ≡ named_by file list (numbers list) i) where
    jobs_length : length (jobs_of file) ≡ count_of file
    unfolding jobs_of
    jobs_length = values_length (job_at file) (count_of file)

    job : (i : ℕ) → i < count_of file → job_in (jobs_of file) i ≡ job_at file i
    unfolding jobs_of
    job i l = values_at (job_at file) no_job (count_of file) i l

    same_mark : (i : ℕ) → i < count_of file → get_or named i false ≡ is_listed list (job_at file i).number
    same_mark i l =
        let few = good_header.few in
        marked i (omega arith)
        ∙ marks_listed file list _ _ (sound_directories _ _ _ (accepted_directory order_of key tag_key file check))
        (asked_stages key tag_key file list none).1 i (omega (arith, accepted_entries order_of key tag_key file check))

    left_of_lem : (n : ℕ) → n ≤ count_of file → left_of named file n ≡ without list (take n (jobs_of file))
    unfolding left_of left_at without
    left_of_lem zero l = refl
    left_of_lem (suc n) l =
        ap₂ (λ (a b : List Job). a ++ b) (left_of_lem n (omega arith))
        (ap (λ (b : Bool). cond b [] (job_at file n ∷ [])) (same_mark n l)
        ∙ ap (λ (j : Job). cond (is_listed list j.number) [] (j ∷ [])) (sym (job n l)))
        ∙ sym (without_next list (jobs_of file) n (omega (arith, jobs_length)))

    pub left_jobs : left_all named file ≡ jobs_left file list
    left_jobs =
        left_of_lem (count_of file) (omega arith)
        ∙ ap (λ (n : ℕ). without list (take n (jobs_of file))) (sym jobs_length)
        ∙ ap (without list) (take-length (jobs_of file))
