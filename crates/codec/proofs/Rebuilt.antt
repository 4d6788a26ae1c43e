-- An accepted file holds its own jobs, they are fine, and built again they make the file.
-- Assumes nothing.
use mathlib.Core.Path.{◌≡◌, refl, sym, ap, ap₂, ◌∙◌}
use mathlib.Core.List.{List, ◌++◌, append_assoc}
use Prim.Native.Nat.{ℕ, ◌+◌, ◌*◌, ◌<◌, ◌≤◌}
use native.Mathlib.Omega.{arith}
use lib.ListN.{length, take, drop, length-append, length-drop, take-append-drop}
use lib.Seq.{take_at, drop-drop, length-take-le}
use Rattle.refusals.specs.Cases.{first_of}
use Rattle.refusals.specs.Answers.{gives}
use Rattle.refusals.proofs.Answers.{answer_gives}
use Rattle.octets.specs.Numbers.{Octets}
use Rattle.octets.proofs.Numbers.{octets_part}
use Rattle.octets.proofs.Tables.{values_length, values_at}
use Rattle.octets.proofs.Rows.{join, rows_equal}
use Rattle.expansion.specs.KeySchedule.{schedule_of}
use Rattle.header.specs.Fields.{layout_under, count_of, archive_number, directory_end, directory_of, bodies_end, tag_of, tagged_of}
use Rattle.header.proofs.Accepted as header
use Rattle.jobnumber.specs.Number.{order_of}
use Rattle.directory.specs.Entries.{entries, entry_at, start_of, size_of}
use Rattle.directory.specs.Check.{body_from}
use Rattle.directory.specs.Sound.{Sound}
use Rattle.directory.proofs.Entries.{entry_inside}
use Rattle.bodies.specs.Bodies.{body_at}
use Rattle.admission.specs.Check.{key_check, tag_bytes, check_cases}
use Rattle.admission.proofs.Accepted.{accepted_header, accepted_tag, accepted_entries}
use Rattle.archive.specs.Check.{check_of}
use Rattle.archive.specs.Sound.{SoundArchive}
use Rattle.archive.proofs.Sound.{sound_archives}
use Rattle.codec.specs.Jobs.{Job, no_job, entry_of, directory_from, bodies_in, job_in, start_at, Each}
use Rattle.codec.specs.Archive.{job_at, jobs_of, whole_length, header_of, front_of, archive_of, Fine}
use Rattle.codec.specs.Theorems.{AcceptedFine, Rebuilt}
use Rattle.codec.proofs.JobLaws.{each_map, start_end, tiled, Eight, directory_length, slot}
use Rattle.codec.proofs.Numbering.{job_eight, jobs_numeric, jobs_ascend}
use Rattle.codec.proofs.Parts.{entry_again, HeaderSays, header_again}
use Rattle.codec.proofs.Laid.{Laid, from_at}

module _ (key tag_key file : List ℕ) (n : ℕ) (e : check_of key tag_key file ≡ gives n) where
  abbrev js : List Job
  js = jobs_of file

  abbrev entry : ℕ → List ℕ
  entry i = entry_at (directory_of file) i

  abbrev layout : ℕ
  layout = layout_under tag_key

  abbrev check : List ℕ
  check = key_check (schedule_of key)

  none : first_of (check_cases key tag_key file) ≡ 0
  none = (answer_gives (first_of (check_cases key tag_key file)) (count_of file) n e).0

  good : header.HeaderGood layout (length key) check file
  good = accepted_header order_of key tag_key file none

  sound : SoundArchive tag_key file n
  sound = sound_archives key tag_key file n e

  directory : Sound (directory_of file) (directory_end file) (bodies_end file)
  directory = sound.sound

  counted : length js ≡ count_of file
  unfolding jobs_of
  counted = values_length (job_at file) (count_of file)

  whole : entries (directory_of file) ≡ length js
  whole = accepted_entries order_of key tag_key file none ∙ sym counted

  job : (i : ℕ) → i < length js → job_in js i ≡ job_at file i
  unfolding jobs_of
  job i l = values_at (job_at file) no_job (count_of file) i (omega (arith, counted))

  sixteens : length (directory_of file) ≡ 16 * count_of file
  sixteens = header.directory_length file (omega (arith, good.room))

  inside : (i : ℕ) → i < length js → entry i ≡ take 16 (drop (16 * i) (directory_of file))
  inside i l = entry_inside (directory_of file) i (omega (arith, whole))

  sixteen : (i : ℕ) → i < length js → length (entry i) ≡ 16
  sixteen i l =
      ap length (inside i l)
      ∙ length-take-le 16 (drop (16 * i) (directory_of file)) (simp length-drop (omega (arith, sixteens, counted)))

  body_size : (i : ℕ) → i < length js → length (job_in js i).body ≡ size_of (entry i)
  unfolding body_at
  body_size i l =
      ap (λ (j : Job). length j.body) (job i l)
      ∙ length-take-le _ (drop (start_of (entry i)) file)
      (simp length-drop (omega (arith, directory.within i (omega (arith, whole)))))

  placed : (i : ℕ) → i < length js → start_of (entry i) ≡ body_from (directory_of file) (directory_end file) i
  placed i l = directory.placed i (omega (arith, whole))

  sums : (i : ℕ) → i ≤ length js → body_from (directory_of file) (directory_end file) i ≡ start_at (directory_end file) js i
  sums = from_at (directory_of file) (directory_end file) js (λ i l q. placed i l ∙ q) (λ i l. sym (body_size i l))

  pub accepted_laid : Laid file js
  accepted_laid = record {
    counted = sym counted;
    whole = whole;
    number = λ i l. ap (λ (j : Job). j.number) (sym (job i l));
    start = λ i l. placed i l ∙ sums i (omega arith);
    size = λ i l. sym (body_size i l);
    body = λ i l. ap (λ (j : Job). j.body) (sym (job i l));
  }

  ends : directory_end file + length (bodies_in js) ≡ bodies_end file
  ends =
      sym (start_end (directory_end file) js)
      ∙ sym (sums (length js) (omega arith))
      ∙ ap (body_from (directory_of file) (directory_end file)) (sym whole)
      ∙ directory.ends

  pub whole_length_lem : whole_length layout js ≡ length file
  unfolding whole_length
  whole_length_lem = omega (arith, counted, ends, sound.placed)

  within : (i : ℕ) → i < count_of file → i < length js
  within i l = omega (arith, counted)

  fine : Fine tag_key (archive_number file) js
  unfolding jobs_of
  fine = record {
    four = header.number_length file good.long;
    numeric =
        jobs_numeric entry (job_at file) (count_of file) (λ i. refl) (λ i l. let s = sixteen i (within i l) in omega arith)
        (λ i l. directory.numeric i (omega (arith, whole, counted)));
    ascending =
        jobs_ascend entry (job_at file) (count_of file) (λ i. refl)
        (λ i j l m. directory.ascending i j l (omega (arith, whole, counted)));
    few = omega (arith, counted, good.few);
    small = omega (arith, whole_length_lem, good.short);
  }

  -- ---- built again

  says : HeaderSays layout (length key) (length js) (archive_number file) check (whole_length layout js) file
  says = record {
    laid = good.laid;
    keyed = good.keyed;
    counted = sym counted;
    named = refl;
    checked = good.checked;
    stated = good.stated ∙ sym whole_length_lem;
  }

  eight : Each Eight js
  eight = each_map (λ j. job_eight j.number) fine.numeric

  abbrev start : ℕ
  start = 20 + 16 * length js

  starts : directory_end file ≡ start
  starts = ap (λ (k : ℕ). 20 + 16 * k) (sym counted)

  module _ (octets : Octets file) where
    entry_octets : (i : ℕ) → i < length js → Octets (entry i)
    unfolding directory_of
    entry_octets i l =
        rw (inside i l) (octets_part (directory_of file) (octets_part file octets 20 (16 * count_of file)) (16 * i) 16)

    same_entry : (i : ℕ) → i < length js → entry_of (job_in js i).number (start_at start js i) (length (job_in js i).body) ≡ entry i
    same_entry i l =
        entry_again (entry i) (job_in js i).number (start_at start js i) (length (job_in js i).body) (sixteen i l) (entry_octets i l)
        (sym (accepted_laid.number i l))
        (ap (λ (k : ℕ). start_at k js i) (sym starts) ∙ sym (accepted_laid.start i l))
        (body_size i l)

    same_directory : directory_from start js ≡ directory_of file
    same_directory =
        rows_equal 16 (length js) (directory_from start js) (directory_of file) (directory_length start eight)
        (sixteens ∙ ap (λ (k : ℕ). 16 * k) (sym counted))
        (λ i l. slot start eight i l ∙ same_entry i l ∙ inside i l)

    same_header : header_of layout (length key) (length js) (archive_number file) check (whole_length layout js) ≡ take 20 file
    same_header =
        header_again layout (length key) (length js) (archive_number file) check (whole_length layout js) file good.long octets says

    -- the bodies, and after them what is left of the file
    same_bodies : bodies_in js ++ drop (bodies_end file) file ≡ drop (directory_end file) file
    unfolding body_at
    same_bodies =
        sym (tiled file (directory_end file) js
        (λ i l.
        ap₂ (λ (k m : ℕ). take k (drop m file)) (body_size i l) (sym (accepted_laid.start i l)) ∙ accepted_laid.body i l)
        ∙ ap (λ (k : ℕ). bodies_in js ++ drop k file) ends)

    same_front : front_of key tag_key (archive_number file) js ++ drop (bodies_end file) file ≡ file
    unfolding front_of directory_of
    same_front =
        simp append_assoc
        (join same_header
        (join same_directory (same_bodies ∙ sym (drop-drop (16 * count_of file) 20 file))
        ∙ take-append-drop (16 * count_of file) (drop 20 file))
        ∙ take-append-drop 20 file)

    front_length : length (front_of key tag_key (archive_number file) js) ≡ bodies_end file
    front_length =
        omega (
          arith,
          length-append (front_of key tag_key (archive_number file) js) (drop (bodies_end file) file),
          ap length same_front,
          length-drop (bodies_end file) file,
        )

    same_file : archive_of key tag_key (archive_number file) js ≡ file
    unfolding archive_of tag_of tagged_of
    same_file =
        let f : List ℕ = front_of key tag_key (archive_number file) js in
        let cut : take (bodies_end file) file ≡ f =
        ap (take (bodies_end file)) (sym same_front) ∙ take_at f _ (bodies_end file) front_length
        in
        ap (λ (s : List ℕ). f ++ tag_bytes tag_key s) (sym cut)
        ∙ ap (λ (t : List ℕ). f ++ t) (sym (accepted_tag order_of key tag_key file none))
        ∙ same_front

pub accepted_fine : AcceptedFine
accepted_fine = fine

pub rebuilt : Rebuilt
rebuilt key tag_key file n octets e = same_file key tag_key file n e octets
