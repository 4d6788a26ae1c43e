-- An archive that is built of jobs is accepted, and reads as these jobs.
-- Assumes nothing.
use mathlib.Core.Path.{◌≡◌, sym, ap, ap₂, ◌∙◌}
use mathlib.Core.List.{List, ◌++◌, append_assoc}
use Prim.Native.Nat.{ℕ, ◌+◌, ◌*◌, ◌<◌}
use native.Mathlib.Omega.{arith}
use lib.ListN.{length, take, drop, length-append}
use lib.Seq.{take_at, drop_at}
use Rattle.refusals.specs.Answers.{gives}
use Rattle.octets.proofs.Rows.{middle}
use Rattle.expansion.specs.KeySchedule.{schedule_of}
use Rattle.header.specs.Fields.{is_layout, layout_under, tag_size, directory_end, directory_of, bodies_end, tag_of, tagged_of}
use Rattle.header.proofs.Layouts.{layout_known}
use Rattle.header.proofs.Accepted.{HeaderGood, header_none}
use Rattle.directory.specs.Entries.{entry_at, number_of, start_of, size_of}
use Rattle.directory.proofs.Entries.{entry_inside}
use Rattle.bodies.specs.Bodies.{body_at}
use Rattle.admission.specs.Check.{key_check, tag_bytes}
use Rattle.archive.proofs.Sound.{accepted_archives}
use Rattle.codec.specs.Jobs.{Job, entry_of, directory_from, bodies_in, job_in, start_at, Each}
use Rattle.codec.specs.Archive.{whole_length, header_of, front_of, archive_of, Fine}
use Rattle.codec.specs.Theorems.{BuiltReads}
use Rattle.codec.proofs.Lengths.{check_length, tag_length}
use Rattle.codec.proofs.JobLaws.{each_at, each_map, bodies_within, body_in, Eight, directory_length, slot}
use Rattle.codec.proofs.Numbering.{job_eight}
use Rattle.codec.proofs.Parts.{entry_number, entry_start, entry_size, HeaderSays, header_length, header_reads}
use Rattle.codec.proofs.Laid.{Laid, laid_jobs, laid_sound}

module _ (key tag_key number : List ℕ) (js : List Job) (fine : Fine tag_key number js) where
  abbrev file : List ℕ
  file = archive_of key tag_key number js

  abbrev layout : ℕ
  layout = layout_under tag_key

  abbrev check : List ℕ
  check = key_check (schedule_of key)

  abbrev header : List ℕ
  header = header_of layout (length key) (length js) number check (whole_length layout js)

  abbrev directory : List ℕ
  directory = directory_from (20 + 16 * length js) js

  abbrev front : List ℕ
  front = front_of key tag_key number js

  abbrev tag : List ℕ
  tag = tag_bytes tag_key front

  -- the parts, one after the other
  parts : file ≡ header ++ (directory ++ (bodies_in js ++ tag))
  unfolding archive_of front_of
  parts = simp append_assoc

  eight : Each Eight js
  eight = each_map (λ j. job_eight j.number) fine.numeric

  -- ---- the header

  twenty : length header ≡ 20
  twenty = header_length layout (length key) (length js) number check (whole_length layout js) fine.four (check_length (schedule_of key))

  pub built_says : HeaderSays layout (length key) (length js) number check (whole_length layout js) file
  built_says =
      rw parts
      (header_reads layout (length key) (length js) number check (whole_length layout js) fine.four (check_length (schedule_of key))
      (directory ++ (bodies_in js ++ tag)) (omega (arith, fine.few)) (omega (arith, fine.small)))

  -- ---- the directory and the bodies

  sixteens : length directory ≡ 16 * length js
  sixteens = directory_length (20 + 16 * length js) eight

  pub built_directory : directory_of file ≡ directory
  unfolding directory_of
  built_directory =
      ap (λ (k : ℕ). take (16 * k) (drop 20 file)) built_says.counted
      ∙ ap (λ (s : List ℕ). take (16 * length js) (drop 20 s)) parts
      ∙ middle header directory (bodies_in js ++ tag) 20 (16 * length js) twenty sixteens

  front_length : length front ≡ 20 + 16 * length js + length (bodies_in js)
  unfolding front_of
  front_length =
      omega (arith, length-append header (directory ++ bodies_in js), length-append directory (bodies_in js), twenty, sixteens)

  pub built_length : length file ≡ whole_length layout js
  unfolding archive_of whole_length
  built_length = omega (arith, length-append front tag, front_length, tag_length tag_key front)

  end : bodies_end file ≡ length front
  unfolding whole_length
  end = omega (arith, ap tag_size built_says.laid, front_length, built_length)

  tagged : tag_of file ≡ tag_bytes tag_key (tagged_of file)
  unfolding archive_of tag_of tagged_of
  tagged =
      drop_at front tag (bodies_end file) (sym end) ∙ ap (tag_bytes tag_key) (sym (take_at front tag (bodies_end file) (sym end)))

  abbrev start : ℕ → ℕ
  start i = start_at (20 + 16 * length js) js i

  abbrev size : ℕ → ℕ
  size i = length (job_in js i).body

  entry : (i : ℕ) → i < length js → entry_at (directory_of file) i ≡ entry_of (job_in js i).number (start i) (size i)
  entry i l =
      ap (λ (d : List ℕ). entry_at d i) built_directory
      ∙ entry_inside directory i (omega (arith, sixteens))
      ∙ slot (20 + 16 * length js) eight i l

  entry_here : (i : ℕ) → i < length js → start_of (entry_at (directory_of file) i) ≡ start i
  unfolding whole_length
  entry_here i l =
      ap start_of (entry i l)
      ∙ entry_start (job_in js i).number (start i) (size i) (each_at eight i l) (omega (arith, fine.small, bodies_within js i l))

  entry_long : (i : ℕ) → i < length js → size_of (entry_at (directory_of file) i) ≡ size i
  unfolding whole_length
  entry_long i l =
      ap size_of (entry i l)
      ∙ entry_size (job_in js i).number (start i) (size i) (each_at eight i l) (omega (arith, fine.small, bodies_within js i l))

  before_bodies : length (header ++ directory) ≡ 20 + 16 * length js
  before_bodies = omega (arith, length-append header directory, twenty, sixteens)

  pub built_laid : Laid file js
  unfolding body_at
  built_laid = record {
    counted = built_says.counted;
    whole = omega (arith, ap length built_directory, sixteens);
    number = λ i l. ap number_of (entry i l) ∙ entry_number (job_in js i).number (start i) (size i) (each_at eight i l);
    start = λ i l. entry_here i l ∙ ap (λ (n : ℕ). start_at (20 + 16 * n) js i) (sym built_says.counted);
    size = entry_long;
    body = λ i l.
        ap₂ (λ (n k : ℕ). take n (drop k file)) (entry_long i l) (entry_here i l)
        ∙ ap (λ (s : List ℕ). take (size i) (drop (start i) s)) (parts ∙ sym (append_assoc header directory (bodies_in js ++ tag)))
        ∙ body_in (header ++ directory) tag (20 + 16 * length js) js i before_bodies l;
  }

  good : HeaderGood layout (length key) check file
  unfolding whole_length
  good =
      let c = built_says.counted in
      let l = built_length in
      let t = ap tag_size built_says.laid in
      record {
        long = omega arith;
        short = omega (arith, fine.small);
        known = ap is_layout built_says.laid ∙ layout_known tag_key;
        laid = built_says.laid;
        keyed = built_says.keyed;
        few = omega (arith, fine.few);
        stated = built_says.stated ∙ sym l;
        room = omega arith;
        checked = built_says.checked;
      }

  ends : directory_end file + length (bodies_in js) ≡ bodies_end file
  ends = omega (arith, built_says.counted, end, front_length)

pub built_reads : BuiltReads
built_reads key tag_key number js k t fine =
    let file : List ℕ = archive_of key tag_key number js in
    let laid = built_laid key tag_key number js fine in
    record {
      accepted =
          accepted_archives key tag_key file k t
          (header_none (layout_under tag_key) (length key) (key_check (schedule_of key)) file (good key tag_key number js fine))
          (laid_sound file js laid fine.numeric fine.ascending (ends key tag_key number js fine))
          (tagged key tag_key number js fine)
          ∙ ap gives laid.counted;
      named = (built_says key tag_key number js fine).named;
      jobs = laid_jobs file js laid;
      whole = built_length key tag_key number js fine;
    }
