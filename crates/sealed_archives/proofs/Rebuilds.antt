-- An accepted archive, sealed again from its own jobs, comes out byte for byte.
-- Assumes nothing.
use mathlib.Core.Path.{◌≡◌, refl, sym, ap, ap₂, ◌∙◌}
use mathlib.Core.Bool.{true}
use mathlib.Core.List.{List, [], ◌++◌, append-nil}
use Prim.Native.Nat.{ℕ, ◌+◌, ◌*◌, ◌-◌, ◌<◌, ◌≤◌}
use native.Mathlib.Omega.{arith}
use lib.ListN.{length, get_or, take, drop, length-append, length-take}
use lib.Seq.{take_at, drop_at, drop-drop}
use Rattle.refusals.specs.Cases.{first_of}
use Rattle.refusals.specs.Answers.{Answer, gives, written_for}
use Rattle.refusals.specs.Shared.{good_key}
use Rattle.refusals.proofs.Answers.{answer_gives, answer_none}
use Rattle.octets.specs.Numbers.{Octets, be32, bytes32}
use Rattle.octets.specs.Tables.{values}
use Rattle.octets.proofs.Numbers.{read32, be32_at}
use Rattle.octets.proofs.Tables.{values_of}
use Rattle.blocks.specs.Blocks.{row}
use Rattle.blocks.proofs.Rows.{length_parts, part_at, row_same}
use Rattle.expansion.specs.KeySchedule.{schedule_of}
use Rattle.header.specs.Fields.{layout_under, count_of, archive_number, directory_of}
use Rattle.header.proofs.Accepted.{HeaderGood}
use Rattle.jobnumber.specs.Number.{is_job_number, order_of}
use Rattle.jobnumber.proofs.Ascending.{before_above}
use Rattle.directory.specs.Entries.{entry_at, number_of, size_of}
use Rattle.directory.specs.Search.{index_of}
use Rattle.bodies.specs.Bodies.{body_at}
use Rattle.admission.specs.Check.{key_check, check_cases}
use Rattle.admission.proofs.Accepted.{accepted_key, accepted_tag_key, accepted_header}
use Rattle.archive.specs.Check.{check_of}
use Rattle.archive.specs.Find.{find_cases}
use Rattle.archive.proofs.Finding.{find_bearer}
use Rattle.codec.specs.Jobs.{Job, no_job, bodies_in, job_in, start_at}
use Rattle.codec.specs.Archive.{jobs_of, whole_length, archive_of, Fine}
use Rattle.codec.proofs.JobLaws.{each_at, bodies_within, start_end, body_in, bodies_row}
use Rattle.codec.proofs.Numbering.{job_eight, rows_numeric, rows_ascend}
use Rattle.codec.proofs.Laid.{Laid}
use Rattle.codec.proofs.Rebuilt.{accepted_fine, accepted_laid, whole_length_lem, rebuilt}
use Rattle.opening.specs.Open.{under_keystream, plain_of}
use Rattle.opening.proofs.Xor.{opening_xors}
use Rattle.sheet.specs.Sheet.{key_size_of, archive_number_on, lines, line_at, job_number_on, size_on, sizes_on}
use Rattle.sheet.proofs.LineLaws.{line_inside}
use Rattle.sheet.proofs.Cases.{key_length_good}
use Rattle.sealing.specs.Seal.{key_on, plain_on, jobs_on, seal_jobs, sealed_file, length_on}
use Rattle.sealing.specs.OwnJobs.{line_of, sheet_of, plains_of}
use Rattle.sealed_archives.specs.Rebuilds.{SealRebuilds}
use Rattle.sealing.proofs.Cases.{SealGood, seal_none}
use Rattle.sealing.proofs.Jobs.{sums, sealed_twice, sealed_length, sealed_at, sealed_bodies}

module _ (key tag_key file : List ℕ) (n : ℕ) (e : check_of key tag_key file ≡ gives n) (k : ℕ) (means : key_size_of k ≡ length key) where
  abbrev name : List ℕ
  name = archive_number file

  abbrev js : List Job
  js = jobs_of file

  -- the jobs with their plain bodies
  abbrev ps : List Job
  ps = seal_jobs (schedule_of key) name js

  abbrev sheet : List ℕ
  sheet = sheet_of k file

  abbrev plain : List ℕ
  plain = plains_of key file

  none : first_of (check_cases key tag_key file) ≡ 0
  none = (answer_gives _ _ n e).0

  good : HeaderGood (layout_under tag_key) (length key) (key_check (schedule_of key)) file
  good = accepted_header order_of key tag_key file none

  fine : Fine tag_key name js
  fine = accepted_fine key tag_key file n e

  laid : Laid file js
  laid = accepted_laid key tag_key file n e

  whole : whole_length (layout_under tag_key) js ≡ length file
  whole = whole_length_lem key tag_key file n e

  number : (i : ℕ) → i < length js → number_of (entry_at (directory_of file) i) ≡ (job_in js i).number
  number = laid.number

  eight : (i : ℕ) → i < length js → length (number_of (entry_at (directory_of file) i)) ≡ 8
  eight i l = job_eight _ (ap is_job_number (number i l) ∙ each_at fine.numeric i l)

  small : length (bodies_in js) ≤ 65536
  unfolding whole_length
  small = omega (arith, whole, good.short)

  -- ---- the sheet

  twelve : (i : ℕ) → i < count_of file → length (line_of file i) ≡ 12
  twelve i l =
      omega (
        arith,
        length-append (number_of (entry_at (directory_of file) i)) (bytes32 (size_of (entry_at (directory_of file) i))),
        eight i (omega (arith, laid.counted)),
      )

  size : length sheet ≡ 5 + 12 * count_of file
  unfolding sheet_of
  size =
      omega (
        arith,
        length-append name (row (line_of file) (count_of file)),
        fine.four,
        length_parts (line_of file) 12 (count_of file) twelve,
      )

  count : lines sheet ≡ length js
  count = omega (arith, size, laid.counted)

  named : archive_number_on sheet ≡ name
  unfolding archive_number_on sheet_of
  named = take_at name (row (line_of file) (count_of file)) 4 fine.four

  first_byte : get_or sheet 0 0 ≡ k
  unfolding sheet_of
  first_byte = refl

  -- the lines, after the first five bytes
  after : drop 5 sheet ≡ row (line_of file) (count_of file)
  unfolding sheet_of
  after = drop_at name (row (line_of file) (count_of file)) 4 fine.four

  line : (i : ℕ) → i < length js → line_at sheet i ≡ line_of file i
  line i l =
      let rows : List ℕ = row (line_of file) (count_of file) in
      line_inside sheet i (omega (arith, count))
      ∙ ap (take 12) (sym (drop-drop (12 * i) 5 sheet) ∙ ap (drop (12 * i)) (after ∙ sym (append-nil rows)))
      ∙ part_at (line_of file) 12 (count_of file) i [] twelve (omega (arith, laid.counted))

  job_on : (i : ℕ) → i < length js → job_number_on sheet i ≡ (job_in js i).number
  job_on i l = ap (take 8) (line i l) ∙ take_at (number_of (entry_at (directory_of file) i)) _ 8 (eight i l) ∙ number i l

  size_on_lem : (i : ℕ) → i < length js → size_on sheet i ≡ length (job_in js i).body
  size_on_lem i l =
      let d : List ℕ = number_of (entry_at (directory_of file) i) in
      let m : ℕ = size_of (entry_at (directory_of file) i) in
      let most : m < 4294967296 = omega (arith, laid.size i l, bodies_within js i l, small) in
      ap (λ (s : List ℕ). be32 s 8) (line i l)
      ∙ be32_at (d ++ bytes32 m) 8
      ∙ ap (λ (s : List ℕ). be32 s 0) (drop_at d (bytes32 m) 8 (eight i l))
      ∙ read32 m [] most
      ∙ laid.size i l

  sizes_on_lem : (i : ℕ) → i ≤ length js → sizes_on sheet i ≡ start_at 0 js i
  sizes_on_lem i l =
      let m : i ≤ lines sheet = omega (arith, count) in
      omega (arith, sums sheet 0 js (sym count) (λ k n. sym (size_on_lem k (omega (arith, count)))) i m)

  all_sizes : sizes_on sheet (lines sheet) ≡ length (bodies_in js)
  all_sizes = ap (sizes_on sheet) count ∙ sizes_on_lem (length js) (omega arith) ∙ start_end 0 js ∙ omega arith

  -- ---- the plain bytes

  opened : (i : ℕ) → i < length js → plain_of (schedule_of key) file (number_of (entry_at (directory_of file) i)) ≡ (job_in ps i).body
  opened i l =
      let d : List ℕ = number_of (entry_at (directory_of file) i) in
      let is : is_job_number d ≡ true = ap is_job_number (number i l) ∙ each_at fine.numeric i l in
      let found = find_bearer key tag_key file d none is i (omega (arith, laid.whole)) refl in
      let index = (answer_gives (first_of (find_cases key tag_key file d)) (index_of (directory_of file) d) i found).1 in
      ap (λ (j : ℕ). under_keystream (schedule_of key) name d (body_at file j)) index
      ∙ ap₂ (λ (x b : List ℕ). under_keystream (schedule_of key) name x b) (number i l) (laid.body i l)
      ∙ ap (λ (j : Job). j.body) (sym (sealed_at (schedule_of key) name js i l))

  plains : plain ≡ bodies_in ps
  unfolding plains_of
  plains =
      row_same _ (λ (i : ℕ). (job_in ps i).body) (count_of file) (λ i l. opened i (omega (arith, laid.counted)))
      ∙ ap (row (λ (i : ℕ). (job_in ps i).body)) (laid.counted ∙ sym (sealed_length (schedule_of key) name js))
      ∙ sym (bodies_row ps)

  exact : sizes_on sheet (lines sheet) ≡ length plain
  exact = all_sizes ∙ sym (sealed_bodies (schedule_of key) name js) ∙ ap length (sym plains)

  -- ---- the jobs of the sheet

  -- where the plain bodies start, and how long they are
  plain_size : (i : ℕ) → i < length js → size_on sheet i ≡ length (job_in ps i).body
  plain_size i l =
      size_on_lem i l
      ∙ sym (opening_xors (schedule_of key) name (job_in js i).number (job_in js i).body).size
      ∙ ap (λ (j : Job). length j.body) (sym (sealed_at (schedule_of key) name js i l))

  plain_start : (i : ℕ) → i ≤ length js → sizes_on sheet i ≡ start_at 0 ps i
  plain_start i l =
      let m : i ≤ lines sheet = omega (arith, count) in
      let all = sealed_length (schedule_of key) name js ∙ sym count in
      omega (arith, sums sheet 0 ps all (λ k n. sym (plain_size k (omega (arith, count)))) i m)

  jobs : jobs_on sheet plain ≡ ps
  unfolding jobs_on
  jobs =
      let of : ℕ → Job = λ i. record { number = job_number_on sheet i; body = plain_on sheet plain i } in
      let m = sealed_length (schedule_of key) name js in
      ap (values of) (count ∙ sym m)
      ∙ values_of of ps no_job
      (λ i l.
      let li : i < length js = omega arith in
      ap₂ (λ (x b : List ℕ). record { number = x; body = b })
      (job_on i li ∙ ap (λ (j : Job). j.number) (sym (sealed_at (schedule_of key) name js i li)))
      (ap₂ (λ (x at : ℕ). take x (drop at plain)) (plain_size i li) (plain_start i (omega arith))
      ∙ ap (λ (s : List ℕ). take (length (job_in ps i).body) (drop (start_at 0 ps i) s)) (plains ∙ sym (append-nil (bodies_in ps)))
      ∙ body_in [] [] 0 ps i refl l))

  -- ---- sealed again

  module _ (key_file : List ℕ) (begins : take (length key) key_file ≡ key) where
    key_on_lem : key_on key_file sheet ≡ key
    key_on_lem = ap (λ (m : ℕ). take m key_file) (ap key_size_of first_byte ∙ means) ∙ begins

    pub file_again : Octets file → sealed_file key_file tag_key sheet plain ≡ file
    unfolding sealed_file
    file_again octets =
        ap₂ (λ (x : List ℕ) (d : List ℕ). archive_of x tag_key d (seal_jobs (schedule_of x) d (jobs_on sheet plain))) key_on_lem named
        ∙ ap (λ (l : List Job). archive_of key tag_key name (seal_jobs (schedule_of key) name l)) jobs
        ∙ ap (archive_of key tag_key name) (sealed_twice (schedule_of key) name js)
        ∙ rebuilt key tag_key file n octets e

    pub length_again : length_on (layout_under tag_key) sheet ≡ length file
    unfolding length_on whole_length
    length_again = omega (arith, whole, count, all_sizes)

    pub good_again : (room : ℕ) → length file ≤ room → SealGood key_file tag_key sheet (length plain) room
    good_again room fits = record {
      sheeted = record {
        five = omega (arith, size);
        twelves = omega (arith, size);
        sized = rw first_byte (key_length_good k (ap good_key means ∙ accepted_key order_of key tag_key file none));
      };
      keyed =
          let m = ap length begins in
          let l = length-take (length key) key_file in
          omega (arith, ap key_size_of first_byte ∙ means);
      tagged = accepted_tag_key order_of key tag_key file none;
      rest = record {
        lined = record {
          few = omega (arith, count, fine.few);
          numeric = λ i l. rows_numeric (line_at sheet) js job_on fine.numeric i (omega (arith, count));
          above = λ i l. before_above order_of (line_at sheet) i
              (λ j m. rows_ascend (line_at sheet) js job_on fine.ascending j i m (omega (arith, count)));
        };
        fits = record { most = omega (arith, length_again, good.short); exact = exact; roomy = omega (arith, length_again) };
      };
    }

pub seal_rebuilds : SealRebuilds
unfolding written_for
seal_rebuilds key tag_key file key_file n k before a after octets e begins means fits s =
    let g = good_again key tag_key file n e k means key_file begins (length before) fits in
    let none = seal_none key_file tag_key (sheet_of k file) (length (plains_of key file)) (length before) g in
    let answered : a ≡ gives (length file) =
    s.answered ∙ answer_none _ _ none ∙ ap gives (length_again key tag_key file n e k means key_file begins)
    in
    record {
      answered = answered;
      bytes =
          s.bytes
          ∙ ap₂ (λ (b : Answer) (x : List ℕ). written_for b x before) answered
          (file_again key tag_key file n e k means key_file begins octets);
    }
