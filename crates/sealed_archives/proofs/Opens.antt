-- What sealing gives is accepted, lists the jobs of the sheet, and opens to their plain bodies.
-- Assumes nothing.
use mathlib.Core.Path.{◌≡◌, refl, sym, ap, ap₂, ◌∙◌, subst}
use mathlib.Core.Bool.{true}
use mathlib.Core.List.{List, ◌++◌}
use Prim.Native.Nat.{ℕ, ◌+◌, ◌*◌, ◌<◌, ◌≤◌}
use native.Mathlib.Omega.{arith}
use lib.ListN.{length, take, drop, length-take}
use lib.Seq.{take_at, drop_at, take_all}
use Rattle.refusals.specs.Cases.{first_of}
use Rattle.refusals.specs.Answers.{Answer, gives, written_for}
use Rattle.refusals.specs.Shared.{key_cases}
use Rattle.refusals.proofs.Answers.{answer_gives}
use Rattle.refusals.proofs.Shared.{key_0}
use Rattle.blocks.specs.Blocks.{row}
use Rattle.blocks.proofs.Rows.{row_same}
use Rattle.expansion.specs.KeySchedule.{schedule_of}
use Rattle.header.specs.Fields.{layout_under, directory_of}
use Rattle.jobnumber.specs.Number.{is_job_number, order_of}
use Rattle.jobnumber.proofs.Ascending.{above_all}
use Rattle.directory.specs.Entries.{entries, entry_at, number_of, start_of, size_of}
use Rattle.directory.specs.Search.{index_of}
use Rattle.bodies.specs.Bodies.{body_at}
use Rattle.admission.specs.Check.{key_check, check_cases}
use Rattle.archive.specs.Check.{check_of}
use Rattle.archive.specs.Find.{find_cases}
use Rattle.archive.proofs.Finding.{find_bearer}
use Rattle.codec.specs.Jobs.{Job, job_in, start_at}
use Rattle.codec.specs.Archive.{whole_length, Fine}
use Rattle.codec.specs.Theorems.{ReadsBack}
use Rattle.codec.proofs.JobLaws.{each_at, bodies_row}
use Rattle.codec.proofs.Numbering.{jobs_numeric, jobs_ascend}
use Rattle.codec.proofs.Laid.{Laid}
use Rattle.codec.proofs.Parts.{HeaderSays}
use Rattle.codec.proofs.Built.{built_says, built_laid, built_reads}
use Rattle.opening.specs.Open.{under_keystream, body_of, plain_of, job_size, range_of, Opens}
use Rattle.opening.proofs.Opening.{opens_none}
use Rattle.opening.proofs.Xor.{opening_xors}
use Rattle.sheet.specs.Sheet.{archive_number_on, lines, line_at, job_number_on, size_on, sizes_on}
use Rattle.sheet.proofs.LineLaws.{number_length, line_length}
use Rattle.sheet.proofs.Cases.{key_size_good}
use Rattle.sealing.specs.Seal.{key_on, plain_on, jobs_on, seal_jobs, sealed_file, length_on, seal_cases, Seals}
use Rattle.sealing.specs.Internal.{body_on}
use Rattle.sealed_archives.specs.Opens.{OpensTo, SealedArchive, SealedOpens}
use Rattle.sealing.proofs.Cases.{SealGood, seal_good}
use Rattle.sealing.proofs.Jobs.{sealed_each, sealed_ascending, jobs_length, job_at_lem, plain_length, bodies_all}
use Rattle.sealing.proofs.Written.{sealed_count, sealed_job, sealed_body, sealed_start, length_on_lem, key_length_lem}

-- ---- the archive of a sheet without a case

module _ (key_file tag_key sheet plain : List ℕ) (room : ℕ) (g : SealGood key_file tag_key sheet (length plain) room) where
  abbrev key : List ℕ
  key = key_on key_file sheet

  abbrev ks : List Job
  ks = seal_jobs (schedule_of key) (archive_number_on sheet) (jobs_on sheet plain)

  abbrev file : List ℕ
  file = sealed_file key_file tag_key sheet plain

  exact : sizes_on sheet (lines sheet) ≡ length plain
  exact = g.rest.fits.exact

  count : length ks ≡ lines sheet
  count = sealed_count (schedule_of key) sheet plain exact

  pub sheet_fine : Fine tag_key (archive_number_on sheet) ks
  unfolding jobs_on
  sheet_fine = record {
    four = number_length sheet g.sheeted.five;
    numeric =
        sealed_each (schedule_of key) (archive_number_on sheet) (λ n. is_job_number n ≡ true)
        (jobs_numeric (line_at sheet) _ (lines sheet) (λ i. refl) (λ i l. omega (arith, line_length sheet i l)) g.rest.lined.numeric);
    ascending =
        sealed_ascending (schedule_of key) (archive_number_on sheet) order_of
        (jobs_ascend (line_at sheet) _ (lines sheet) (λ i. refl)
        (λ i j l m. above_all order_of (line_at sheet) (lines sheet) g.rest.lined.above j i l m));
    few = omega (arith, count, g.rest.lined.few);
    small = omega (arith, length_on_lem (schedule_of key) sheet plain exact (layout_under tag_key), g.rest.fits.most);
  }

  good_key_lem : first_of (key_cases (length key)) ≡ 0
  good_key_lem =
      ap (λ (n : ℕ). first_of (key_cases n)) (key_length_lem key_file tag_key sheet plain g.keyed exact)
      ∙ key_0 _ (key_size_good sheet g.sheeted.sized)

  back : ReadsBack key tag_key (archive_number_on sheet) ks file
  unfolding sealed_file
  back = built_reads key tag_key (archive_number_on sheet) ks good_key_lem g.tagged sheet_fine

  says : HeaderSays (layout_under tag_key) (length key) (length ks) (archive_number_on sheet) (key_check (schedule_of key))
      (whole_length (layout_under tag_key) ks) file
  unfolding sealed_file
  says = built_says key tag_key (archive_number_on sheet) ks sheet_fine

  laid : Laid file ks
  unfolding sealed_file
  laid = built_laid key tag_key (archive_number_on sheet) ks sheet_fine

  pub file_length : length file ≡ length_on (layout_under tag_key) sheet
  file_length = back.whole ∙ sym (length_on_lem (schedule_of key) sheet plain exact (layout_under tag_key))

  accepted : check_of key tag_key file ≡ gives (lines sheet)
  accepted = back.accepted ∙ ap gives count

  no_case : first_of (check_cases key tag_key file) ≡ 0
  no_case = (answer_gives _ _ _ accepted).0

  -- ---- job i

  module _ (i : ℕ) (l : i < lines sheet) where
    inside : i < length ks
    inside = omega (arith, count)

    number : number_of (entry_at (directory_of file) i) ≡ job_number_on sheet i
    number = laid.number i inside ∙ ap (λ (j : Job). j.number) (sealed_job (schedule_of key) sheet plain exact i l)

    start : start_of (entry_at (directory_of file) i) ≡ 20 + 16 * lines sheet + sizes_on sheet i
    start =
        laid.start i inside
        ∙ ap (λ (n : ℕ). start_at (20 + 16 * n) ks i) (laid.counted ∙ count)
        ∙ sealed_start (schedule_of key) sheet plain exact (20 + 16 * lines sheet) i (omega arith)

    size : size_of (entry_at (directory_of file) i) ≡ size_on sheet i
    size = laid.size i inside ∙ sealed_body (schedule_of key) sheet plain exact i l

    body : body_at file i ≡ body_on (schedule_of key) sheet plain i
    body = laid.body i inside ∙ ap (λ (j : Job). j.body) (sealed_job (schedule_of key) sheet plain exact i l)

    is_number : is_job_number (job_number_on sheet i) ≡ true
    is_number =
        ap (λ (j : Job). is_job_number j.number) (sym (sealed_job (schedule_of key) sheet plain exact i l))
        ∙ each_at sheet_fine.numeric i inside

    found : (first_of (find_cases key tag_key file (job_number_on sheet i)) ≡ 0)
        × (index_of (directory_of file) (job_number_on sheet i) ≡ i)
    found =
        let within : i < entries (directory_of file) = omega (arith, laid.whole, inside) in
        answer_gives _ _ i (find_bearer key tag_key file (job_number_on sheet i) no_case is_number i within number)

    sealed_part : body_of file (job_number_on sheet i) ≡ body_on (schedule_of key) sheet plain i
    sealed_part = ap (body_at file) found.1 ∙ body

    opened : plain_of (schedule_of key) file (job_number_on sheet i) ≡ plain_on sheet plain i
    opened =
        ap₂ (λ (n b : List ℕ). under_keystream (schedule_of key) n (job_number_on sheet i) b) back.named sealed_part
        ∙ (opening_xors (schedule_of key) (archive_number_on sheet) (job_number_on sheet i) (plain_on sheet plain i)).again

    long : job_size file (job_number_on sheet i) ≡ length (plain_on sheet plain i)
    long = ap length sealed_part ∙ (opening_xors (schedule_of key) (archive_number_on sheet) (job_number_on sheet i)
        (plain_on sheet plain i)).size

    -- a range of it, by any call of opening
    range_opens : (first n : ℕ) (before : List ℕ) (a : Answer) (after : List ℕ) → first + n ≤ length (plain_on sheet plain i)
        → n ≤ length before → Opens key tag_key file (job_number_on sheet i) first n before a after
        → (a ≡ gives n) × (after ≡ range_of first n (plain_on sheet plain i) ++ drop n before)
    unfolding written_for
    range_opens first n before a after within fits o =
        let answered : a ≡ gives n =
        o.answered ∙ opens_none key tag_key file (job_number_on sheet i) first n (length before) found.0 (omega (arith, long)) fits in (
          answered,
          o.bytes
              ∙ ap₂ (λ (b : Answer) (x : List ℕ). written_for b (range_of first n x) before) answered opened,
        )

    job_opens : OpensTo key tag_key file (job_number_on sheet i) (plain_on sheet plain i)
    job_opens = record {
      range = range_opens;
      whole = λ before a after fits o.
          let p : List ℕ = plain_on sheet plain i in
          let all : Opens key tag_key file (job_number_on sheet i) 0 (length p) before a after =
          subst (λ (n : ℕ). Opens key tag_key file (job_number_on sheet i) 0 n before a after) long o in
          let r = range_opens 0 (length p) before a after (omega arith) fits all in
          (r.0, r.1 ∙ ap (λ (x : List ℕ). x ++ drop (length p) before) (take_all (length p) p (omega arith)));
    }

  pub sealed_archive : SealedArchive key tag_key sheet plain file (length_on (layout_under tag_key) sheet)
  sealed_archive = record {
    size = file_length;
    accepted = accepted;
    layout = says.laid;
    keyed = says.keyed ∙ key_length_lem key_file tag_key sheet plain g.keyed exact;
    named = back.named;
    numbers = number;
    starts = start;
    sizes = size;
    opens = job_opens;
    measured = plain_length sheet plain exact;
    all =
        row_same (plain_on sheet plain) (λ (i : ℕ). (job_in (jobs_on sheet plain) i).body) (lines sheet)
        (λ i l. ap (λ (j : Job). j.body) (sym (job_at_lem sheet plain i l)))
        ∙ ap (row (λ (i : ℕ). (job_in (jobs_on sheet plain) i).body)) (sym (jobs_length sheet plain))
        ∙ sym (bodies_row (jobs_on sheet plain))
        ∙ bodies_all sheet plain exact;
  }

pub sealed_opens : SealedOpens
unfolding written_for
sealed_opens key_file tag_key sheet plain before n after s =
    let p = answer_gives (first_of (seal_cases key_file tag_key sheet (length plain) (length before)))
    (length_on (layout_under tag_key) sheet) n
    (sym s.answered) in
    let g = seal_good key_file tag_key sheet (length plain) (length before) p.0 in
    let file : List ℕ = sealed_file key_file tag_key sheet plain in
    let size : length file ≡ n = file_length key_file tag_key sheet plain (length before) g ∙ p.1 in
    let front : take n after ≡ file = ap (take n) s.bytes ∙ take_at file (drop n before) n size in
    record {
      archive =
          rw (front, ← p.1) (sealed_archive key_file tag_key sheet plain (length before) g);
      rest = ap (drop n) s.bytes ∙ drop_at file (drop n before) n size;
    }

-- whatever was answered: an archive that is given lies within the buffer
pub seals_fits : (key_file tag_key sheet plain before after : List ℕ) (a : Answer) → Seals key_file tag_key sheet plain before a after
    → (n : ℕ)
    → a ≡ gives n → n ≤ length after
seals_fits key_file tag_key sheet plain before after a s n e =
    let o = sealed_opens key_file tag_key sheet plain before n after
    (subst (λ (b : Answer). Seals key_file tag_key sheet plain before b after) e s) in
    omega (arith, length-take n after, o.archive.size)
