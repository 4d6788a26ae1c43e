-- What dropping leaves: the jobs that are not in the list as they were and no others, in a file that is no longer.
-- Assumes nothing.
use mathlib.Core.Path.{◌≡◌, refl, sym, ap, ap₂, ◌∙◌, subst}
use mathlib.Core.Bool.{true, false, cond}
use mathlib.Core.List.{List, [], ◌++◌}
use Prim.Native.Nat.{ℕ, zero, suc, ◌+◌, ◌<◌, ◌≤◌}
use native.Mathlib.Nat.{not-suc-le-zero}
use native.Mathlib.Omega.{arith}
use lib.ListN.{length, take, drop, length-take}
use lib.Seq.{take_at, drop_at}
use Rattle.refusals.specs.Cases.{first_of}
use Rattle.refusals.specs.Answers.{Answer, refused, gives, answer, refusal_in, part_for, written_for}
use Rattle.refusals.proofs.Cases.{first_stop, first_alike, first_lacks}
use Rattle.refusals.proofs.Answers.{answer_none, answer_gives, answer_number, answer_first, refusal_answer, part_alike}
use Rattle.refusals.proofs.Shared.{key_0}
use Rattle.expansion.specs.KeySchedule.{schedule_of}
use Rattle.header.specs.Fields.{layout_of, layout_under, tag_size, count_of, archive_number, directory_of}
use Rattle.jobnumber.specs.Number.{is_job_number, order_of}
use Rattle.directory.specs.Entries.{entry_at, number_of}
use Rattle.directory.specs.Search.{index_of}
use Rattle.bodies.specs.Bodies.{body_at}
use Rattle.bodies.proofs.Numbers.{number_good}
use Rattle.admission.specs.Check.{key_check, check_cases}
use Rattle.admission.proofs.Accepted.{accepted_key, accepted_tag_key, accepted_header}
use Rattle.archive.specs.Check.{check_of}
use Rattle.archive.specs.Find.{find_cases}
use Rattle.opening.specs.Open.{under_keystream, body_of, range_of, plain_range, range_cases, open_cases}
use Rattle.opening.proofs.Opening.{find_positive}
use Rattle.codec.specs.Jobs.{Job, bodies_in, job_in}
use Rattle.codec.specs.Archive.{job_at, jobs_of, whole_length, archive_of, Fine}
use Rattle.codec.specs.Theorems.{ReadsBack}
use Rattle.codec.proofs.JobLaws.{each_values}
use Rattle.codec.proofs.Parts.{HeaderSays}
use Rattle.codec.proofs.Built.{built_says, built_reads}
use Rattle.codec.proofs.Rebuilt.{accepted_fine, whole_length_lem, rebuilt}
use Rattle.joblist.specs.List.{listed, is_listed, list_cases}
use Rattle.joblist.proofs.Cases.{list_none, list_clear}
use Rattle.joblist.proofs.Listed.{is_listed_lem, listed_no, alike_clear}
use Rattle.dropping.specs.Drop.{jobs_left, dropped_file, length_left, asked_cases, drop_cases, Drops}
use Rattle.dropped_jobs.specs.Leaves.{AsBefore, Gone, LeftArchive, DropLeaves, DropShortens, DropNone, DropOnce, DropAll}
use Rattle.dropping.proofs.Cases.{asked_lacks, asked_none, asked_stages, drop_asked, room_fits}
use Rattle.dropping.proofs.Without.{without_none, without_alike, without_all, length_without, fine_without}
use Rattle.dropped_jobs.proofs.Bearer.{bearer_in, bearer_without, refusal_for, bearer_found}
use Rattle.dropped_jobs.proofs.Answers.{drop_answers}

-- ---- what finding answers tells of opening

-- two files in which a number has the same cases and the same sealed body
as_before : (key tag_key file new number : List ℕ)
    → first_of (find_cases key tag_key new number) ≡ first_of (find_cases key tag_key file number)
    → body_of new number ≡ body_of file number → archive_number new ≡ archive_number file → AsBefore key tag_key file new number
unfolding open_cases
as_before key tag_key file new number found body named = record {
  finds = λ a b f g.
      ap refusal_in f.answered
      ∙ refusal_answer (first_of (find_cases key tag_key new number)) (index_of (directory_of new) number)
      ∙ found
      ∙ sym (refusal_answer (first_of (find_cases key tag_key file number)) (index_of (directory_of file) number))
      ∙ sym (ap refusal_in g.answered);
  body = part_alike _ _ _ _ (body_at new) (body_at file) found body;
  size = ap length body;
  opens = λ first count before a after o. record {
    answered =
        o.answered
        ∙ ap (λ (n : ℕ). answer n count)
        (first_alike (find_cases key tag_key new number) (find_cases key tag_key file number) _ _ (find_positive key tag_key new number)
        (find_positive key tag_key file number) found
        (λ z. ap (λ (b : List ℕ). first_of (range_cases (length b) first count (length before))) body));
    bytes =
        o.bytes
        ∙ ap₂ (λ (n b : List ℕ). written_for a (range_of first count (under_keystream (schedule_of key) n number b)) before) named body;
  };
}

-- a file in which no job bears the number
missing_gone : (key tag_key new number : List ℕ) → first_of (find_cases key tag_key new number) ≡ 19 → Gone key tag_key new number
unfolding open_cases part_for written_for
missing_gone key tag_key new number missing = record {
  finds = λ a f. f.answered ∙ ap (λ (n : ℕ). answer n (index_of (directory_of new) number)) missing;
  body = ap (λ (n : ℕ). part_for (answer n (index_of (directory_of new) number)) (body_at new)) missing;
  opens = λ first count before a after o.
      let answered : a ≡ refused 19 =
      o.answered ∙ answer_first (find_cases key tag_key new number) _ count (λ q. omega arith) ∙ ap refused missing in
      let plain : List ℕ = plain_range (schedule_of key) new number first count in
      (answered, o.bytes ∙ ap (λ (b : Answer). written_for b plain before) answered);
}

-- ---- what is left of an accepted file, by a list without a case

module _ (key tag_key file list : List ℕ) (none : first_of (asked_cases key tag_key file list) ≡ 0) where
  abbrev new : List ℕ
  new = dropped_file key tag_key file list

  stages : (first_of (check_cases key tag_key file) ≡ 0) × (first_of (list_cases file list) ≡ 0)
  stages = asked_stages key tag_key file list none

  accepted : check_of key tag_key file ≡ gives (count_of file)
  accepted = answer_none _ _ stages.0

  shorter : length_left tag_key file list ≤ length file
  shorter =
      omega (arith, length_without list (layout_under tag_key) (jobs_of file), whole_length_lem key tag_key file (count_of file) accepted)

  -- with room for it there is no case
  drop_fits : (room : ℕ) → length_left tag_key file list ≤ room → first_of (drop_cases key tag_key file list room) ≡ 0
  unfolding drop_cases
  drop_fits room l = room_fits key tag_key file list (length_left tag_key file list) room none l

  -- so a call gives the length of the archive of the jobs left, and writes that archive
  drop_writes : (js : List Job) (n : ℕ) (new before : List ℕ) (a : Answer) (after : List ℕ) → jobs_left file list ≡ js
      → whole_length (layout_under tag_key) js ≡ n → archive_of key tag_key (archive_number file) js ≡ new → n ≤ length before
      → Drops key tag_key file list before a after → (a ≡ gives n) × (after ≡ new ++ drop n before)
  unfolding dropped_file written_for
  drop_writes js n new before a after same size built l d =
      let whole : length_left tag_key file list ≡ n = ap (whole_length (layout_under tag_key)) same ∙ size in
      let answered : a ≡ gives n = d.answered ∙ answer_none _ _ (drop_fits (length before) (omega arith)) ∙ ap gives whole in
      let bytes : dropped_file key tag_key file list ≡ new = ap (archive_of key tag_key (archive_number file)) same ∙ built in
      (answered, d.bytes ∙ ap₂ (λ (b : Answer) (t : List ℕ). written_for b t before) answered bytes)

  pub fine : Fine tag_key (archive_number file) (jobs_left file list)
  fine = fine_without list tag_key (archive_number file) (jobs_of file) (accepted_fine key tag_key file (count_of file) accepted)

  pub back : ReadsBack key tag_key (archive_number file) (jobs_left file list) new
  unfolding dropped_file
  back =
      built_reads key tag_key (archive_number file) (jobs_left file list)
      (key_0 (length key) (accepted_key order_of key tag_key file stages.0))
      (accepted_tag_key order_of key tag_key file stages.0) fine

  pub says : HeaderSays (layout_under tag_key) (length key) (length (jobs_left file list)) (archive_number file)
      (key_check (schedule_of key))
      (length_left tag_key file list) new
  unfolding dropped_file
  says = built_says key tag_key (archive_number file) (jobs_left file list) fine

  module _ (number : List ℕ) where
    abbrev bearer : List Job
    bearer = cond (is_listed list number) [] (bearer_in (jobs_of file) number)

    found : (first_of (find_cases key tag_key new number) ≡ refusal_for number bearer) × (body_of new number ≡ (job_in bearer 0).body)
    found = rw (back.jobs, bearer_without list number (jobs_of file)) at (bearer_found key tag_key new _ back.accepted number)

    stays : is_listed list number ≡ false → AsBefore key tag_key file new number
    stays out =
        let was = bearer_found key tag_key file _ accepted number in
        let is = rw out at found in
        as_before key tag_key file new number (is.0 ∙ sym was.0) (is.1 ∙ sym was.1) back.named

    gone : is_listed list number ≡ true → is_job_number number ≡ true → Gone key tag_key new number
    gone inside good = missing_gone key tag_key new number (rw (inside, good) at found.0)

  left : LeftArchive key tag_key file list new (length_left tag_key file list)
  left =
      let header = accepted_header order_of key tag_key file stages.0 in
      record {
        size = back.whole;
        accepted = back.accepted;
        layout = says.laid ∙ sym header.laid;
        keyed = says.keyed ∙ sym header.keyed;
        named = back.named;
        jobs = back.jobs;
        stays = λ number out. stays number (listed_no list number out);
        gone = λ k l. gone (listed list k) (is_listed_lem list k l) (number_good file _ ((list_clear file list stages.1).1 k l));
      }

-- ---- a call that gives n

module _ (key tag_key file list before : List ℕ) (n : ℕ) (after : List ℕ) (d : Drops key tag_key file list before (gives n) after) where
  -- it has no case, and n is the new archive's length
  pub given : (first_of (asked_cases key tag_key file list) ≡ 0) × (length_left tag_key file list ≡ n)
  given =
      let p = answer_gives (first_of (drop_cases key tag_key file list (length before))) (length_left tag_key file list) n (sym d.answered)
      in
      (drop_asked key tag_key file list (length before) p.0, p.1)

  -- that archive stands in the buffer, and then what stood there before
  pub parts : (take n after ≡ dropped_file key tag_key file list) × (drop n after ≡ drop n before)
  unfolding written_for
  parts =
      let size = (left key tag_key file list given.0).size ∙ given.1 in
      let f : List ℕ = dropped_file key tag_key file list in (
        ap (take n) d.bytes ∙ take_at f (drop n before) n size,
        ap (drop n) d.bytes ∙ drop_at f (drop n before) n size,
      )

-- ---- the theorems

pub drop_leaves : DropLeaves
drop_leaves key tag_key file list before n after d =
    let g = given key tag_key file list before n after d in
    let p = parts key tag_key file list before n after d in
    record { archive = rw (p.0, ← g.1) (left key tag_key file list g.0); rest = p.1 }

pub drop_shortens : DropShortens
unfolding drop_cases
drop_shortens key tag_key file list before a after d = (
  λ n e.
      let g = given key tag_key file list before n after (rw (← e) d) in omega (arith, shorter key tag_key file list g.0, g.1),
  λ l e. go (first_of (asked_cases key tag_key file list)) refl l (answer_number _ _ 20 (sym d.answered ∙ e)).0,
)
  where
    go : (k : ℕ) → first_of (asked_cases key tag_key file list) ≡ k → length file ≤ length before
        → first_of (drop_cases key tag_key file list (length before)) ≡ 20 → ⊥
    go zero z l e =
        let fits = drop_fits key tag_key file list z (length before) (omega (arith, shorter key tag_key file list z)) in omega arith
    go (suc k) z l e =
        first_lacks 20 (asked_cases key tag_key file list) (omega arith) (asked_lacks key tag_key file list)
        (sym (first_stop (asked_cases key tag_key file list) _ (λ q. omega arith)) ∙ e)

pub drop_none : DropNone
drop_none key tag_key file before count a after octets e l d =
    let asked : first_of (asked_cases key tag_key file []) ≡ 0 =
    asked_none key tag_key file [] (answer_gives (first_of (check_cases key tag_key file)) (count_of file) count e).0
    (list_none file [] refl (λ k m. absurd (not-suc-le-zero m)))
    in
    drop_writes key tag_key file [] asked (jobs_of file) (length file) file before a after (without_none (jobs_of file))
    (whole_length_lem key tag_key file count e) (rebuilt key tag_key file count octets e) l d

pub drop_once : DropOnce
unfolding dropped_file
drop_once key tag_key file list other before held n after a later alike whole l d o =
    let g = given key tag_key file list before n after d in
    let s = stages key tag_key file list g.0 in
    let asked = asked_none key tag_key file other s.0 (alike_clear file list other alike whole s.1) in
    drop_writes key tag_key file other asked (jobs_left file list) n (take n after) held a later
    (sym (without_alike list other alike (jobs_of file))) g.1 (sym (parts key tag_key file list before n after d).0) l o

-- of entries that are all listed none is left
pub none_left : (file list : List ℕ) → ((i : ℕ) → i < count_of file → is_listed list (number_of (entry_at (directory_of file) i)) ≡ true)
    → jobs_left file list ≡ []
unfolding jobs_of
none_left file list all = without_all list (each_values (job_at file) (count_of file) all)

pub drop_all : DropAll
unfolding whole_length bodies_in
drop_all key tag_key file list before count a after e whole borne all l d =
    let check = (answer_gives (first_of (check_cases key tag_key file)) (count_of file) count e).0 in
    let laid = (accepted_header order_of key tag_key file check).laid in
    let n : ℕ = 20 + tag_size (layout_of file) in
    let none = none_left file list all in
    let size : length_left tag_key file list ≡ n =
    ap (whole_length (layout_under tag_key)) none ∙ ap (λ (k : ℕ). 20 + tag_size k) (sym laid)
    in
    let answered : a ≡ gives n =
    (drop_answers key tag_key file list before count a after e d).accepted whole borne (omega arith) ∙ ap gives size
    in
    let given : Drops key tag_key file list before (gives n) after =
    subst (λ (b : Answer). Drops key tag_key file list before b after) answered d
    in (
      answered,
      (drop_leaves key tag_key file list before n after given).archive.accepted ∙ ap (λ (js : List Job). gives (length js)) none,
    )

-- whatever was answered: an archive that is given lies within the buffer
pub drops_fits : (key tag_key file list before after : List ℕ) (a : Answer) → Drops key tag_key file list before a after → (n : ℕ)
    → a ≡ gives n → n ≤ length after
drops_fits key tag_key file list before after a d n e =
    let left = drop_leaves key tag_key file list before n after (subst (λ (b : Answer). Drops key tag_key file list before b after) e d) in
    omega (arith, length-take n after, left.archive.size)
