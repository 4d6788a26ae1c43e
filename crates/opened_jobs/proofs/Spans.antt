-- Archives of one span are judged as before, and those of both in plain order get 14: the cases of the directory are lifted to those of the
-- archive.
-- Assumes nothing.
use mathlib.Core.Path.{◌≡◌, refl, sym, ap, ◌∙◌}
use mathlib.Core.Bool.{true}
use mathlib.Core.List.{List, ◌++◌}
use Prim.Native.Nat.{ℕ}
use native.Mathlib.Omega.{arith}
use lib.ListN.{length}
use Rattle.refusals.specs.Cases.{Case, first_of, positive}
use Rattle.refusals.specs.Answers.{Answer, refused, answer, part_for, written_for}
use Rattle.refusals.specs.Shared.{key_cases, tag_key_cases}
use Rattle.refusals.proofs.Answers.{answer_gives, refusal_is}
use Rattle.refusals.proofs.Cases.{first_stop, first_alike, positive_append}
use Rattle.refusals.proofs.Shared.{key_positive, tag_key_positive}
use Rattle.expansion.specs.KeySchedule.{schedule_of}
use Rattle.header.specs.Fields.{layout_under, count_of, directory_end, directory_of, bodies_end}
use Rattle.header.specs.Cases.{header_cases}
use Rattle.header.proofs.Cases.{header_positive}
use Rattle.jobnumber.specs.Number.{job_number, order_of}
use Rattle.directory.specs.Check.{directory_cases_by}
use Rattle.directory.specs.EarlyEnd.{full_index_of, full_search_cases}
use Rattle.directory.proofs.Spans.{same_span, mixed_span}
use Rattle.bodies.specs.Bodies.{body_at}
use Rattle.admission.specs.Check.{key_check, wrong_tag_cases, file_cases_by, under_key_cases_by, check_cases, check_cases_by}
use Rattle.admission.proofs.Checking.{file_positive, check_positive}
use Rattle.admission.proofs.Accepted.{accepted_directory, accepted_directory_by}
use Rattle.archive.proofs.Finding.{find_refused}
use Rattle.opened_jobs.specs.EarlyEnd.{full_find_cases, full_body_of, full_open_cases, full_open_of}
use Rattle.opened_jobs.specs.EarlyEnd.{full_plain_of, full_range_cases, full_range_of}
use Rattle.opening.specs.Open.{range_of, plain_range, room_cases, range_cases, open_of}
use Rattle.opened_jobs.specs.Spans.{SameSpanArchives, AllRefuse, MixedSpanArchives}
use Rattle.opening.proofs.Opening.{opens_refused}
use Rattle.opened_jobs.proofs.EarlyEnd.{unchanged_archives}

module _ (o p : List ℕ → ℕ) (key tag_key file : List ℕ) where
  check_alike : first_of (directory_cases_by o (directory_of file) (directory_end file) (bodies_end file))
      ≡ first_of (directory_cases_by p (directory_of file) (directory_end file) (bodies_end file))
      → first_of (check_cases_by o key tag_key file) ≡ first_of (check_cases_by p key tag_key file)
  unfolding check_cases_by under_key_cases_by file_cases_by
  check_alike e =
      let k = key_positive (length key) in
      let t = tag_key_positive (length tag_key) in
      let h = header_positive (layout_under tag_key) (length key) (key_check (schedule_of key)) file in
      let f : (order : List ℕ → ℕ) → positive (file_cases_by order (layout_under tag_key) (schedule_of key) (length key) file) ≡ true =
      λ order. file_positive order (layout_under tag_key) (schedule_of key) (length key) file
      in
      first_alike (key_cases (length key)) (key_cases (length key)) _ _ k k refl
      (λ z. first_alike (tag_key_cases (length tag_key)) (tag_key_cases (length tag_key)) _ _ t t refl
      (λ y. first_alike (file_cases_by o (layout_under tag_key) (schedule_of key) (length key) file) (file_cases_by p (layout_under tag_key)
      (schedule_of key) (length key) file) (wrong_tag_cases tag_key file) (wrong_tag_cases tag_key file) (f o) (f p)
      (first_alike (header_cases (layout_under tag_key) (length key) (key_check (schedule_of key)) file) _ _ _ h h refl (λ x. e))
      (λ x. refl)))

  module _ (number : List ℕ) (e : first_of (check_cases_by o key tag_key file) ≡ first_of (check_cases_by p key tag_key file)) where
    find_alike : first_of (full_find_cases o key tag_key file number) ≡ first_of (full_find_cases p key tag_key file number)
    unfolding full_find_cases
    find_alike =
        first_alike (check_cases_by o key tag_key file) (check_cases_by p key tag_key file) _ _ (check_positive o key tag_key file)
        (check_positive p key tag_key file) e (λ z. refl)

    find_positive : (order : List ℕ → ℕ) → positive (full_find_cases order key tag_key file number) ≡ true
    unfolding full_find_cases full_search_cases positive
    find_positive order = positive_append (check_cases_by order key tag_key file) _ (check_positive order key tag_key file) refl

    open_alike : (last : List Case)
        → first_of (full_find_cases o key tag_key file number ++ last) ≡ first_of (full_find_cases p key tag_key file number ++ last)
    open_alike last =
        first_alike (full_find_cases o key tag_key file number) (full_find_cases p key tag_key file number) last last (find_positive o)
        (find_positive p) find_alike (λ z. refl)

-- ---- one span

pub same_span_archives : SameSpanArchives
unfolding full_open_cases full_range_cases
same_span_archives key tag_key file number held one =
    let judged = check_alike order_of job_number key tag_key file (same_span (directory_of file) (directory_end file) (bodies_end file) one)
    in
    let checked = ap (λ (n : ℕ). answer n (count_of file)) judged in
    let full = unchanged_archives key tag_key file number held in
    let alike = find_alike order_of job_number key tag_key file number judged in
    let found = ap (λ (n : ℕ). answer n (full_index_of (directory_of file) number)) alike in
    let size : ℕ = length (full_body_of file number) in
    let plain : List ℕ = full_plain_of (schedule_of key) file number in
    let opened : full_open_of order_of key tag_key file number (length held)
    ≡ full_open_of job_number key tag_key file number (length held) =
    ap (λ (n : ℕ). answer n size) (open_alike order_of job_number key tag_key file number judged (room_cases size (length held)))
    in
    let ranged : (first count : ℕ)
    → full_range_of order_of key tag_key file number first count (length held)
    ≡ full_range_of job_number key tag_key file number first count (length held) =
    λ first count.
    ap (λ (n : ℕ). answer n count) (open_alike order_of job_number key tag_key file number judged
    (range_cases size first count (length held)))
    in
    record {
      checking = checked;
      directory = ap (λ (a : Answer). part_for a (λ (n : ℕ). directory_of file)) checked;
      jobs = record {
        finding = full.finding ∙ found;
        body = full.body ∙ ap (λ (a : Answer). part_for a (body_at file)) found;
        opening = full.opening ∙ opened;
        bytes = full.bytes ∙ ap (λ (a : Answer). written_for a plain held) opened;
        ranging = λ first count. full.ranging first count ∙ ranged first count;
        range_bytes = λ first count.
            full.range_bytes first count ∙ ap (λ (a : Answer). written_for a (range_of first count plain) held) (ranged first count);
      };
    }

-- ---- both spans

-- a refused archive: every call refuses
all_refuse : (n : ℕ) (key tag_key file number held : List ℕ) → n ≡ first_of (check_cases key tag_key file) → (n ≡ 0 → ⊥)
    → AllRefuse n key tag_key file number held
unfolding part_for written_for
all_refuse n key tag_key file number held e h =
    let checked = sym (refusal_is n (first_of (check_cases key tag_key file)) (count_of file) e h) in
    let found = sym (find_refused key tag_key file number n e h) in
    let opened : (first count : ℕ) → open_of key tag_key file number first count (length held) ≡ refused n =
    λ first count. sym (opens_refused key tag_key file number first count held n e h).answered
    in
    record {
      checking = checked;
      directory = ap (λ (a : Answer). part_for a (λ (i : ℕ). directory_of file)) checked;
      finding = found;
      body = ap (λ (a : Answer). part_for a (body_at file)) found;
      opening = opened;
      bytes = λ first count.
          ap (λ (a : Answer). written_for a (plain_range (schedule_of key) file number first count) held) (opened first count);
    }

pub mixed_span_archives : MixedSpanArchives
mixed_span_archives key tag_key file number held n e both =
    let p = answer_gives (first_of (check_cases_by job_number key tag_key file)) (count_of file) n e in
    let plain = accepted_directory job_number key tag_key file p.0 in
    let mixed = mixed_span (directory_of file) (directory_end file) (bodies_end file) plain both in
    let judged =
    accepted_directory_by job_number key tag_key file p.0 order_of
    ∙ first_stop _ (wrong_tag_cases tag_key file) (λ z. omega (arith, mixed, z))
    ∙ mixed
    in
    all_refuse 14 key tag_key file number held (sym judged) (λ z. omega arith)
