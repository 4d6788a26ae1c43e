-- Finding, the body and opening come to what they do over the full search: a refused archive is not searched, and an accepted one ascends.
-- Assumes nothing.
use mathlib.Core.Path.{◌≡◌, refl, sym, ap, ap₂, ◌∙◌}
use mathlib.Core.Bool.{not}
use mathlib.Core.List.{List, [], ◌∷◌, ◌++◌, append_assoc}
use Prim.Native.Nat.{ℕ, zero, suc}
use native.Mathlib.Omega.{arith}
use lib.Dec.{eqb}
use lib.ListN.{length}
use Rattle.refusals.specs.Cases.{Case, when, first_of}
use Rattle.refusals.specs.Answers.{Answer, refused, answer, part_for, written_for}
use Rattle.refusals.proofs.Answers.{answer_first}
use Rattle.expansion.specs.KeySchedule.{schedule_of}
use Rattle.header.specs.Fields.{archive_number, directory_of}
use Rattle.jobnumber.specs.Number.{is_job_number, order_of}
use Rattle.directory.specs.Entries.{entries}
use Rattle.directory.specs.Search.{index_of, search_cases}
use Rattle.directory.specs.EarlyEnd.{full_index_of, full_search_cases}
use Rattle.directory.proofs.Accepted.{sound_directories}
use Rattle.directory.proofs.EarlyEnd.{index_full}
use Rattle.bodies.specs.Bodies.{number_cases, body_at}
use Rattle.admission.specs.Check.{check_cases}
use Rattle.admission.proofs.Accepted.{accepted_directory}
use Rattle.archive.specs.Find.{find_cases}
use Rattle.opening.specs.Open.{under_keystream, range_of, room_cases, range_cases, open_cases}
use Rattle.opened_jobs.specs.EarlyEnd.{full_find_cases, full_open_cases, full_range_cases, UnchangedArchives}
use Rattle.opened_jobs.proofs.Ranges.{whole_jobs}

module _ (key tag_key file number before : List ℕ) where
  -- what each comes to where the search has come to index i
  abbrev cases_at : ℕ → List Case
  cases_at i = when (not (is_job_number number)) 18 ∷ when (eqb i (entries (directory_of file))) 19 ∷ []

  abbrev find_at : ℕ → Answer
  find_at i = answer (first_of (check_cases key tag_key file ++ cases_at i)) i

  -- of opening, whatever the last cases are, what it gives and which bytes
  module _ (last : ℕ → List Case) (count : ℕ → ℕ) (plain : ℕ → List ℕ) where
    abbrev open_at : ℕ → Answer
    open_at i = answer (first_of ((check_cases key tag_key file ++ cases_at i) ++ last i)) (count i)

    abbrev written_at : ℕ → List ℕ
    written_at i = written_for (open_at i) (plain i) before

  -- a refused archive: the index does not matter
  module _ (refuses : first_of (check_cases key tag_key file) ≡ 0 → ⊥) where
    find_refused : (i : ℕ) → find_at i ≡ refused (first_of (check_cases key tag_key file))
    find_refused i = answer_first (check_cases key tag_key file) (cases_at i) i refuses

    module _ (last : ℕ → List Case) (count : ℕ → ℕ) (plain : ℕ → List ℕ) where
      open_refused : (i : ℕ) → open_at last count plain i ≡ refused (first_of (check_cases key tag_key file))
      open_refused i =
          ap (λ (c : List Case). answer (first_of c) (count i)) (append_assoc (check_cases key tag_key file) (cases_at i) (last i))
          ∙ answer_first (check_cases key tag_key file) (cases_at i ++ last i) (count i) refuses

  -- so any two indices will do, if they are the same where the archive is accepted
  module _ (i j : ℕ) (same : first_of (check_cases key tag_key file) ≡ 0 → i ≡ j) where
    alike : {A : Type 0} (f : ℕ → A) → ((first_of (check_cases key tag_key file) ≡ 0 → ⊥) → f i ≡ f j) → f i ≡ f j
    alike f h = go (first_of (check_cases key tag_key file)) refl
      where
        go : (n : ℕ) → first_of (check_cases key tag_key file) ≡ n → f i ≡ f j
        go zero q = ap f (same q)
        go (suc n) q = h (λ z. omega arith)

    find_alike : find_at i ≡ find_at j
    find_alike = alike find_at (λ r. find_refused r i ∙ sym (find_refused r j))

    module _ (last : ℕ → List Case) (count : ℕ → ℕ) (plain : ℕ → List ℕ) where
      open_alike : open_at last count plain i ≡ open_at last count plain j
      open_alike =
          alike (open_at last count plain) (λ r. open_refused r last count plain i ∙ sym (open_refused r last count plain j))

      written_alike : written_at last count plain i ≡ written_at last count plain j
      unfolding written_for
      written_alike =
          alike (written_at last count plain) (λ r. rw (open_refused r last count plain i, open_refused r last count plain j))

  same_index : first_of (check_cases key tag_key file) ≡ 0 → index_of (directory_of file) number ≡ full_index_of (directory_of file) number
  same_index e = index_full (directory_of file) number (sound_directories _ _ _ (accepted_directory order_of key tag_key file e)).ascending

pub unchanged_archives : UnchangedArchives
unfolding search_cases number_cases find_cases open_cases full_search_cases full_find_cases full_open_cases full_range_cases
unchanged_archives key tag_key file number before =
    let i : ℕ = index_of (directory_of file) number in
    let j : ℕ = full_index_of (directory_of file) number in
    let same = same_index key tag_key file number before in
    let found = find_alike key tag_key file number before i j same in
    let size : ℕ → ℕ = λ (k : ℕ). length (body_at file k) in
    let room : ℕ → List Case = λ (k : ℕ). room_cases (size k) (length before) in
    let plain : ℕ → List ℕ = λ (k : ℕ). under_keystream (schedule_of key) (archive_number file) number (body_at file k) in
    let whole = whole_jobs key tag_key file number (length before) in
    let range : ℕ → ℕ → ℕ → List Case = λ (first count k : ℕ). range_cases (size k) first count (length before) in
    let part : ℕ → ℕ → ℕ → List ℕ = λ (first count k : ℕ). range_of first count (plain k) in
    record {
      finding = found;
      body = ap (λ (a : Answer). part_for a (body_at file)) found;
      opening = whole.answered ∙ open_alike key tag_key file number before i j same room size plain;
      bytes =
          ap₂ (λ (a : Answer) (l : List ℕ). written_for a l before) whole.answered (whole.bytes (schedule_of key))
          ∙ written_alike key tag_key file number before i j same room size plain;
      ranging = λ first count. open_alike key tag_key file number before i j same (range first count) (λ (k : ℕ). count) (part first count);
      range_bytes = λ first count.
          written_alike key tag_key file number before i j same (range first count) (λ (k : ℕ). count) (part first count);
    }
