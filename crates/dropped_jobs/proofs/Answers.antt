-- What dropping answers on an accepted archive, by the entries that bear the numbers of the list.
-- Assumes nothing.
use mathlib.Core.Path.{◌≡◌, sym, ap, ◌∙◌}
use mathlib.Core.Bool.{true, false}
use mathlib.Core.List.{List}
use Prim.Native.Nat.{ℕ, ◌%◌, ◌<◌}
use native.Mathlib.Omega.{arith}
use borrow.Author.Tests.{lt-ltb, le-ltb}
use lib.ListN.{length}
use Rattle.refusals.specs.Cases.{first_of}
use Rattle.refusals.specs.Answers.{Answer, refused, gives}
use Rattle.refusals.proofs.Cases.{one_applies, one_passes, first_pass}
use Rattle.refusals.proofs.Answers.{answer_refused, answer_none, answer_gives, answer_number, answer_first}
use Rattle.octets.proofs.Equality.{ne_same}
use Rattle.header.specs.Fields.{count_of, directory_of}
use Rattle.jobnumber.specs.Number.{is_job_number, order_of}
use Rattle.directory.specs.Entries.{entries}
use Rattle.directory.specs.Search.{bears}
use Rattle.directory.proofs.Searching.{search_nowhere}
use Rattle.directory.proofs.EarlyEnd.{search_bearer}
use Rattle.bodies.specs.Bodies.{number_cases}
use Rattle.bodies.proofs.Numbers.{number_asked}
use Rattle.admission.specs.Check.{check_cases}
use Rattle.admission.proofs.Checking.{check_positive}
use Rattle.archive.specs.Check.{check_of}
use Rattle.archive.proofs.Sound.{sound_archives}
use Rattle.opening.specs.Open.{room_cases}
use Rattle.codec.specs.Archive.{jobs_of}
use Rattle.codec.proofs.JobLaws.{each_at}
use Rattle.codec.proofs.Laid.{Laid}
use Rattle.codec.proofs.Rebuilt.{accepted_laid, accepted_fine}
use Rattle.joblist.specs.List.{numbers, listed, list_cases}
use Rattle.joblist.proofs.Cases.{list_27, list_stop, list_none}
use Rattle.dropping.specs.Drop.{length_left, asked_cases, drop_cases, Drops}
use Rattle.dropped_jobs.specs.Answers.{Borne, DropAnswers}
use Rattle.dropping.proofs.Cases.{asked_positive, asked_none}

-- a number that is none has 18
no_number : (file number : List ℕ) → is_job_number number ≡ false → first_of (number_cases file number) ≡ 18
unfolding number_cases first_of
no_number file number e = rw e

module _ (key tag_key file : List ℕ) (count : ℕ) (e : check_of key tag_key file ≡ gives count) where
  abbrev d : List ℕ
  d = directory_of file

  check : first_of (check_cases key tag_key file) ≡ 0
  check = (answer_gives (first_of (check_cases key tag_key file)) (count_of file) count e).0

  laid : Laid file (jobs_of file)
  laid = accepted_laid key tag_key file count e

  -- ---- one number

  -- that an entry bears: it is a job number, and the search comes to that entry
  borne : (number : List ℕ) → Borne file number → first_of (number_cases file number) ≡ 0
  borne number (i, l, q) =
      let job : i < length (jobs_of file) = omega (arith, laid.counted) in
      let inside : i < entries d = omega (arith, laid.counted, laid.whole) in
      let good : is_job_number number ≡ true =
      ap is_job_number (sym q ∙ laid.number i job) ∙ each_at (accepted_fine key tag_key file count e).numeric i job
      in
      let ascending = (sound_archives key tag_key file count e).sound.ascending in
      (answer_gives _ _ i (number_asked file number good ∙ sym (search_bearer d number ascending i inside q))).0

  -- that none bears
  missing : (number : List ℕ) → is_job_number number ≡ true → (Borne file number → ⊥) → first_of (number_cases file number) ≡ 19
  unfolding bears
  missing number good h =
      let no : (i : ℕ) → i < entries d → bears d number i ≡ false =
      λ i l. let m : i < count_of file = omega (arith, laid.counted, laid.whole) in ne_same _ _ (λ q. h (i, m, q))
      in
      (answer_number _ _ 19 (number_asked file number good ∙ sym (search_nowhere d number no))).0

  -- ---- the list

  -- whole numbers that are all borne have no case
  pub list_borne : (list : List ℕ) → length list % 8 ≡ 0 → ((k : ℕ) → k < numbers list → Borne file (listed list k))
      → first_of (asked_cases key tag_key file list) ≡ 0
  list_borne list whole all =
      asked_none key tag_key file list check (list_none file list whole (λ k l. borne (listed list k) (all k l)))

  module _ (list before : List ℕ) (a : Answer) (after : List ℕ) (c : Drops key tag_key file list before a after) where
    -- a case of the list is the answer
    list_answers : (n : ℕ) → first_of (list_cases file list) ≡ n → (n ≡ 0 → ⊥) → a ≡ refused n
    unfolding drop_cases asked_cases
    list_answers n q h =
        let asked : first_of (asked_cases key tag_key file list) ≡ n =
        first_pass (check_cases key tag_key file) _ (check_positive order_of key tag_key file) check ∙ q
        in
        c.answered
        ∙ answer_first (asked_cases key tag_key file list) _ (length_left tag_key file list) (λ z. h (sym asked ∙ z))
        ∙ ap refused asked

    module _ (whole : length list % 8 ≡ 0) where
      -- the first number that has one
      number_answers : (k : ℕ) → k < numbers list → ((j : ℕ) → j < k → Borne file (listed list j)) → (n : ℕ)
          → first_of (number_cases file (listed list k)) ≡ n → (n ≡ 0 → ⊥) → a ≡ refused n
      number_answers k l before n q h =
          list_answers n (sym (list_stop file list whole k l (λ j m. borne (listed list j) (before j m)) (λ z. h (sym q ∙ z))) ∙ q) h

      -- none has: the room is asked for
      room_answers : ((k : ℕ) → k < numbers list → Borne file (listed list k))
          → first_of (drop_cases key tag_key file list (length before))
          ≡ first_of (room_cases (length_left tag_key file list) (length before))
      unfolding drop_cases
      room_answers all =
          first_pass (asked_cases key tag_key file list) _ (asked_positive key tag_key file list) (list_borne list whole all)

-- ---- the theorem

pub drop_answers : DropAnswers
unfolding room_cases
drop_answers key tag_key file list before count a after e c =
    let size : ℕ = length_left tag_key file list in
    record {
      ragged = λ h. list_answers key tag_key file count e list before a after c 27 (sym (list_27 file list h)) (λ z. omega arith);
      no_number = λ whole k l all bad.
          number_answers key tag_key file count e list before a after c whole k l all 18 (no_number file (listed list k) bad)
          (λ z. omega arith);
      missing = λ whole k l all good h.
          number_answers key tag_key file count e list before a after c whole k l all 19
          (missing key tag_key file count e (listed list k) good h) (λ z. omega arith);
      short = λ whole all l.
          let room = room_answers key tag_key file count e list before a after c whole all in
          let refusal : first_of (drop_cases key tag_key file list (length before)) ≡ 20 =
          room ∙ one_applies _ 20 (lt-ltb (length before) size l)
          in
          c.answered ∙ answer_refused _ size (λ z. omega arith) ∙ ap refused refusal;
      accepted = λ whole all l.
          c.answered
          ∙ answer_none _ size
          (room_answers key tag_key file count e list before a after c whole all ∙ one_passes _ 20 (le-ltb (length before) size l));
    }
