-- What the code writes, piece by piece, that it is the archive of the jobs left, and the ways out of dropping.
-- Assumes nothing.
use mathlib.Core.Path.{◌≡◌, refl, sym, ap, ap₂, ◌∙◌}
use mathlib.Core.Bool.{Bool, true, false, cond}
use mathlib.Core.List.{List, [], ◌∷◌, ◌++◌, append_assoc}
use Prim.Native.Nat.{ℕ, zero, suc, ◌+◌, ◌-◌, ◌*◌, ◌<◌, ◌≤◌}
use native.Mathlib.Omega.{arith}
use borrow.Author.Tests.{lt-ltb, le-ltb, eq-eqb, ne_eqb}
use Rattle.std.specs.Prelude.{Option, Some, None}
use lib.ListN.{length, get_or, take, drop, length-append, length-take, length-drop}
use lib.Seq.{length-take-le}
use Rattle.refusals.specs.Cases.{first_of}
use Rattle.refusals.specs.Answers.{Answer, refused, gives, answer, written_for}
use Rattle.refusals.proofs.Answers.{answer_none, answer_first, refusal_is}
use Rattle.refusals.proofs.Cases.{first_pass, one_applies, one_passes}
use Rattle.circuit.specs.declared.Schedule.{Schedule}
use Rattle.cmac.specs.Tag.{tag_under}
use Rattle.header.specs.Fields.{layout_of, layout_under, tag_size, key_length_of, count_of, archive_number, key_check_of, directory_of}
use Rattle.header.proofs.Accepted as header
use Rattle.directory.specs.Entries.{entry_at}
use Rattle.admission.specs.Check.{tag_bytes}
use Rattle.opening.specs.Open.{room_cases}
use Rattle.codec.specs.Jobs.{Job, directory_from, bodies_in, Each}
use Rattle.codec.specs.Jobs.{none, more}
use Rattle.codec.specs.Archive.{job_at, whole_length, header_of, front_of, archive_of}
use Rattle.codec.proofs.JobLaws.{Eight, directory_length}
use Rattle.codec.proofs.Parts.{header_length}
use Rattle.dropping.specs.Drop.{jobs_left, dropped_file, length_left, asked_cases, drop_cases, Drops}
use Rattle.dropping.specs.Internal.{left_at, left_of, left_all, header_left, entries_left, front_left, tag_in}
use Rattle.dropping.specs.Internal.{Whole, whole_left, DropsMarked}
use Rattle.circuit.specs.declared.GoodSchedule.{GoodSchedule}
use Rattle.refusals.specs.declared.Refusal.{Refusal}
use Rattle.refusals.specs.Numbers.{number}
use Rattle.refusals.proofs.Numbers.{number_some}
use Rattle.admission.specs.Check.{IsTagSchedule}
use Rattle.dropping.proofs.Entries.{entry_sixteen, copied_next}
use Rattle.dropping.proofs.Cases.{asked_positive}
use Rattle.dropping.proofs.Passed.{good_header}

-- ---- how long it is

-- what holds of every job of two lists
each_append : {P : Job → Type 0} {a b : List Job} → Each P a → Each P b → Each P (a ++ b)
each_append none q = q
each_append (more p r) q = more p (each_append r q)

module _ (named : List Bool) (file : List ℕ) (whole : Whole file) where
  abbrev js : List Job
  js = left_all named file

  eight_at : (i : ℕ) → i < count_of file → Each Eight (left_at named file i)
  unfolding left_at
  eight_at i l = by_mark (get_or named i false)
    where
      by_mark : (b : Bool) → Each Eight (cond b [] (job_at file i ∷ []))
      by_mark true = none
      by_mark false =
          let e = entry_sixteen file i whole.room l in
          more (length-take-le 8 (entry_at (directory_of file) i) (omega arith)) none

  eight : (n : ℕ) → n ≤ count_of file → Each Eight (left_of named file n)
  unfolding left_of
  eight zero l = none
  eight (suc n) l = each_append (eight n (omega arith)) (eight_at n l)

  -- the directory has sixteen bytes a job
  pub directory_sixteen : length (entries_left named file) ≡ 16 * length js
  directory_sixteen = directory_length (20 + 16 * length js) (eight (count_of file) (omega arith))

  twenty : (count n : ℕ) → length (header_left file count n) ≡ 20
  twenty count n =
      let long : 20 ≤ length file = omega (arith, whole.room) in
      header_length (layout_of file) (key_length_of file) count (archive_number file) (key_check_of file) n (header.number_length file long)
      (simp (length-take, length-drop) (omega arith))

  pub front_length : length (front_left named file) + tag_size (layout_of file) ≡ whole_left named file
  unfolding front_left whole_length
  front_length = simp (length-append, twenty) (omega (arith, directory_sixteen))

-- ---- writing

-- header, directory and bodies, each behind the other, are all but the tag
module _ (named : List Bool) (file before : List ℕ) (whole : Whole file) where
  pub front_written : (h d b : List ℕ) (from k end m : ℕ)
      → h ≡ header_left file (length (left_all named file)) (whole_left named file) → d ≡ entries_left named file
      → b ≡ bodies_in (left_all named file) → from ≡ 20 + 16 * length (left_all named file) → k ≡ from - 20
      → end ≡ from + length (bodies_in (left_all named file)) → m ≡ end - from → (out : List ℕ)
      → out ≡ take 20 (h ++ drop 20 before) ++ (d ++ drop k (drop 20 (h ++ drop 20 before)))
      → (end ≡ length (front_left named file))
      × (take from out ++ (b ++ drop m (drop from out)) ≡ front_left named file ++ drop end before)
  unfolding front_left whole_length
  front_written h d b from k end m eh ed eb ef ek ee em out eo =
      let header : List ℕ = header_left file (length (left_all named file)) (whole_left named file) in
      let entries : List ℕ = entries_left named file in
      let bodies : List ℕ = bodies_in (left_all named file) in
      let size = twenty named file whole (length (left_all named file)) (whole_left named file) in
      let sixteen = directory_sixteen named file whole in
      let second : out ≡ (header ++ entries) ++ drop from before =
      eo
      ∙ copied_next (h ++ drop 20 before) header before entries d 20 k (ap (λ (l : List ℕ). l ++ drop 20 before) eh) (sym size)
      (omega (arith, ek, ef, sixteen)) ed
      ∙ ap (λ (n : ℕ). (header ++ entries) ++ drop n before) (omega (arith, ef, sixteen))
      in
      let third = copied_next out (header ++ entries) before bodies b from m second
      (omega (arith, length-append header entries, size, sixteen, ef)) (omega (arith, em, ee)) eb in (
        omega (arith, ee, ef, size, sixteen, length-append header (entries ++ bodies), length-append entries bodies),
        third
            ∙ ap₂ (λ (l : List ℕ) (n : ℕ). l ++ drop n before) (append_assoc header entries bodies) (sym ee),
      )

module _ (s : Option GoodSchedule) (named : List Bool) (file before : List ℕ) where
  pub marked_short : length before < whole_left named file → DropsMarked s named file before (refused 20) before
  unfolding written_for room_cases
  marked_short l =
      let e = one_applies _ 20 (lt-ltb (length before) (whole_left named file) l) in
      record { answered = refusal_is 20 _ _ (sym e) (λ q. omega arith); bytes = refl }

  pub marked_done : (r : ℕ) (after : List ℕ) → whole_left named file ≤ length before → r ≡ whole_left named file
      → after ≡ (front_left named file ++ tag_in s (front_left named file)) ++ drop r before
      → DropsMarked s named file before (gives r) after
  unfolding written_for room_cases
  marked_done r after l e b =
      let none = one_passes _ 20 (le-ltb (length before) (whole_left named file) l) in
      record { answered = ap gives e ∙ sym (answer_none _ _ none); bytes = b }

-- ---- the archive of the jobs left

module _ (key tag_key file list : List ℕ) (none : first_of (asked_cases key tag_key file list) ≡ 0) (named : List Bool)
    (left : left_all named file ≡ jobs_left file list) where
  same_front : front_left named file ≡ front_of key tag_key (archive_number file) (jobs_left file list)
  unfolding front_left front_of
  same_front =
      ap (λ (js : List Job). header_of (layout_of file) (key_length_of file) (length js) (archive_number file) (key_check_of file)
      (whole_length (layout_of file) js) ++ (directory_from (20 + 16 * length js) js ++ bodies_in js)) left
      ∙ ap (λ (h : List ℕ). h ++ (directory_from (20 + 16 * length (jobs_left file list)) (jobs_left file list)
      ++ bodies_in (jobs_left file list)))
      (ap₂ (λ (l k : ℕ). header_of l k (length (jobs_left file list)) (archive_number file) (key_check_of file)
      (whole_length l (jobs_left file list))) (good_header key tag_key file list none).laid (good_header key tag_key file list none).keyed
      ∙ ap (λ (c : List ℕ). header_of (layout_under tag_key) (length key) (length (jobs_left file list)) (archive_number file) c
      (whole_length (layout_under tag_key) (jobs_left file list))) (good_header key tag_key file list none).checked)

  same_tag : (s : Option GoodSchedule) → IsTagSchedule tag_key s → (bytes : List ℕ) → tag_in s bytes ≡ tag_bytes tag_key bytes
  unfolding tag_bytes
  same_tag None e bytes = rw (eq-eqb (length tag_key) 0 e)
  same_tag (Some s) h bytes = rw (ne_eqb (length tag_key) 0 h.0) (ap (λ (t : Schedule). tag_under t bytes) h.1)

  same_file : (s : Option GoodSchedule) → IsTagSchedule tag_key s
      → front_left named file ++ tag_in s (front_left named file) ≡ dropped_file key tag_key file list
  unfolding dropped_file archive_of
  same_file s h =
      ap₂ (λ (f t : List ℕ). f ++ t) same_front (same_tag s h (front_left named file) ∙ ap (tag_bytes tag_key) same_front)

  pub same_length : whole_left named file ≡ length_left tag_key file list
  same_length = ap₂ whole_length (good_header key tag_key file list none).laid left

  -- what is written is the archive of the jobs left
  pub drop_written : (before : List ℕ) (s : Option GoodSchedule) (a : Answer) (after : List ℕ) → IsTagSchedule tag_key s
      → DropsMarked s named file before a after → Drops key tag_key file list before a after
  unfolding drop_cases
  drop_written before s a after h d =
      let pass = first_pass (asked_cases key tag_key file list) (room_cases (length_left tag_key file list) (length before))
      (asked_positive key tag_key file list) none in
      record {
        answered =
            d.answered
            ∙ ap (λ (n : ℕ). answer (first_of (room_cases n (length before))) n) same_length
            ∙ ap (λ (n : ℕ). answer n (length_left tag_key file list)) (sym pass);
        bytes = d.bytes ∙ ap (λ (f : List ℕ). written_for a f before) (same_file s h);
      }

-- ---- refused

pub drop_refused : (key tag_key file list before : List ℕ) (e : Refusal) → number e ≡ first_of (asked_cases key tag_key file list)
    → Drops key tag_key file list before (refused (number e)) before
unfolding drop_cases written_for
drop_refused key tag_key file list before e is = record {
  answered = ap refused is ∙ sym (answer_first (asked_cases key tag_key file list) _ _ (λ q. number_some e (is ∙ q)));
  bytes = refl;
}
