-- The preview beside dropping: what it says stands in the new archive, and it refuses what dropping refuses.
-- Assumes nothing.
use mathlib.Core.Path.{◌≡◌, refl, sym, ap, ◌∙◌, subst}
use mathlib.Core.Bool.{Bool, cond}
use mathlib.Core.List.{List, ◌++◌}
use Prim.Native.Nat.{ℕ, zero, suc, ◌+◌, ◌*◌, ◌≤◌}
use native.Mathlib.Omega.{arith}
use borrow.Author.Tests.{ne_eqb}
use lib.Dec.{eqb}
use Rattle.std.specs.Prelude.{Result}
use lib.ListN.{length, take, drop}
use lib.Seq.{take_at, drop_at}
use Rattle.refusals.specs.Cases.{first_of}
use Rattle.refusals.specs.Answers.{Answer, refused, gives, answer, part_for, unless_refused}
use Rattle.refusals.proofs.Cases.{first_stop, first_none, first_lacks}
use Rattle.refusals.proofs.Answers.{answer_none, answer_number, answer_first}
use Rattle.refusals.specs.declared.Refusal.{Refusal}
use Rattle.refusals.specs.Numbers.{number_in}
use Rattle.header.specs.Fields.{layout_under, tag_size, count_of, length_of, directory_of}
use Rattle.archive.specs.Check.{check_of, directory_given}
use Rattle.codec.specs.Jobs.{Job, bodies_in, directory_from}
use Rattle.codec.specs.Archive.{whole_length}
use Rattle.codec.proofs.JobLaws.{each_map, directory_length}
use Rattle.codec.proofs.Numbering.{job_eight}
use Rattle.codec.proofs.Built.{built_directory}
use Rattle.dropping.specs.Drop.{jobs_left, dropped_file, length_left, asked_cases, drop_cases, Drops}
use Rattle.dropping.specs.Preview.{count_in, length_in, count_left, directory_left, preview_cases, Previews}
use Rattle.dropping.specs.declared.Previewed.{Previewed}
use Rattle.dropping.proofs.Cases.{asked_positive, asked_lacks, before_room, room_fits, room_short}
use Rattle.dropped_jobs.specs.Previews.{PreviewIsDrop, PreviewAccepts, PreviewRefuses, PreviewAll, PreviewBounds}
use Rattle.dropping.proofs.Passed.{good_header}
use Rattle.dropped_jobs.proofs.Answers.{list_borne}
use Rattle.dropped_jobs.proofs.Leaves.{none_left}
use Rattle.dropped_jobs.proofs.Leaves as leaves

-- ---- of a list without a case

module _ (key tag_key file list : List ℕ) (none : first_of (asked_cases key tag_key file list) ≡ 0) where
  abbrev new : List ℕ
  new = dropped_file key tag_key file list

  -- the directory of the new archive
  pub new_directory : directory_of new ≡ directory_left file list
  unfolding dropped_file directory_left
  new_directory = built_directory key tag_key _ (jobs_left file list) (leaves.fine key tag_key file list none)

  pub new_count : count_of new ≡ count_left file list
  new_count = (leaves.says key tag_key file list none).counted

  pub left_sixteen : length (directory_left file list) ≡ 16 * count_left file list
  unfolding directory_left
  left_sixteen =
      directory_length (20 + 16 * count_left file list)
      (each_map (λ j. job_eight j.number) (leaves.fine key tag_key file list none).numeric)

-- ---- what a preview says that is no refusal

module _ (key tag_key file list held : List ℕ) (r : Result Previewed Refusal) (seen : List ℕ)
    (p : Previews key tag_key file list held r seen)
    (z : number_in r ≡ 0) where
  pub preview_asked : first_of (asked_cases key tag_key file list) ≡ 0
  unfolding preview_cases
  preview_asked = (first_none (asked_cases key tag_key file list) _ (asked_positive key tag_key file list) (sym p.number ∙ z)).0

  pub said_count : count_in r ≡ count_left file list
  said_count = p.counted ∙ ap (λ (n : ℕ). cond (eqb n 0) (count_left file list) 0) z

  pub said_length : length_in r ≡ length_left tag_key file list
  said_length = p.sized ∙ ap (λ (n : ℕ). cond (eqb n 0) (length_left tag_key file list) 0) z

  sixteen : length (directory_left file list) ≡ 16 * count_in r
  sixteen = left_sixteen key tag_key file list preview_asked ∙ ap (λ (n : ℕ). 16 * n) (sym said_count)

  written : seen ≡ directory_left file list ++ drop (length (directory_left file list)) held
  written =
      p.bytes ∙ ap (λ (n : ℕ). unless_refused n (directory_left file list ++ drop (length (directory_left file list)) held) held) z

  pub seen_front : take (16 * count_in r) seen ≡ directory_left file list
  seen_front = ap (take (16 * count_in r)) written ∙ take_at (directory_left file list) _ (16 * count_in r) sixteen

  pub seen_rest : drop (16 * count_in r) seen ≡ drop (16 * count_in r) held
  seen_rest =
      ap (drop (16 * count_in r)) written
      ∙ drop_at (directory_left file list) _ (16 * count_in r) sixteen
      ∙ ap (λ (n : ℕ). drop n held) sixteen

-- what one says that is

pub preview_silent : (key tag_key file list held : List ℕ) (r : Result Previewed Refusal) (seen : List ℕ)
    → Previews key tag_key file list held r seen
    → (number_in r ≡ 0 → ⊥) → (count_in r ≡ 0) × (length_in r ≡ 0) × (seen ≡ held)
preview_silent key tag_key file list held r seen p some = by_number (number_in r) some p.counted p.sized p.bytes
  where
    by_number : (n : ℕ) → (n ≡ 0 → ⊥) → count_in r ≡ cond (eqb n 0) (count_left file list) 0
        → length_in r ≡ cond (eqb n 0) (length_left tag_key file list) 0
        → seen ≡ unless_refused n (directory_left file list ++ drop (length (directory_left file list)) held) held
        → (count_in r ≡ 0) × (length_in r ≡ 0) × (seen ≡ held)
    by_number zero some c l b = absurd (some refl)
    by_number (suc n) some c l b =
        let test = ne_eqb (suc n) 0 some in (
          c ∙ ap (λ (t : Bool). cond t (count_left file list) 0) test,
          l ∙ ap (λ (t : Bool). cond t (length_left tag_key file list) 0) test,
          b,
        )

-- ---- the theorems

pub preview_is_drop : PreviewIsDrop
unfolding part_for
preview_is_drop key tag_key file list before held n after r seen d p z =
    let g = leaves.given key tag_key file list before n after d in
    let new = (leaves.parts key tag_key file list before n after d).0 in
    let count = said_count key tag_key file list held r seen p z in
    let size = said_length key tag_key file list held r seen p z in
    let accepted = (leaves.back key tag_key file list g.0).accepted in
    record {
      count = ap (check_of key tag_key) new ∙ accepted ∙ ap gives (sym count);
      stated = ap length_of new ∙ (leaves.says key tag_key file list g.0).stated ∙ sym size;
      size = size ∙ g.1;
      contents = λ f directory e given.
          given.bytes
          ∙ ap (directory_given key tag_key) (e ∙ new)
          ∙ ap (λ (a : Answer). part_for a (λ (m : ℕ). directory_of (dropped_file key tag_key file list))) accepted
          ∙ new_directory key tag_key file list g.0
          ∙ sym (seen_front key tag_key file list held r seen p z);
      rest = seen_rest key tag_key file list held r seen p z;
    }

pub preview_accepts : PreviewAccepts
unfolding drop_cases preview_cases
preview_accepts key tag_key file list before held a after r seen d p = record {
  long = λ z l.
      let size = said_length key tag_key file list held r seen p z in
      let asked = preview_asked key tag_key file list held r seen p z in
      d.answered
      ∙ answer_none _ _ (room_fits key tag_key file list (length_left tag_key file list) (length before) asked (omega arith))
      ∙ ap gives (sym size);
  short = λ z l.
      let size = said_length key tag_key file list held r seen p z in
      let asked = preview_asked key tag_key file list held r seen p z in
      d.answered
      ∙ ap (λ (n : ℕ). answer n (length_left tag_key file list))
      (room_short key tag_key file list (length_left tag_key file list) (length before) asked (omega arith));
  wide = λ n e l.
      let g = given n e in
      let c = counted n e in
      p.number ∙ room_fits key tag_key file list (length (directory_left file list)) (length held) g (omega arith);
  narrow = λ n e l.
      let g = given n e in
      let c = counted n e in
      p.number ∙ room_short key tag_key file list (length (directory_left file list)) (length held) g (omega arith);
}
  where
    gave : (n : ℕ) → a ≡ gives n → Drops key tag_key file list before (gives n) after
    gave n e = subst (λ (b : Answer). Drops key tag_key file list before b after) e d

    given : (n : ℕ) → a ≡ gives n → first_of (asked_cases key tag_key file list) ≡ 0
    given n e = (leaves.given key tag_key file list before n after (gave n e)).0

    -- the directory's length, by the count of the new archive
    counted : (n : ℕ) → a ≡ gives n → length (directory_left file list) ≡ 16 * count_of (take n after)
    counted n e =
        left_sixteen key tag_key file list (given n e)
        ∙ ap (λ (c : ℕ). 16 * c)
        (sym (ap count_of (leaves.parts key tag_key file list before n after (gave n e)).0
        ∙ (leaves.says key tag_key file list (given n e)).counted))

pub preview_refuses : PreviewRefuses
unfolding drop_cases preview_cases
preview_refuses key tag_key file list before held a after r seen d p = record {
  forth = λ n other e.
      let q = answer_number (first_of (drop_cases key tag_key file list (length before))) (length_left tag_key file list) n
      (sym d.answered ∙ e) in
      let first = before_room key tag_key file list _ (length before) n (λ z. q.1 (q.0 ∙ z)) other q.0 in
      p.number ∙ first_stop (asked_cases key tag_key file list) _ (λ z. q.1 (q.0 ∙ sym first ∙ z)) ∙ first;
  back = λ n some other e.
      let first = before_room key tag_key file list _ (length held) n some other (sym p.number ∙ e) in
      d.answered
      ∙ answer_first (asked_cases key tag_key file list) _ (length_left tag_key file list) (λ z. some (sym first ∙ z))
      ∙ ap refused first;
  unaltered = preview_silent key tag_key file list held r seen p;
}

pub preview_all : PreviewAll
unfolding preview_cases whole_length bodies_in directory_left directory_from
preview_all key tag_key file list held count r seen e whole borne all p =
    let asked = list_borne key tag_key file count e list whole borne in
    let none = none_left file list all in
    let sixteen = left_sixteen key tag_key file list asked in
    let nothing : count_left file list ≡ 0 = ap (λ (js : List Job). length js) none in
    let z : number_in r ≡ 0 =
    p.number ∙ room_fits key tag_key file list (length (directory_left file list)) (length held) asked (omega arith) in
    let laid = (good_header key tag_key file list asked).laid in (
      z,
      said_count key tag_key file list held r seen p z ∙ nothing,
      said_length key tag_key file list held r seen p z
          ∙ ap (whole_length (layout_under tag_key)) none
          ∙ ap (λ (k : ℕ). 20 + tag_size k) (sym laid),
      written key tag_key file list held r seen p z
          ∙ ap (λ (js : List Job). directory_from (20 + 16 * length js) js
          ++ drop (length (directory_from (20 + 16 * length js) js)) held) none,
    )

pub preview_bounds : PreviewBounds
unfolding preview_cases
preview_bounds key tag_key file list held r seen p = by_number (number_in r) refl
  where
    -- at most 64 jobs are left, in an archive of at most 65,536 bytes
    fine : first_of (asked_cases key tag_key file list) ≡ 0
        → (count_left file list ≤ 64) × (length_left tag_key file list ≤ 65536) × (length (directory_left file list) ≤ 1024)
    fine asked =
        let f = leaves.fine key tag_key file list asked in
        (f.few, f.small, omega (arith, left_sixteen key tag_key file list asked, f.few))

    by_number : (n : ℕ) → number_in r ≡ n → (count_in r ≤ 64) × (length_in r ≤ 65536) × (1024 ≤ length held → number_in r ≡ 20 → ⊥)
    by_number zero z =
        let f = fine (preview_asked key tag_key file list held r seen p z) in (
          omega (arith, said_count key tag_key file list held r seen p z),
          omega (arith, said_length key tag_key file list held r seen p z),
          λ l q. omega arith,
        )
    by_number (suc n) e =
        let s = preview_silent key tag_key file list held r seen p (λ z. omega arith) in (
          omega (arith, s.0),
          omega (arith, s.1),
          λ l q. wide (first_of (asked_cases key tag_key file list)) refl l q,
        )
      where
        wide : (k : ℕ) → first_of (asked_cases key tag_key file list) ≡ k → 1024 ≤ length held → number_in r ≡ 20 → ⊥
        wide zero z l q =
            let f = fine z in
            let none = p.number ∙ room_fits key tag_key file list (length (directory_left file list)) (length held) z (omega arith) in
            omega arith
        wide (suc k) z l q =
            first_lacks 20 (asked_cases key tag_key file list) (omega arith) (asked_lacks key tag_key file list)
            (sym (first_stop (asked_cases key tag_key file list) _ (λ c. omega arith)) ∙ sym p.number ∙ q)
