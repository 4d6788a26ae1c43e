-- The tag of a file: the part that it is, what it is compared with under a tag key and with none, and the ways out of asking for it.
-- Assumes nothing.
use mathlib.Core.Path.{◌≡◌, refl, sym, ap, ap₂, ◌∙◌}
use mathlib.Core.Bool.{true, not}
use mathlib.Core.List.{List, [], ◌∷◌, ◌++◌, append-nil}
use Prim.Native.Nat.{ℕ, ◌≤◌}
use native.Mathlib.Omega.{arith}
use borrow.Author.Tests.{eq-eqb, ne_eqb}
use lib.ListN.{length, take, drop, length-drop, drop_of_length-le}
use lib.Seq.{take_all}
use Rattle.std.specs.Prelude.{Result}
use Rattle.refusals.specs.Cases.{when, first_of, positive}
use Rattle.refusals.specs.Numbers.{number, number_in}
use Rattle.refusals.specs.declared.Refusal.{Refusal}
use Rattle.refusals.specs.Shared.{good_key, good_rounds, key_cases, tag_key_cases, rounds_cases}
use Rattle.refusals.proofs.Cases.{first_stop, first_pass, first_none, first_alike, one_passes}
use Rattle.refusals.proofs.Numbers.{number_some}
use Rattle.refusals.proofs.Shared.{rounds_positive, rounds_0, key_positive, tag_key_positive, tag_key_none, tag_key_some}
use Rattle.octets.specs.Equality.{same_bytes}
use Rattle.octets.proofs.Equality.{eq_same}
use Rattle.circuit.specs.Good.{no_schedule, schedule_in}
use Rattle.circuit.specs.declared.GoodSchedule.{GoodSchedule}
use Rattle.circuit.specs.declared.Schedule.{Schedule}
use Rattle.expansion.specs.KeySchedule.{words_of, schedule_of, Prepares}
use Rattle.expansion.proofs.KeyLengths.{length_bad, schedule_bad}
use Rattle.cmac.specs.Tag.{tag_under, verify_cases, verify_number_under}
use Rattle.cmac.proofs.Answers.{good_same, verify_same}
use Rattle.header.specs.Fields.{layout_of, bodies_end, tag_of, tagged_of}
use Rattle.header.specs.Cases.{header_cases}
use Rattle.header.proofs.Layouts.{tag_16, tag_none, layout_1, layout_2}
use Rattle.header.proofs.Cases.{header_positive}
use Rattle.header.proofs.Accepted.{HeaderGood, header_good}
use Rattle.admission.specs.Check.{key_check, tag_bytes, wrong_tag_cases, file_cases, file_cases_by, under_key_cases, under_key_cases_by}
use Rattle.admission.specs.Check.{check_cases, check_cases_by}
use Rattle.admission.specs.Internal.{tag_cases_under}
use Rattle.admission.proofs.Checking.{file_positive}

-- ---- the part that it is

module _ (file : List ℕ) (two : layout_of file ≡ 2) (long : 16 ≤ length file) where
  pub tag_length : length (tag_of file) ≡ 16
  unfolding tag_of
  tag_length = simp length-drop (omega (arith, tag_16 (layout_of file) two))

  -- the code takes sixteen bytes where it ends
  tag_part : take 16 (drop (bodies_end file) file) ≡ tag_of file
  unfolding tag_of
  tag_part = let l : length (drop (bodies_end file) file) ≤ 16 = omega (arith, tag_length) in take_all 16 _ l

  -- a comparison under a good schedule is 25 or none
  pub tag_asked : (s : Schedule) (run tag : List ℕ) (n : ℕ) → good_rounds s.rounds ≡ true → run ≡ take (bodies_end file) file
      → tag ≡ take 16 (drop (bodies_end file) file) → n ≡ verify_number_under s run tag → n ≡ first_of (tag_cases_under s file)
  unfolding tag_cases_under tagged_of
  tag_asked s run tag n good er et e =
      let is : tag ≡ tag_of file = et ∙ tag_part in
      e
      ∙ verify_same (rounds_cases s.rounds) (rounds_positive s.rounds) s run tag (rounds_0 s.rounds good)
      (ap length is ∙ tag_length) _ (ap₂ (λ (u v : List ℕ). same_bytes (tag_under s u) v) er is)

-- ---- what it is compared with

-- a key of no bytes
pub no_bytes : (key : List ℕ) → length key ≡ 0 → key ≡ []
no_bytes [] e = refl
no_bytes (x ∷ xs) e = absurd (omega arith)

-- whose schedule is none
pub none_schedule : no_schedule ≡ schedule_of []
unfolding schedule_of good_key
none_schedule = sym (schedule_bad 0 (words_of []) (length_bad 0 refl))

-- with no tag key there is none
pub tag_absent : (tag_key bytes : List ℕ) → length tag_key ≡ 0 → tag_bytes tag_key bytes ≡ []
unfolding tag_bytes
tag_absent tag_key bytes e = rw (eq-eqb (length tag_key) 0 e)

-- a file without a tag has none that differs
pub no_tag : (tag_key file : List ℕ) → length tag_key ≡ 0 → (layout_of file ≡ 2 → ⊥) → first_of (wrong_tag_cases tag_key file) ≡ 0
unfolding wrong_tag_cases tag_of
no_tag tag_key file e h =
    let past : length file ≤ bodies_end file = omega (arith, tag_none (layout_of file) h) in
    one_passes _ 25 (ap not (eq_same _ _ (tag_absent tag_key (tagged_of file) e ∙ sym (drop_of_length-le file past))))

-- under a tag key it is CMAC's
pub tag_under_lem : (tag_key bytes : List ℕ) → (length tag_key ≡ 0 → ⊥) → tag_bytes tag_key bytes ≡ tag_under (schedule_of tag_key) bytes
unfolding tag_bytes
tag_under_lem tag_key bytes h = rw (ne_eqb (length tag_key) 0 h)

-- a comparison under its schedule is 25 or none
tag_told : (tag_key file : List ℕ) (t : Schedule) (run tag : List ℕ) (n : ℕ) → (length tag_key ≡ 0 → ⊥) → layout_of file ≡ 2
    → 16 ≤ length file → t ≡ schedule_of tag_key → run ≡ take (bodies_end file) file → tag ≡ take 16 (drop (bodies_end file) file)
    → n ≡ first_of (verify_cases [] t run tag) → n ≡ first_of (wrong_tag_cases tag_key file)
unfolding wrong_tag_cases tagged_of
tag_told tag_key file t run tag n some two long et er eg e =
    let is : tag ≡ tag_of file = eg ∙ tag_part file two long in
    let made : tag_under t run ≡ tag_bytes tag_key (take (bodies_end file) file) =
    ap₂ tag_under et er ∙ sym (tag_under_lem tag_key (take (bodies_end file) file) some)
    in
    e
    ∙ good_same t run tag (ap length is ∙ tag_length file two long) _ refl
    ∙ ap₂ (λ (u v : List ℕ). first_of (when (not (same_bytes u v)) 25 ∷ [])) made is

under_key : (tag_key file : List ℕ) → (length tag_key ≡ 0 → ⊥) → wrong_tag_cases tag_key file ≡ tag_cases_under (schedule_of tag_key) file
unfolding wrong_tag_cases tag_cases_under
under_key tag_key file h = ap (λ (t : List ℕ). when (not (same_bytes t (tag_of file))) 25 ∷ []) (tag_under_lem tag_key (tagged_of file) h)

-- ---- a file of a layout without a case

module _ (layout : ℕ) (s : Schedule) (keysize : ℕ) (file : List ℕ) (e : first_of (file_cases layout s keysize file) ≡ 0) where
  pub file_header : HeaderGood layout keysize (key_check s) file
  unfolding file_cases_by
  file_header =
      let h = first_none (header_cases layout keysize (key_check s) file) _ (header_positive _ _ _ file) e in
      header_good layout keysize (key_check s) file h.0

-- ---- the ways out of asking for tag key and file

module _ (s : Schedule) (keysize : ℕ) (tag_key file : List ℕ) where
  -- a good tag key: the file is asked, as one of layout 2
  good_asked : (length tag_key ≡ 0 → ⊥) → first_of (tag_key_cases (length tag_key)) ≡ 0
      → first_of (under_key_cases s keysize tag_key file) ≡ first_of (file_cases 2 s keysize file ++ wrong_tag_cases tag_key file)
  unfolding under_key_cases_by
  good_asked some good =
      first_pass (tag_key_cases (length tag_key)) _ (tag_key_positive (length tag_key)) good
      ∙ ap (λ (l : ℕ). first_of (file_cases l s keysize file ++ wrong_tag_cases tag_key file)) (layout_2 tag_key some)

module _ (s : Schedule) (keysize : ℕ) (tag_key file : List ℕ) (n : ℕ) where
  -- no tag key: header and directory decide
  pub tagged_none : length tag_key ≡ 0 → n ≡ first_of (file_cases 1 s keysize file) → n ≡ first_of (under_key_cases s keysize tag_key file)
  unfolding under_key_cases_by first_of
  tagged_none e en =
      let p : positive (file_cases 1 s keysize file) ≡ true = file_positive _ 1 s keysize file in
      let last : first_of (file_cases 1 s keysize file) ≡ 0 → first_of [] ≡ first_of (wrong_tag_cases tag_key file) =
      λ z. sym (no_tag tag_key file e (λ two. let one = (file_header 1 s keysize file z).laid in omega arith))
      in
      en
      ∙ ap first_of (sym (append-nil (file_cases 1 s keysize file)))
      ∙ first_alike (file_cases 1 s keysize file) (file_cases 1 s keysize file) [] (wrong_tag_cases tag_key file) p p refl last
      ∙ ap (λ (l : ℕ). first_of (file_cases l s keysize file ++ wrong_tag_cases tag_key file)) (sym (layout_1 tag_key e))
      ∙ sym (first_pass (tag_key_cases (length tag_key)) _ (tag_key_positive (length tag_key)) (tag_key_none (length tag_key) e))

  module _ (some : length tag_key ≡ 0 → ⊥) (p : Result GoodSchedule Refusal) (r : Prepares tag_key p) where
    judged : first_of (tag_key_cases (length tag_key)) ≡ number_in p
    judged = tag_key_some (length tag_key) some ∙ sym r.number

    -- the tag key is refused
    pub tagged_else : (number_in p ≡ 0 → ⊥) → n ≡ number_in p → n ≡ first_of (under_key_cases s keysize tag_key file)
    unfolding under_key_cases_by
    tagged_else t e =
        e
        ∙ sym judged
        ∙ sym (first_stop (tag_key_cases (length tag_key)) _ (λ q. t (sym judged ∙ q)))

    module _ (ready : number_in p ≡ 0) where
      -- it is good: the file is asked, as one of layout 2
      asked : first_of (under_key_cases s keysize tag_key file) ≡ first_of (file_cases 2 s keysize file ++ wrong_tag_cases tag_key file)
      asked = good_asked s keysize tag_key file some (judged ∙ ready)

      -- it is refused
      pub tagged_file_lem : n ≡ first_of (file_cases 2 s keysize file) → (n ≡ 0 → ⊥) → n ≡ first_of (under_key_cases s keysize tag_key file)
      tagged_file_lem e h = e ∙ sym (asked ∙ first_stop (file_cases 2 s keysize file) _ (λ q. h (e ∙ q)))

      -- the tag is left
      pub tagged_tag : first_of (file_cases 2 s keysize file) ≡ 0 → n ≡ first_of (tag_cases_under (schedule_in p) file)
          → n ≡ first_of (under_key_cases s keysize tag_key file)
      tagged_tag z e =
          e
          ∙ ap (λ (t : Schedule). first_of (tag_cases_under t file)) r.schedule
          ∙ ap first_of (sym (under_key tag_key file some))
          ∙ sym (asked ∙ first_pass (file_cases 2 s keysize file) _ (file_positive _ 2 s keysize file) z)

-- ---- the ways out of the whole check under a good key, whose schedule is s

module _ (key tag_key file : List ℕ) (s : Schedule) (z : 0 ≡ first_of (key_cases (length key))) (es : s ≡ schedule_of key) where
  under : first_of (check_cases key tag_key file) ≡ first_of (under_key_cases s (length key) tag_key file)
  unfolding check_cases_by
  under =
      first_pass (key_cases (length key)) _ (key_positive (length key)) (sym z)
      ∙ ap (λ (t : Schedule). first_of (under_key_cases t (length key) tag_key file)) (sym es)

  -- no tag key: header and directory decide
  pub checked_none : length tag_key ≡ 0 → (n : ℕ) → n ≡ first_of (file_cases 1 s (length key) file)
      → n ≡ first_of (check_cases key tag_key file)
  checked_none e n en = tagged_none s (length key) tag_key file n e en ∙ sym under

  module _ (some : length tag_key ≡ 0 → ⊥) where
    -- the tag key is refused
    pub checked_tag_key : (e : Refusal) → number e ≡ first_of (key_cases (length tag_key))
        → number e ≡ first_of (check_cases key tag_key file)
    unfolding under_key_cases_by
    checked_tag_key e q =
        let bad : number e ≡ first_of (tag_key_cases (length tag_key)) = q ∙ sym (tag_key_some (length tag_key) some) in
        bad ∙ sym (under ∙ first_stop (tag_key_cases (length tag_key)) _ (λ y. number_some e (bad ∙ y)))

    module _ (y : 0 ≡ first_of (key_cases (length tag_key))) where
      -- it is good: the file is asked, as one of layout 2
      file_asked : first_of (check_cases key tag_key file) ≡ first_of (file_cases 2 s (length key) file ++ wrong_tag_cases tag_key file)
      file_asked = under ∙ good_asked s (length key) tag_key file some (tag_key_some (length tag_key) some ∙ sym y)

      -- it is refused
      pub checked_file : (e : Refusal) → number e ≡ first_of (file_cases 2 s (length key) file)
          → number e ≡ first_of (check_cases key tag_key file)
      checked_file e q = q ∙ sym (file_asked ∙ first_stop (file_cases 2 s (length key) file) _ (λ x. number_some e (q ∙ x)))

      -- the tag is left
      pub checked_tag : 0 ≡ first_of (file_cases 2 s (length key) file) → (t : Schedule) (run tag : List ℕ) (n : ℕ)
          → t ≡ schedule_of tag_key → run ≡ take (bodies_end file) file → tag ≡ take 16 (drop (bodies_end file) file)
          → n ≡ first_of (verify_cases [] t run tag) → n ≡ first_of (check_cases key tag_key file)
      checked_tag x t run tag n et er eg e =
          let good = file_header 2 s (length key) file (sym x) in
          let long = good.long in
          tag_told tag_key file t run tag n some good.laid (omega arith) et er eg e
          ∙ sym (file_asked ∙ first_pass (file_cases 2 s (length key) file) _ (file_positive _ 2 s (length key) file) (sym x))
