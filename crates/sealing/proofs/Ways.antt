-- The ways out of the code: what each has to show, stage by stage.
-- Assumes nothing.
use mathlib.Core.Path.{◌≡◌, refl, sym, ap, ap₂, ◌∙◌}
use mathlib.Core.Bool.{true}
use Rattle.std.specs.Prelude.{Option, Some, None, Result}
use mathlib.Core.List.{List, [], ◌++◌, append_assoc, append-nil}
use Prim.Native.Nat.{ℕ, ◌+◌, ◌*◌, ◌<◌, ◌≤◌}
use native.Mathlib.Omega.{arith}
use lib.ListN.{length, take, drop, length-append}
use lib.Seq.{take_at, length-take-le}
use Rattle.refusals.specs.Cases.{Case, first_of}
use Rattle.refusals.specs.Answers.{Answer, refused, gives, answer, written_for}
use Rattle.refusals.specs.Shared.{good_key, tag_key_cases}
use Rattle.refusals.specs.declared.Refusal.{Refusal}
use Rattle.refusals.specs.Numbers.{number_in}
use Rattle.refusals.proofs.Answers.{answer_none, answer_first, refusal_is}
use Rattle.refusals.proofs.Cases.{first_pass, first_stop}
use Rattle.refusals.proofs.Shared.{key_0, tag_key_positive}
use Rattle.blocks.proofs.Rows.{length_row}
use Rattle.circuit.specs.declared.Schedule.{Schedule}
use Rattle.circuit.specs.declared.GoodSchedule.{GoodSchedule}
use Rattle.expansion.specs.KeySchedule.{schedule_of, Prepares}
use Rattle.cmac.specs.Tag.{tag_under}
use Rattle.cmac.proofs.Laws.{tag_size_lem}
use Rattle.header.specs.Fields.{layout_under, tag_size}
use Rattle.header.proofs.Layouts.{tag_16, tag_none, layout_1, layout_2}
use Rattle.admission.specs.Check.{key_check, tag_bytes}
use Rattle.admission.proofs.Tags.{tag_under_lem, tag_absent}
use Rattle.codec.proofs.Lengths.{check_length}
use Rattle.codec.proofs.Parts.{header_length}
use Rattle.sheet.specs.Sheet.{key_size_on, archive_number_on, lines, sizes_on}
use Rattle.sheet.specs.Cases.{sheet_cases, lines_cases}
use Rattle.sheet.proofs.LineLaws.{number_length}
use Rattle.sheet.proofs.Cases.{sheet_positive, sheet_good, key_size_good, lines_positive}
use Rattle.sealing.specs.Seal.{key_on, length_on, key_file_cases, length_cases, rest_cases, seal_cases, seal_of, Seals}
use Rattle.sealing.specs.Internal.{header_on, entry_on, directory_on, bodies_on, front_on, layout_in, tag_in, TagOf, SealsRest}
use Rattle.sealing.proofs.Cases.{RestGood, rest_good, key_file_positive, key_file_good, key_file_1, written_same, given_good}
use Rattle.sealing.proofs.Written.{next_piece, entry_sixteen, bodies_size, file_on}

-- ---- writing all but the tag

module _ (layout : ℕ) (s : Schedule) (sheet plain : List ℕ) (headed : 5 ≤ length sheet)
    (exact : sizes_on sheet (lines sheet) ≡ length plain) where
  abbrev from : ℕ
  from = 20 + 16 * lines sheet

  abbrev front : List ℕ
  front = front_on layout s sheet plain

  header_size : length (header_on layout s sheet) ≡ 20
  header_size =
      header_length layout (key_size_on sheet) (lines sheet) (archive_number_on sheet) (key_check s) (length_on layout sheet)
      (number_length sheet headed) (check_length s)

  directory_size : length (directory_on sheet from) ≡ 16 * lines sheet
  unfolding directory_on
  directory_size = length_row (entry_on sheet from) (lines sheet) (entry_sixteen sheet from)

  bodies_on_size : length (bodies_on s sheet plain) ≡ length plain
  unfolding bodies_on
  bodies_on_size = bodies_size s sheet plain exact (lines sheet) (omega arith) ∙ exact

  pub front_size : length front ≡ from + length plain
  unfolding front_on
  front_size =
      omega (
        arith,
        length-append (header_on layout s sheet) (directory_on sheet from ++ bodies_on s sheet plain),
        length-append (directory_on sheet from) (bodies_on s sheet plain),
        header_size,
        directory_size,
        bodies_on_size,
      )

  -- header, directory and bodies, each in its place
  pub front_written : (before h d b out₁ out₂ out₃ : List ℕ) (k₁ k₂ at k₃ r : ℕ)
      → h ≡ header_on layout s sheet → d ≡ directory_on sheet from → b ≡ bodies_on s sheet plain → out₁ ≡ h ++ drop k₁ before
      → out₂ ≡ take 20 out₁ ++ (d ++ drop k₂ (drop 20 out₁)) → out₃ ≡ take at out₂ ++ (b ++ drop k₃ (drop at out₂)) → k₁ ≡ 20
      → k₂ ≡ 16 * lines sheet → at ≡ from → k₃ ≡ length plain → r ≡ from + length plain
      → (r ≡ length front) × (out₃ ≡ front ++ drop r before)
  unfolding front_on
  front_written before h d b out₁ out₂ out₃ k₁ k₂ at k₃ r eh ed eb e₁ e₂ e₃ z₁ z₂ za z₃ er =
      let lh : length h ≡ 20 = ap length eh ∙ header_size in
      let ld : length d ≡ 16 * lines sheet = ap length ed ∙ directory_size in
      let lb : length b ≡ length plain = ap length eb ∙ bodies_on_size in
      let first : out₁ ≡ h ++ drop (length h) before = e₁ ∙ ap (λ (n : ℕ). h ++ drop n before) (z₁ ∙ sym lh) in
      let second : out₂ ≡ (h ++ d) ++ drop (length (h ++ d)) before = e₂ ∙ next_piece h d before out₁ 20 k₂ first (sym lh) (z₂ ∙ sym ld) in
      let two : at ≡ length (h ++ d) = omega (arith, length-append h d) in
      let third : out₃ ≡ ((h ++ d) ++ b) ++ drop (length ((h ++ d) ++ b)) before =
      e₃ ∙ next_piece (h ++ d) b before out₂ at k₃ second two (z₃ ∙ sym lb) in
      let all : (h ++ d) ++ b ≡ front =
      append_assoc h d b ∙ ap₂ (λ (x y : List ℕ). x ++ y) eh (ap₂ (λ (x y : List ℕ). x ++ y) ed eb) in
      let size : r ≡ length front = er ∙ sym front_size in
      (size, third ∙ ap (λ (f : List ℕ). f ++ drop (length f) before) all ∙ ap (λ (n : ℕ). front ++ drop n before) (sym size))

-- ---- after the keys

module _ (layout : ℕ) (sheet : List ℕ) (given room : ℕ) where
  -- the lines are asked first
  pub rest_at_lines : (n : ℕ) → n ≡ first_of (lines_cases sheet) → (n ≡ 0 → ⊥) → n ≡ first_of (rest_cases layout sheet given room)
  unfolding rest_cases
  rest_at_lines n e h = e ∙ sym (first_stop (lines_cases sheet) _ (λ q. h (e ∙ q)))

  -- then the lengths, of which the code sums the whole up
  module _ (count size tag : ℕ) (counted : count ≡ lines sheet) (sized : size ≡ sizes_on sheet count) (tagged : tag ≡ tag_size layout) where
    all : size ≡ sizes_on sheet (lines sheet)
    all = sized ∙ ap (sizes_on sheet) counted

    pub whole_on : 20 + 16 * count + size + tag ≡ length_on layout sheet
    unfolding length_on
    whole_on = omega (arith, all)

    pub rest_at_lengths : first_of (lines_cases sheet) ≡ 0
        → first_of (length_cases (20 + 16 * count + size + tag) size given room) ≡ first_of (rest_cases layout sheet given room)
    unfolding rest_cases
    rest_at_lengths none =
        ap₂ (λ (w s : ℕ). first_of (length_cases w s given room)) whole_on all
        ∙ sym (first_pass (lines_cases sheet) _ (lines_positive sheet) none)

  -- no case: what is known when writing begins
  module _ (none : first_of (rest_cases layout sheet given room) ≡ 0) where
    pub good : RestGood layout sheet given room
    good = rest_good layout sheet given room none

    pub rest_small : given ≤ 65536
    unfolding length_on
    rest_small = let g = good.fits in omega (arith, g.most, g.exact)

    pub rest_room : 20 + 16 * lines sheet + given + tag_size layout ≤ room
    unfolding length_on
    rest_room = let g = good.fits in omega (arith, g.roomy, g.exact)

module _ (layout : ℕ) (tag : List ℕ → List ℕ) (s : Schedule) (sheet plain before : List ℕ) where
  pub rest_refused : (n : ℕ) → n ≡ first_of (rest_cases layout sheet (length plain) (length before)) → (n ≡ 0 → ⊥)
      → SealsRest layout tag s sheet plain before (refused n) before
  unfolding written_for
  rest_refused n e h = record { answered = refusal_is n _ _ e h; bytes = refl }

  -- the archive stands in the buffer
  pub rest_done : first_of (rest_cases layout sheet (length plain) (length before)) ≡ 0 → (r : ℕ) (after : List ℕ)
      → r ≡ 20 + 16 * lines sheet + length plain + tag_size layout
      → after ≡ (front_on layout s sheet plain ++ tag (front_on layout s sheet plain)) ++ drop r before
      → SealsRest layout tag s sheet plain before (gives r) after
  unfolding written_for length_on
  rest_done none r after er e =
      let whole : r ≡ length_on layout sheet = omega (arith, (good layout sheet (length plain) (length before) none).fits.exact) in
      record { answered = ap gives whole ∙ sym (answer_none _ _ none); bytes = e }

-- the front stands in the buffer: with a tag of 16 bytes behind it where there is a tag key
module _ (t : Option GoodSchedule) (s : Schedule) (sheet plain before : List ℕ) (headed : 5 ≤ length sheet)
    (none : first_of (rest_cases (layout_in t) sheet (length plain) (length before)) ≡ 0) where
  abbrev fore : List ℕ
  fore = front_on (layout_in t) s sheet plain

  fore_size : length fore ≡ 20 + 16 * lines sheet + length plain
  fore_size = front_size (layout_in t) s sheet plain headed (good (layout_in t) sheet (length plain) (length before) none).fits.exact

  pub done_untagged : t ≡ None → (r : ℕ) (after : List ℕ) → r ≡ length fore → after ≡ fore ++ drop r before
      → SealsRest (layout_in t) (tag_in t) s sheet plain before (gives r) after
  done_untagged e r after er ea =
      let no : tag_size (layout_in t) ≡ 0 = rw e (tag_none 1 (λ q. omega arith)) in
      let nil : tag_in t fore ≡ [] = ap (λ (u : Option GoodSchedule). tag_in u fore) e in
      rest_done (layout_in t) (tag_in t) s sheet plain before none r after (omega (arith, fore_size))
      (ea ∙ ap (λ (x : List ℕ). x ++ drop r before) (sym (append-nil fore) ∙ ap (λ (x : List ℕ). fore ++ x) (sym nil)))

  module _ (u : GoodSchedule) (e : t ≡ Some u) where
    sixteen : tag_size (layout_in t) ≡ 16
    sixteen = rw e (tag_16 2 refl)

    pub tag_room : length fore + 16 ≤ length before
    tag_room = omega (arith, fore_size, sixteen, rest_room (layout_in t) sheet (length plain) (length before) none)

    pub done_tagged : (end k : ℕ) (out tag after : List ℕ) → end ≡ length fore → out ≡ fore ++ drop end before → k ≡ 16
        → tag ≡ tag_under u.schedule (take end out) → after ≡ take end out ++ (tag ++ drop k (drop end out))
        → SealsRest (layout_in t) (tag_in t) s sheet plain before (gives (end + 16)) after
    done_tagged end k out tag after el eo ek et ea =
        let run : take end out ≡ fore = ap (take end) eo ∙ take_at fore (drop end before) end (sym el) in
        let is : tag ≡ tag_in t fore =
        et ∙ ap (tag_under u.schedule) run ∙ ap (λ (v : Option GoodSchedule). tag_in v fore) (sym e) in
        let size : length tag ≡ 16 = ap length et ∙ tag_size_lem u.schedule (take end out) in
        let all : after ≡ (fore ++ tag) ++ drop (length (fore ++ tag)) before =
        ea ∙ next_piece fore tag before out end k (eo ∙ ap (λ (n : ℕ). fore ++ drop n before) el) el (ek ∙ sym size) in
        let long : length (fore ++ tag) ≡ end + 16 = omega (arith, length-append fore tag) in
        rest_done (layout_in t) (tag_in t) s sheet plain before none (end + 16) after (omega (arith, fore_size, sixteen))
        (all ∙ ap₂ (λ (x : List ℕ) (n : ℕ). (fore ++ x) ++ drop n before) is long)

-- ---- the keys

-- what the schedule of a tag key makes, of none and of one
module _ (tag_key : List ℕ) where
  pub tag_of_none : length tag_key ≡ 0 → TagOf tag_key None
  tag_of_none e = record { layout = sym (layout_1 tag_key e); bytes = λ xs. sym (tag_absent tag_key xs e) }

  pub tag_of_some : (length tag_key ≡ 0 → ⊥) → (t : GoodSchedule) → t.schedule ≡ schedule_of tag_key → TagOf tag_key (Some t)
  tag_of_some h t e = record {
    layout = sym (layout_2 tag_key h);
    bytes = λ xs. ap (λ (s : Schedule). tag_under s xs) e ∙ sym (tag_under_lem tag_key xs h);
  }

-- ---- all of it

-- a key file that is long enough for a sheet without a case gives a key that is not refused
pub key_taken : (key_file sheet : List ℕ) → first_of (sheet_cases sheet) ≡ 0 → key_size_on sheet ≤ length key_file
    → (r : Result GoodSchedule Refusal) → Prepares (key_on key_file sheet) r → number_in r ≡ 0
key_taken key_file sheet none enough r p =
    let good : good_key (length (key_on key_file sheet)) ≡ true =
    ap good_key (length-take-le (key_size_on sheet) key_file enough) ∙ key_size_good sheet (sheet_good sheet none).sized
    in
    p.number ∙ key_0 _ good

module _ (key_file tag_key sheet plain before : List ℕ) where
  abbrev rest : ℕ → List Case
  rest layout = rest_cases layout sheet (length plain) (length before)

  -- the sheet is refused
  pub sheet_refused : (n : ℕ) → n ≡ first_of (sheet_cases sheet) → (n ≡ 0 → ⊥)
      → Seals key_file tag_key sheet plain before (refused n) before
  unfolding written_for seal_cases
  sheet_refused n e h =
      record { answered = ap refused e ∙ sym (answer_first (sheet_cases sheet) _ _ (λ q. h (e ∙ q))); bytes = refl }

  module _ (none : first_of (sheet_cases sheet) ≡ 0) where
    asked : first_of (seal_cases key_file tag_key sheet (length plain) (length before))
        ≡ first_of (key_file_cases (length key_file) (key_size_on sheet)
        ++ (tag_key_cases (length tag_key) ++ rest (layout_under tag_key)))
    unfolding seal_cases
    asked = first_pass (sheet_cases sheet) _ (sheet_positive sheet) none

    -- the key file is refused
    pub key_file_refused : (n : ℕ) → n ≡ first_of (key_file_cases (length key_file) (key_size_on sheet)) → (n ≡ 0 → ⊥)
        → Seals key_file tag_key sheet plain before (refused n) before
    unfolding written_for
    key_file_refused n e h =
        let all = asked ∙ first_stop (key_file_cases (length key_file) (key_size_on sheet)) _ (λ q. h (e ∙ q)) ∙ sym e in
        record { answered = refusal_is n _ _ (sym all) h; bytes = refl }

    -- it is too short
    pub key_file_short : length key_file < key_size_on sheet → Seals key_file tag_key sheet plain before (refused 1) before
    key_file_short l = key_file_refused 1 (sym (key_file_1 _ _ l)) (λ q. omega arith)

    module _ (keyed : first_of (key_file_cases (length key_file) (key_size_on sheet)) ≡ 0) where
      asked_next : first_of (seal_cases key_file tag_key sheet (length plain) (length before))
          ≡ first_of (tag_key_cases (length tag_key) ++ rest (layout_under tag_key))
      asked_next = asked ∙ first_pass (key_file_cases (length key_file) (key_size_on sheet)) _ (key_file_positive _ _) keyed

      -- the tag key is refused
      pub tag_key_refused : (n : ℕ) → n ≡ first_of (tag_key_cases (length tag_key)) → (n ≡ 0 → ⊥)
          → Seals key_file tag_key sheet plain before (refused n) before
      unfolding written_for
      tag_key_refused n e h =
          let all = asked_next ∙ first_stop (tag_key_cases (length tag_key)) _ (λ q. h (e ∙ q)) ∙ sym e in
          record { answered = refusal_is n _ _ (sym all) h; bytes = refl }

      -- the keys are good
      pub sealed_under : first_of (tag_key_cases (length tag_key)) ≡ 0 → (s : Schedule) (t : Option GoodSchedule) (a : Answer)
          (after : List ℕ)
          → s ≡ schedule_of (key_on key_file sheet) → TagOf tag_key t → SealsRest (layout_in t) (tag_in t) s sheet plain before a after
          → Seals key_file tag_key sheet plain before a after
      sealed_under tagged s t a after es of u =
          let all = asked_next ∙ first_pass (tag_key_cases (length tag_key)) _ (tag_key_positive (length tag_key)) tagged in
          let answered : a ≡ seal_of key_file tag_key sheet (length plain) (length before) =
          u.answered
          ∙ ap (λ (l : ℕ). answer (first_of (rest l)) (length_on l sheet)) of.layout
          ∙ ap (λ (n : ℕ). answer n (length_on (layout_under tag_key) sheet)) (sym all)
          in
          let front : Schedule → List ℕ = λ q. front_on (layout_under tag_key) q sheet plain in
          record {
            answered = answered;
            bytes =
                u.bytes
                ∙ ap (λ (l : ℕ). written_for a (front_on l s sheet plain ++ tag_in t (front_on l s sheet plain)) before) of.layout
                ∙ ap (λ (x : List ℕ). written_for a (front s ++ x) before) (of.bytes (front s))
                ∙ ap (λ (q : Schedule). written_for a (front q ++ tag_bytes tag_key (front q)) before) es
                ∙ written_same a _ _ before
                (λ n g.
                let good = given_good key_file tag_key sheet (length plain) (length before) n a answered g in
                file_on key_file tag_key sheet plain (key_file_good _ _ keyed) good.rest.fits.exact);
          }
