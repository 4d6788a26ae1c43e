-- What the program does not hand on does not matter: a long sheet and a long input are refused alike, and a key file's front is the key.
-- Assumes nothing.
use mathlib.Core.Path.{◌≡◌, refl, sym, ap, ap₂, ◌∙◌, subst}
use mathlib.Core.Bool.{Bool, true, false, not, ◌&&◌}
use mathlib.Core.List.{List, [], ◌∷◌}
use Prim.Native.Nat.{ℕ, ◌+◌, ◌-◌, ◌%◌, ◌<◌, ◌≤◌}
use native.Mathlib.Omega.{arith}
use borrow.Author.Tests.{ltb-true, ltb-false, lt-ltb, le-ltb, le-leb}
use lib.Dec.{leb, ltb, eqb}
use lib.ListN.{length, get_or, take, length-take}
use lib.Seq.{take_all, take-take, get_or-take, length-take-le}
use Rattle.refusals.specs.Cases.{when, first_of}
use Rattle.refusals.specs.Answers.{refused, answer}
use Rattle.refusals.specs.Shared.{good_key, tag_key_cases}
use Rattle.refusals.proofs.Booleans.{not_yes, same_test}
use Rattle.refusals.proofs.Cases.{first_alike, first_stop, stop, skip}
use Rattle.refusals.proofs.Answers.{answer_gives, answer_refused}
use Rattle.refusals.proofs.Shared.{key_1, key_most, tag_key_positive, tag_key_some}
use Rattle.header.specs.Fields.{layout_under}
use Rattle.sheet.specs.Sheet.{key_size_of, key_size_on, lines, sizes_on}
use Rattle.sheet.specs.Cases.{is_length, is_key_length, sheet_cases, lines_cases}
use Rattle.sheet.proofs.Long.{cut_long, cut_short}
use Rattle.sheet.proofs.Cases.{sheet_positive, sheet_good, key_size_good, lines_positive, too_many}
use Rattle.sealing.specs.Seal.{key_on, sealed_file, length_on, key_file_cases, length_cases, rest_cases, seal_cases, seal_of, Seals}
use Rattle.sealed_archives.specs.Long.{LongSheet, LongInput, LongKeyFile, LongTagKey}
use Rattle.sealing.proofs.Cases.{key_file_positive, seal_good, written_same, given_good}

-- ---- the key file

module _ (key_file tag_key sheet : List ℕ) where
  -- a sheet that passes asks for 32 bytes at most
  asks : first_of (sheet_cases sheet) ≡ 0 → key_size_on sheet ≤ 32
  asks e = key_most _ (key_size_good sheet (sheet_good sheet e).sized)

  key_file_alike : key_size_on sheet ≤ 32
      → first_of (key_file_cases (length (take 32 key_file)) (key_size_on sheet))
      ≡ first_of (key_file_cases (length key_file) (key_size_on sheet))
  unfolding key_file_cases
  key_file_alike l =
      let m = length-take 32 key_file in
      ap (λ (b : Bool). first_of (when b 1 ∷ []))
      (same_test (length (take 32 key_file)) (key_size_on sheet) (length key_file) (key_size_on sheet) (λ h. omega arith)
      (λ h. omega arith))

  key_alike : (given room : ℕ)
      → first_of (seal_cases (take 32 key_file) tag_key sheet given room) ≡ first_of (seal_cases key_file tag_key sheet given room)
  unfolding seal_cases
  key_alike given room =
      let s = sheet_positive sheet in
      first_alike (sheet_cases sheet) (sheet_cases sheet) _ _ s s refl
      (λ none.
      first_alike (key_file_cases (length (take 32 key_file)) (key_size_on sheet)) (key_file_cases (length key_file) (key_size_on sheet)) _
      _
      (key_file_positive _ _) (key_file_positive _ _) (key_file_alike (asks none)) (λ z. refl))

pub long_key_file : LongKeyFile
unfolding sealed_file
long_key_file key_file tag_key sheet plain before a after s =
    let size : ℕ = length_on (layout_under tag_key) sheet in
    record {
      answered = s.answered ∙ ap (λ (n : ℕ). answer n size) (key_alike key_file tag_key sheet (length plain) (length before));
      bytes =
          s.bytes
          ∙ written_same a (sealed_file (take 32 key_file) tag_key sheet plain) (sealed_file key_file tag_key sheet plain) before
          (λ n g.
          let good = given_good (take 32 key_file) tag_key sheet (length plain) (length before) n a s.answered g in
          let most = key_most _ (key_size_good sheet good.sheeted.sized) in
          file_same (take 32 key_file) key_file tag_key sheet plain (take-take (key_size_on sheet) 32 key_file most));
    }
  where
    file_same : (f g tag_key sheet plain : List ℕ) → key_on f sheet ≡ key_on g sheet
        → sealed_file f tag_key sheet plain ≡ sealed_file g tag_key sheet plain
    file_same f g tag_key sheet plain e = rw e

-- ---- the tag key

-- of 33 bytes or more it is refused
tag_key_long : (n : ℕ) → 32 < n → first_of (tag_key_cases n) ≡ 1
tag_key_long n l =
    let some : n ≡ 0 → ⊥ = λ q. omega arith in
    let bad : good_key n ≡ false = not_yes (good_key n) (λ e. omega (arith, key_most n e)) in
    tag_key_some n some ∙ key_1 n bad

module _ (key_file tag_key sheet : List ℕ) (given room : ℕ) (l : 33 < length tag_key) where
  thirty_three : length (take 33 tag_key) ≡ 33
  thirty_three = length-take-le 33 tag_key (omega arith)

  tag_key_alike : first_of (tag_key_cases (length (take 33 tag_key))) ≡ first_of (tag_key_cases (length tag_key))
  tag_key_alike = tag_key_long _ (omega (arith, thirty_three)) ∙ sym (tag_key_long (length tag_key) (omega arith))

  tagged_alike : first_of (seal_cases key_file (take 33 tag_key) sheet given room) ≡ first_of (seal_cases key_file tag_key sheet given room)
  unfolding seal_cases
  tagged_alike =
      let s = sheet_positive sheet in
      let k = key_file_positive (length key_file) (key_size_on sheet) in
      first_alike (sheet_cases sheet) (sheet_cases sheet) _ _ s s refl
      (λ z. first_alike (key_file_cases (length key_file) (key_size_on sheet)) (key_file_cases (length key_file) (key_size_on sheet)) _ _ k
      k refl
      (λ z. first_alike (tag_key_cases (length (take 33 tag_key))) (tag_key_cases (length tag_key)) _ _ (tag_key_positive _)
      (tag_key_positive _)
      tag_key_alike (λ none. absurd (omega (arith, none, tag_key_alike, tag_key_long (length tag_key) (omega arith))))))

  -- both are refused
  tagged_case : first_of (seal_cases key_file tag_key sheet given room) ≡ 0 → ⊥
  tagged_case z =
      let good = seal_good key_file tag_key sheet given room z in
      omega (arith, good.tagged, tag_key_long (length tag_key) (omega arith))

pub long_tag_key : LongTagKey
long_tag_key key_file tag_key sheet plain before a after s = go (ltb 33 (length tag_key)) refl
  where
    go : (b : Bool) → ltb 33 (length tag_key) ≡ b → Seals key_file tag_key sheet plain before a after
    go false e = subst (λ (t : List ℕ). Seals key_file t sheet plain before a after) (take_all 33 tag_key (ltb-false _ _ e)) s
    go true e =
        let l : 33 < length tag_key = ltb-true _ _ e in
        let alike = tagged_alike key_file tag_key sheet (length plain) (length before) l in
        let some = tagged_case key_file tag_key sheet (length plain) (length before) l in
        record {
          answered =
              s.answered
              ∙ answer_refused _ _ (λ z. some (sym alike ∙ z))
              ∙ ap refused alike
              ∙ sym (answer_refused _ (length_on (layout_under tag_key) sheet) some);
          bytes =
              s.bytes
              ∙ written_same a _ _ before (λ n g. absurd (some (sym alike ∙ (answer_gives _ _ n (sym s.answered ∙ g)).0)));
        }

-- ---- the plain bytes

-- of more than 65,536 bytes some remain, or the archive is too long already
module _ (whole size room : ℕ) (l : size ≤ whole) where
  remain : (given : ℕ) → whole ≤ 65536 → 65536 < given → first_of (length_cases whole size given room) ≡ 17
  unfolding length_cases
  remain given w h =
      skip (length_cases whole size given room) 0 (le-ltb 65536 whole w)
      ∙ skip (length_cases whole size given room) 1 (le-ltb given size (omega arith))
      ∙ stop (length_cases whole size given room) 2 (lt-ltb size given (omega arith))

  too_long : (given : ℕ) → ltb 65536 whole ≡ true → first_of (length_cases whole size given room) ≡ 6
  unfolding length_cases
  too_long given e = stop (length_cases whole size given room) 0 e

  many : (given : ℕ) → 65536 < given → first_of (length_cases whole size given room) ≡ first_of (length_cases whole size 65537 room)
  many given m = go (ltb 65536 whole) refl
    where
      go : (b : Bool) → ltb 65536 whole ≡ b → first_of (length_cases whole size given room) ≡ first_of (length_cases whole size 65537 room)
      go true e = too_long given e ∙ sym (too_long 65537 e)
      go false e = let w = ltb-false _ _ e in remain given w m ∙ sym (remain 65537 w (omega arith))

module _ (key_file tag_key sheet : List ℕ) where
  bodies_within : (layout : ℕ) → sizes_on sheet (lines sheet) ≤ length_on layout sheet
  unfolding length_on
  bodies_within layout = omega arith

  input_alike : (given room : ℕ) → 65536 < given
      → first_of (seal_cases key_file tag_key sheet given room) ≡ first_of (seal_cases key_file tag_key sheet 65537 room)
  unfolding seal_cases rest_cases
  input_alike given room m =
      let s = sheet_positive sheet in
      let k = key_file_positive (length key_file) (key_size_on sheet) in
      let t = tag_key_positive (length tag_key) in
      let l = lines_positive sheet in
      first_alike (sheet_cases sheet) (sheet_cases sheet) _ _ s s refl
      (λ z. first_alike (key_file_cases (length key_file) (key_size_on sheet)) (key_file_cases (length key_file) (key_size_on sheet)) _ _ k
      k refl
      (λ z. first_alike (tag_key_cases (length tag_key)) (tag_key_cases (length tag_key)) _ _ t t refl
      (λ z. first_alike (lines_cases sheet) (lines_cases sheet) _ _ l l refl
      (λ z. many (length_on (layout_under tag_key) sheet) _ room (bodies_within (layout_under tag_key)) given m))))

pub long_input : LongInput
long_input key_file tag_key sheet plain before a after s = go (ltb 65537 (length plain)) refl
  where
    go : (b : Bool) → ltb 65537 (length plain) ≡ b → Seals key_file tag_key sheet plain before a after
    go false e =
        let all : take 65537 plain ≡ plain = take_all 65537 plain (ltb-false _ _ e) in
        subst (λ (p : List ℕ). Seals key_file tag_key sheet p before a after) all s
    go true e =
        let l : 65537 < length plain = ltb-true _ _ e in
        let cut : length (take 65537 plain) ≡ 65537 = length-take-le 65537 plain (omega arith) in
        let size : ℕ = length_on (layout_under tag_key) sheet in
        let alike = input_alike key_file tag_key sheet (length plain) (length before) (omega arith) in
        let cut_alike = ap (λ (g : ℕ). seal_of key_file tag_key sheet g (length before)) cut in
        record {
          answered = s.answered ∙ cut_alike ∙ ap (λ (n : ℕ). answer n size) (sym alike);
          bytes =
              s.bytes
              ∙ written_same a _ _ before
              (λ n g.
              let good = given_good key_file tag_key sheet (length (take 65537 plain)) (length before) n a s.answered g in
              absurd (omega (
                arith,
                good.rest.fits.exact,
                good.rest.fits.most,
                bodies_within key_file tag_key sheet (layout_under tag_key),
              )));
        }

-- ---- the sheet

module _ (sheet : List ℕ) (l : 785 < length sheet) where
  abbrev n : ℕ
  n = 785 + (length sheet - 5) % 12

  abbrev cut : List ℕ
  cut = take n sheet

  cut_length : length cut ≡ n
  cut_length = length-take-le n sheet (omega arith)

  first_byte : get_or cut 0 0 ≡ get_or sheet 0 0
  first_byte = get_or-take n sheet 0 0 (omega arith)

  sheet_alike : first_of (sheet_cases cut) ≡ first_of (sheet_cases sheet)
  unfolding sheet_cases is_length
  sheet_alike =
      let five : leb 5 (length cut) ≡ leb 5 (length sheet) =
      le-leb 5 (length cut) (omega (arith, cut_length)) ∙ sym (le-leb 5 (length sheet) (omega arith)) in
      let left : (length cut - 5) % 12 ≡ (length sheet - 5) % 12 = omega (arith, cut_length) in
      ap₂ (λ (b c : Bool). first_of (when (not b) 21 ∷ when (not c) 22 ∷ []))
      (ap₂ (λ (b : Bool) (m : ℕ). b && eqb m 0) five left)
      (ap is_key_length first_byte)

  many_lines : 64 < lines cut
  many_lines = omega (arith, cut_length)

  rest_nine : (layout : ℕ) (s : List ℕ) (given room : ℕ) → 64 < lines s → first_of (rest_cases layout s given room) ≡ 9
  unfolding rest_cases
  rest_nine layout s given room m =
      let nine = too_many s m in
      first_stop (lines_cases s) _ (λ z. omega (arith, nine)) ∙ nine

  seal_alike : (key_file tag_key : List ℕ) (given room : ℕ)
      → first_of (seal_cases key_file tag_key cut given room) ≡ first_of (seal_cases key_file tag_key sheet given room)
  unfolding seal_cases
  seal_alike key_file tag_key given room =
      let t = tag_key_positive (length tag_key) in
      first_alike (sheet_cases cut) (sheet_cases sheet) _ _ (sheet_positive cut) (sheet_positive sheet) sheet_alike
      (λ z. first_alike (key_file_cases (length key_file) (key_size_on cut)) (key_file_cases (length key_file) (key_size_on sheet)) _ _
      (key_file_positive _ _) (key_file_positive _ _)
      (ap (λ (k : ℕ). first_of (key_file_cases (length key_file) (key_size_of k))) first_byte)
      (λ z. first_alike (tag_key_cases (length tag_key)) (tag_key_cases (length tag_key)) _ _ t t refl
      (λ z. rest_nine (layout_under tag_key) cut given room many_lines
      ∙ sym (rest_nine (layout_under tag_key) sheet given room (omega arith)))))

  -- both are refused
  some_case : (key_file tag_key : List ℕ) (given room : ℕ) → first_of (seal_cases key_file tag_key cut given room) ≡ 0 → ⊥
  some_case key_file tag_key given room z =
      let good = seal_good key_file tag_key cut given room z in
      omega (arith, good.rest.lined.few, many_lines)

  sealed_alike : (key_file tag_key : List ℕ) (given room : ℕ)
      → seal_of key_file tag_key cut given room ≡ seal_of key_file tag_key sheet given room
  sealed_alike key_file tag_key given room =
      let h = some_case key_file tag_key given room in
      let same = seal_alike key_file tag_key given room in
      answer_refused _ _ h ∙ ap refused same ∙ sym (answer_refused _ _ (λ z. h (same ∙ z)))

pub long_sheet : LongSheet
long_sheet key_file tag_key sheet plain before a after s = go (ltb 785 (length sheet)) refl
  where
    go : (b : Bool) → ltb 785 (length sheet) ≡ b → Seals key_file tag_key sheet plain before a after
    go false e = subst (λ (x : List ℕ). Seals key_file tag_key x plain before a after) (cut_short sheet (ltb-false _ _ e)) s
    go true e =
        let l : 785 < length sheet = ltb-true _ _ e in
        let c : Seals key_file tag_key (cut sheet l) plain before a after =
        subst (λ (x : List ℕ). Seals key_file tag_key x plain before a after) (cut_long sheet l) s in
        record {
          answered = c.answered ∙ sealed_alike sheet l key_file tag_key (length plain) (length before);
          bytes =
              c.bytes
              ∙ written_same a _ _ before
              (λ n g.
              absurd (some_case sheet l key_file tag_key (length plain) (length before) (answer_gives _ _ n (sym c.answered ∙ g)).0));
        }
