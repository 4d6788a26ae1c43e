-- A sheet that begins with 0 has the cases and the archive of the one with 32 in its place; where it passes 21, a shorter key file gets 1.
-- Assumes nothing.
use mathlib.Core.Path.{◌≡◌, refl, sym, ap, ap₂, ◌∙◌}
use mathlib.Core.Bool.{true}
use mathlib.Core.List.{List, ◌∷◌, ◌++◌}
use Prim.Native.Nat.{ℕ, ◌+◌, ◌*◌}
use lib.ListN.{length, take, drop}
use Rattle.refusals.specs.Cases.{Case, first_of}
use Rattle.refusals.specs.Answers.{Answer, refused, answer, written_for}
use Rattle.refusals.specs.Shared.{good_key}
use Rattle.octets.specs.Numbers.{be32}
use Rattle.octets.specs.Tables.{values}
use Rattle.header.specs.Fields.{layout_under, tag_size}
use Rattle.sheet.specs.Sheet.{key_size_of, key_size_on, archive_number_on, lines}
use Rattle.sheet.specs.Cases.{is_length, is_key_length, sheet_cases}
use Rattle.sheet.proofs.FirstByte.{same_lines, same_sizes, same_cases}
use Rattle.sealing.specs.Seal.{jobs_on, sealed_file, length_on, length_cases, rest_cases, seal_cases, seal_of, Seals}
use Rattle.sealed_archives.specs.KeyLength.{ZeroMeans32, ShortForZero}
use Rattle.sealing.proofs.Ways.{key_file_short}

-- two calls on the same do the same
module _ (key_file tag_key sheet plain before : List ℕ) (a b : Answer) (left right : List ℕ) where
  alike : Seals key_file tag_key sheet plain before a left → Seals key_file tag_key sheet plain before b right → (a ≡ b) × (left ≡ right)
  alike l r =
      let same : a ≡ b = l.answered ∙ sym r.answered in
      (same, l.bytes ∙ ap (λ (x : Answer). written_for x (sealed_file key_file tag_key sheet plain) before) same ∙ sym r.bytes)

-- ---- 0 and 32

module _ (rest : List ℕ) where
  abbrev zero_on : List ℕ
  zero_on = 0 ∷ rest

  abbrev full_on : List ℕ
  full_on = 32 ∷ rest

  same_length : (layout : ℕ) → length_on layout zero_on ≡ length_on layout full_on
  unfolding length_on
  same_length layout =
      ap (λ (s : ℕ → ℕ). 20 + 16 * lines zero_on + s (lines zero_on) + tag_size layout) (same_sizes 0 32 rest)

  same_rest : (layout given room : ℕ) → rest_cases layout zero_on given room ≡ rest_cases layout full_on given room
  unfolding rest_cases
  same_rest layout given room =
      ap₂ (λ (c d : List Case). c ++ d) (same_cases 0 32 rest)
      (ap₂ (λ (whole size : ℕ). length_cases whole size given room) (same_length layout)
      (ap (λ (s : ℕ → ℕ). s (lines zero_on)) (same_sizes 0 32 rest)))

  same_front : sheet_cases zero_on ≡ sheet_cases full_on
  unfolding sheet_cases is_key_length good_key
  same_front = refl

  same_size : key_size_on zero_on ≡ key_size_on full_on
  unfolding key_size_of
  same_size = refl

  same_number : archive_number_on zero_on ≡ archive_number_on full_on
  unfolding archive_number_on
  same_number = refl

  same_jobs : (plain : List ℕ) → jobs_on zero_on plain ≡ jobs_on full_on plain
  unfolding jobs_on
  same_jobs plain =
      ap₂ (λ (l : ℕ → List ℕ) (s : ℕ → ℕ).
      values (λ (i : ℕ). record { number = take 8 (l i); body = take (be32 (l i) 8) (drop (s i) plain) }) (lines zero_on))
      (same_lines 0 32 rest) (same_sizes 0 32 rest)

  module _ (key_file tag_key : List ℕ) where
    same_sealing : (given room : ℕ) → seal_cases key_file tag_key zero_on given room ≡ seal_cases key_file tag_key full_on given room
    unfolding seal_cases
    same_sealing given room =
        rw (same_front, same_size, same_rest (layout_under tag_key) given room)

    same_answer : (given room : ℕ) → seal_of key_file tag_key zero_on given room ≡ seal_of key_file tag_key full_on given room
    same_answer given room =
        ap₂ (λ (c : List Case) (n : ℕ). answer (first_of c) n) (same_sealing given room) (same_length (layout_under tag_key))

    same_file : (plain : List ℕ) → sealed_file key_file tag_key zero_on plain ≡ sealed_file key_file tag_key full_on plain
    unfolding sealed_file
    same_file plain = rw (same_size, same_number, same_jobs plain)

pub zero_means_32 : ZeroMeans32
zero_means_32 key_file tag_key rest plain before a b left right l r =
    let moved : Seals key_file tag_key (32 ∷ rest) plain before a left =
    record {
      answered = l.answered ∙ same_answer rest key_file tag_key (length plain) (length before);
      bytes = l.bytes ∙ ap (λ (file : List ℕ). written_for a file before) (same_file rest key_file tag_key plain);
    } in
    alike key_file tag_key (32 ∷ rest) plain before a b left right moved r

-- ---- a short key file

passes : (rest : List ℕ) → is_length (length (0 ∷ rest)) ≡ true → first_of (sheet_cases (0 ∷ rest)) ≡ 0
unfolding sheet_cases is_key_length first_of
passes rest fits = rw fits

pub short_for_zero : ShortForZero
unfolding key_size_of
short_for_zero key_file tag_key rest plain before a after fits short s =
    alike key_file tag_key (0 ∷ rest) plain before a (refused 1) after before s
    (key_file_short key_file tag_key (0 ∷ rest) plain before (passes rest fits) short)
