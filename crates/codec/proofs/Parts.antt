-- An entry and a header, part by part: what is written into each part is read back, and an entry or a header is what its parts say.
-- Assumes nothing.
use mathlib.Core.Path.{◌≡◌, refl, sym, ap, ◌∙◌}
use mathlib.Core.List.{List, [], ◌∷◌, ◌++◌, append_assoc}
use Prim.Native.Nat.{ℕ, suc, ◌+◌, ◌<◌, ◌≤◌}
use native.Mathlib.Omega.{arith}
use lib.ListN.{length, get_or, take, drop, length-append}
use lib.Seq.{take_at, drop_at, take_all, drop-drop}
use Rattle.octets.specs.Numbers.{be32, bytes16, bytes32, Octets}
use Rattle.octets.proofs.Numbers.{read16, read32, be32_at, next, written16, written32}
use Rattle.octets.proofs.Rows.{join, middle, joined}
use Rattle.header.specs.Fields.{layout_of, key_length_of, count_of, archive_number, key_check_of, length_of}
use Rattle.directory.specs.Entries.{number_of, start_of, size_of}
use Rattle.codec.specs.Jobs.{entry_of}
use Rattle.codec.specs.Archive.{header_of}

-- ---- an entry

module _ (number : List ℕ) (start size : ℕ) (eight : length number ≡ 8) where
  pub entry_number : number_of (entry_of number start size) ≡ number
  unfolding entry_of
  entry_number = take_at number _ 8 eight

  after : drop 8 (entry_of number start size) ≡ bytes32 start ++ bytes32 size
  unfolding entry_of
  after = drop_at number _ 8 eight

  pub entry_start : start < 4294967296 → start_of (entry_of number start size) ≡ start
  entry_start l = be32_at (entry_of number start size) 8 ∙ ap (λ (s : List ℕ). be32 s 0) after ∙ read32 start (bytes32 size) l

  pub entry_size : size < 4294967296 → size_of (entry_of number start size) ≡ size
  entry_size l =
      be32_at (entry_of number start size) 12
      ∙ ap (λ (s : List ℕ). be32 s 0) (sym (drop-drop 4 8 (entry_of number start size)) ∙ ap (drop 4) after)
      ∙ read32 size [] l

pub entry_again : (e number : List ℕ) (start size : ℕ) → length e ≡ 16 → Octets e → number ≡ number_of e → start ≡ start_of e
    → size ≡ size_of e → entry_of number start size ≡ e
unfolding entry_of
entry_again e number start size l octets n s z =
    join n
    (join (ap bytes32 s ∙ written32 e octets 8 (omega arith)) (ap bytes32 z ∙ written32 e octets 12 (omega arith))
    ∙ joined e 8 4 4)
    ∙ joined e 0 8 8
    ∙ take_all 16 e (omega arith)

-- ---- a header

pub record HeaderSays (layout keysize count : ℕ) (number check : List ℕ) (whole : ℕ) (file : List ℕ) : Type 0 where
  pub laid : layout_of file ≡ layout
  pub keyed : key_length_of file ≡ keysize
  pub counted : count_of file ≡ count
  pub named : archive_number file ≡ number
  pub checked : key_check_of file ≡ check
  pub stated : length_of file ≡ whole

module _ (layout keysize count : ℕ) (number check : List ℕ) (whole : ℕ) where
  module _ (four : length number ≡ 4) (eight : length check ≡ 8) where
    pub header_length : length (header_of layout keysize count number check whole) ≡ 20
    unfolding header_of
    header_length = simp (length-append, eight, four)

    -- a file that begins with it says so
    module _ (rest : List ℕ) where
      abbrev file : List ℕ
      file = header_of layout keysize count number check whole ++ rest

      pub header_reads : count < 65536 → whole < 4294967296 → HeaderSays layout keysize count number check whole file
      unfolding header_of count_of archive_number
      header_reads few small =
          let tail : List ℕ = bytes32 whole ++ rest in
          let last : drop 16 file ≡ tail =
          simp append_assoc
          (sym (drop-drop 8 4 (number ++ (check ++ tail)))
          ∙ ap (drop 8) (drop_at number (check ++ tail) 4 four)
          ∙ drop_at check tail 8 eight)
          in
          record {
            laid = refl;
            keyed = refl;
            counted = read16 count [] few;
            named = simp append_assoc (take_at number (check ++ tail) 4 four);
            checked = simp append_assoc (middle number check tail 4 8 four eight);
            stated = be32_at file 16 ∙ ap (λ (s : List ℕ). be32 s 0) last ∙ read32 whole rest small;
          }

  -- a header is what it says
  pub header_again : (file : List ℕ) → 20 ≤ length file → Octets file → HeaderSays layout keysize count number check whole file
      → header_of layout keysize count number check whole ≡ take 20 file
  unfolding header_of count_of archive_number
  header_again file l octets says =
      let byte : (i : ℕ) → i < 20 → get_or file i 0 ∷ [] ≡ take 1 (drop i file) =
      λ i m. sym (next file 0 i (suc i) refl (omega arith))
      in
      join (ap (λ (x : ℕ). x ∷ []) (sym says.laid) ∙ byte 0 (omega arith))
      (join (ap (λ (x : ℕ). x ∷ []) (sym says.keyed) ∙ byte 1 (omega arith))
      (join (ap bytes16 (sym says.counted) ∙ written16 file octets 2 (omega arith))
      (join (sym says.named)
      (join (sym says.checked) (ap bytes32 (sym says.stated) ∙ written32 file octets 16 (omega arith))
      ∙ joined file 8 8 4)
      ∙ joined file 4 4 12)
      ∙ joined file 2 2 16)
      ∙ joined file 1 1 18)
      ∙ joined file 0 1 19
