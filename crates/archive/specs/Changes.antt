-- What the tag of an archive (02, d) tells of a changed byte: every file that differs in one byte from an accepted archive with a tag is
-- refused under the same keys. The theorem is `one_byte_changed` of proofs/Changes.
-- Assumes nothing.
use Rattle.std.specs.Prelude.{◌≡◌, List, ℕ, ◌<◌, length, get_or, set}
use Rattle.refusals.specs.Answers.{gives}
use Rattle.archive.specs.Check.{check_of}

-- were the file accepted with byte i set to b too, the byte would be b already
abbrev pub OneByteChanged : Type 0
OneByteChanged = (key tag_key file : List ℕ) (n m i b : ℕ) → (length tag_key ≡ 0 → ⊥) → check_of key tag_key file ≡ gives n
    → i < length file
    → check_of key tag_key (set file i b) ≡ gives m → b ≡ get_or file i 0
