-- What a tag tells of a changed block: the cipher is one-to-one, so messages of one length that differ within one block have different
-- tags. The theorem is `one_block_changed` of proofs/Changes.
-- Assumes nothing.
use Rattle.std.specs.Prelude.{◌≡◌, true, List, ℕ, suc, ◌*◌, length, take, drop}
use Rattle.refusals.specs.Shared.{good_rounds}
use Rattle.circuit.specs.declared.Schedule.{Schedule}
use Rattle.cmac.specs.Tag.{tag_under}

-- two messages are of one length, and the same outside block k, the sixteen bytes from 16 * k on
pub record SameOutside (k : ℕ) (m n : List ℕ) : Type 0 where
  pub size : length m ≡ length n
  pub before : take (16 * k) m ≡ take (16 * k) n
  pub behind : drop (16 * suc k) m ≡ drop (16 * suc k) n

-- messages that differ within one block have different tags
abbrev pub OneBlock : Type 0
OneBlock = (s : Schedule) → good_rounds s.rounds ≡ true → (k : ℕ) (m n : List ℕ) → SameOutside k m n → tag_under s m ≡ tag_under s n
    → m ≡ n
