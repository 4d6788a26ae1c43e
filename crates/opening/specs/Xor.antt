-- What opening is to the bytes, as a statement; the theorem is `opening_xors` of proofs/Xor.
-- Assumes nothing.
use Rattle.std.specs.Prelude.{◌≡◌, List, ℕ, ◌<◌, length, get_or}
use Rattle.blocks.specs.Xor.{◌⊕◌}
use Rattle.circuit.specs.declared.Schedule.{Schedule}
use Rattle.ctr.specs.Counter.{keystream, add_stream}
use Rattle.opening.specs.Open.{prefix_of, under_keystream, range_of}

-- opening is exclusive-or with the keystream, so that doing it again gives the bytes again; there are as many plain bytes as sealed ones,
-- and a range of them is that range of the sealed ones, xor the keystream at its places: no other byte of either is needed
pub record OpeningXor (s : Schedule) (archive number bytes : List ℕ) : Type 0 where
  pub size : length (under_keystream s archive number bytes) ≡ length bytes
  pub byte : (j : ℕ) → j < length bytes
      → get_or (under_keystream s archive number bytes) j 0 ≡ get_or bytes j 0 ⊕ keystream s (prefix_of archive number) j
  pub again : under_keystream s archive number (under_keystream s archive number bytes) ≡ bytes
  pub range : (first count : ℕ) → range_of first count (under_keystream s archive number bytes)
      ≡ add_stream (keystream s (prefix_of archive number)) first (range_of first count bytes)

abbrev pub OpeningXors : Type 0
OpeningXors = (s : Schedule) (archive number bytes : List ℕ) → OpeningXor s archive number bytes
