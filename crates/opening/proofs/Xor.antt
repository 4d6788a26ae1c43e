-- Opening is exclusive-or with the keystream.
-- Assumes nothing.
use mathlib.Core.Path.{ap, ◌∙◌}
use Prim.Native.Nat.{ℕ}
use native.Mathlib.Nat.{zero-add}
use lib.ListN.{get_or}
use Rattle.blocks.specs.Xor.{◌⊕◌}
use Rattle.ctr.specs.Counter.{keystream}
use Rattle.ctr.proofs.Streams.{length_stream, stream_at, stream_twice}
use Rattle.opening.specs.Open.{prefix_of, under_keystream}
use Rattle.opening.specs.Xor.{OpeningXors}
use Rattle.opening.proofs.Opening.{range_plain}

pub opening_xors : OpeningXors
unfolding under_keystream
opening_xors s archive number bytes =
    let k : ℕ → ℕ = keystream s (prefix_of archive number) in
    record {
      size = length_stream k 0 bytes;
      byte = λ j l. stream_at k 0 bytes j l ∙ ap (λ (n : ℕ). get_or bytes j 0 ⊕ k n) (zero-add j);
      again = stream_twice k 0 bytes;
      range = range_plain s archive number bytes;
    }
