-- RFC 5794's vectors hold of the definitions: one computed test.
-- Assumes nothing.
use mathlib.Core.Path.{◌≡◌, refl}
use mathlib.Core.Bool.{true}
use Rattle.refusals.specs.Shared.{good_key, good_rounds}
use Rattle.octets.specs.Equality.{same_bytes}
use Rattle.blocks.specs.Xor.{xor_block}
use Rattle.blocks.specs.Blocks.{block_of, row}
use Rattle.boxes.specs.Boxes.{s1, s2, s3, s4, boxes, box_by, box}
use Rattle.boxes.specs.Layers.{layer_from}
use Rattle.diffusion.specs.Diffusion.{rows, xor_at, by_rows, diffusion}
use Rattle.rotation.specs.Rotation.{followed_by, as_number, as_block, rotate_right, rotate_left}
use Rattle.circuit.specs.Circuit.{key_at, odd_round, even_round, last_round, rounds, circuit, aria}
use Rattle.expansion.specs.KeySchedule.{c1, c2, c3, constants_for, rounds_for, keys_for, words_by, words_of, four, encryption_keys}
use Rattle.expansion.specs.KeySchedule.{key_bytes, schedule_for, schedule_of}
use Rattle.expansion.specs.Decryption.{decryption_key, decryption_keys, decryption_of}
use Rattle.readings.specs.Readings.{every}
use Rattle.readings.specs.Vectors.{rfc_key, rfc_plain, rfc_sealed16, rfc_sealed24, rfc_sealed32, rfc_vector, rfc_vectors}

pub rfc_vectors_hold : every rfc_vectors ≡ true
unfolding every rfc_key rfc_plain rfc_sealed16 rfc_sealed24 rfc_sealed32 rfc_vector rfc_vectors good_key good_rounds same_bytes xor_block
    block_of row
    s1 s2 s3 s4 boxes box_by box layer_from rows xor_at by_rows diffusion followed_by as_number as_block rotate_right rotate_left
    key_at odd_round even_round last_round rounds circuit aria
    c1 c2 c3 constants_for rounds_for keys_for words_by words_of four encryption_keys key_bytes schedule_for schedule_of
    decryption_key decryption_keys decryption_of
rfc_vectors_hold = refl
