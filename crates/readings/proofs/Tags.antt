-- The tags of the sample archive's front hold of the definitions: one computed test.
-- Assumes nothing.
use mathlib.Core.Path.{◌≡◌, refl}
use mathlib.Core.Bool.{true}
use Rattle.refusals.specs.Shared.{good_key}
use Rattle.octets.specs.Equality.{same_bytes}
use Rattle.blocks.specs.Xor.{xor_block}
use Rattle.blocks.specs.Blocks.{block_of, row}
use Rattle.blocks.specs.Chains.{chained}
use Rattle.boxes.specs.Boxes.{s1, s2, s3, s4, boxes, box_by, box}
use Rattle.boxes.specs.Layers.{layer_from}
use Rattle.diffusion.specs.Diffusion.{rows, xor_at, by_rows, diffusion}
use Rattle.rotation.specs.Rotation.{followed_by, as_number, as_block, rotate_right, rotate_left}
use Rattle.circuit.specs.Circuit.{key_at, odd_round, even_round, last_round, rounds, circuit, aria}
use Rattle.expansion.specs.KeySchedule.{c1, c2, c3, constants_for, rounds_for, keys_for, words_by, words_of, four, encryption_keys}
use Rattle.expansion.specs.KeySchedule.{key_bytes, schedule_for, schedule_of}
use Rattle.subkeys.specs.Subkeys.{shifted_left, r128, doubled}
use Rattle.cmac.specs.Cmac.{last_block, mac_of}
use Rattle.cmac.specs.Tag.{tag_under}
use Rattle.readings.specs.Readings.{every}
use Rattle.readings.specs.Vectors.{rfc_key}
use Rattle.readings.specs.Sample.{sample_file}
use Rattle.readings.specs.Tags.{sample_tag, tag_readings}

pub tags_hold : every tag_readings ≡ true
unfolding every rfc_key sample_file sample_tag tag_readings good_key same_bytes xor_block block_of row chained
    s1 s2 s3 s4 boxes box_by box layer_from rows xor_at by_rows diffusion followed_by as_number as_block rotate_right rotate_left
    key_at odd_round even_round last_round rounds circuit aria
    c1 c2 c3 constants_for rounds_for keys_for words_by words_of four encryption_keys key_bytes schedule_for schedule_of
    shifted_left r128 doubled last_block mac_of tag_under
tags_hold = refl
