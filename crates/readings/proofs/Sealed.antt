-- Both samples sealed from their jobs, and sealing's refusals, come out of the definitions: two computed tests.
-- Assumes nothing.
use mathlib.Core.Path.{◌≡◌, refl}
use mathlib.Core.Bool.{true}
use Rattle.refusals.specs.Cases.{first_of, item_by_item}
use Rattle.refusals.specs.Shared.{good_key, tag_key_cases}
use Rattle.octets.specs.Equality.{same_bytes}
use Rattle.octets.specs.Below.{first_index, all_below}
use Rattle.blocks.specs.Xor.{xor_block}
use Rattle.blocks.specs.Blocks.{block_of, row}
use Rattle.blocks.specs.Chains.{chained}
use Rattle.boxes.specs.Boxes.{s1, s2, s3, s4, boxes, box_by, box}
use Rattle.boxes.specs.Layers.{layer_from}
use Rattle.diffusion.specs.Diffusion.{rows, xor_at, by_rows, diffusion}
use Rattle.rotation.specs.Rotation.{followed_by, as_number, as_block, rotate_right, rotate_left}
use Rattle.circuit.specs.Circuit.{key_at, odd_round, even_round, last_round, rounds, circuit, aria}
use Rattle.expansion.specs.KeySchedule.{c1, c2, c3, constants_for, rounds_for, keys_for}
use Rattle.expansion.specs.KeySchedule.{words_by, words_of, four, encryption_keys, key_bytes}
use Rattle.expansion.specs.KeySchedule.{schedule_for, schedule_of}
use Rattle.ctr.specs.Counter.{counter_block, keystream, add_stream}
use Rattle.subkeys.specs.Subkeys.{shifted_left, r128, doubled}
use Rattle.cmac.specs.Cmac.{last_block, mac_of}
use Rattle.cmac.specs.Tag.{tag_under}
use Rattle.header.specs.Fields.{layout_under, tag_size, count_of, archive_number, directory_of}
use Rattle.directory.specs.Entries.{entry_at}
use Rattle.jobnumber.specs.Number.{digits, century_of, serial_of, order_of}
use Rattle.jobnumber.specs.Ascending.{ascends_in}
use Rattle.directory.specs.Search.{bears, above, ends_at, stop_of, index_of}
use Rattle.bodies.specs.Bodies.{body_at}
use Rattle.admission.specs.Check.{key_check, tag_bytes}
use Rattle.opening.specs.Open.{prefix_of, under_keystream}
use Rattle.codec.specs.Jobs.{entry_of, directory_from, bodies_in}
use Rattle.codec.specs.Archive.{whole_length, header_of, front_of, archive_of}
use Rattle.sheet.specs.Sheet.{key_size_of, archive_number_on, line_at, sizes_on}
use Rattle.sheet.specs.Cases.{is_length, is_key_length, sheet_cases, line_cases, lines_cases}
use Rattle.sealing.specs.Seal.{jobs_on, seal_jobs, sealed_file, length_on, key_file_cases, length_cases, rest_cases, seal_cases}
use Rattle.sealing.specs.OwnJobs.{sheet_of, plains_of}
use Rattle.readings.specs.Readings.{every}
use Rattle.readings.specs.Vectors.{rfc_key}
use Rattle.readings.specs.Sample.{sample_file, sample_plain, gave, refused_by}
use Rattle.readings.specs.Tagged.{tagged_file, sample_tag_key}
use Rattle.readings.specs.Sealed.{sample_sheet, sample_under32, SamplesSealed, swapped_sheet, sheet_with, seal_readings}

pub samples_sealed : SamplesSealed
unfolding rfc_key sample_file sample_plain tagged_file sample_tag_key sample_sheet sample_under32
    xor_block block_of row chained
    s1 s2 s3 s4 boxes box_by box layer_from rows xor_at by_rows diffusion followed_by as_number as_block rotate_right rotate_left
    key_at odd_round even_round last_round rounds circuit aria
    c1 c2 c3 constants_for rounds_for keys_for words_by words_of four encryption_keys key_bytes schedule_for schedule_of
    counter_block keystream add_stream key_check tag_bytes prefix_of under_keystream
    entry_of directory_from bodies_in whole_length header_of front_of archive_of archive_number_on jobs_on seal_jobs sealed_file
    same_bytes first_index count_of archive_number directory_of entry_at bears above ends_at stop_of index_of body_at sheet_of plains_of
    shifted_left r128 doubled last_block mac_of tag_under
    first_of item_by_item good_key tag_key_cases all_below layout_under tag_size digits century_of serial_of order_of ascends_in
    key_size_of line_at sizes_on is_length is_key_length sheet_cases line_cases lines_cases length_on key_file_cases length_cases rest_cases
    seal_cases
samples_sealed =
    record {
      sample = record { bytes = refl; answered = refl; own_sheet = refl; own_plain = refl };
      tagged = record { bytes = refl; answered = refl; own_sheet = refl; own_plain = refl };
      front = record { bytes = refl; answered = refl; own_sheet = refl; own_plain = refl };
      key_0 = record { bytes = refl; answered = refl; own_sheet = refl; own_plain = refl };
    }

pub seal_holds : every seal_readings ≡ true
unfolding every gave refused_by rfc_key sample_tag_key sample_sheet swapped_sheet sheet_with seal_readings
    first_of item_by_item good_key tag_key_cases all_below layout_under tag_size digits century_of serial_of order_of ascends_in
    key_size_of line_at sizes_on is_length is_key_length sheet_cases line_cases lines_cases length_on key_file_cases length_cases rest_cases
    seal_cases
seal_holds = refl
