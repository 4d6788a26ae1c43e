-- The previews of dropping, their texts and their refusals come out of the definitions: two tests.
-- Assumes nothing.
use mathlib.Core.Path.{◌≡◌, refl}
use mathlib.Core.Bool.{true}
use Rattle.refusals.specs.Cases.{first_of, item_by_item}
use Rattle.refusals.specs.Shared.{good_key, key_cases, tag_key_cases}
use Rattle.octets.specs.Equality.{same_bytes}
use Rattle.octets.specs.Below.{first_index, all_below}
use Rattle.blocks.specs.Xor.{xor_block}
use Rattle.blocks.specs.Blocks.{block_of, row}
use Rattle.blocks.specs.Chains.{chained}
use Rattle.boxes.specs.Boxes.{s1, s2, s3, s4, boxes, box_by, box}
use Rattle.boxes.specs.Layers.{layer_from}
use Rattle.diffusion.specs.Diffusion.{rows, xor_at, by_rows, diffusion}
use Rattle.rotation.specs.Rotation.{followed_by, as_number, as_block, rotate_right, rotate_left}
use Rattle.circuit.specs.Circuit.{key_at, odd_round, even_round, last_round, rounds, circuit, aria}
use Rattle.expansion.specs.KeySchedule.{c1, c2, c3, constants_for, rounds_for, keys_for}
use Rattle.expansion.specs.KeySchedule.{words_by, words_of, four, encryption_keys, key_bytes}
use Rattle.expansion.specs.KeySchedule.{schedule_for, schedule_of}
use Rattle.subkeys.specs.Subkeys.{shifted_left, r128, doubled}
use Rattle.cmac.specs.Cmac.{last_block, mac_of}
use Rattle.cmac.specs.Tag.{tag_under}
use Rattle.header.specs.Fields.{is_layout, layout_under, tag_size, count_of, archive_number, directory_of, tag_of, tagged_of}
use Rattle.header.specs.Cases.{front_cases, field_cases, header_cases}
use Rattle.directory.specs.Entries.{entry_at}
use Rattle.jobnumber.specs.Number.{digits, is_job_number, century_of, serial_of, order_of}
use Rattle.jobnumber.specs.Ascending.{ascends_in}
use Rattle.directory.specs.Check.{body_from, entry_cases_by, rest_cases, directory_cases_by}
use Rattle.directory.specs.Search.{bears, above, ends_at, stop_of, index_of, search_cases}
use Rattle.bodies.specs.Bodies.{body_at, number_cases}
use Rattle.admission.specs.Check.{key_check, tag_bytes, wrong_tag_cases, file_cases_by, under_key_cases_by, check_cases_by}
use Rattle.opening.specs.Open.{room_cases}
use Rattle.codec.specs.Jobs.{entry_of, directory_from, bodies_in}
use Rattle.codec.specs.Archive.{jobs_of, whole_length, header_of, front_of, archive_of}
use Rattle.joblist.specs.List.{listed, is_listed, list_cases}
use Rattle.dropping.specs.Drop.{without, dropped_file, asked_cases, drop_cases}
use Rattle.dropping.specs.Preview.{directory_left, preview_cases}
use Rattle.decimal.specs.Decimal.{digits_in, decimal_digits}
use Rattle.listing.specs.Text.{field, number_line, job_line, job_lines, text_of}
use Rattle.preview_listing.specs.Text.{preview_text}
use Rattle.readings.specs.Readings.{every, job24000017}
use Rattle.readings.specs.Vectors.{rfc_key}
use Rattle.readings.specs.Sample.{sample_file, gave, refused_by}
use Rattle.readings.specs.Tagged.{tagged_file, sample_tag_key}
use Rattle.readings.specs.Dropped.{job24000018, missing_job, no_job_number, sample_less, sample_last, three_jobs, three_less}
use Rattle.readings.specs.Previewed.{text_less, text_missing, SamplesPreviewed, preview_readings}

pub samples_previewed : SamplesPreviewed
unfolding sample_last three_jobs three_less job24000017 rfc_key sample_file tagged_file sample_tag_key first_of item_by_item good_key
    key_cases
    tag_key_cases same_bytes first_index all_below xor_block block_of row s1 s2 s3 s4 boxes box_by box layer_from rows xor_at by_rows
    diffusion
    followed_by as_number as_block rotate_right rotate_left key_at odd_round even_round last_round rounds circuit aria c1 c2 c3
    constants_for
    rounds_for keys_for words_by words_of four encryption_keys key_bytes schedule_for schedule_of is_layout layout_under tag_size count_of
    archive_number directory_of tag_of tagged_of front_cases field_cases header_cases entry_at digits is_job_number century_of serial_of
    order_of
    body_from ascends_in entry_cases_by rest_cases directory_cases_by bears above ends_at stop_of index_of search_cases key_check tag_bytes
    wrong_tag_cases file_cases_by under_key_cases_by check_cases_by body_at number_cases room_cases chained shifted_left r128 doubled
    last_block mac_of
    tag_under entry_of directory_from bodies_in jobs_of whole_length header_of front_of archive_of listed is_listed list_cases without
    dropped_file
    asked_cases drop_cases job24000018 sample_less missing_job directory_left preview_cases digits_in decimal_digits field number_line
    job_line
    job_lines text_of preview_text text_less text_missing
samples_previewed = record {
  sample = record { counted = refl; sized = refl; listed = refl };
  tagged = record { counted = refl; sized = refl; listed = refl };
  first = record { counted = refl; sized = refl; listed = refl };
  middle = record { counted = refl; sized = refl; listed = refl };
  all = record { counted = refl; sized = refl; listed = refl };
  tagged_all = record { counted = refl; sized = refl; listed = refl };
  none = record { counted = refl; sized = refl; listed = refl };
  text = refl;
  tagged_text = refl;
  missing = refl;
}

pub preview_holds : every preview_readings ≡ true
unfolding every preview_readings job24000017 rfc_key sample_file tagged_file sample_tag_key first_of item_by_item good_key key_cases
    tag_key_cases
    same_bytes first_index all_below xor_block block_of row s1 s2 s3 s4 boxes box_by box layer_from rows xor_at by_rows diffusion
    followed_by
    as_number as_block rotate_right rotate_left key_at odd_round even_round last_round rounds circuit aria c1 c2 c3 constants_for rounds_for
    keys_for words_by words_of four encryption_keys key_bytes schedule_for schedule_of is_layout layout_under tag_size count_of
    archive_number
    directory_of tag_of tagged_of front_cases field_cases header_cases entry_at digits is_job_number century_of serial_of order_of body_from
    ascends_in
    entry_cases_by rest_cases directory_cases_by bears above ends_at stop_of index_of search_cases key_check tag_bytes wrong_tag_cases
    file_cases_by
    under_key_cases_by check_cases_by body_at number_cases room_cases chained shifted_left r128 doubled last_block mac_of tag_under entry_of
    directory_from bodies_in jobs_of whole_length header_of front_of archive_of listed is_listed list_cases without dropped_file asked_cases
    drop_cases job24000018 missing_job no_job_number refused_by directory_left preview_cases
preview_holds = refl
