-- The readings of 01 marked P, and those of the order of years, hold: one computed test over the list of them.
-- Assumes nothing.
use mathlib.Core.Path.{◌≡◌, refl}
use mathlib.Core.Bool.{true}
use Rattle.refusals.specs.Cases.{first_of}
use Rattle.refusals.specs.Shared.{good_key, key_cases, direction_cases, good_rounds, rounds_cases, whole_cases}
use Rattle.octets.specs.Equality.{same_bytes}
use Rattle.boxes.specs.Boxes.{s1, s2, s3, boxes, box_by, box}
use Rattle.diffusion.specs.Diffusion.{rows, xor_at, by_rows, diffusion}
use Rattle.rotation.specs.Rotation.{followed_by, as_number, as_block, rotate_right, rotate_left}
use Rattle.circuit.specs.Run.{run_cases}
use Rattle.keyed.specs.KeyRun.{key_run_cases}
use Rattle.ctr.specs.Counter.{counter_block}
use Rattle.header.specs.Fields.{archive_number}
use Rattle.jobnumber.specs.Number.{century_of, serial_of, order_of}
use Rattle.opening.specs.Open.{prefix_of}
use Rattle.readings.specs.Readings.{every, among, block_with, archive7, job24000017, readings, box_readings}
use Rattle.readings.specs.Readings.{diffusion_readings, equal_bytes_readings, rotation_readings, counter_readings, run_readings}
use Rattle.readings.specs.Readings.{key_run_readings, key_readings, job97000004, job05000001, order_readings}

pub readings_hold : every readings ≡ true
unfolding every among block_with readings box_readings diffusion_readings equal_bytes_readings rotation_readings archive7 job24000017
    counter_readings run_readings key_run_readings key_readings job97000004 job05000001 order_readings century_of serial_of order_of
    first_of good_key key_cases direction_cases good_rounds rounds_cases whole_cases same_bytes
    s1 s2 s3 boxes box_by box rows xor_at by_rows diffusion followed_by as_number as_block rotate_right rotate_left
    run_cases key_run_cases counter_block archive_number prefix_of
readings_hold = refl
