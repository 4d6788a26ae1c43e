-- The readings of 01, Plate readings, that are marked P, which means to be proved, and those of the order that 02, e, asks for: tests of
-- the very definitions that the contracts cite, in one list.
-- Blocks are compared whole. `every readings` is the one theorem of proofs/Readings.
-- Assumes nothing.
use Rattle.std.specs.Prelude.{Bool, true, false, cond, ◌&&◌, ◌||◌, List, [], ◌∷◌, ◌++◌, ℕ, ltb, eqb, replicate}
use Rattle.refusals.specs.Cases.{first_of}
use Rattle.refusals.specs.Shared.{key_cases}
use Rattle.octets.specs.Equality.{same_bytes}
use Rattle.octets.specs.Tables.{values}
use Rattle.boxes.specs.Boxes.{box}
use Rattle.diffusion.specs.Diffusion.{diffusion}
use Rattle.rotation.specs.Rotation.{as_number, ◌>>>◌, ◌<<<◌}
use Rattle.circuit.specs.Run.{run_number}
use Rattle.keyed.specs.KeyRun.{key_run_number}
use Rattle.ctr.specs.Counter.{counter_block}
use Rattle.header.specs.Fields.{archive_number}
use Rattle.jobnumber.specs.Number.{order_of}
use Rattle.opening.specs.Open.{prefix_of}

-- every test of a list passes
unfoldable pub every : List Bool → Bool
every [] = true
every (t ∷ ts) = t && every ts

-- j is among the positions
unfoldable pub among : List ℕ → ℕ → Bool
among [] j = false
among (p ∷ ps) j = eqb p j || among ps j

-- the block with byte x at the positions ps, zero bytes at the others
unfoldable pub block_with : ℕ → List ℕ → List ℕ
block_with x ps = values (λ (j : ℕ). cond (among ps j) x 0x00) 16

-- "S1 of `00` is `63`, of `53` is `ed`; S3 of `63` is `00`; S2 of `00` is `e2`": box b is S(b + 1)
unfoldable pub box_readings : List Bool
box_readings = eqb (box 0 0x00) 0x63 ∷ eqb (box 0 0x53) 0xed ∷ eqb (box 2 0x63) 0x00 ∷ eqb (box 1 0x00) 0xe2 ∷ []

-- "A of byte 0 = `01`, rest zero: `01` at 3 4 6 8 9 13 14"; "A of bytes 0 and 5 = `01`: `01` at 1 6 8 10 13 15"
unfoldable pub diffusion_readings : List Bool
diffusion_readings =
    same_bytes (diffusion (block_with 0x01 (0 ∷ []))) (block_with 0x01 (3 ∷ 4 ∷ 6 ∷ 8 ∷ 9 ∷ 13 ∷ 14 ∷ []))
    ∷ same_bytes (diffusion (block_with 0x01 (0 ∷ 5 ∷ []))) (block_with 0x01 (1 ∷ 6 ∷ 8 ∷ 10 ∷ 13 ∷ 15 ∷ []))
    ∷ []

-- "A leaves sixteen equal bytes unchanged", at each of the 256 bytes
unfoldable pub equal_bytes_readings : List Bool
equal_bytes_readings = values (λ (x : ℕ). same_bytes (diffusion (replicate 16 x)) (replicate 16 x)) 256

-- "The number 1 rotated right by 19: byte 2 is `20`. Left by 61: byte 8 is `20`"
unfoldable pub rotation_readings : List Bool
rotation_readings =
    eqb (as_number (block_with 0x01 (15 ∷ []))) 1
    ∷ same_bytes (block_with 0x01 (15 ∷ []) >>> 19) (block_with 0x20 (2 ∷ []))
    ∷ same_bytes (block_with 0x01 (15 ∷ []) <<< 61) (block_with 0x20 (8 ∷ []))
    ∷ []

-- the header of archive 7, as far as its number; the digits of job 24000017
unfoldable pub archive7 : List ℕ
archive7 = 0x01 ∷ 0x10 ∷ 0x00 ∷ 0x01 ∷ 0x00 ∷ 0x00 ∷ 0x00 ∷ 0x07 ∷ []

unfoldable pub job24000017 : List ℕ
job24000017 = 0x32 ∷ 0x34 ∷ 0x30 ∷ 0x30 ∷ 0x30 ∷ 0x30 ∷ 0x31 ∷ 0x37 ∷ []

-- "Counter block 0 of job 24000017, archive 7: `00000007323430303030313700000000`"
unfoldable pub counter_readings : List Bool
counter_readings =
    same_bytes (counter_block (prefix_of (archive_number archive7) job24000017) 0)
    (0x00 ∷ 0x00 ∷ 0x00 ∷ 0x07 ∷ 0x32 ∷ 0x34 ∷ 0x30 ∷ 0x30 ∷ 0x30 ∷ 0x30 ∷ 0x31 ∷ 0x37 ∷ 0x00 ∷ 0x00 ∷ 0x00 ∷ 0x00 ∷ [])
    ∷ []

-- "A run of 0 bytes is accepted; 8 bytes: 4", under a schedule of each round count
unfoldable pub run_readings : List Bool
run_readings =
    eqb (run_number 12 0) 0
    ∷ eqb (run_number 14 0) 0
    ∷ eqb (run_number 16 0) 0
    ∷ eqb (run_number 12 8) 4
    ∷ eqb (run_number 14 8) 4
    ∷ eqb (run_number 16 8) 4
    ∷ []

-- the same under a key of each length, forward and back
unfoldable pub key_run_readings : List Bool
key_run_readings =
    eqb (key_run_number 16 0 0) 0
    ∷ eqb (key_run_number 24 0 0) 0
    ∷ eqb (key_run_number 32 0 0) 0
    ∷ eqb (key_run_number 16 1 0) 0
    ∷ eqb (key_run_number 24 1 0) 0
    ∷ eqb (key_run_number 32 1 0) 0
    ∷ eqb (key_run_number 16 0 8) 4
    ∷ eqb (key_run_number 24 0 8) 4
    ∷ eqb (key_run_number 32 0 8) 4
    ∷ eqb (key_run_number 16 1 8) 4
    ∷ eqb (key_run_number 24 1 8) 4
    ∷ eqb (key_run_number 32 1 8) 4
    ∷ []

-- "Keys of 15 and 17 bytes: 1", in key preparation, and in a run of 0, 8 or 16 bytes, forward and back
unfoldable pub key_readings : List Bool
key_readings =
    eqb (first_of (key_cases 15)) 1
    ∷ eqb (first_of (key_cases 17)) 1
    ∷ eqb (key_run_number 15 0 0) 1
    ∷ eqb (key_run_number 17 0 0) 1
    ∷ eqb (key_run_number 15 1 8) 1
    ∷ eqb (key_run_number 17 1 8) 1
    ∷ eqb (key_run_number 15 0 16) 1
    ∷ eqb (key_run_number 17 0 16) 1
    ∷ []

-- "97000004 must stand before 05000001"
unfoldable pub job97000004 : List ℕ
job97000004 = 0x39 ∷ 0x37 ∷ 0x30 ∷ 0x30 ∷ 0x30 ∷ 0x30 ∷ 0x30 ∷ 0x34 ∷ []

unfoldable pub job05000001 : List ℕ
job05000001 = 0x30 ∷ 0x35 ∷ 0x30 ∷ 0x30 ∷ 0x30 ∷ 0x30 ∷ 0x30 ∷ 0x31 ∷ []

-- and "70 to 99 as 1970 to 1999 and 00 to 69 as 2000 to 2069", at the first and the last job number of each span
unfoldable pub order_readings : List Bool
order_readings =
    ltb (order_of job97000004) (order_of job05000001)
    ∷ eqb (order_of job97000004) 1997000004
    ∷ eqb (order_of job05000001) 2005000001
    ∷ eqb (order_of (0x37 ∷ replicate 7 0x30)) 1970000000
    ∷ eqb (order_of (replicate 8 0x39)) 1999999999
    ∷ eqb (order_of (replicate 8 0x30)) 2000000000
    ∷ eqb (order_of (0x36 ∷ replicate 7 0x39)) 2069999999
    ∷ []

-- all of them; the longest group last, so that a refused computation shows which value it came to
unfoldable pub readings : List Bool
readings =
    box_readings
    ++ (diffusion_readings
    ++ (rotation_readings
    ++ (counter_readings ++ (run_readings ++ (key_run_readings ++ (key_readings ++ (order_readings ++ equal_bytes_readings)))))))
