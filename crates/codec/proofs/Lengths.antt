-- How long the parts are that the keys make: the key check, and the tag, which has no bytes without a tag key.
-- Assumes nothing.
use mathlib.Core.Path.{◌≡◌, refl}
use mathlib.Core.Bool.{Bool, true, false, cond}
use mathlib.Core.List.{List, []}
use Prim.Native.Nat.{ℕ}
use native.Mathlib.Omega.{arith}
use lib.Dec.{eqb}
use lib.ListN.{length, replicate}
use lib.Seq.{length-take-le}
use Rattle.circuit.specs.Run.{encrypted}
use Rattle.circuit.specs.declared.Schedule.{Schedule}
use Rattle.circuit.proofs.Runs.{length_encrypted}
use Rattle.expansion.specs.KeySchedule.{schedule_of}
use Rattle.cmac.specs.Tag.{tag_under}
use Rattle.cmac.proofs.Laws as cmac
use Rattle.header.specs.Fields.{layout_under, tag_size}
use Rattle.admission.specs.Check.{key_check, tag_bytes}

pub check_length : (s : Schedule) → length (key_check s) ≡ 8
unfolding key_check
check_length s =
    let sixteen : length (encrypted s (replicate 16 255)) ≡ 16 = length_encrypted s (replicate 16 255) refl in
    length-take-le 8 (encrypted s (replicate 16 255)) (omega arith)

pub tag_length : (tag_key bytes : List ℕ) → length (tag_bytes tag_key bytes) ≡ tag_size (layout_under tag_key)
unfolding tag_bytes layout_under tag_size
tag_length tag_key bytes = by_test (eqb (length tag_key) 0)
  where
    by_test : (none : Bool) → length (cond none [] (tag_under (schedule_of tag_key) bytes)) ≡ tag_size (cond none 1 2)
    by_test true = refl
    by_test false = cmac.tag_size_lem (schedule_of tag_key) bytes
