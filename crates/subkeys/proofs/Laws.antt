-- What specs/Laws claims of the subkey rule holds.
-- Assumes nothing.
use mathlib.Core.Path.{◌≡◌, refl, ap, ◌∙◌}
use mathlib.Core.List.{List, [], ◌∷◌}
use Prim.Native.Nat.{ℕ, zero, suc, ◌+◌, ◌*◌, ◌/◌, ◌%◌, ◌<◌}
use native.Mathlib.Omega.{arith}
use lib.ListN.{get_or}
use Rattle.octets.specs.Numbers.{Octets}
use Rattle.blocks.specs.Xor.{xor_block}
use Rattle.rotation.specs.Rotation.{followed_by, as_number}
use Rattle.subkeys.specs.Subkeys.{shifted_left, r128, doubled}
use Rattle.subkeys.specs.Laws.{ShiftDoubles, SubkeyExamples}

-- byte by byte: what has been read, with the bit that the next byte passes on
shift_from : (n : ℕ) (b : List ℕ) → Octets b → followed_by (n * 2 + get_or b 0 0 / 128) (shifted_left b) ≡ followed_by n b * 2
unfolding followed_by shifted_left
shift_from n [] o = omega arith
shift_from n (x ∷ b) o =
    let byte : x < 256 = o zero in
    let sum : (n * 2 + x / 128) * 256 + (x * 2 % 256 + get_or b 0 0 / 128) ≡ (n * 256 + x) * 2 + get_or b 0 0 / 128 = omega arith in
    ap (λ (m : ℕ). followed_by m (shifted_left b)) sum ∙ shift_from (n * 256 + x) b (λ j. o (suc j))

pub shift_doubles : ShiftDoubles
unfolding as_number
shift_doubles b o =
    let none : get_or b 0 0 / 128 ≡ 0 * 2 + get_or b 0 0 / 128 = omega arith in
    ap (λ (m : ℕ). followed_by m (shifted_left b)) none ∙ shift_from 0 b o

pub subkey_examples : SubkeyExamples
unfolding doubled shifted_left r128 xor_block
subkey_examples =
    record { k1_128 = refl; k2_128 = refl; k1_192 = refl; k2_192 = refl; k1_256 = refl; k2_256 = refl }
