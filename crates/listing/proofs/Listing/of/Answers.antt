-- `listing::Listing::of` meets its contract: the bytes over the front of zeros.
use mathlib.Core.Path.{refl, ap}
use Prim.Native.Nat.{◌≤◌}
use native.Mathlib.Omega.{arith}
use lib.ListN.{length, take, length-take}
use Rattle.listing.proofs.Fits.{over_zeros, held_as}
use Rattle.listing.proofs.Listing.of.Goals as goal

pub returns : goal.returns
returns c =
    let front = c.part-front.ensures.bytes in
    let cut : length (take 1352 c.args.bytes.now) ≤ 1352 = simp length-take (omega arith) in
    let short : length c.part-front.result.now ≤ 1352 = omega (arith, ap length front, cut) in
    held_as front (over_zeros c.part-front.result.now _ short refl c.copy.ensures)
