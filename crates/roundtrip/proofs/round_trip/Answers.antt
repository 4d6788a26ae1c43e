-- `roundtrip::round_trip` meets its contract: the contracts of the three calls, one after the other.
use Rattle.std.proofs.Common.{List, ℕ, ap, ◌∙◌}
use Rattle.octets.specs.Parts.{overwritten}
use Rattle.roundtrip.proofs.Trip.{every_length, refused_again}
use Rattle.roundtrip.proofs.round_trip.Goals as goal

pub returns-in-Ok : goal.returns-in-Ok
returns-in-Ok c =
    let there = c.run_by-there.ensures in
    let reversed = c.in-Ok.ensures in
    let both = every_length _ _ _ _ _ _ _ there reversed c.run_by.ensures in
    record {
      first = there.number;
      reversed = reversed.number;
      second = both.0;
      bytes = both.1;
      middle = c.copy.ensures ∙ ap (λ (xs : List ℕ). overwritten xs c.args.middle.now) there.bytes;
    }

pub returns-in-Err : goal.returns-in-Err
returns-in-Err c =
    let there = c.run_by-there.ensures in
    let reversed = c.in-Err.ensures in
    let both = refused_again _ _ _ _ _ _ _ there reversed c.run_by-in-Err.ensures in
    record {
      first = there.number;
      reversed = reversed.number;
      second = both.0;
      bytes = both.1;
      middle = c.copy.ensures ∙ ap (λ (xs : List ℕ). overwritten xs c.args.middle.now) there.bytes;
    }
