-- `ctr::Keystream::add` meets its contract: after i turns the bytes of i chunks have the keystream added.
use mathlib.Core.Path.{◌≡◌}
use Prim.Native.Nat.{◌-◌, ◌*◌}
use Rattle.std.specs.Prelude.{min}
use Rattle.octets.proofs.Fill.{filled}
use Rattle.ctr.specs.Counter.{add_stream, keystream}
use Rattle.ctr.proofs.Keystream.add.Given as goal

abbrev pub invariant-loop-i : goal.invariant-loop-i
invariant-loop-i l =
    l.run ≡ filled (add_stream (keystream l.self.schedule.schedule l.self.prefix) l.first l.initial.run) l.initial.run
    (min l.all (4096 * l.i - l.offset))
