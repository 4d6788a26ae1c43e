-- `ctr::Keystream::add` meets its contract: after i turns the bytes of i chunks have the keystream added.
use mathlib.Core.Path.{◌≡◌, refl, ap, subst, ◌∙◌}
use mathlib.Core.List.{List}
use Prim.Native.Nat.{ℕ, ◌≤◌, ◌+◌, ◌-◌, ◌*◌, ◌/◌, ◌%◌}
use native.Mathlib.Omega.{arith}
use Rattle.std.specs.Prelude.{min}
use lib.ListN.{length, take, drop}
use Rattle.octets.proofs.Fill.{filled, fill_done}
use Rattle.ctr.specs.Counter.{add_stream, keystream}
use Rattle.ctr.proofs.Streams.{length_stream, stream_turn}
use Rattle.ctr.proofs.Keystream.add.Goals as goal

pub loop-i-preserved : goal.loop-i-preserved
loop-i-preserved c =
    let l = c.loop-i in
    let a = c.args in
    let size = c.min-end.ensures in
    let count = c.div_ceil-i-end.ensures in
    let offset : ℕ = a.first % 16 in
    let from = c.saturating_sub-at.ensures in
    let into = c.saturating_sub.ensures in
    let at : ℕ = c.saturating_sub-at.result in
    let m : ℕ = c.min-end.result - at in
    let k : ℕ → ℕ = keystream a.self.schedule.schedule a.self.prefix in
    let xs : List ℕ = a.run.now in
    let ys : List ℕ = c.add_chunk.new.part in
    let within : at ≤ length xs = omega arith in
    let start : min (length xs) (4096 * l.i - offset) ≡ at = omega arith in
    let end : at + m ≡ min (length xs) (4096 * (l.i + 1) - offset) = omega arith in
    let place : 16 * (a.first / 16 + 256 * l.i) + c.saturating_sub.result ≡ a.first + at = omega arith in
    let done = subst (λ (n : ℕ). l.run ≡ filled (add_stream k a.first xs) xs n) start l.invariant in
    let added = subst (λ (n : ℕ). ys ≡ add_stream k n (take m (drop at l.run))) place c.add_chunk.ensures in
    stream_turn k a.first xs l.run ys at m within done added ∙ ap (filled (add_stream k a.first xs) xs) end

pub returns : goal.returns
returns c =
    let l = c.loop-i in
    let a = c.args in
    let xs : List ℕ = a.run.now in
    fill_done (add_stream _ a.first xs) xs _ _ (length xs) l.invariant (length_stream _ a.first xs) refl (omega arith)
