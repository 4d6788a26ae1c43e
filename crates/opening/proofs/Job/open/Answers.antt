-- `opening::Job::open` meets its contract: the range is held to the body, then to the buffer, and its part of the body is decrypted.
use mathlib.Core.Path.{◌≡◌, sym, ap, ◌∙◌}
use mathlib.Core.List.{List}
use Prim.Native.Nat.{ℕ, ◌+◌, ◌-◌, ◌≤◌}
use native.Mathlib.Omega.{arith}
use native.Mathlib.Nat.{sub-zero}
use borrow.Author.Tests.{ltb-false}
use lib.ListN.{length, take, drop, length-drop}
use lib.Seq.{length-take-le}
use Rattle.octets.proofs.Parts.{overwritten_whole}
use Rattle.ctr.specs.Counter.{keystream, add_stream}
use Rattle.opening.proofs.Opening.{body_past, body_short, body_open}
use Rattle.opening.proofs.Job.open.Goals as goal

pub returns-then-passes_end : goal.returns-then-passes_end
returns-then-passes_end c = body_past _ _ _ _ _ _ (sym c.passes_end.ensures ∙ c.if-passes_end.true)

pub returns-then-out-count : goal.returns-then-out-count
returns-then-out-count c = body_short _ _ _ _ _ _ (sym c.passes_end.ensures ∙ c.if-passes_end.false) c.if-out-count.true

pub returns : goal.returns
returns c =
    let a = c.args in
    let job = a.self in
    let within = sym c.passes_end.ensures ∙ c.if-passes_end.false in
    let size : a.first + a.count - a.first ≡ a.count = omega arith in
    let reach : a.first + a.count ≤ length job.body.now = ltb-false _ _ within in
    let left : length (drop a.first job.body.now) ≡ length job.body.now - a.first = length-drop a.first job.body.now in
    let sealed : length (take (a.first + a.count - a.first) (drop a.first job.body.now)) ≡ a.first + a.count - a.first =
    length-take-le _ _ (omega arith)
    in
    let lent : length (take (a.count - 0) a.out.now) ≡ a.count - 0 = length-take-le _ _ (omega (arith, c.if-out-count.false)) in
    body_open _ _ _ _ _ _ within _ _ _ c.if-out-count.false size (sub-zero _)
    (c.apply_good.ensures.stream
    ∙ ap (λ (l : List ℕ). add_stream (keystream job.schedule.schedule job.prefix) a.first l)
    (c.copy.ensures ∙ overwritten_whole _ _ (sealed ∙ size ∙ sym (sub-zero a.count) ∙ sym lent)))
