-- `ctr::counter_blocks` meets its contract: after i turns the first i blocks are the counter blocks; a turn writes one more.
use mathlib.Core.Path.{◌≡◌, refl, sym, ap, ◌∙◌}
use mathlib.Core.List.{List, ◌++◌, append-nil}
use Prim.Native.Nat.{ℕ, ◌≤◌, ◌+◌, ◌-◌, ◌*◌, ◌/◌}
use native.Mathlib.Omega.{arith}
use borrow.Author.Rules.{rules}
use lib.ListN.{length, take, drop, length-take, length-drop, drop_of_length-le}
use lib.Seq.{drop-drop}
use Rattle.octets.proofs.Parts.{overwritten_whole}
use Rattle.blocks.specs.Blocks.{row}
use Rattle.blocks.proofs.Rows.{row_turn}
use Rattle.ctr.specs.Counter.{counter_block}
use Rattle.ctr.specs.Internal.{counter_blocks}
use Rattle.ctr.proofs.Counters.{length_counter}
use Rattle.ctr.proofs.counter_blocks.Goals as goal

pub loop-i-init : goal.loop-i-init
unfolding row
loop-i-init c = refl

pub loop-i-preserved : goal.loop-i-preserved
loop-i-preserved c =
    let l = c.loop-i in
    let a = c.args in
    let pre = c.requires in
    let prefix : List ℕ = a.prefix in
    let twelve : length prefix ≡ 12 = search rules in
    let rule : ℕ → List ℕ = λ (i : ℕ). counter_block prefix (a.block + i) in
    let i : ℕ = l.i in
    let run : List ℕ = l.run in
    let ys : List ℕ = c.store.new.part in
    let k : ℕ = 16 * i + 16 - 16 * i in
    let size : length (take k (drop (16 * i) run)) ≡ 16 = simp (length-take, length-drop) (omega arith) in
    let made = c.counter_block in
    let sixteen : length made.result ≡ 16 = search rules in
    let e : ys ≡ rule i =
    c.store.ensures
    ∙ overwritten_whole made.result (take k (drop (16 * i) run)) (sixteen ∙ sym size)
    ∙ made.ensures
    in
    let left : List ℕ = drop (16 * i) a.run.now in
    let next : 16 * i + 16 ≡ 16 * (i + 1) = omega arith in
    let rest : drop 16 left ≡ drop (16 * (i + 1)) a.run.now =
    drop-drop 16 (16 * i) a.run.now ∙ ap (λ (n : ℕ). drop n a.run.now) next
    in
    row_turn rule i k run ys left (omega arith) (λ j h. length_counter prefix twelve (a.block + j)) l.invariant e
    ∙ ap (λ (z : List ℕ). row rule (i + 1) ++ z) rest

pub returns : goal.returns
returns c =
    let l = c.loop-i in
    let a = c.args in
    let pre = c.requires in
    let end : l.i ≡ length a.run.now / 16 = omega arith in
    let all : length a.run.now ≤ 16 * l.i = omega arith in
    l.invariant
    ∙ ap (λ (z : List ℕ). counter_blocks a.prefix a.block l.i ++ z) (drop_of_length-le a.run.now all)
    ∙ append-nil (counter_blocks a.prefix a.block l.i)
    ∙ ap (counter_blocks a.prefix a.block) end
