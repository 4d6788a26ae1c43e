-- `joblist::mark` meets its contract: after k turns the first k numbers have no case, and the entries that they name are marked.
use mathlib.Core.Path.{◌≡◌, refl, sym, ap, ap₂, ◌∙◌}
use mathlib.Core.Bool.{Bool, false, ◌||◌}
use mathlib.Core.List.{List}
use Prim.Native.Nat.{ℕ, ◌+◌, ◌<◌}
use native.Mathlib.Numerals.{add-one}
use native.Mathlib.Omega.{arith}
use lib.Dec.{eqb}
use lib.ListN.{get_or}
use borrow.Author.Count.{below_more}
use Rattle.std.proofs.lemmas.Grind.{common_steps}
use Rattle.refusals.specs.Answers.{refused, gives}
use Rattle.refusals.specs.Numbers.{number}
use Rattle.refusals.specs.declared.Refusal.TheVariants.{ListLength}
use Rattle.refusals.proofs.Answers.{answer_gives, answer_number}
use Rattle.bodies.specs.Bodies.{lookup_of}
use Rattle.joblist.specs.List.{numbers, listed}
use Rattle.joblist.specs.Marks.{named_by}
use Rattle.joblist.proofs.Cases.{list_27, list_stop, list_none}
use Rattle.joblist.proofs.Marking.{fresh, named_none, named_next, marked_refused, marked_all}
use Rattle.joblist.proofs.mark.Goals as goal

pub returns-then-list-ne0 : goal.returns-then-list-ne0
returns-then-list-ne0 c =
    let a = c.args in
    marked_refused a.file.now a.list.now _ ListLength refl (list_27 a.file.now a.list.now c.if-list-ne0.true)

pub loop-k-init : goal.loop-k-init
loop-k-init c = (λ j l. absurd (omega arith), λ i l. fresh 64 i ∙ sym (named_none _ _ i))

pub returns-in_err-i : goal.returns-in_err-i
unfolding listed
returns-in_err-i c =
    let l = c.loop-k in
    let a = c.args in
    let file : List ℕ = a.file.now in
    let list : List ℕ = a.list.now in
    let k : ℕ = l.k in
    let inside = c.loop-k-test.true in
    let is : refused (number c.in_err-i.field-0.0) ≡ lookup_of file (listed list k) =
    c.in_err-i.ensures ∙ ap (lookup_of file) c.part.ensures.bytes
    in
    let n = answer_number _ _ _ (sym is) in
    let e = list_stop file list c.if-list-ne0.false k (omega arith) l.invariant.0 n.1 in
    marked_refused file list _ c.in_err-i.field-0.0 (grind (arith, common_steps)) (sym n.0 ∙ e)

pub loop-k-preserved : goal.loop-k-preserved
unfolding listed
loop-k-preserved c =
    let l = c.loop-k in
    let a = c.args in
    let file : List ℕ = a.file.now in
    let list : List ℕ = a.list.now in
    let k : ℕ = l.k in
    let is : gives c.in_ok-i.i ≡ lookup_of file (listed list k) = c.in_ok-i.ensures ∙ ap (lookup_of file) c.part.ensures.bytes in
    let n = answer_gives _ _ _ (sym is) in
    let marked : (i : ℕ) → i < 64 → get_or c.mark_entry.new.named i false ≡ named_by file list (k + 1) i =
    λ i h.
    c.mark_entry.ensures i h
    ∙ ap₂ (λ (b d : Bool). b || d) (l.invariant.1 i h) (ap (λ (m : ℕ). eqb m i) (sym n.1))
    ∙ sym (named_next file list i k)
    ∙ ap (λ (m : ℕ). named_by file list m i) (sym (add-one k))
    in
    (below_more _ _ l.invariant.0 n.0, marked)

pub returns : goal.returns
returns c =
    let l = c.loop-k in
    let a = c.args in
    let all : l.k ≡ numbers a.list.now = omega arith in
    marked_all a.file.now a.list.now _
    (list_none a.file.now a.list.now c.if-list-ne0.false (λ k h. l.invariant.0 k (omega arith)))
    (λ i h. l.invariant.1 i h ∙ ap (λ (k : ℕ). named_by a.file.now a.list.now k i) all)
