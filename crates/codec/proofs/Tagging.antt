-- The tag of all that was written, put behind it.
-- Assumes nothing.
use mathlib.Core.Path.{◌≡◌, sym, ap, ap₂, ◌∙◌}
use mathlib.Core.List.{List, ◌++◌, append_assoc}
use Prim.Native.Nat.{ℕ, ◌+◌}
use native.Mathlib.Omega.{arith}
use lib.ListN.{length, take, drop}
use lib.Seq.{take_at, drop_at, drop-drop}
use Rattle.circuit.specs.declared.GoodSchedule.{GoodSchedule}
use Rattle.cmac.specs.Tag.{tag_under}
use Rattle.cmac.proofs.Laws.{tag_size_lem}

-- whatever front was written over a buffer's first bytes: its tag, written over the next sixteen, is that of the front. The code says their
-- number as k
pub tagged_done : (t : GoodSchedule) (front before out tag after : List ℕ) (end k r : ℕ) → end ≡ length front
    → out ≡ front ++ drop end before → tag ≡ tag_under t.schedule (take end out) → k ≡ length tag
    → after ≡ take end out ++ (tag ++ drop k (drop end out)) → r ≡ end + k
    → (r ≡ end + 16) × (after ≡ (front ++ tag_under t.schedule front) ++ drop r before)
tagged_done t front before out tag after end k r el eo et ek ea er =
    let run : take end out ≡ front = ap (take end) eo ∙ take_at front (drop end before) end (sym el) in
    let is : tag ≡ tag_under t.schedule front = et ∙ ap (tag_under t.schedule) run in
    let size : length tag ≡ 16 = ap length is ∙ tag_size_lem t.schedule front in
    let past : drop k (drop end out) ≡ drop r before =
    ap (drop k) (ap (drop end) eo ∙ drop_at front (drop end before) end (sym el))
    ∙ drop-drop k end before
    ∙ ap (λ (n : ℕ). drop n before) (sym er)
    in (
      omega (arith, er, ek, size),
      ea
          ∙ ap₂ (λ (x y : List ℕ). x ++ (tag ++ y)) run past
          ∙ sym (append_assoc front tag (drop r before))
          ∙ ap (λ (x : List ℕ). (front ++ x) ++ drop r before) is,
    )
