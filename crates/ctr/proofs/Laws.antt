-- What specs/Laws claims holds.
-- Assumes nothing.
use mathlib.Core.Path.{◌≡◌, refl, sym, ap, ap₂, ◌∙◌}
use mathlib.Core.Bool.{Bool, true, false}
use mathlib.Core.List.{List, ◌++◌}
use Prim.Native.Nat.{ℕ, ◌+◌}
use lib.ListN.{length}
use Rattle.refusals.specs.Shared.{good_rounds}
use Rattle.ctr.specs.Counter.{keystream, add_stream, ctr_bytes}
use Rattle.ctr.specs.Laws.{CtrTwice, CtrPieces}
use Rattle.ctr.proofs.Streams.{stream_twice, stream_append}
use Rattle.ctr.proofs.Applied.{ctr_done, ctr_refused}

pub ctr_twice : CtrTwice
ctr_twice s prefix first xs = by_rounds (good_rounds s.rounds) refl
  where
    by_rounds : (good : Bool) → good_rounds s.rounds ≡ good → ctr_bytes s prefix first (ctr_bytes s prefix first xs) ≡ xs
    by_rounds true e =
        ctr_done s prefix first (ctr_bytes s prefix first xs) e
        ∙ ap (add_stream (keystream s prefix) first) (ctr_done s prefix first xs e)
        ∙ stream_twice (keystream s prefix) first xs
    by_rounds false e = ctr_refused s prefix first (ctr_bytes s prefix first xs) e ∙ ctr_refused s prefix first xs e

pub ctr_pieces : CtrPieces
ctr_pieces s prefix first xs ys = by_rounds (good_rounds s.rounds) refl
  where
    by_rounds : (good : Bool) → good_rounds s.rounds ≡ good
        → ctr_bytes s prefix first (xs ++ ys) ≡ ctr_bytes s prefix first xs ++ ctr_bytes s prefix (first + length xs) ys
    by_rounds true e =
        ctr_done s prefix first (xs ++ ys) e
        ∙ stream_append (keystream s prefix) first xs ys
        ∙ ap₂ (λ (u v : List ℕ). u ++ v) (sym (ctr_done s prefix first xs e)) (sym (ctr_done s prefix (first + length xs) ys e))
    by_rounds false e =
        ctr_refused s prefix first (xs ++ ys) e
        ∙ ap₂ (λ (u v : List ℕ). u ++ v) (sym (ctr_refused s prefix first xs e)) (sym (ctr_refused s prefix (first + length xs) ys e))
