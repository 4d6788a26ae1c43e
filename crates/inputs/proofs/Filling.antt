-- Laws of filling the front of a buffer.
-- Assumes nothing.
use mathlib.Core.Path.{◌≡◌, refl, sym, ap, ◌∙◌, subst}
use mathlib.Core.Bool.{Bool, true, false}
use mathlib.Core.List.{List, ◌++◌, append-nil}
use Prim.Native.Nat.{ℕ, ◌+◌, ◌-◌, ◌≤◌, ◌<◌}
use native.Mathlib.Omega.{arith}
use lib.ListN.{length, take, drop, length-append, length-take, length-drop, drop_of_length-le}
use lib.Seq.{drop_at, drop-drop, take_all, length-take-le}
use Rattle.refusals.proofs.Booleans.{true_false}
use Rattle.octets.specs.Parts.{overwritten}
use Rattle.octets.proofs.Parts.{overwritten_front}
use Rattle.inputs.specs.Filled.{Filled, FailsShort}

-- a front of at most n bytes fits where n do
pub front_fits : (n k : ℕ) (s : List ℕ) → n ≤ k → length (take n s) ≤ k
front_fits n k s h = omega (arith, length-take n s)

-- nothing read
pub filled_none : (xs : List ℕ) → Filled xs 0 xs
filled_none xs = record { within = omega arith; front = refl; same = refl; rest = refl }

-- all of it, whatever it holds
pub filled_full : (xs ys : List ℕ) → length ys ≡ length xs → Filled xs (length ys) ys
filled_full xs ys e =
    let past : length xs ≤ length ys = omega arith in
    let all : length ys ≤ length ys = omega arith in
    record {
      within = omega arith;
      front = sym (length-take-le (length ys) ys (omega arith));
      same = e;
      rest = drop_of_length-le ys all ∙ sym (drop_of_length-le xs past);
    }

-- n bytes copied over the front
pub filled_copied : (s xs ys : List ℕ) (n : ℕ) → length s ≡ n → n ≤ length xs → ys ≡ overwritten s xs → Filled xs n ys
filled_copied s xs ys n e h w =
    let fits : length s ≤ length xs = omega arith in
    let shape : ys ≡ s ++ drop (length s) xs = w ∙ overwritten_front s xs fits in
    let size : length ys ≡ length xs = ap length shape ∙ length-append s (drop (length s) xs) ∙ simp length-drop (omega arith) in
    record {
      within = omega arith;
      front = sym (length-take-le n ys (omega arith));
      same = size;
      rest = ap (drop n) shape ∙ drop_at s (drop (length s) xs) n e ∙ ap (λ (k : ℕ). drop k xs) e;
    }

-- m bytes, and then n into the part of k bytes that is left, which comes back as zs
pub filled_more : (xs ys zs : List ℕ) (m n k r : ℕ) → k ≡ length ys - m → r ≡ m + n → Filled xs m ys → Filled (take k (drop m ys)) n zs
    → Filled xs r (take m ys ++ (zs ++ drop k (drop m ys)))
filled_more xs ys zs m n k r ek er f g =
    let front : length (take m ys) ≡ m = sym f.front in
    let left : length (drop m ys) ≡ length ys - m = length-drop m ys in
    let short : length (drop m ys) ≤ k = omega arith in
    let whole : take k (drop m ys) ≡ drop m ys = take_all k (drop m ys) short in
    let shape : take m ys ++ (zs ++ drop k (drop m ys)) ≡ take m ys ++ zs =
    ap (λ (l : List ℕ). take m ys ++ l) (ap (λ (l : List ℕ). zs ++ l) (drop_of_length-le (drop m ys) short) ∙ append-nil zs)
    in
    let tail : length zs ≡ length ys - m = g.same ∙ ap length whole ∙ left in
    let size : length (take m ys ++ zs) ≡ length xs = length-append (take m ys) zs ∙ omega (arith, f.within, f.same) in
    let fits : r ≤ length (take m ys ++ zs) = omega (arith, f.within, f.same, g.within) in
    let past : drop r (take m ys ++ zs) ≡ drop r xs =
    ap (λ (i : ℕ). drop i (take m ys ++ zs)) er
    ∙ sym (drop-drop n m (take m ys ++ zs))
    ∙ ap (drop n) (drop_at (take m ys) zs m front)
    ∙ g.rest
    ∙ ap (drop n) (whole ∙ f.rest)
    ∙ drop-drop n m xs
    ∙ ap (λ (i : ℕ). drop i xs) (sym er)
    in
    subst (Filled xs r) (sym shape) record { within = fits; front = sym (length-take-le r _ fits); same = size; rest = past }

-- m bytes, and then none, short of the end
pub filled_short : (xs ys zs : List ℕ) (m n k : ℕ) (failed : Bool) → k ≡ length ys - m → n ≡ 0 → m < length ys → Filled xs m ys
    → Filled (take k (drop m ys)) n zs
    → Filled xs m (take m ys ++ (zs ++ drop k (drop m ys))) × FailsShort failed m (take m ys ++ (zs ++ drop k (drop m ys)))
filled_short xs ys zs m n k failed ek en h f g =
    let filled : Filled xs m (take m ys ++ (zs ++ drop k (drop m ys))) = filled_more xs ys zs m n k m ek (omega arith) f g in
    (filled, λ e. omega (arith, f.same, filled.same))

-- what did not fail has nothing to show
pub no_failure : {A : Type 0} → false ≡ true → A
no_failure e = absurd (true_false (sym e))
