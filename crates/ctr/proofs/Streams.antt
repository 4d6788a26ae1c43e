-- Laws of adding a keystream to a list of bytes, over any keystream k: lengths, entries, parts, and that adding it twice gives the bytes
-- again. Each by induction on the list.
-- Assumes nothing.
use mathlib.Core.Path.{◌≡◌, refl, sym, ap, ap₂, ◌∙◌, subst}
use mathlib.Core.List.{List, [], ◌∷◌, ◌++◌, append_assoc}
use Prim.Native.Nat.{ℕ, zero, suc, ◌+◌, ◌≤◌, ◌<◌, suc-le-suc}
use native.Mathlib.Omega.{arith}
use native.Mathlib.Nat.{add-zero, add-suc, suc-add, le_of_suc-le-suc, not-suc-le-zero}
use lib.Bits.{bit_xor, xor_self, xor_zero_r}
use lib.ListN.{length, get_or, take, drop}
use lib.Seq.{take_at, drop_at, take-add, drop-drop, length-take-le}
use Rattle.octets.proofs.Fill.{filled}
use Rattle.blocks.specs.Xor.{◌⊕◌, xor_block}
use Rattle.blocks.proofs.XorLaws.{xor_assoc}
use Rattle.ctr.specs.Counter.{add_stream}

-- one place further
further : (i j : ℕ) → suc i + j ≡ i + suc j
further i j = suc-add i j ∙ sym (add-suc i j)

module _ (k : ℕ → ℕ) where
  pub length_stream : (i : ℕ) (xs : List ℕ) → length (add_stream k i xs) ≡ length xs
  unfolding add_stream
  length_stream i [] = refl
  length_stream i (x ∷ xs) = ap suc (length_stream (suc i) xs)

  pub stream_at : (i : ℕ) (xs : List ℕ) (j : ℕ) → j < length xs → get_or (add_stream k i xs) j 0 ≡ get_or xs j 0 ⊕ k (i + j)
  unfolding add_stream
  stream_at i [] j h = absurd (not-suc-le-zero h)
  stream_at i (x ∷ xs) zero h = ap (λ (n : ℕ). x ⊕ k n) (sym (add-zero i))
  stream_at i (x ∷ xs) (suc j) h =
      stream_at (suc i) xs j (le_of_suc-le-suc h) ∙ ap (λ (n : ℕ). get_or xs j 0 ⊕ k n) (further i j)

  -- the same keystream added twice goes away
  pub stream_twice : (i : ℕ) (xs : List ℕ) → add_stream k i (add_stream k i xs) ≡ xs
  unfolding add_stream
  stream_twice i [] = refl
  stream_twice i (x ∷ xs) =
      let twice : (x ⊕ k i) ⊕ k i ≡ x = xor_assoc x (k i) (k i) ∙ ap (bit_xor x) (xor_self (k i)) ∙ xor_zero_r x in
      ap₂ (λ (y : ℕ) (l : List ℕ). y ∷ l) twice (stream_twice (suc i) xs)

  pub stream_take : (i n : ℕ) (xs : List ℕ) → take n (add_stream k i xs) ≡ add_stream k i (take n xs)
  unfolding add_stream
  stream_take i zero xs = refl
  stream_take i (suc n) [] = refl
  stream_take i (suc n) (x ∷ xs) = ap (λ (l : List ℕ). x ⊕ k i ∷ l) (stream_take (suc i) n xs)

  pub stream_drop : (i n : ℕ) (xs : List ℕ) → drop n (add_stream k i xs) ≡ add_stream k (i + n) (drop n xs)
  unfolding add_stream
  stream_drop i zero xs = ap (λ (m : ℕ). add_stream k m xs) (sym (add-zero i))
  stream_drop i (suc n) [] = refl
  stream_drop i (suc n) (x ∷ xs) = stream_drop (suc i) n xs ∙ ap (λ (m : ℕ). add_stream k m (drop n xs)) (further i n)

  -- m bytes from byte n on: the keystream from there on
  pub stream_part : (i n m : ℕ) (xs : List ℕ) → take m (drop n (add_stream k i xs)) ≡ add_stream k (i + n) (take m (drop n xs))
  stream_part i n m xs = ap (take m) (stream_drop i n xs) ∙ stream_take (i + n) m (drop n xs)

  -- a list and one behind it: the keystream goes on
  pub stream_append : (i : ℕ) (xs ys : List ℕ) → add_stream k i (xs ++ ys) ≡ add_stream k i xs ++ add_stream k (i + length xs) ys
  unfolding add_stream
  stream_append i [] ys = ap (λ (m : ℕ). add_stream k m ys) (sym (add-zero i))
  stream_append i (x ∷ xs) ys =
      ap (λ (l : List ℕ). x ⊕ k i ∷ l)
      (stream_append (suc i) xs ys ∙ ap (λ (m : ℕ). add_stream k (suc i) xs ++ add_stream k m ys) (further i (length xs)))

  -- adding a list whose entries are the keystream's
  pub stream_list : (i : ℕ) (xs ys : List ℕ) → length xs ≤ length ys → ((j : ℕ) → j < length ys → get_or ys j 0 ≡ k (i + j))
      → xor_block xs ys ≡ add_stream k i xs
  unfolding add_stream xor_block
  stream_list i [] ys h e = refl
  stream_list i (x ∷ xs) [] h e = absurd (not-suc-le-zero h)
  stream_list i (x ∷ xs) (y ∷ ys) h e =
      ap₂ (λ (z : ℕ) (l : List ℕ). x ⊕ z ∷ l) (e zero (omega arith) ∙ ap k (add-zero i))
      (stream_list (suc i) xs ys (le_of_suc-le-suc h) (λ j l. e (suc j) (suc-le-suc l) ∙ ap k (sym (further i j))))

  -- a turn of a loop that adds the keystream from byte i on to xs from the front: the part of m bytes at `at` comes back as ys
  pub stream_turn : (i : ℕ) (xs run ys : List ℕ) (at m : ℕ) → at ≤ length xs → run ≡ filled (add_stream k i xs) xs at
      → ys ≡ add_stream k (i + at) (take m (drop at run))
      → take at run ++ (ys ++ drop m (drop at run)) ≡ filled (add_stream k i xs) xs (at + m)
  stream_turn i xs run ys at m h e ey =
      let all : List ℕ = add_stream k i xs in
      let front : length (take at all) ≡ at = length-take-le at all (subst (λ (n : ℕ). at ≤ n) (sym (length_stream i xs)) h) in
      let done : take at run ≡ take at all = ap (take at) e ∙ take_at (take at all) (drop at xs) at front in
      let left : drop at run ≡ drop at xs = ap (drop at) e ∙ drop_at (take at all) (drop at xs) at front in
      let part : ys ≡ take m (drop at all) =
      ey ∙ ap (λ (l : List ℕ). add_stream k (i + at) (take m l)) left ∙ sym (stream_part i at m xs)
      in
      ap₂ (λ (u v : List ℕ). u ++ v) done (ap₂ (λ (u v : List ℕ). u ++ v) part (ap (drop m) left))
      ∙ sym (append_assoc (take at all) (take m (drop at all)) (drop m (drop at xs)))
      ∙ ap₂ (λ (u v : List ℕ). u ++ v) (sym (take-add at m all)) (drop-drop m at xs)
