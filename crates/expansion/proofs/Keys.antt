-- The words and the round keys as the code makes them, one call after another.
-- Assumes nothing.
use mathlib.Core.Path.{◌≡◌, sym, ap, ap₂, ◌∙◌}
use mathlib.Core.List.{List, [], ◌∷◌}
use Prim.Native.Nat.{ℕ}
use borrow.Author.Tests.{eq-eqb, ne_eqb}
use lib.ListN.{get_or}
use Rattle.blocks.specs.Xor.{xor_block}
use Rattle.rotation.specs.Rotation.{◌>>>◌, ◌<<<◌}
use Rattle.expansion.specs.KeySchedule.{c1, c2, c3, constants_for, four, encryption_keys}

-- ---- the constants, by the key's length

pub constants_16 : (n : ℕ) → n ≡ 16 → c1 ∷ c2 ∷ c3 ∷ [] ≡ constants_for n
unfolding constants_for
constants_16 n e = rw (eq-eqb n 16 e)

pub constants_24 : (n : ℕ) → n ≡ 24 → c2 ∷ c3 ∷ c1 ∷ [] ≡ constants_for n
unfolding constants_for
constants_24 n e = ap constants_for (sym e)

pub constants_32 : (n : ℕ) → (n ≡ 16 → ⊥) → (n ≡ 24 → ⊥) → c3 ∷ c1 ∷ c2 ∷ [] ≡ constants_for n
unfolding constants_for
constants_32 n p q = rw (ne_eqb n 16 p, ne_eqb n 24 q)

-- ---- the words and the keys

-- two lists of four are equal where each of the four is
pub same_four : {a b c d a' b' c' d' : List ℕ} → a ≡ a' → b ≡ b' → c ≡ c' → d ≡ d'
    → ◌≡◌ {A = List (List ℕ)} (a ∷ b ∷ c ∷ d ∷ []) (a' ∷ b' ∷ c' ∷ d' ∷ [])
same_four p q r s =
    ap₂ (λ (x : List ℕ) (l : List (List ℕ)). x ∷ l) p
    (ap₂ (λ (x : List ℕ) (l : List (List ℕ)). x ∷ l) q (ap₂ (λ (x : List ℕ) (l : List (List ℕ)). x ∷ l) r (ap (λ (x : List ℕ). x ∷ []) s)))

-- four keys, each from its rotated word
pub four_made : (r : List ℕ → List ℕ) (w : List (List ℕ)) {a b c d v0 v1 v2 v3 : List ℕ}
    → v1 ≡ r (get_or w 1 []) → a ≡ xor_block (get_or w 0 []) v1
    → v2 ≡ r (get_or w 2 []) → b ≡ xor_block (get_or w 1 []) v2
    → v3 ≡ r (get_or w 3 []) → c ≡ xor_block (get_or w 2 []) v3
    → v0 ≡ r (get_or w 0 []) → d ≡ xor_block v0 (get_or w 3 [])
    → a ∷ b ∷ c ∷ d ∷ [] ≡ four r w
unfolding four
four_made r w e1 a e2 b e3 c e0 d =
    same_four (a ∙ ap (xor_block (get_or w 0 [])) e1) (b ∙ ap (xor_block (get_or w 1 [])) e2) (c ∙ ap (xor_block (get_or w 2 [])) e3)
    (d ∙ ap (λ (v : List ℕ). xor_block v (get_or w 3 [])) e0)

-- the seventeen keys, from four fours and the last
abbrev four_then : List (List ℕ) → List (List ℕ) → List (List ℕ)
four_then a l = get_or a 0 [] ∷ get_or a 1 [] ∷ get_or a 2 [] ∷ get_or a 3 [] ∷ l

pub keys_made : (w : List (List ℕ)) {a b c d : List (List ℕ)} {v k : List ℕ}
    → a ≡ four (λ x. x >>> 19) w → b ≡ four (λ x. x >>> 31) w → c ≡ four (λ x. x <<< 61) w → d ≡ four (λ x. x <<< 31) w
    → v ≡ get_or w 1 [] <<< 19 → k ≡ xor_block (get_or w 0 []) v
    → four_then a (four_then b (four_then c (four_then d (k ∷ [])))) ≡ encryption_keys w
unfolding four encryption_keys
keys_made w a b c d v k =
    ap₂ four_then a (ap₂ four_then b (ap₂ four_then c (ap₂ four_then d (ap (λ (x : List ℕ). x ∷ []) (k
    ∙ ap (xor_block (get_or w 0 [])) v)))))
