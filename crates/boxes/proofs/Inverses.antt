-- The inverse rules of the boxes, each by one test that antt computes over 256 entries, and from them that box p + 2 undoes box p at
-- every number.
-- Assumes nothing.
use mathlib.Core.Path.{◌≡◌, refl, sym, ap, ◌∙◌, subst}
use mathlib.Core.Bool.{Bool, true, false}
use mathlib.Core.List.{List}
use Prim.Native.Nat.{ℕ, zero, suc, ◌+◌, ◌%◌, ◌≤◌, ◌<◌}
use native.Mathlib.Nat.{mod-lt, zero-lt-suc}
use native.Mathlib.Omega.{arith}
use borrow.Author.Tests.{ltb-true, ltb-false}
use lib.Dec.{T, eqb, ltb, eqb→eq, ltb→lt}
use lib.ListN.{length, get_or, get_or-eq_default}
use Rattle.octets.proofs.Tables.{default}
use Rattle.octets.proofs.Test.{every, at}
use Rattle.boxes.specs.Boxes.{s1, s2, s3, s4, boxes, box_by, box}
use Rattle.boxes.specs.Laws.{Undoing}

-- ---- tables of 256 bytes

record Bytes (s : List ℕ) : Type 0 where
  size : length s ≡ 256
  byte : (x : ℕ) → x < 256 → get_or s x 0 < 256

in_size : (s : List ℕ) → length s ≡ 256 → (x : ℕ) → x < 256 → x < length s
in_size s e x h = subst (λ (n : ℕ). x < n) (sym e) h

bytes : (s : List ℕ) → length s ≡ 256 → T (every (λ (x y : ℕ). ltb y 256) 0 s) → Bytes s
bytes s e t =
    record { size = e; byte = λ x h. ltb→lt _ 256 (at (λ (x y : ℕ). ltb y 256) 0 s t x (in_size s e x h)) }

bytes1 : Bytes s1
unfolding s1
bytes1 = bytes s1 refl tt

bytes2 : Bytes s2
unfolding s2
bytes2 = bytes s2 refl tt

bytes3 : Bytes s3
unfolding s1 s2 s3
bytes3 = bytes s3 refl tt

bytes4 : Bytes s4
unfolding s1 s2 s4
bytes4 = bytes s4 refl tt

-- ---- the rules, at each entry

-- t undoes s at each entry; the test is that t at y is x, for each entry y of s, at x
undoes : (s t : List ℕ) → Bytes s → T (every (λ (x y : ℕ). eqb (get_or t y 0) x) 0 s) → (x : ℕ) → x < 256 → get_or t (get_or s x 0) 0 ≡ x
undoes s t b e x h = eqb→eq _ x (at (λ (x y : ℕ). eqb (get_or t y 0) x) 0 s e x (in_size s b.size x h))

pub s3_s1 : (x : ℕ) → x < 256 → get_or s3 (get_or s1 x 0) 0 ≡ x
unfolding s1 s2 s3
s3_s1 = undoes s1 s3 bytes1 tt

pub s1_s3 : (x : ℕ) → x < 256 → get_or s1 (get_or s3 x 0) 0 ≡ x
unfolding s1 s2 s3
s1_s3 = undoes s3 s1 bytes3 tt

pub s4_s2 : (x : ℕ) → x < 256 → get_or s4 (get_or s2 x 0) 0 ≡ x
unfolding s1 s2 s4
s4_s2 = undoes s2 s4 bytes2 tt

pub s2_s4 : (x : ℕ) → x < 256 → get_or s2 (get_or s4 x 0) 0 ≡ x
unfolding s1 s2 s4
s2_s4 = undoes s4 s2 bytes4 tt

-- ---- the boxes: the table's entry below 256, and from there on the number itself

module _ (s : List ℕ) (b : Bytes s) where
  inside : (x : ℕ) → x < 256 → get_or s x x ≡ get_or s x 0
  inside x h = default s x x 0 (in_size s b.size x h)

  outside : (x : ℕ) → 256 ≤ x → get_or s x x ≡ x
  outside x h = get_or-eq_default s x (subst (λ (n : ℕ). n ≤ x) (sym b.size) h)

  entry_byte : (x : ℕ) → x < 256 → get_or s x x < 256
  entry_byte x h = subst (λ (y : ℕ). y < 256) (sym (inside x h)) (b.byte x h)

-- where t undoes s at each entry, it does so at every number
undone : (s t : List ℕ) → Bytes s → Bytes t → ((x : ℕ) → x < 256 → get_or t (get_or s x 0) 0 ≡ x)
    → (x : ℕ) → get_or t (get_or s x x) (get_or s x x) ≡ x
undone s t bs bt rule x = by_size (ltb x 256) refl
  where
    by_size : (b : Bool) → ltb x 256 ≡ b → get_or t (get_or s x x) (get_or s x x) ≡ x
    by_size true r =
        let h : x < 256 = ltb-true x 256 r in
        ap (λ (y : ℕ). get_or t y y) (inside s bs x h) ∙ inside t bt (get_or s x 0) (bs.byte x h) ∙ rule x h
    by_size false r =
        let h : 256 ≤ x = ltb-false x 256 r in
        ap (λ (y : ℕ). get_or t y y) (outside s bs x h) ∙ outside t bt x h

box_pairs : (p x : ℕ) → p < 4 → box ((p + 2) % 4) (box p x) ≡ x
unfolding box box_by boxes
box_pairs zero x h = undone s1 s3 bytes1 bytes3 s3_s1 x
box_pairs (suc zero) x h = undone s2 s4 bytes2 bytes4 s4_s2 x
box_pairs (suc (suc zero)) x h = undone s3 s1 bytes3 bytes1 s1_s3 x
box_pairs (suc (suc (suc zero))) x h = undone s4 s2 bytes4 bytes2 s2_s4 x
box_pairs (suc (suc (suc (suc p)))) x h = absurd (omega arith)

pub box_undoing : Undoing box
box_undoing = record {
  undo = λ p x.
      let e : (p + 2) % 4 ≡ (p % 4 + 2) % 4 = omega arith in
      ap (λ (n : ℕ). box n (box (p % 4) x)) e ∙ box_pairs (p % 4) x (mod-lt p (zero-lt-suc 3));
}

-- a box takes a byte to a byte
pub box_byte : (b x : ℕ) → b < 4 → x < 256 → box b x < 256
unfolding box box_by boxes
box_byte zero x hb hx = entry_byte s1 bytes1 x hx
box_byte (suc zero) x hb hx = entry_byte s2 bytes2 x hx
box_byte (suc (suc zero)) x hb hx = entry_byte s3 bytes3 x hx
box_byte (suc (suc (suc zero))) x hb hx = entry_byte s4 bytes4 x hx
box_byte (suc (suc (suc (suc b)))) x hb hx = absurd (omega arith)
