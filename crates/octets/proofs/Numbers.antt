-- Numbers written in bytes and read back, bytes read as a number and written again, and parts of bytes.
-- Assumes nothing.
use mathlib.Core.Path.{◌≡◌, refl}
use mathlib.Core.List.{List, [], ◌∷◌, ◌++◌}
use Prim.Native.Nat.{ℕ, zero, suc, ◌+◌, ◌*◌, ◌/◌, ◌%◌, ◌<◌, ◌≤◌}
use native.Mathlib.Nat.{add-zero}
use native.Mathlib.Omega.{arith}
use lib.ListN.{length, get_or, take, drop}
use lib.Seq.{get_or-drop, drop-cons}
use Rattle.octets.specs.Numbers.{Octets, be16, be32, bytes16, bytes32}

-- ---- written, then read

pub read16 : (n : ℕ) (rest : List ℕ) → n < 65536 → be16 (bytes16 n ++ rest) 0 ≡ n
read16 n rest l = omega arith

-- three times: a last digit and the rest
digits : (n p q r : ℕ) → p * 256 + n % 256 ≡ n → q * 256 + p % 256 ≡ p → r * 256 + q % 256 ≡ q → r < 256
    → ((r % 256 * 256 + q % 256) * 256 + p % 256) * 256 + n % 256 ≡ n
digits n p q r a b c l = let top : r % 256 ≡ r = omega arith in omega arith

pub read32 : (n : ℕ) (rest : List ℕ) → n < 4294967296 → be32 (bytes32 n ++ rest) 0 ≡ n
read32 n rest l =
    let two : n / 65536 ≡ n / 256 / 256 = omega arith in
    let three : n / 16777216 ≡ n / 256 / 256 / 256 = omega arith in
    rw (two, three) (digits n (n / 256) (n / 256 / 256) (n / 256 / 256 / 256) (omega arith) (omega arith) (omega arith) (omega arith))

-- the number at a place is that at the front of what is there
pub be32_at : (s : List ℕ) (at : ℕ) → be32 s at ≡ be32 (drop at s) 0
be32_at s at = rw (get_or-drop at s 0 0, get_or-drop at s 1 0, get_or-drop at s 2 0, get_or-drop at s 3 0, add-zero at)

-- ---- read, then written

pub next : (s : List ℕ) (k at then : ℕ) → then ≡ suc at → at < length s → take (suc k) (drop at s) ≡ get_or s at 0 ∷ take k (drop then s)
next s k at then e l = rw (drop-cons s at 0 l, e) refl

module _ (s : List ℕ) (octets : Octets s) where
  pub written16 : (at : ℕ) → at + 2 ≤ length s → bytes16 (be16 s at) ≡ take 2 (drop at s)
  written16 at l =
      let o₀ = octets at in
      let o₁ = octets (at + 1) in
      let b₀ : be16 s at / 256 % 256 ≡ get_or s at 0 = omega arith in
      let b₁ : be16 s at % 256 ≡ get_or s (at + 1) 0 = omega arith in
      let t₀ = next s 1 at (at + 1) (omega arith) (omega arith) in
      let t₁ = next s 0 (at + 1) (at + 2) (omega arith) (omega arith) in
      cc

  pub written32 : (at : ℕ) → at + 4 ≤ length s → bytes32 (be32 s at) ≡ take 4 (drop at s)
  written32 at l =
      let o₀ = octets at in
      let o₁ = octets (at + 1) in
      let o₂ = octets (at + 2) in
      let o₃ = octets (at + 3) in
      let b₀ : be32 s at / 16777216 % 256 ≡ get_or s at 0 = omega arith in
      let b₁ : be32 s at / 65536 % 256 ≡ get_or s (at + 1) 0 = omega arith in
      let b₂ : be32 s at / 256 % 256 ≡ get_or s (at + 2) 0 = omega arith in
      let b₃ : be32 s at % 256 ≡ get_or s (at + 3) 0 = omega arith in
      let t₀ = next s 3 at (at + 1) (omega arith) (omega arith) in
      let t₁ = next s 2 (at + 1) (at + 2) (omega arith) (omega arith) in
      let t₂ = next s 1 (at + 2) (at + 3) (omega arith) (omega arith) in
      let t₃ = next s 0 (at + 3) (at + 4) (omega arith) (omega arith) in
      cc

-- ---- parts of bytes are bytes

octets_drop : (n : ℕ) (s : List ℕ) → Octets s → Octets (drop n s)
octets_drop n s o j = rw (get_or-drop n s j 0) (o (n + j))

octets_take : (n : ℕ) (s : List ℕ) → Octets s → Octets (take n s)
octets_take zero s o j = omega arith
octets_take (suc n) [] o j = omega arith
octets_take (suc n) (x ∷ s) o zero = o zero
octets_take (suc n) (x ∷ s) o (suc j) = octets_take n s (λ k. o (suc k)) j

pub octets_part : (s : List ℕ) → Octets s → (at n : ℕ) → Octets (take n (drop at s))
octets_part s o at n = octets_take n (drop at s) (octets_drop at s o)
