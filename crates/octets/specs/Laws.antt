-- What is claimed of numbers in bytes: a number that fits is read back from the bytes that it was written in, and bytes are written again
-- from the number that they were read as.
-- Assumes nothing.
use Rattle.std.specs.Prelude.{◌≡◌, List, ◌++◌, ℕ, ◌+◌, ◌<◌, ◌≤◌, length, take, drop}
use Rattle.octets.specs.Numbers.{Octets, be16, be32, bytes16, bytes32}

pub record NumberLaws : Type 0 where
  pub read16 : (n : ℕ) (rest : List ℕ) → n < 65536 → be16 (bytes16 n ++ rest) 0 ≡ n
  pub read32 : (n : ℕ) (rest : List ℕ) → n < 4294967296 → be32 (bytes32 n ++ rest) 0 ≡ n
  pub written16 : (s : List ℕ) → Octets s → (at : ℕ) → at + 2 ≤ length s → bytes16 (be16 s at) ≡ take 2 (drop at s)
  pub written32 : (s : List ℕ) → Octets s → (at : ℕ) → at + 4 ≤ length s → bytes32 (be32 s at) ≡ take 4 (drop at s)
