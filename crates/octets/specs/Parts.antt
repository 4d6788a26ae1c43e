-- Parts of a byte string, with their place, and bytes laid over a buffer.
-- Assumes nothing.
use Rattle.std.specs.Prelude.{◌≡◌, Bool, cond, List, ◌++◌, ℕ, ◌+◌, ◌≤◌, leb, length, take, drop}
use Rattle.std.specs.Borrow.{Bor}

-- where a reference r points: into the memory of s, so many bytes on
abbrev pub lies_at : Bor (List ℕ) → ℕ → Bor (List ℕ) → Type 0
lies_at s from r = (r.ref_ptr.0 ≡ s.ref_ptr.0) × (r.ref_ptr.1 ≡ s.ref_ptr.1 + from)

-- the contract of a part of s: its bytes, as far as s reaches, and its place. Where s ends before `from`, the part is empty and its place
-- is left to the program
pub record PartOf (s : Bor (List ℕ)) (from n : ℕ) (r : Bor (List ℕ)) : Type 0 where
  pub bytes : r.now ≡ take n (drop from s.now)
  pub place : from ≤ length s.now → lies_at s from r

-- xs with s laid over its front, as far as xs reaches
unfoldable pub overwritten : List ℕ → List ℕ → List ℕ
overwritten s xs = take (length xs) s ++ drop (length s) xs

-- xs with s laid over it from place `at` on
unfoldable pub laid : List ℕ → ℕ → List ℕ → List ℕ
laid xs at s = take at xs ++ s ++ drop (at + length s) xs

-- whether s fits into xs at a place
abbrev pub fits : List ℕ → ℕ → List ℕ → Bool
fits xs at s = leb (at + length s) (length xs)

-- the contract of putting s at `at` into a buffer that held `before`: it holds `after`, and r is the place behind s. Where s does not fit,
-- nothing is written and r is `at`
pub record Puts (before : List ℕ) (at : ℕ) (s : List ℕ) (r : ℕ) (after : List ℕ) : Type 0 where
  pub end : r ≡ cond (fits before at s) (at + length s) at
  pub bytes : after ≡ cond (fits before at s) (laid before at s) before

-- s was put at `at`, where it fits: what a chain of puts is made of
pub record Put (before : List ℕ) (at : ℕ) (s : List ℕ) (r : ℕ) (after : List ℕ) : Type 0 where
  pub end : r ≡ at + length s
  pub text : after ≡ laid before at s
  pub same : length after ≡ length before

-- s is put at `at` into a buffer that held `before`, if it fits: the buffer holds `after`, and r is the place behind s. Of pieces put one
-- behind the other, each fits where all do
pub record Lays (before : List ℕ) (at : ℕ) (s : List ℕ) (r : ℕ) (after : List ℕ) : Type 0 where
  pub put : at + length s ≤ length before → Put before at s r after
