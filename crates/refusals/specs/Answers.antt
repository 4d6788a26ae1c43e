-- What a call answers and leaves: a refusal's number or what it gives, the part that it hands back, the buffer that it was lent. A refusal
-- hands back no bytes and changes none.
-- Assumes nothing.
use Rattle.std.specs.Prelude.{List, [], ◌++◌, ℕ, zero, suc, drop}

-- the answer of a call: a refusal's number, or what the call gives
pub data Answer : Type 0 where
  refused : ℕ → Answer
  gives : ℕ → Answer

-- the value, unless a case has applied
abbrev pub answer : ℕ → ℕ → Answer
answer zero v = gives v
answer (suc n) v = refused (suc n)

-- the refusal that an answer is, 0 for none
abbrev pub refusal_in : Answer → ℕ
refusal_in (refused n) = n
refusal_in (gives n) = 0

-- the part for what an answer gives; a part of no bytes where it is a refusal
unfoldable pub part_for : Answer → (ℕ → List ℕ) → List ℕ
part_for (gives n) part = part n
part_for (refused n) part = []

-- a buffer afterwards: n bytes at its front, the rest as it was; all as it was where the answer is a refusal
unfoldable pub written_for : Answer → List ℕ → List ℕ → List ℕ
written_for (gives n) bytes before = bytes ++ drop n before
written_for (refused n) bytes before = before

-- of a call that works in place and answers a number: the first where the number is 0, else the second
abbrev pub unless_refused : ℕ → List ℕ → List ℕ → List ℕ
unless_refused zero xs ys = xs
unless_refused (suc n) xs ys = ys
