-- Laws of answers, and of the parts and buffers that go with them.
-- Assumes nothing.
use mathlib.Core.Path.{◌≡◌, refl, sym, ap, ◌∙◌}
use mathlib.Core.List.{List, [], ◌++◌}
use Prim.Native.Nat.{ℕ, zero, suc}
use native.Mathlib.Omega.{arith}
use Rattle.refusals.specs.Cases.{Case, first_of}
use Rattle.refusals.specs.Answers.{Answer, refused, gives, answer, refusal_in, part_for}
use Rattle.refusals.proofs.Cases.{first_stop}

pub answer_refused : (n v : ℕ) → (n ≡ 0 → ⊥) → answer n v ≡ refused n
answer_refused zero v h = absurd (h refl)
answer_refused (suc n) v h = refl

pub answer_none : (n v : ℕ) → n ≡ 0 → answer n v ≡ gives v
answer_none n v e = ap (λ (k : ℕ). answer k v) e

pub answer_gives : (n v i : ℕ) → answer n v ≡ gives i → (n ≡ 0) × (v ≡ i)
answer_gives zero v i e = (refl, cc)
answer_gives (suc n) v i e = let z : ◌≡◌ {A = ℕ} 0 1 = cc in absurd (omega arith)

pub answer_number : (n v i : ℕ) → answer n v ≡ refused i → (n ≡ i) × (n ≡ 0 → ⊥)
answer_number zero v i e = let z : ◌≡◌ {A = ℕ} 0 1 = cc in absurd (omega arith)
answer_number (suc n) v i e = (cc, λ q. omega arith)

-- a number of cases that is not 0 is the refusal
pub refusal_is : (n m v : ℕ) → n ≡ m → (n ≡ 0 → ⊥) → refused n ≡ answer m v
refusal_is n m v e h = ap refused e ∙ sym (answer_refused m v (λ q. h (e ∙ q)))

-- a first group of cases that refuses is what a call answers, whatever follows
pub answer_first : (a b : List Case) (v : ℕ) → (first_of a ≡ 0 → ⊥) → answer (first_of (a ++ b)) v ≡ refused (first_of a)
answer_first a b v h = ap (λ (n : ℕ). answer n v) (first_stop a b h) ∙ answer_refused (first_of a) v h

-- ---- parts

pub part_refused : (a : Answer) (n : ℕ) (part : ℕ → List ℕ) → refused n ≡ a → [] ≡ part_for a part
unfolding part_for
part_refused a n part e = ap (λ (b : Answer). part_for b part) e

pub part_gives : (a : Answer) (n : ℕ) (part : ℕ → List ℕ) → gives n ≡ a → part n ≡ part_for a part
unfolding part_for
part_gives a n part e = ap (λ (b : Answer). part_for b part) e

-- the refusal in an answer to cases
pub refusal_answer : (n v : ℕ) → refusal_in (answer n v) ≡ n
refusal_answer zero v = refl
refusal_answer (suc n) v = refl

-- parts of two answers with the same refusals
pub part_alike : (m n i j : ℕ) (f g : ℕ → List ℕ) → m ≡ n → f i ≡ g j → part_for (answer m i) f ≡ part_for (answer n j) g
unfolding part_for
part_alike m n i j f g e same = ap (λ (k : ℕ). part_for (answer k i) f) e ∙ go n
  where
    go : (n : ℕ) → part_for (answer n i) f ≡ part_for (answer n j) g
    go zero = same
    go (suc n) = refl
