-- Laws of the digits that a number is written in: one at a time, how many there are, and their value.
-- Assumes nothing.
use mathlib.Core.Path.{◌≡◌, refl, sym, ap, ◌∙◌}
use mathlib.Core.Bool.{Bool, true, false, cond, ◌&&◌}
use mathlib.Core.Logic.{◌⊎◌, inl, inr, ⊎_elim}
use mathlib.Core.List.{List, [], ◌∷◌, ◌++◌}
use Prim.Native.Nat.{ℕ, zero, suc, ◌+◌, ◌*◌, ◌/◌, ◌%◌, ◌≤◌, ◌<◌}
use native.Mathlib.Nat.{eq-or-lt_of_le, not-suc-le-zero, le_of_suc-le-suc}
use native.Mathlib.Omega.{arith}
use lib.Dec.{ltb}
use lib.ListN.{length, get_or, take, length-append, get_or-append, get_or-eq_default}
use Rattle.std.specs.List.{list_all}
use Rattle.octets.specs.Below.{all_below}
use lib.Seq.{get_or_at}
use borrow.Author.Tests.{ltb-true, ltb-false, lt-ltb, le-ltb, le-leb}
use Rattle.octets.proofs.Below.{all_yes, all_no}
use Rattle.decimal.specs.Decimal.{is_digit, all_digits, digits_in, decimal_digits}
use Rattle.decimal.specs.Word.{value_of}
use Rattle.decimal.proofs.Values.{value_last}

-- one step
digits_small : (steps n : ℕ) → n < 10 → digits_in (suc steps) n ≡ (48 + n) ∷ []
unfolding digits_in
digits_small steps n h = rw (lt-ltb n 10 h)

digits_more : (steps n : ℕ) → 10 ≤ n → digits_in (suc steps) n ≡ digits_in steps (n / 10) ++ ((48 + n % 10) ∷ [])
unfolding digits_in
digits_more steps n h = rw (le-ltb n 10 h)

-- a number of one digit, or of more
size : (n : ℕ) → (n < 10) ⊎ (10 ≤ n)
size n = by_test (ltb n 10) refl
  where
    by_test : (b : Bool) → ltb n 10 ≡ b → (n < 10) ⊎ (10 ≤ n)
    by_test true e = inl (ltb-true n 10 e)
    by_test false e = inr (ltb-false n 10 e)

-- any number of steps above n gives the same digits
enough : (f g n : ℕ) → n < f → n < g → digits_in f n ≡ digits_in g n
enough zero g n hf hg = absurd (omega arith)
enough (suc f) zero n hf hg = absurd (omega arith)
enough (suc f) (suc g) n hf hg =
    ⊎_elim
    (λ (h : n < 10). digits_small f n h ∙ sym (digits_small g n h))
    (λ (h : 10 ≤ n).
    digits_more f n h
    ∙ ap (λ (l : List ℕ). l ++ ((48 + n % 10) ∷ [])) (enough f g (n / 10) (omega arith) (omega arith))
    ∙ sym (digits_more g n h))
    (size n)

pub decimal_small : (n : ℕ) → n < 10 → decimal_digits n ≡ (48 + n % 10) ∷ []
unfolding decimal_digits
decimal_small n h =
    let one : n ≡ n % 10 = omega arith in
    digits_small n n h ∙ ap (λ (m : ℕ). (48 + m) ∷ []) one

pub decimal_more : (n : ℕ) → 10 ≤ n → decimal_digits n ≡ decimal_digits (n / 10) ++ ((48 + n % 10) ∷ [])
unfolding decimal_digits
decimal_more n h =
    digits_more n n h ∙ ap (λ (l : List ℕ). l ++ ((48 + n % 10) ∷ [])) (enough n (suc (n / 10)) (n / 10) (omega arith) (omega arith))

-- 10, 100, 1000, ..
abbrev pub limit : ℕ → ℕ
limit zero = 10
limit (suc k) = 10 * limit k

pub length_decimal : (k n : ℕ) → n < limit k → length (decimal_digits n) ≤ suc k
length_decimal zero n h = rw (decimal_small n h) (omega arith)
length_decimal (suc k) n h =
    ⊎_elim
    (λ (l : n < 10). rw (decimal_small n l) (omega arith))
    (λ (l : 10 ≤ n).
    let rest : length (decimal_digits (n / 10)) ≤ suc k = length_decimal k (n / 10) (omega arith) in
    rw (decimal_more n l) (simp length-append (omega arith)))
    (size n)

pub some_digit : (n : ℕ) → 1 ≤ length (decimal_digits n)
some_digit n =
    ⊎_elim
    (λ (l : n < 10). rw (decimal_small n l) (omega arith))
    (λ (l : 10 ≤ n). rw (decimal_more n l) (simp length-append (omega arith)))
    (size n)

-- ---- their value

pub decimal_value_lem : (n : ℕ) → value_of (decimal_digits n) ≡ n
unfolding decimal_digits
decimal_value_lem n = valued (suc n) n (omega arith)
  where
    valued : (steps n : ℕ) → n < steps → value_of (digits_in steps n) ≡ n
    valued zero n h = absurd (omega arith)
    valued (suc steps) n h =
        ⊎_elim
        (λ (l : n < 10). ap value_of (digits_small steps n l) ∙ omega arith)
        (λ (l : 10 ≤ n).
        let rest : value_of (digits_in steps (n / 10)) ≡ n / 10 = valued steps (n / 10) (omega arith) in
        ap value_of (digits_more steps n l) ∙ value_last (digits_in steps (n / 10)) (48 + n % 10) ∙ omega arith)
        (size n)

-- ---- the first bytes that are digits

-- of bytes that are all there, and where one is missing
pub all_front : (s : List ℕ) (n : ℕ) → n ≤ length s → list_all is_digit (take n s) ≡ all_digits s n
unfolding all_below
all_front s zero h = refl
all_front [] (suc n) h = absurd (not-suc-le-zero h)
all_front (x ∷ s) (suc n) h = after (is_digit x) (all_front s n (le_of_suc-le-suc h))
  where
    after : (b : Bool) → list_all is_digit (take n s) ≡ all_digits s n → (b && list_all is_digit (take n s)) ≡ cond b (all_digits s n) false
    after true e = e
    after false e = refl

pub all_short : (s : List ℕ) (n : ℕ) → length s < n → false ≡ all_digits s n
all_short s n h =
    let end : length s ≤ length s = omega arith in
    sym (all_no _ n (length s) h (ap is_digit (get_or-eq_default s 0 end)))

-- ---- they are digits

abbrev Digits : List ℕ → Type 0
Digits xs = (k : ℕ) → k < length xs → is_digit (get_or xs k 0) ≡ true

one_digit : (m : ℕ) → m < 10 → is_digit (48 + m) ≡ true
one_digit m l =
    let low : 48 ≤ 48 + m = omega arith in
    let high : 48 + m ≤ 57 = omega arith in
    rw (le-leb 48 (48 + m) low, le-leb (48 + m) 57 high)

last_digit : (xs : List ℕ) (d : ℕ) → Digits xs → is_digit d ≡ true → Digits (xs ++ (d ∷ []))
last_digit xs d h e k l =
    let size = length-append xs (d ∷ []) in
    ⊎_elim
    (λ (q : k ≡ length xs). ap is_digit (get_or_at xs d [] 0 k (sym q)) ∙ e)
    (λ (m : k < length xs). ap is_digit (get_or-append xs (d ∷ []) 0 k m) ∙ h k m)
    (eq-or-lt_of_le (omega arith))

pub decimal_digits_lem : (n : ℕ) → all_digits (decimal_digits n) (length (decimal_digits n)) ≡ true
unfolding decimal_digits digits_in
decimal_digits_lem n = all_yes _ _ (each (suc n) n)
  where
    each : (steps n : ℕ) → Digits (digits_in steps n)
    each zero n = λ k l. absurd (not-suc-le-zero l)
    each (suc steps) n =
        ⊎_elim
        (λ (l : n < 10). rw (digits_small steps n l) (last_digit [] (48 + n) (λ k m. absurd (not-suc-le-zero m)) (one_digit n l)))
        (λ (l : 10 ≤ n).
        let m : n % 10 < 10 = omega arith in
        rw (digits_more steps n l) (last_digit (digits_in steps (n / 10)) (48 + n % 10) (each steps (n / 10)) (one_digit (n % 10) m)))
        (size n)
