-- The order of job numbers looks at their eight bytes only; on digits it is by year, and within a span of years that of the plain numbers.
-- Assumes nothing.
use mathlib.Core.Path.{◌≡◌, refl, sym, ap, ap₂, ◌∙◌}
use mathlib.Core.Bool.{Bool, true, false, cond, ◌||◌, ◌&&◌}
use mathlib.Core.List.{List}
use mathlib.Core.Logic.{⊎_elim}
use Prim.Native.Nat.{ℕ, zero, suc, ◌+◌, ◌*◌, ◌-◌, ◌<◌, ◌≤◌}
use native.Mathlib.Nat.{eq-or-lt_of_le}
use native.Mathlib.Omega.{arith}
use borrow.Author.Tests.{leb-true, ltb-true, ltb-false, lt-ltb, le-ltb, eqb-true, eqb-false}
use lib.Dec.{leb, ltb, eqb}
use lib.ListN.{get_or, take, drop}
use lib.Seq.{get_or-take, get_or-drop}
use Rattle.refusals.proofs.Booleans.{both_true, same_test}
use Rattle.octets.proofs.Below.{all_each}
use Rattle.decimal.specs.Decimal.{is_digit, decimal_value}
use Rattle.jobnumber.specs.Number.{digits, job_number, century_of, year_of, serial_of, order_of}
use Rattle.jobnumber.specs.Order.{ByYear, Spans}

-- ---- eight bytes

value_take : (e : List ℕ) (n k : ℕ) → k ≤ n → decimal_value (take n e) k ≡ decimal_value e k
value_take e n zero l = refl
value_take e n (suc k) l =
    ap₂ (λ (a b : ℕ). a * 10 + (b - 48)) (value_take e n k (omega arith)) (get_or-take n e k 0 l)

-- eight digits by pairs
pub pairs : (s : List ℕ) (a b c d : ℕ) → a ≡ (get_or s 0 0 - 48) * 10 + (get_or s 1 0 - 48)
    → b ≡ (get_or s 2 0 - 48) * 10 + (get_or s 3 0 - 48)
    → c ≡ (get_or s 4 0 - 48) * 10 + (get_or s 5 0 - 48) → d ≡ (get_or s 6 0 - 48) * 10 + (get_or s 7 0 - 48)
    → ((a * 100 + b) * 100 + c) * 100 + d ≡ job_number s
pairs s a b c d ea eb ec ed = omega arith

pub pairs_most : (a b c d : ℕ) → a < 3000 → b < 3000 → c < 3000 → d < 3000 → ((a * 100 + b) * 100 + c) * 100 + d < 4000000000
pairs_most a b c d la lb lc ld = omega arith

-- the digits behind the first n, one more
value_drop : (s : List ℕ) (n k : ℕ) → decimal_value (drop n s) (suc k) ≡ decimal_value (drop n s) k * 10 + (get_or s (n + k) 0 - 48)
value_drop s n k = ap (λ (b : ℕ). decimal_value (drop n s) k * 10 + (b - 48)) (get_or-drop n s k 0)

-- eight digits are the first two and the other six
split : (s : List ℕ) → job_number s ≡ decimal_value s 2 * 1000000 + serial_of s
unfolding serial_of
split s = omega (arith, value_drop s 2 0, value_drop s 2 1, value_drop s 2 2, value_drop s 2 3, value_drop s 2 4, value_drop s 2 5)

-- the year's four digits and then the other six are the year's first two and then all eight
pub order_century : (s : List ℕ) → order_of s ≡ century_of s * 100000000 + job_number s
unfolding order_of
order_century s = omega (arith, split s)

century_front : (s : List ℕ) → century_of (take 8 s) ≡ century_of s
unfolding century_of
century_front s =
    let two : 2 ≤ 8 = omega arith in
    rw (value_take s 8 2 two)

pub order_front : (s : List ℕ) → order_of (take 8 s) ≡ order_of s
order_front s =
    let eight : 8 ≤ 8 = omega arith in
    order_century (take 8 s)
    ∙ ap₂ (λ (c n : ℕ). c * 100000000 + n) (century_front s) (value_take s 8 8 eight)
    ∙ sym (order_century s)

pub same_order : (a b : List ℕ) → take 8 a ≡ take 8 b → order_of a ≡ order_of b
same_order a b e = sym (order_front a) ∙ ap order_of e ∙ order_front b

pub century_old : (s : List ℕ) → 70 ≤ decimal_value s 2 → century_of s ≡ 19
unfolding century_of
century_old s l = ap (λ (b : Bool). cond b 20 19) (le-ltb (decimal_value s 2) _ (omega arith))

pub century_recent : (s : List ℕ) → decimal_value s 2 < 70 → century_of s ≡ 20
unfolding century_of
century_recent s l = ap (λ (b : Bool). cond b 20 19) (lt-ltb (decimal_value s 2) _ (omega arith))

-- ---- eight digits

module _ (s : List ℕ) (h : digits s ≡ true) where
  digit_here : (k : ℕ) → k < 8 → is_digit (get_or s k 0) ≡ true
  unfolding digits
  digit_here = all_each (λ (j : ℕ). is_digit (get_or s j 0)) 8 h

  digit_most : (k : ℕ) → k < 8 → get_or s k 0 - 48 ≤ 9
  digit_most k l =
      let b : get_or s k 0 ≤ 57 = leb-true _ _ (both_true (leb 48 (get_or s k 0)) (leb (get_or s k 0) 57) (digit_here k l)).1 in
      omega arith

  year_most : decimal_value s 2 < 100
  year_most = omega (arith, digit_most 0 (omega arith), digit_most 1 (omega arith))

  serial_most : serial_of s < 1000000
  serial_most =
      omega (
        arith,
        split s,
        digit_most 2 (omega arith),
        digit_most 3 (omega arith),
        digit_most 4 (omega arith),
        digit_most 5 (omega arith),
        digit_most 6 (omega arith),
        digit_most 7 (omega arith),
      )

pub spans : Spans
spans s h =
    let y = year_most s h in
    let n = serial_most s h in
    record {
      parts = split s;
      two = omega arith;
      six = omega arith;
      old = λ l. let c = century_old s (omega (arith, split s)) in
          (omega (arith, split s), omega arith, order_century s ∙ ap (λ (k : ℕ). k * 100000000 + job_number s) c);
      recent = λ l. let c = century_recent s (omega (arith, split s)) in
          (omega (arith, split s), omega arith, order_century s ∙ ap (λ (k : ℕ). k * 100000000 + job_number s) c);
    }

-- numbers moved alike
moved : (c m n : ℕ) → ltb (c + m) (c + n) ≡ ltb m n
moved c m n = same_test (c + m) (c + n) m n (λ l. omega arith) (λ l. omega arith)

-- the first decides, and where it is the same the second
by_first : (a b m n : ℕ) → m < 1000000 → n < 1000000
    → ltb (a * 1000000 + m) (b * 1000000 + n) ≡ (ltb a b || (eqb a b && ltb m n))
by_first a b m n lm ln = go (ltb a b) refl (eqb a b) refl
  where
    go : (x : Bool) → ltb a b ≡ x → (y : Bool) → eqb a b ≡ y
        → ltb (a * 1000000 + m) (b * 1000000 + n) ≡ (ltb a b || (eqb a b && ltb m n))
    go true e y f = rw e (lt-ltb (a * 1000000 + m) (b * 1000000 + n) (omega (arith, ltb-true a b e)))
    go false e true f =
        rw (e, f) (ap (λ (k : ℕ). ltb (a * 1000000 + m) (k * 1000000 + n)) (sym (eqb-true a b f)) ∙ moved (a * 1000000) m n)
    go false e false f =
        let l : b < a =
        ⊎_elim (λ q. absurd (eqb-false a b f (sym q))) (λ q. q) (eq-or-lt_of_le {n = b} {m = a} (ltb-false a b e))
        in
        rw (e, f) (le-ltb (a * 1000000 + m) (b * 1000000 + n) (omega arith))

pub by_year : ByYear
unfolding order_of
by_year s t h g = by_first (year_of s) (year_of t) (serial_of s) (serial_of t) (serial_most s h) (serial_most t g)

-- ---- two job numbers, by the spans that they lie in

module _ (s t : List ℕ) (h : digits s ≡ true) (g : digits t ≡ true) where
  pub both_old : 70000000 ≤ job_number s → 70000000 ≤ job_number t → ltb (order_of s) (order_of t) ≡ ltb (job_number s) (job_number t)
  both_old l m = ap₂ ltb ((spans s h).old l).2 ((spans t g).old m).2 ∙ moved 1900000000 (job_number s) (job_number t)

  pub both_recent : job_number s < 70000000 → job_number t < 70000000 → ltb (order_of s) (order_of t) ≡ ltb (job_number s) (job_number t)
  both_recent l m = ap₂ ltb ((spans s h).recent l).2 ((spans t g).recent m).2 ∙ moved 2000000000 (job_number s) (job_number t)

  pub old_recent : 70000000 ≤ job_number s → job_number t < 70000000 → order_of s < order_of t
  old_recent l m =
      ltb-true _ _
      (by_year s t h g
      ∙ ap (λ (b : Bool). b || (eqb (year_of s) (year_of t) && ltb (serial_of s) (serial_of t)))
      (lt-ltb (year_of s) (year_of t) (omega (arith, (spans s h).two, ((spans s h).old l).1, ((spans t g).recent m).1))))
