-- What each way out of reading a word, and its digits, has to show.
-- Assumes nothing.
use mathlib.Core.Path.{◌≡◌, sym, ap, ap₂, ◌∙◌}
use mathlib.Core.Bool.{Bool, true, false}
use mathlib.Core.List.{List}
use Prim.Native.Nat.{ℕ, suc, ◌+◌, ◌*◌, ◌-◌, ◌≤◌, ◌<◌}
use native.Mathlib.Numerals.{add-one}
use native.Mathlib.Omega.{arith}
use borrow.Author.Tests.{le-leb, lt-leb, lt-ltb, le-ltb}
use lib.Arith.{lt_of_le-ne}
use lib.Dec.{leb}
use lib.ListN.{length, get_or}
use Rattle.std.specs.Prelude.{Option, Some, None}
use Rattle.decimal.specs.Decimal.{all_digits, decimal_value}
use Rattle.decimal.specs.Word.{value_of, fits64, is_decimal, number_if, Reads, ReadsDigits}
use Rattle.decimal.proofs.Values.{value_grows}

-- ---- digits

-- the first k digits have the value `value`, and digit k has `digit`
module _ (word : List ℕ) (k value digit : ℕ) (so_far : value ≡ decimal_value word k) (next : digit ≡ get_or word k 0 - 48) where
  pub value_next : value * 10 + digit ≡ decimal_value word (k + 1)
  value_next = ap₂ (λ (v d : ℕ). v * 10 + d) so_far next ∙ ap (decimal_value word) (sym (add-one k))

-- the first k digits have the value `value`
module _ (word : List ℕ) (k value : ℕ) where
  -- they do not fit with the next, so all digits do not
  pub digits_over : (r : Option ℕ) → value ≡ decimal_value word k → r ≡ None → k < length word
      → 18446744073709551616 ≤ value * 10 + (get_or word k 0 - 48) → ReadsDigits word r
  digits_over r so_far none inside over =
      let more = value_grows word (suc k) (length word) inside in
      let e : fits64 (value_of word) ≡ false = le-ltb (value_of word) _ (omega arith) in
      none ∙ sym (ap (λ (b : Bool). number_if b (value_of word)) e)

  -- all digits are read
  pub digits_end : value ≡ decimal_value word k → k ≡ length word → value < 18446744073709551616 → ReadsDigits word (Some value)
  digits_end so_far end small =
      let all : value ≡ value_of word = so_far ∙ ap (decimal_value word) end in
      let e : fits64 (value_of word) ≡ true = lt-ltb (value_of word) _ (omega arith) in
      ap Some all ∙ sym (ap (λ (b : Bool). number_if b (value_of word)) e)

-- ---- a word

module _ (word : List ℕ) where
  empty : length word ≡ 0 → is_decimal word ≡ false
  unfolding is_decimal
  empty e =
      let none : length word < 1 = omega arith in
      rw (lt-leb 1 (length word) none)

  module _ (some : length word ≡ 0 → ⊥) where
    one : leb 1 (length word) ≡ true
    one =
        let least : 0 ≤ length word = omega arith in
        le-leb 1 (length word) (lt_of_le-ne least (λ z. some (sym z)))

    long : 20 < length word → is_decimal word ≡ false
    unfolding is_decimal
    long l = rw (one, lt-leb (length word) 20 l)

    module _ (short : length word ≤ 20) where
      other : all_digits word (length word) ≡ false → is_decimal word ≡ false
      unfolding is_decimal
      other e = rw (one, le-leb (length word) 20 short, e)

      by_digits : all_digits word (length word) ≡ true → is_decimal word ≡ fits64 (value_of word)
      unfolding is_decimal
      by_digits e = rw (one, le-leb (length word) 20 short, e)

  module _ (r : Option ℕ) where
    no_number : is_decimal word ≡ false → r ≡ None → Reads word r
    no_number e none = none ∙ sym (ap (λ (b : Bool). number_if b (value_of word)) e)

    pub word_empty : length word ≡ 0 → r ≡ None → Reads word r
    word_empty e = no_number (empty e)

    module _ (some : length word ≡ 0 → ⊥) where
      pub word_long : 20 < length word → r ≡ None → Reads word r
      word_long l = no_number (long some l)

      pub word_other : length word ≤ 20 → all_digits word (length word) ≡ false → r ≡ None → Reads word r
      word_other short e = no_number (other some short e)

      pub word_digits : length word ≤ 20 → all_digits word (length word) ≡ true → ReadsDigits word r → Reads word r
      word_digits short e d = d ∙ ap (λ (b : Bool). number_if b (value_of word)) (sym (by_digits some short e))
