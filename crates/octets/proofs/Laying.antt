-- Laws of laying text over a buffer: a piece and then the next is the two at once, and the buffer keeps its length.
-- Assumes nothing.
use mathlib.Core.Path.{◌≡◌, refl, sym, ap, ap₂, ◌∙◌, subst}
use mathlib.Core.Bool.{Bool, cond}
use mathlib.Core.List.{List, [], ◌++◌, append_assoc}
use Prim.Native.Nat.{ℕ, ◌+◌, ◌≤◌, ◌<◌}
use native.Mathlib.Nat.{add-zero}
use native.Mathlib.Omega.{arith}
use lib.ListN.{length, take, drop, length-append}
use lib.Seq.{take_at, drop_at, drop-drop, take-length, length-take-le, paste, paste-zero, length-paste}
use borrow.Author.Tests.{le-leb, lt-leb}
use Rattle.octets.specs.Parts.{laid, Puts, Put, Lays}

pub laid_paste : (xs : List ℕ) (at : ℕ) (s : List ℕ) → laid xs at s ≡ paste xs at s (length s)
unfolding laid
laid_paste xs at s = ap (λ (l : List ℕ). take at xs ++ l ++ drop (at + length s) xs) (sym (take-length s))

module _ (xs : List ℕ) (at : ℕ) (s : List ℕ) where
  pub length_laid : at + length s ≤ length xs → length (laid xs at s) ≡ length xs
  length_laid h = ap length (laid_paste xs at s) ∙ length-paste xs at s (length s) h (omega arith)

  pub laid_then : at ≤ length xs → (t : List ℕ) → laid (laid xs at s) (at + length s) t ≡ laid xs at (s ++ t)
  unfolding laid
  laid_then h t =
      let p : List ℕ = take at xs ++ s in
      let r : List ℕ = drop (at + length s) xs in
      let front : length (take at xs) ≡ at = length-take-le at xs h in
      let seam : length p ≡ at + length s = simp length-append (omega arith) in
      let both : length (s ++ t) ≡ length s + length t = length-append s t in
      let sum : at + length s + length t ≡ at + length (s ++ t) = omega arith in
      let past : drop (at + length s + length t) (p ++ r) ≡ drop (at + length (s ++ t)) xs =
      sym (drop-drop (length t) (at + length s) (p ++ r))
      ∙ ap (drop (length t)) (drop_at p r (at + length s) seam)
      ∙ drop-drop (length t) (at + length s) xs
      ∙ ap (λ (n : ℕ). drop n xs) sum
      in
      ap₂ (λ (u v : List ℕ). u ++ t ++ v) (take_at p r (at + length s) seam) past
      ∙ ap (λ (u : List ℕ). u ++ drop (at + length (s ++ t)) xs) (append_assoc (take at xs) s t)

-- nothing put
pub put_none : (xs : List ℕ) (at : ℕ) → Put xs at [] at xs
unfolding laid
put_none xs at = record { end = sym (add-zero at); text = paste-zero xs at []; same = refl }

module _ {xs ys : List ℕ} {at m : ℕ} {s : List ℕ} where
  -- a piece, and then the next behind it
  pub put_then : {zs t : List ℕ} {r : ℕ} → at ≤ length xs → Put xs at s m ys → Put ys m t r zs → Put xs at (s ++ t) r zs
  put_then {zs} {t} {r} h a b =
      let both : length (s ++ t) ≡ length s + length t = length-append s t in
      record {
        end = omega arith;
        text = b.text ∙ ap₂ (λ (l : List ℕ) (n : ℕ). laid l n t) a.text a.end ∙ laid_then xs at s h t;
        same = b.same ∙ a.same;
      }

-- ---- the ways out of `put`

pub puts_none : (xs : List ℕ) (at : ℕ) (s : List ℕ) → length xs < at + length s → Puts xs at s at xs
puts_none xs at s h = record { end = rw (lt-leb (at + length s) (length xs) h); bytes = rw (lt-leb (at + length s) (length xs) h) }

-- the part of k bytes at `at` comes back as s
pub puts_some : (xs : List ℕ) (at : ℕ) (s ys : List ℕ) (k r : ℕ) → k ≡ length s → r ≡ at + length s → at + length s ≤ length xs
    → ys ≡ s → Puts xs at s r (take at xs ++ (ys ++ drop k (drop at xs)))
unfolding laid
puts_some xs at s ys k r e er h w =
    let some = le-leb (at + length s) (length xs) h in
    let rest : drop k (drop at xs) ≡ drop (at + length s) xs = ap (λ (n : ℕ). drop n (drop at xs)) e ∙ drop-drop (length s) at xs in
    record {
      end = rw some er;
      bytes = ap₂ (λ (u v : List ℕ). take at xs ++ (u ++ v)) w rest
          ∙ sym (append_assoc (take at xs) s (drop (at + length s) xs))
          ∙ ap (λ (b : Bool). cond b (laid xs at s) xs) (sym some);
    }

-- where s fits, it is put
pub puts_put : {xs : List ℕ} {at : ℕ} {s : List ℕ} {r : ℕ} {ys : List ℕ} → at + length s ≤ length xs → Puts xs at s r ys → Put xs at s r ys
puts_put {xs} {at} {s} {r} {ys} h p =
    let some = le-leb (at + length s) (length xs) h in
    let text : ys ≡ laid xs at s = rw some at p.bytes in
    record { end = rw some at p.end; text = text; same = ap length text ∙ length_laid xs at s h }

-- ---- pieces put behind each other: where all of them fit, so does each

pub lays_none : (xs : List ℕ) (at : ℕ) → Lays xs at [] at xs
lays_none xs at = record { put = λ h. put_none xs at }

module _ {xs ys : List ℕ} {at m : ℕ} {s : List ℕ} where
  pub puts_lays : Puts xs at s m ys → Lays xs at s m ys
  puts_lays p = record { put = λ h. puts_put h p }

  -- the same piece, said in another way
  pub lays_as : {t : List ℕ} → s ≡ t → Lays xs at s m ys → Lays xs at t m ys
  lays_as e a = subst (λ (l : List ℕ). Lays xs at l m ys) e a

  -- a piece, and then the next behind it
  pub lays_then : {zs t : List ℕ} {r : ℕ} → Lays xs at s m ys → Lays ys m t r zs → Lays xs at (s ++ t) r zs
  lays_then {zs} {t} {r} a b = record {
    put = λ h.
        let both = length-append s t in
        let first = a.put (omega arith) in
        put_then (omega arith) first (b.put (omega (arith, first.end, first.same)));
  }
