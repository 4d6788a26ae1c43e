-- The listing fits its buffer: a header of 8 bytes, 64 lines of 21; and a text put at the front of zeros is held with zeros behind it.
-- Assumes nothing.
use mathlib.Core.Path.{◌≡◌, sym, ap, ◌∙◌, subst}
use mathlib.Core.List.{List, [], ◌++◌}
use Prim.Native.Nat.{ℕ, zero, suc, ◌+◌, ◌-◌, ◌*◌, ◌≤◌, ◌<◌}
use native.Mathlib.Omega.{arith}
use lib.ListN.{length, take, replicate, length-take, length-append, length-replicate}
use lib.Seq.{take_all, length-take-le}
use Rattle.arrayvec.specs.ArrayVec.{ArrayVec}
use Rattle.octets.specs.Parts.{overwritten}
use Rattle.octets.proofs.Parts.{overwritten_front, drop_replicate}
use Rattle.blocks.specs.Blocks.{row}
use Rattle.directory.specs.Entries.{entries, entry_at, number_of, start_of, size_of}
use Rattle.listing.specs.Text.{number_line, job_line, job_lines}
use Rattle.listing.specs.Listing.{Holds}
use Rattle.listing.specs.Internal.{Printable, Puts}
use Rattle.listing.specs.declared.Listing.{Listing}
use Rattle.decimal.proofs.Digits.{limit, length_decimal}
use Rattle.listing.proofs.Lines.{length_field, length_number_line, length_job_line, lines_more}

pub number_line_short : (word : List ℕ) (k n : ℕ) → n < limit k → length (number_line word n) ≤ length word + k + 2
number_line_short word k n h = omega (arith, length_number_line word n, length_decimal k n h)

job_line_short : (e : List ℕ) → start_of e < 100000 → size_of e < 100000 → length (job_line e) ≤ 21
job_line_short e hs hl =
    let digits : length (number_of e) ≤ 8 = simp length-take (omega arith) in
    omega (
      arith,
      length_job_line e,
      length_field (start_of e),
      length_field (size_of e),
      length_decimal 4 (start_of e) hs,
      length_decimal 4 (size_of e) hl,
    )

pub lines_short : (d : List ℕ) → Printable d → (n : ℕ) → n ≤ entries d → length (job_lines d n) ≤ 21 * n
unfolding job_lines row
lines_short d p zero h = omega arith
lines_short d p (suc n) h =
    omega (
      arith,
      lines_more d n,
      lines_short d p n (omega arith),
      job_line_short (entry_at d n) (p.starts n h) (p.sizes n h),
    )

-- a text over the front of zeros
pub over_zeros : (s : List ℕ) (r : Listing) → length s ≤ 1352 → r.length ≡ length s → r.text ≡ overwritten s (replicate 1352 0) → Holds s r
over_zeros s r h e t =
    let room : length s ≤ length (replicate {A = ℕ} 1352 0) = omega (arith, length-replicate {A = ℕ} 1352 0) in
    let text : r.text ≡ s ++ replicate (1352 - length s) 0 =
    t ∙ overwritten_front s (replicate 1352 0) room ∙ ap (λ (l : List ℕ). s ++ l) (drop_replicate (length s) 1352)
    in
    let long : length r.text ≡ length s + length (replicate {A = ℕ} (1352 - length s) 0) =
    ap length text ∙ length-append s (replicate (1352 - length s) 0)
    in
    let within : r.length ≤ length r.text = omega (arith, e, long) in
    record { size = e; text = text; within = within; front = sym (length-take-le r.length r.text within) }

-- the same text, said in another way
pub held_as : {s t : List ℕ} {r : Listing} → s ≡ t → Holds s r → Holds t r
held_as {s} {t} {r} e p = subst (λ (l : List ℕ). Holds l r) e p

-- a text that a listing has room for
pub held_whole : {s : List ℕ} {r : Listing} → length s ≤ 1352 → Holds (take 1352 s) r → Holds s r
held_whole {s} {r} h p = held_as (take_all 1352 s h) p

-- a text put into none is all that is put
pub puts_items : (s : List ℕ) (a r : ArrayVec ℕ) → a.items ≡ [] → length s ≤ 1352 → Puts a s r → r.items ≡ s
puts_items s a r e h p =
    let none : length a.items ≡ 0 = ap length e in
    p.put (omega arith) ∙ ap (λ (l : List ℕ). l ++ s) e

-- a text put into none is all that is held
pub puts_held : (s l : List ℕ) (a b : ArrayVec ℕ) (r : Listing) → a.items ≡ [] → length s ≤ 1352 → Puts a s b → l ≡ b.items
    → Holds (take 1352 l) r
    → Holds s r
puts_held s l a b r e h p el held =
    held_whole h (held_as (ap (take 1352) (el ∙ puts_items s a b e h p)) held)
