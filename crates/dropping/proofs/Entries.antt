-- The jobs that are left, entry by entry: how many there are, their entries and their bodies.
-- Assumes nothing.
use mathlib.Core.Path.{◌≡◌, refl, sym, ap, ap₂, ◌∙◌, subst}
use mathlib.Core.Logic.{⊎_elim}
use mathlib.Core.Bool.{Bool, true, false, cond}
use mathlib.Core.List.{List, [], ◌∷◌, ◌++◌, append-nil, append_assoc}
use Prim.Native.Nat.{ℕ, zero, suc, ◌+◌, ◌*◌, ◌<◌, ◌≤◌}
use native.Mathlib.Numerals.{add-one}
use native.Mathlib.Nat.{eq-or-lt_of_le}
use native.Mathlib.Omega.{arith}
use lib.ListN.{length, get_or, take, drop, length-append, length-take, length-drop, drop_of_length-le}
use lib.Seq.{take_at, drop_at, drop-drop, take-length, length-take-le}
use Rattle.std.specs.Prelude.{not}
use Rattle.std.specs.List.{count_by}
use Rattle.std.proofs.lemmas.List.{get_or-take}
use Rattle.std.proofs.lemmas.List.Sums.{count_by_more_yes, count_by_more_no}
use Rattle.header.specs.Fields.{count_of, directory_end, directory_of}
use Rattle.header.proofs.Accepted.{directory_length}
use Rattle.directory.specs.Entries.{entry_at}
use Rattle.directory.proofs.Entries.{entry_inside}
use Rattle.bodies.specs.Bodies.{body_at}
use Rattle.codec.specs.Jobs.{Job, entry_of, directory_from, bodies_in}
use Rattle.codec.specs.Archive.{job_at}
use Rattle.codec.proofs.JobLaws.{bodies_append, directory_append}
use Rattle.dropping.specs.Internal.{left_at, left_of}

-- ---- one entry

-- a body is a part of the file
pub body_within : (file : List ℕ) (i : ℕ) → length (body_at file i) ≤ length file
unfolding body_at
body_within file i = simp (length-take, length-drop) (omega arith)

-- an entry of a whole directory
pub entry_sixteen : (file : List ℕ) (i : ℕ) → directory_end file ≤ length file → i < count_of file
    → length (entry_at (directory_of file) i) ≡ 16
entry_sixteen file i room l =
    let size = directory_length file room in
    ap length (entry_inside (directory_of file) i (omega arith))
    ∙ length-take-le 16 (drop (16 * i) (directory_of file)) (simp length-drop (omega arith))

-- ---- one entry more, as the loops go on

module _ (marks : List Bool) (file : List ℕ) (i : ℕ) where
  pub dropped_next : get_or marks i false ≡ true → left_of marks file i ≡ left_of marks file (i + 1)
  unfolding left_of left_at
  dropped_next e = sym (append-nil (left_of marks file i)) ∙ sym (rw (add-one, e) refl)

  left_next : get_or marks i false ≡ false → left_of marks file i ++ job_at file i ∷ [] ≡ left_of marks file (i + 1)
  unfolding left_of left_at
  left_next e = sym (rw (add-one, e) refl)

  pub count_next : get_or marks i false ≡ false → length (left_of marks file (i + 1)) ≡ length (left_of marks file i) + 1
  count_next e = sym (ap length (left_next e)) ∙ length-append (left_of marks file i) (job_at file i ∷ [])

  pub bodies_next : get_or marks i false ≡ false
      → bodies_in (left_of marks file i) ++ body_at file i ≡ bodies_in (left_of marks file (i + 1))
  unfolding bodies_in
  bodies_next e =
      ap (λ (b : List ℕ). bodies_in (left_of marks file i) ++ b) (sym (append-nil (body_at file i)))
      ∙ sym (bodies_append (left_of marks file i) (job_at file i ∷ []))
      ∙ ap bodies_in (left_next e)

  pub size_next : get_or marks i false ≡ false
      → length (bodies_in (left_of marks file (i + 1))) ≡ length (bodies_in (left_of marks file i)) + length (body_at file i)
  size_next e = sym (ap length (bodies_next e)) ∙ length-append (bodies_in (left_of marks file i)) (body_at file i)

  pub size_same : get_or marks i false ≡ true
      → length (bodies_in (left_of marks file (i + 1))) ≡ length (bodies_in (left_of marks file i))
  size_same e = sym (ap (λ (js : List Job). length (bodies_in js)) (dropped_next e))

  pub directory_next : get_or marks i false ≡ false → (from start : ℕ) → start ≡ from + length (bodies_in (left_of marks file i))
      → directory_from from (left_of marks file i) ++ entry_of (job_at file i).number start (length (body_at file i))
      ≡ directory_from from (left_of marks file (i + 1))
  unfolding directory_from
  directory_next e from start at =
      ap (λ (d : List ℕ). directory_from from (left_of marks file i) ++ d)
      (sym (append-nil (entry_of (job_at file i).number start (length (body_at file i)))))
      ∙ ap (λ (k : ℕ). directory_from from (left_of marks file i) ++ directory_from k (job_at file i ∷ [])) at
      ∙ sym (directory_append from (left_of marks file i) (job_at file i ∷ []))
      ∙ ap (directory_from from) (left_next e)

-- ---- of all

pub size_none : (marks : List Bool) (file : List ℕ) → length (bodies_in (left_of marks file 0)) ≡ 0
unfolding left_of bodies_in
size_none marks file = refl

-- marks of more entries than there are
pub left_marks : (named : List Bool) (file : List ℕ) (n m : ℕ) → m ≤ n → left_of (take n named) file m ≡ left_of named file m
unfolding left_of left_at
left_marks named file n zero l = refl
left_marks named file n (suc m) l =
    ap (λ (js : List Job). js ++ cond (get_or (take n named) m false) [] (job_at file m ∷ [])) (left_marks named file n m (omega arith))
    ∙ ap (λ (b : Bool). left_of named file m ++ cond b [] (job_at file m ∷ [])) (get_or-take n named m false (omega arith))

module _ (marks : List Bool) (file : List ℕ) where
  counted_more : (n : ℕ) → n < length marks → length (left_at marks file n) + count_by (λ (b : Bool). not b) (take n marks)
      ≡ count_by (λ (b : Bool). not b) (take (n + 1) marks)
  unfolding left_at
  counted_more n l = by_mark (get_or marks n false) refl
    where
      by_mark : (b : Bool) → get_or marks n false ≡ b
          → length (cond b [] (job_at file n ∷ [])) + count_by (λ (b : Bool). not b) (take n marks)
          ≡ count_by (λ (b : Bool). not b) (take (n + 1) marks)
      by_mark true e = omega (arith, count_by_more_no (λ (b : Bool). not b) marks n false l (ap (λ (b : Bool). not b) e))
      by_mark false e = omega (arith, count_by_more_yes (λ (b : Bool). not b) marks n false l (ap (λ (b : Bool). not b) e))

  counted : (n : ℕ) → n ≤ length marks → length (left_of marks file n) ≡ count_by (λ (b : Bool). not b) (take n marks)
  unfolding left_of
  counted zero l = refl
  counted (suc n) l =
      length-append (left_of marks file n) (left_at marks file n)
      ∙ rw (← add-one n) (omega (arith, counted n (omega arith), counted_more n l))

  pub left_counted : length (left_of marks file (length marks)) ≡ count_by (λ (b : Bool). not b) marks
  left_counted = counted (length marks) (omega arith) ∙ ap (count_by (λ (b : Bool). not b)) (take-length marks)

-- the first entries leave no more than all
module _ (marks : List Bool) (file : List ℕ) (i : ℕ) where
  abbrev Less : ℕ → Type 0
  Less n =
      (length (left_of marks file i) ≤ length (left_of marks file n))
      × (length (bodies_in (left_of marks file i)) ≤ length (bodies_in (left_of marks file n)))

  less_next : (n : ℕ) → Less n → Less (suc n)
  unfolding left_of
  less_next n less =
      let js : List Job = left_of marks file n in
      let more : List Job = left_at marks file n in (
        omega (arith, less.0, length-append js more),
        omega (arith, less.1, ap length (bodies_append js more), length-append (bodies_in js) (bodies_in more)),
      )

  left_less : (n : ℕ) → i ≤ n → Less n
  left_less zero l = let e : i ≡ 0 = omega arith in subst Less e (omega arith, omega arith)
  left_less (suc n) l =
      ⊎_elim (λ (e : i ≡ suc n). subst Less e (omega arith, omega arith)) (λ (m : i < suc n). less_next n (left_less n (omega arith)))
      (eq-or-lt_of_le l)

-- so what is kept of entry i has room where all has
pub kept_fits : (marks : List Bool) (file : List ℕ) (i : ℕ) → get_or marks i false ≡ false → i < length marks
    → (length (left_of marks file i) + 1 ≤ length (left_of marks file (length marks)))
    × (length (bodies_in (left_of marks file i)) + length (body_at file i) ≤ length (bodies_in (left_of marks file (length marks))))
kept_fits marks file i e l =
    let less = left_less marks file (i + 1) (length marks) (omega arith) in
    (omega (arith, less.0, count_next marks file i e), omega (arith, less.1, size_next marks file i e))

-- ---- writing

-- a piece behind what is written
pub copied_next : (run p q s x : List ℕ) (at k : ℕ) → run ≡ p ++ drop at q → at ≡ length p → k ≡ length s → x ≡ s
    → take at run ++ (x ++ drop k (drop at run)) ≡ (p ++ s) ++ drop (at + length s) q
copied_next run p q s x at k e size ek es =
    ap₂ (λ (u v : List ℕ). u ++ v) (ap (take at) e ∙ take_at p (drop at q) at (sym size))
    (ap₂ (λ (u v : List ℕ). u ++ v) es
    (ap₂ (λ (n : ℕ) (l : List ℕ). drop n l) ek (ap (drop at) e ∙ drop_at p (drop at q) at (sym size)) ∙ drop-drop (length s) at q))
    ∙ sym (append_assoc p s (drop (at + length s) q))

-- all is written
pub copied_all : (run p q : List ℕ) (at : ℕ) → run ≡ p ++ drop at q → length q ≤ at → run ≡ p
copied_all run p q at e l = e ∙ ap (λ (z : List ℕ). p ++ z) (drop_of_length-le q l) ∙ append-nil p
