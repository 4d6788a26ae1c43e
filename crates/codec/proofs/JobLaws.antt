-- Laws of jobs, and of their directory and bodies: what stands at each place, and that nothing else does.
-- Assumes nothing.
use mathlib.Core.Path.{◌≡◌, refl, sym, ap, ◌∙◌, subst}
use mathlib.Core.List.{List, [], ◌∷◌, ◌++◌, append_assoc, append-nil}
use Prim.Native.Nat.{ℕ, zero, suc, ◌+◌, ◌*◌, ◌<◌, ◌≤◌}
use native.Mathlib.Nat.{not-suc-le-zero}
use native.Mathlib.Omega.{arith}
use lib.ListN.{length, take, drop, length-append, take-append-drop}
use lib.Seq.{take_at, drop_at, take-length, drop-drop, take-suc, split_at}
use Rattle.octets.specs.Tables.{values}
use Rattle.octets.proofs.Tables.{values_next}
use Rattle.octets.proofs.Rows.{join, row_here, row_next}
use Rattle.blocks.specs.Blocks.{row}
use Rattle.codec.specs.Jobs.{Job, no_job, entry_of, directory_from, bodies_in, job_in, start_at, Each, Ascending}
use Rattle.codec.specs.Jobs.{none, more}

-- ---- what holds of every job

pub each_at : {P : Job → Type 0} {js : List Job} → Each P js → (i : ℕ) → i < length js → P (job_in js i)
each_at none i l = absurd (not-suc-le-zero l)
each_at (more p r) zero l = p
each_at (more p r) (suc i) l = each_at r i (omega arith)

pub each_map : {P Q : Job → Type 0} {js : List Job} → ((j : Job) → P j → Q j) → Each P js → Each Q js
each_map f none = none
each_map f (more {j = j} p r) = more (f j p) (each_map f r)

pub each_values : {P : Job → Type 0} (f : ℕ → Job) (n : ℕ) → ((i : ℕ) → i < n → P (f i)) → Each P (values f n)
each_values f zero h = none
each_values {P} f (suc n) h =
    subst (Each P) (sym (values_next f n))
    (more (h zero (omega arith)) (each_values (λ (i : ℕ). f (suc i)) n (λ i l. h (suc i) (omega arith))))

module _ (order : List ℕ → ℕ) where
  pub ascending_at : {js : List Job} → Ascending order js → (i j : ℕ) → i < j → j < length js
      → order (job_in js i).number < order (job_in js j).number
  ascending_at none i j l m = absurd (not-suc-le-zero m)
  ascending_at (more above r) i zero l m = absurd (not-suc-le-zero l)
  ascending_at (more above r) zero (suc j) l m = each_at above j (omega arith)
  ascending_at (more above r) (suc i) (suc j) l m = ascending_at r i j (omega arith) (omega arith)

  pub ascending_values : (f : ℕ → Job) (n : ℕ) → ((i j : ℕ) → i < j → j < n → order (f i).number < order (f j).number)
      → Ascending order (values f n)
  ascending_values f zero h = none
  ascending_values f (suc n) h =
      subst (Ascending order) (sym (values_next f n))
      (more (each_values (λ (i : ℕ). f (suc i)) n (λ i l. h zero (suc i) (omega arith) (omega arith)))
      (ascending_values (λ (i : ℕ). f (suc i)) n (λ i j l m. h (suc i) (suc j) (omega arith) (omega arith))))

-- ---- jobs split in two

pub bodies_append : (a b : List Job) → bodies_in (a ++ b) ≡ bodies_in a ++ bodies_in b
unfolding bodies_in
bodies_append [] b = refl
bodies_append (j ∷ a) b =
    ap (λ (l : List ℕ). j.body ++ l) (bodies_append a b) ∙ sym (append_assoc j.body (bodies_in a) (bodies_in b))

-- job i, what stands before it and what after it
pub bodies_split : (js : List Job) (i : ℕ) → i < length js
    → bodies_in js ≡ bodies_in (take i js) ++ ((job_in js i).body ++ bodies_in (drop (suc i) js))
unfolding bodies_in
bodies_split js i l = ap bodies_in (split_at js i no_job l) ∙ bodies_append (take i js) (job_in js i ∷ drop (suc i) js)

pub bodies_within : (js : List Job) (i : ℕ) → i < length js
    → length (bodies_in (take i js)) + length (job_in js i).body ≤ length (bodies_in js)
bodies_within js i l = omega (arith, simp length-append at (ap length (bodies_split js i l)))

-- the bodies before job i, and its own
bodies_next : (js : List Job) (i : ℕ) → i < length js → bodies_in (take (suc i) js) ≡ bodies_in (take i js) ++ (job_in js i).body
unfolding bodies_in
bodies_next js i l =
    ap bodies_in (take-suc js i no_job l)
    ∙ bodies_append (take i js) (job_in js i ∷ [])
    ∙ ap (λ (l : List ℕ). bodies_in (take i js) ++ l) (append-nil (job_in js i).body)

-- ---- where bodies start

pub start_first : (start : ℕ) (js : List Job) → start_at start js 0 ≡ start
unfolding bodies_in
start_first start js = omega arith

pub start_next : (start : ℕ) (js : List Job) (i : ℕ) → i < length js
    → start_at start js (suc i) ≡ start_at start js i + length (job_in js i).body
start_next start js i l = omega (arith, simp length-append at (ap length (bodies_next js i l)))

pub start_end : (start : ℕ) (js : List Job) → start_at start js (length js) ≡ start + length (bodies_in js)
start_end start js = ap (λ (l : List Job). start + length (bodies_in l)) (take-length js)

-- the same, from the second job on
start_shift : (start : ℕ) (j : Job) (js : List Job) (i : ℕ)
    → start_at start (j ∷ js) (suc i) ≡ start_at (start + length j.body) js i
unfolding bodies_in
start_shift start j js i = omega (arith, length-append j.body (bodies_in (take i js)))

-- ---- the bodies in a row

pub bodies_row : (js : List Job) → bodies_in js ≡ row (λ (i : ℕ). (job_in js i).body) (length js)
unfolding bodies_in row
bodies_row js = ap bodies_in (sym (take-length js)) ∙ rows (length js) (omega arith)
  where
    rows : (n : ℕ) → n ≤ length js → bodies_in (take n js) ≡ row (λ (i : ℕ). (job_in js i).body) n
    rows zero l = refl
    rows (suc n) l = bodies_next js n l ∙ ap (λ (b : List ℕ). b ++ (job_in js n).body) (rows n (omega arith))

-- body i stands where it starts
pub body_in : (p t : List ℕ) (start : ℕ) (js : List Job) (i : ℕ) → length p ≡ start → i < length js
    → take (length (job_in js i).body) (drop (start_at start js i) (p ++ (bodies_in js ++ t))) ≡ (job_in js i).body
body_in p t start js i e l =
    let before : List ℕ = p ++ bodies_in (take i js) in
    let body : List ℕ = (job_in js i).body in
    let after : List ℕ = bodies_in (drop (suc i) js) ++ t in
    let parts : p ++ (bodies_in js ++ t) ≡ before ++ (body ++ after) =
    ap (λ (l : List ℕ). p ++ (l ++ t)) (bodies_split js i l) ∙ simp append_assoc
    in
    let far : length before ≡ start_at start js i = omega (arith, length-append p (bodies_in (take i js))) in
    ap (λ (l : List ℕ). take (length body) (drop (start_at start js i) l)) parts
    ∙ ap (take (length body)) (drop_at before (body ++ after) (start_at start js i) far)
    ∙ take_at body after (length body) refl

-- where each body stands at its place, they are all that stands there
pub tiled : (file : List ℕ) (start : ℕ) (js : List Job)
    → ((i : ℕ) → i < length js → take (length (job_in js i).body) (drop (start_at start js i) file) ≡ (job_in js i).body)
    → drop start file ≡ bodies_in js ++ drop (start + length (bodies_in js)) file
unfolding bodies_in
tiled file start [] h = ap (λ (k : ℕ). drop k file) (sym (start_first start []))
tiled file start (j ∷ js) h =
    let n : ℕ = length j.body in
    let here : take n (drop start file) ≡ j.body =
    ap (λ (k : ℕ). take n (drop k file)) (sym (start_first start (j ∷ js))) ∙ h zero (omega arith)
    in
    let rest = tiled file (start + n) js
    (λ i l.
    ap (λ (k : ℕ). take (length (job_in js i).body) (drop k file)) (sym (start_shift start j js i)) ∙ h (suc i) (omega arith)) in
    let end : start + n + length (bodies_in js) ≡ start + length (j.body ++ bodies_in js) =
    omega (arith, length-append j.body (bodies_in js))
    in
    sym (take-append-drop n (drop start file))
    ∙ join here (drop-drop n start file ∙ rest ∙ ap (λ (k : ℕ). bodies_in js ++ drop k file) end)
    ∙ sym (append_assoc j.body (bodies_in js) _)

-- ---- the directory

abbrev pub Eight : Job → Type 0
Eight j = length j.number ≡ 8

entry_length : (number : List ℕ) (start size : ℕ) → length number ≡ 8 → length (entry_of number start size) ≡ 16
unfolding entry_of
entry_length number start size e = simp (length-append, e)

pub directory_length : {js : List Job} (start : ℕ) → Each Eight js → length (directory_from start js) ≡ 16 * length js
unfolding directory_from
directory_length start none = refl
directory_length start (more {j = j} {js = js} e r) =
    let n : ℕ = length j.body in
    let h = directory_length (start + n) r in
    let a = length-append (entry_of j.number start n) (directory_from (start + n) js) in
    let b = entry_length j.number start n e in
    omega arith

-- entry i is that of job i
pub slot : {js : List Job} (start : ℕ) → Each Eight js → (i : ℕ) → i < length js
    → take 16 (drop (16 * i) (directory_from start js))
    ≡ entry_of (job_in js i).number (start_at start js i) (length (job_in js i).body)
unfolding directory_from
slot start none i l = absurd (not-suc-le-zero l)
slot start (more {j = j} {js = js} e r) zero l =
    let n : ℕ = length j.body in
    row_here 16 (entry_of j.number start n) _ (entry_length j.number start n e)
    ∙ ap (λ (k : ℕ). entry_of j.number k n) (sym (start_first start (j ∷ js)))
slot start (more {j = j} {js = js} e r) (suc i) l =
    let n : ℕ = length j.body in
    row_next 16 (entry_of j.number start n) _ i (entry_length j.number start n e)
    ∙ slot (start + n) r i (omega arith)
    ∙ ap (λ (k : ℕ). entry_of (job_in js i).number k (length (job_in js i).body)) (sym (start_shift start j js i))

-- a directory of two lists of jobs, one after the other
pub directory_append : (start : ℕ) (a b : List Job)
    → directory_from start (a ++ b) ≡ directory_from start a ++ directory_from (start + length (bodies_in a)) b
unfolding directory_from bodies_in
directory_append start [] b = let z : start ≡ start + 0 = omega arith in ap (λ (k : ℕ). directory_from k b) z
directory_append start (j ∷ a) b =
    let n : ℕ = length j.body in
    let z : start + n + length (bodies_in a) ≡ start + length (j.body ++ bodies_in a) =
    omega (arith, length-append j.body (bodies_in a))
    in
    ap (λ (l : List ℕ). entry_of j.number start n ++ l)
    (directory_append (start + n) a b ∙ ap (λ (k : ℕ). directory_from (start + n) a ++ directory_from k b) z)
    ∙ sym (append_assoc (entry_of j.number start n) (directory_from (start + n) a) _)

pub directory_row : (start : ℕ) (js : List Job) → directory_from start js
    ≡ row (λ (i : ℕ). entry_of (job_in js i).number (start_at start js i) (length (job_in js i).body)) (length js)
unfolding directory_from row
directory_row start js = ap (directory_from start) (sym (take-length js)) ∙ rows (length js) (omega arith)
  where
    rows : (n : ℕ) → n ≤ length js → directory_from start (take n js)
        ≡ row (λ (i : ℕ). entry_of (job_in js i).number (start_at start js i) (length (job_in js i).body)) n
    rows zero l = refl
    rows (suc n) l =
        ap (directory_from start) (take-suc js n no_job l)
        ∙ directory_append start (take n js) (job_in js n ∷ [])
        ∙ join (rows n (omega arith)) (append-nil (entry_of (job_in js n).number (start_at start js n) (length (job_in js n).body)))
