-- The jobs of a sheet: their numbers, their bodies, plain and sealed, and that the plain bodies are all the plain bytes.
-- Assumes nothing.
use mathlib.Core.Path.{◌≡◌, refl, sym, ap, ap₂, ◌∙◌}
use mathlib.Core.List.{List, [], ◌∷◌, ◌++◌, map, append-nil}
use Prim.Native.Nat.{ℕ, zero, suc, ◌+◌, ◌<◌, ◌≤◌}
use native.Mathlib.Omega.{arith}
use lib.ListN.{length, take, drop, length-append, length-drop, drop_of_length-le}
use lib.Seq.{length-take-le}
use Rattle.octets.proofs.Tables.{values_length, values_at}
use Rattle.circuit.specs.declared.Schedule.{Schedule}
use Rattle.codec.specs.Jobs.{Job, no_job, bodies_in, job_in, start_at, Each, Ascending}
use Rattle.codec.specs.Jobs.{none, more}
use Rattle.codec.proofs.JobLaws.{start_first, start_next, start_end, tiled}
use Rattle.opening.specs.Open.{under_keystream}
use Rattle.opening.proofs.Xor.{opening_xors}
use Rattle.sheet.specs.Sheet.{lines, job_number_on, size_on, sizes_on}
use Rattle.sheet.proofs.LineLaws.{sizes_within}
use Rattle.sealing.specs.Seal.{plain_on, jobs_on, seal_job, seal_jobs}

-- ---- sealing jobs

module _ (s : Schedule) (archive : List ℕ) where
  pub sealed_twice : (js : List Job) → seal_jobs s archive (seal_jobs s archive js) ≡ js
  unfolding seal_jobs
  sealed_twice [] = refl
  sealed_twice (j ∷ js) =
      ap₂ (λ (b : List ℕ) (ks : List Job). record { number = j.number; body = b } ∷ ks)
      (opening_xors s archive j.number j.body).again (sealed_twice js)

  pub sealed_length : (js : List Job) → length (seal_jobs s archive js) ≡ length js
  unfolding seal_jobs
  sealed_length [] = refl
  sealed_length (j ∷ js) = ap suc (sealed_length js)

  pub sealed_at : (js : List Job) (i : ℕ) → i < length js → job_in (seal_jobs s archive js) i ≡ seal_job s archive (job_in js i)
  unfolding seal_jobs
  sealed_at [] i l = absurd (omega arith)
  sealed_at (j ∷ js) zero l = refl
  sealed_at (j ∷ js) (suc i) l = sealed_at js i (omega arith)

  pub sealed_bodies : (js : List Job) → length (bodies_in (seal_jobs s archive js)) ≡ length (bodies_in js)
  unfolding seal_jobs bodies_in
  sealed_bodies [] = refl
  sealed_bodies (j ∷ js) =
      omega (
        arith,
        length-append j.body (bodies_in js),
        length-append (under_keystream s archive j.number j.body) (bodies_in (map (seal_job s archive) js)),
        (opening_xors s archive j.number j.body).size,
        sealed_bodies js,
      )

  -- numbers stay
  pub sealed_each : (P : List ℕ → Type 0) {js : List Job} → Each (λ (j : Job). P j.number) js
      → Each (λ (j : Job). P j.number) (seal_jobs s archive js)
  unfolding seal_jobs
  sealed_each P none = none
  sealed_each P (more p r) = more p (sealed_each P r)

  pub sealed_ascending : (order : List ℕ → ℕ) {js : List Job} → Ascending order js → Ascending order (seal_jobs s archive js)
  unfolding seal_jobs
  sealed_ascending order none = none
  sealed_ascending order (more {j = j} above r) =
      more (sealed_each (λ n. order j.number < order n) above) (sealed_ascending order r)

-- ---- the jobs of a sheet

-- where bodies start, of jobs that have the sizes of the lines
pub sums : (sheet : List ℕ) (from : ℕ) (ks : List Job) → length ks ≡ lines sheet
    → ((i : ℕ) → i < lines sheet → length (job_in ks i).body ≡ size_on sheet i)
    → (i : ℕ) → i ≤ lines sheet → start_at from ks i ≡ from + sizes_on sheet i
unfolding sizes_on
sums sheet from ks n h zero l = start_first from ks ∙ omega arith
sums sheet from ks n h (suc i) l = omega (arith, start_next from ks i (omega arith), sums sheet from ks n h i (omega arith), h i l)

-- with their plain bodies, where the lengths are those of the plain bytes
module _ (sheet plain : List ℕ) where
  abbrev js : List Job
  js = jobs_on sheet plain

  abbrev job_at : ℕ → Job
  job_at i = record { number = job_number_on sheet i; body = plain_on sheet plain i }

  pub jobs_length : length js ≡ lines sheet
  unfolding jobs_on
  jobs_length = values_length job_at (lines sheet)

  pub job_at_lem : (i : ℕ) → i < lines sheet → job_in js i ≡ job_at i
  unfolding jobs_on
  job_at_lem i l = values_at job_at no_job (lines sheet) i l

  module _ (exact : sizes_on sheet (lines sheet) ≡ length plain) where
    pub plain_length : (i : ℕ) → i < lines sheet → length (plain_on sheet plain i) ≡ size_on sheet i
    plain_length i l =
        let g = sizes_within sheet i l in
        length-take-le (size_on sheet i) (drop (sizes_on sheet i) plain) (simp length-drop (omega arith))

    body_size : (i : ℕ) → i < lines sheet → length (job_in js i).body ≡ size_on sheet i
    body_size i l = ap (λ (j : Job). length j.body) (job_at_lem i l) ∙ plain_length i l

    pub starts : (i : ℕ) → i ≤ lines sheet → sizes_on sheet i ≡ start_at 0 js i
    starts i l = omega (arith, sums sheet 0 js jobs_length body_size i l)

    pub bodies_length : length (bodies_in js) ≡ length plain
    bodies_length = omega (arith, starts (lines sheet) (omega arith), start_end 0 js, ap (start_at 0 js) jobs_length, exact)

    pub bodies_all : bodies_in js ≡ plain
    bodies_all =
        let end : length plain ≤ 0 + length (bodies_in js) = omega (arith, bodies_length) in
        sym (tiled plain 0 js (λ i l.
        let m : i < lines sheet = omega (arith, jobs_length) in
        ap₂ (λ (n k : ℕ). take n (drop k plain)) (body_size i m) (sym (starts i (omega arith)))
        ∙ ap (λ (j : Job). j.body) (sym (job_at_lem i m)))
        ∙ ap (λ (l : List ℕ). bodies_in js ++ l) (drop_of_length-le plain end)
        ∙ append-nil (bodies_in js))
