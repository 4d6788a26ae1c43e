-- The job that bears a number: among the jobs that are left, and as what finding it in an accepted archive comes to.
-- Assumes nothing.
use mathlib.Core.Path.{◌≡◌, refl, sym, ap, ◌∙◌}
use mathlib.Core.Bool.{Bool, true, false, not, cond}
use mathlib.Core.List.{List, [], ◌∷◌}
use Prim.Native.Nat.{ℕ, zero, suc, ◌<◌}
use native.Mathlib.Nat.{not-suc-le-zero, le_refl}
use native.Mathlib.Omega.{arith}
use lib.Dec.{eqb}
use lib.ListN.{length}
use Rattle.refusals.specs.Cases.{first_of}
use Rattle.refusals.specs.Answers.{gives}
use Rattle.refusals.proofs.Booleans.{by_test}
use Rattle.refusals.proofs.Cases.{first_pass}
use Rattle.refusals.proofs.Answers.{answer_gives, answer_number}
use Rattle.octets.specs.Equality.{same_bytes}
use Rattle.octets.proofs.Equality.{same_eq}
use Rattle.header.specs.Fields.{count_of, directory_of}
use Rattle.jobnumber.specs.Number.{is_job_number, order_of}
use Rattle.directory.specs.Entries.{entries}
use Rattle.directory.specs.Search.{bears, search_cases}
use Rattle.directory.proofs.Entries.{entry_none}
use Rattle.directory.proofs.Searching.{index_nowhere, search_nowhere}
use Rattle.directory.proofs.EarlyEnd.{search_bearer}
use Rattle.bodies.specs.Bodies.{number_cases, body_at}
use Rattle.admission.specs.Check.{check_cases}
use Rattle.admission.proofs.Checking.{check_positive}
use Rattle.archive.specs.Check.{check_of}
use Rattle.archive.specs.Find.{find_cases}
use Rattle.archive.proofs.Sound.{sound_archives}
use Rattle.opening.specs.Open.{body_of}
use Rattle.codec.specs.Jobs.{Job, job_in}
use Rattle.codec.specs.Archive.{jobs_of}
use Rattle.codec.proofs.Laid.{Laid}
use Rattle.codec.proofs.Rebuilt.{accepted_laid}
use Rattle.joblist.specs.List.{is_listed}
use Rattle.dropping.specs.Drop.{without}

-- the first job that bears a number, as a list of one; no job where none does
unfoldable pub bearer_in : List Job → List ℕ → List Job
bearer_in [] number = []
bearer_in (j ∷ js) number = cond (same_bytes j.number number) (j ∷ []) (bearer_in js number)

-- among the jobs that are left it is the one that it was, where the number is not in the list; else there is none
pub bearer_without : (list number : List ℕ) (js : List Job)
    → bearer_in (without list js) number ≡ cond (is_listed list number) [] (bearer_in js number)
unfolding bearer_in without
bearer_without list number [] = by_test (λ (l : List Job). [] ≡ l) (is_listed list number) refl refl
bearer_without list number (j ∷ js) = step (same_bytes j.number number) refl (bearer_without list number js)
  where
    it : (out : Bool) → same_bytes j.number number ≡ true → bearer_in (without list js) number ≡ cond out [] (bearer_in js number)
        → bearer_in (cond out (without list js) (j ∷ without list js)) number ≡ cond out [] (j ∷ [])
    it true e h = h
    it false e h = rw e

    step : (same : Bool) → same_bytes j.number number ≡ same
        → bearer_in (without list js) number ≡ cond (is_listed list number) [] (bearer_in js number)
        → bearer_in (without list (j ∷ js)) number ≡ cond (is_listed list number) [] (cond same (j ∷ []) (bearer_in js number))
    step true e h = rw (ap (is_listed list) (same_eq j.number number e)) (it (is_listed list number) e h)
    step false e h =
        by_test (λ (l : List Job). bearer_in l number ≡ cond (is_listed list number) [] (bearer_in js number)) (is_listed list j.number) h
        (rw e h)

-- ---- by its index

-- job i bears the number, or none does
data Borne (js : List Job) (number : List ℕ) : List Job → Type 0 where
  here : (i : ℕ) → i < length js → (job_in js i).number ≡ number → Borne js number (job_in js i ∷ [])
  nowhere : ((i : ℕ) → i < length js → same_bytes (job_in js i).number number ≡ false) → Borne js number []

borne : (js : List Job) (number : List ℕ) → Borne js number (bearer_in js number)
unfolding bearer_in
borne [] number = nowhere (λ i l. absurd (not-suc-le-zero l))
borne (j ∷ js) number = step (same_bytes j.number number) refl (bearer_in js number) (borne js number)
  where
    none : same_bytes j.number number ≡ false → ((i : ℕ) → i < length js → same_bytes (job_in js i).number number ≡ false)
        → (i : ℕ) → i < suc (length js) → same_bytes (job_in (j ∷ js) i).number number ≡ false
    none e h zero l = e
    none e h (suc i) l = h i (omega arith)

    step : (same : Bool) → same_bytes j.number number ≡ same → (r : List Job) → Borne js number r
        → Borne (j ∷ js) number (cond same (j ∷ []) r)
    step true e r s = here zero (omega arith) (same_eq j.number number e)
    step false e _ (here i l q) = here (suc i) (omega arith) q
    step false e _ (nowhere h) = nowhere (none e h)

-- ---- in an accepted archive

-- what finding a number refuses, by the job that bears it: 18 is the number's own, 19 says that there is none
abbrev pub refusal_for : List ℕ → List Job → ℕ
refusal_for number r = cond (not (is_job_number number)) 18 (cond (eqb (length r) 0) 19 0)

module _ (key tag_key file : List ℕ) (n : ℕ) (e : check_of key tag_key file ≡ gives n) (number : List ℕ) where
  abbrev d : List ℕ
  d = directory_of file

  laid : Laid file (jobs_of file)
  laid = accepted_laid key tag_key file n e

  -- the search comes to its entry, or to none
  searched : (r : List Job) → Borne (jobs_of file) number r
      → (first_of (search_cases d number) ≡ cond (eqb (length r) 0) 19 0) × (body_of file number ≡ (job_in r 0).body)
  unfolding bears body_at
  searched _ (here i l q) =
      let inside : i < entries d = omega (arith, laid.whole) in
      let ascending = (sound_archives key tag_key file n e).sound.ascending in
      let p = answer_gives _ _ i (sym (search_bearer d number ascending i inside (laid.number i l ∙ q))) in
      (p.0, ap (body_at file) p.1 ∙ laid.body i l)
  searched _ (nowhere h) =
      let no : (i : ℕ) → i < entries d → bears d number i ≡ false =
      λ i l.
      let m : i < length (jobs_of file) = omega (arith, laid.whole) in
      ap (λ (s : List ℕ). same_bytes s number) (laid.number i m) ∙ h i m in (
        (answer_number _ _ 19 (sym (search_nowhere d number no))).0,
        rw (index_nowhere d number no, entry_none d (entries d) (le_refl (entries d))),
      )

  pub bearer_found : (first_of (find_cases key tag_key file number) ≡ refusal_for number (bearer_in (jobs_of file) number))
      × (body_of file number ≡ (job_in (bearer_in (jobs_of file) number) 0).body)
  unfolding find_cases number_cases first_of
  bearer_found =
      let s = searched (bearer_in (jobs_of file) number) (borne (jobs_of file) number) in (
        first_pass (check_cases key tag_key file) (number_cases file number) (check_positive order_of key tag_key file)
            (answer_gives (first_of (check_cases key tag_key file)) (count_of file) n e).0
            ∙ ap (cond (not (is_job_number number)) 18) s.0,
        s.1,
      )
