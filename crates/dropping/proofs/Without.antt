-- Laws of the jobs that are left without those of a list.
-- Assumes nothing.
use mathlib.Core.Path.{◌≡◌, refl, ap, ◌∙◌}
use mathlib.Core.Bool.{Bool, true, false, cond}
use mathlib.Core.List.{List, [], ◌∷◌, ◌++◌}
use Prim.Native.Nat.{ℕ, suc, ◌<◌, ◌≤◌}
use native.Mathlib.Omega.{arith}
use lib.ListN.{length, take, length-append}
use lib.Seq.{take-suc}
use Rattle.refusals.proofs.Booleans.{by_test}
use Rattle.octets.specs.Below.{all_below}
use Rattle.header.specs.Fields.{layout_under}
use Rattle.codec.specs.Jobs.{Job, no_job, bodies_in, job_in, Each, Ascending}
use Rattle.codec.specs.Jobs.{none, more}
use Rattle.codec.specs.Archive.{whole_length, Fine}
use Rattle.joblist.specs.List.{is_listed}
use Rattle.dropping.specs.Drop.{without}

-- a list of no numbers leaves all jobs
pub without_none : (js : List Job) → without [] js ≡ js
unfolding without is_listed all_below
without_none [] = refl
without_none (j ∷ js) = ap (λ (l : List Job). j ∷ l) (without_none js)

-- two lists of the same numbers leave the same jobs
pub without_alike : (list other : List ℕ) → ((number : List ℕ) → is_listed list number ≡ is_listed other number) → (js : List Job)
    → without list js ≡ without other js
unfolding without
without_alike list other alike [] = refl
without_alike list other alike (j ∷ js) = rw (alike j.number, without_alike list other alike js)

module _ (list : List ℕ) where
  -- of jobs whose numbers are all in the list none is left
  pub without_all : {js : List Job} → Each (λ (j : Job). is_listed list j.number ≡ true) js → without list js ≡ []
  unfolding without
  without_all none = refl
  without_all (more e r) = rw e (without_all r)

  pub each_without : {P : Job → Type 0} {js : List Job} → Each P js → Each P (without list js)
  unfolding without
  each_without none = none
  each_without {P} (more {j = j} p r) =
      by_test (Each P) (is_listed list j.number) (each_without r) (more p (each_without r))

  pub ascending_without : {order : List ℕ → ℕ} {js : List Job} → Ascending order js → Ascending order (without list js)
  unfolding without
  ascending_without none = none
  ascending_without {order} (more {j = j} above r) =
      by_test (Ascending order) (is_listed list j.number) (ascending_without r) (more (each_without above) (ascending_without r))

  -- they are no more, and their bodies no longer
  pub without_less : (js : List Job) → (length (without list js) ≤ length js)
      × (length (bodies_in (without list js)) ≤ length (bodies_in js))
  unfolding without bodies_in
  without_less [] = (omega arith, omega arith)
  without_less (j ∷ js) =
      let h = without_less js in
      let n = length-append j.body (bodies_in js) in
      let m = length-append j.body (bodies_in (without list js)) in
      by_test (λ (l : List Job). (length l ≤ suc (length js)) × (length (bodies_in l) ≤ length (j.body ++ bodies_in js)))
      (is_listed list j.number) (omega arith, omega arith) (omega arith, omega arith)

  pub length_without : (layout : ℕ) (js : List Job) → whole_length layout (without list js) ≤ whole_length layout js
  unfolding whole_length
  length_without layout js = omega (arith, without_less js)

  -- of what is left of fine jobs an archive can be built
  pub fine_without : (tag_key number : List ℕ) (js : List Job) → Fine tag_key number js → Fine tag_key number (without list js)
  fine_without tag_key number js fine = record {
    four = fine.four;
    numeric = each_without fine.numeric;
    ascending = ascending_without fine.ascending;
    few = omega (arith, fine.few, without_less js);
    small = omega (arith, fine.small, length_without (layout_under tag_key) js);
  }

  -- of two lists of jobs, one after the other
  pub without_append : (js ks : List Job) → without list (js ++ ks) ≡ without list js ++ without list ks
  unfolding without
  without_append [] ks = refl
  without_append (j ∷ js) ks = step (is_listed list j.number) (without_append js ks)
    where
      step : (b : Bool) → without list (js ++ ks) ≡ without list js ++ without list ks
          → cond b (without list (js ++ ks)) (j ∷ without list (js ++ ks))
          ≡ cond b (without list js) (j ∷ without list js) ++ without list ks
      step true h = h
      step false h = ap (λ (l : List Job). j ∷ l) h

  -- of one job more, as a loop over the jobs goes on
  pub without_next : (js : List Job) (i : ℕ) → i < length js
      → without list (take (suc i) js) ≡ without list (take i js) ++ cond (is_listed list (job_in js i).number) [] (job_in js i ∷ [])
  unfolding without
  without_next js i l = ap (without list) (take-suc js i no_job l) ∙ without_append (take i js) (job_in js i ∷ [])
