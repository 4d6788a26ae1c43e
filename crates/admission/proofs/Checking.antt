-- The cases of checking: those of the key, of the tag key, of the header, of the directory and of the tag, one group after another; and the
-- answers of key preparation as the first of them.
-- Assumes nothing.
use mathlib.Core.Path.{◌≡◌, refl, sym, ap, subst, ◌∙◌}
use mathlib.Core.Bool.{Bool, true, false, not, cond, ◌&&◌}
use mathlib.Core.List.{List, ◌++◌, append_assoc}
use Prim.Native.Nat.{ℕ}
use lib.Dec.{eqb}
use lib.ListN.{length}
use Rattle.std.specs.Prelude.{Result, Err}
use Rattle.refusals.specs.Cases.{first_of, positive, lacks}
use Rattle.refusals.specs.Numbers.{number, number_in}
use Rattle.refusals.specs.Shared.{good_key, key_cases, tag_key_cases}
use Rattle.refusals.specs.declared.Refusal.{Refusal}
use Rattle.refusals.proofs.Booleans.{both_true}
use Rattle.refusals.proofs.Numbers.{number_some}
use Rattle.refusals.proofs.Shared.{key_0, key_positive, key_lacks, tag_key_positive, tag_key_lacks}
use Rattle.refusals.proofs.Cases.{first_stop, first_pass, positive_append, lacks_append}
use Rattle.circuit.specs.Good.{schedule_in}
use Rattle.circuit.specs.declared.GoodSchedule.{GoodSchedule}
use Rattle.circuit.specs.declared.Schedule.{Schedule}
use Rattle.expansion.specs.KeySchedule.{schedule_of, Prepares}
use Rattle.header.specs.Fields.{layout_under, directory_end, directory_of, bodies_end}
use Rattle.header.specs.Cases.{header_cases}
use Rattle.header.proofs.Cases.{not_of_header, header_positive, header_lacks}
use Rattle.directory.specs.Check.{directory_cases_by}
use Rattle.directory.proofs.Cases.{not_of_directory, directory_positive, directory_lacks}
use Rattle.admission.specs.Check.{key_check, wrong_tag_cases, file_cases_by, under_key_cases, under_key_cases_by}
use Rattle.admission.specs.Check.{check_cases, check_cases_by, tag_schedule_under, admitted_number, HandsOn}
use Rattle.admission.specs.declared.Admitted.{Admitted}
use Rattle.admission.specs.declared.NotAdmitted.{NotAdmitted}

-- m is the number of no case of checking: computed where m is a numeral
abbrev pub not_of_check : ℕ → Bool
not_of_check m = (not (eqb 1 m) && true) && ((not_of_header m && not_of_directory m) && (not (eqb 25 m) && true))

-- ---- group by group

pub wrong_tag_positive : (tag_key file : List ℕ) → positive (wrong_tag_cases tag_key file) ≡ true
unfolding wrong_tag_cases positive
wrong_tag_positive tag_key file = refl

wrong_tag_lacks : (tag_key file : List ℕ) (m : ℕ) → (not (eqb 25 m) && true) ≡ true → lacks m (wrong_tag_cases tag_key file) ≡ true
unfolding wrong_tag_cases lacks
wrong_tag_lacks tag_key file m e = e

module _ (order : List ℕ → ℕ) (layout : ℕ) (s : Schedule) (keysize : ℕ) (file : List ℕ) where
  pub file_positive : positive (file_cases_by order layout s keysize file) ≡ true
  unfolding file_cases_by
  file_positive =
      positive_append (header_cases layout keysize (key_check s) file) _ (header_positive _ _ _ file)
      (directory_positive order _ _ _)

  file_lacks : (m : ℕ) → (not_of_header m && not_of_directory m) ≡ true → lacks m (file_cases_by order layout s keysize file) ≡ true
  unfolding file_cases_by
  file_lacks m e =
      let g = both_true (not_of_header m) (not_of_directory m) e in
      lacks_append m (header_cases layout keysize (key_check s) file) _ (header_lacks _ _ _ file m g.0)
      (directory_lacks order _ _ _ m g.1)

module _ (order : List ℕ → ℕ) (key tag_key file : List ℕ) where
  pub check_positive : positive (check_cases_by order key tag_key file) ≡ true
  unfolding check_cases_by under_key_cases_by
  check_positive =
      positive_append (key_cases (length key)) _ (key_positive (length key))
      (positive_append (tag_key_cases (length tag_key)) _ (tag_key_positive (length tag_key))
      (positive_append (file_cases_by order (layout_under tag_key) (schedule_of key) (length key) file) _ (file_positive _ _ _ _ file)
      (wrong_tag_positive tag_key file)))

  pub check_lacks : (m : ℕ) → not_of_check m ≡ true → lacks m (check_cases_by order key tag_key file) ≡ true
  unfolding check_cases_by under_key_cases_by
  check_lacks m e =
      let h = both_true (not (eqb 1 m) && true) _ e in
      let g = both_true (not_of_header m && not_of_directory m) (not (eqb 25 m) && true) h.1 in
      lacks_append m (key_cases (length key)) _ (key_lacks m (length key) h.0)
      (lacks_append m (tag_key_cases (length tag_key)) _ (tag_key_lacks m (length tag_key) h.0)
      (lacks_append m (file_cases_by order (layout_under tag_key) (schedule_of key) (length key) file) _ (file_lacks _ _ _ _ file m g.0)
      (wrong_tag_lacks tag_key file m g.1)))

  -- keys and header know no order: where they have no case the directory and the tag are left
  pub check_directory : first_of (key_cases (length key)) ≡ 0 → first_of (tag_key_cases (length tag_key)) ≡ 0
      → first_of (header_cases (layout_under tag_key) (length key) (key_check (schedule_of key)) file) ≡ 0
      → first_of (check_cases_by order key tag_key file)
      ≡ first_of (directory_cases_by order (directory_of file) (directory_end file) (bodies_end file) ++ wrong_tag_cases tag_key file)
  unfolding check_cases_by under_key_cases_by file_cases_by
  check_directory k t h =
      let header = header_cases (layout_under tag_key) (length key) (key_check (schedule_of key)) file in
      let directory = directory_cases_by order (directory_of file) (directory_end file) (bodies_end file) in
      first_pass (key_cases (length key)) _ (key_positive (length key)) k
      ∙ first_pass (tag_key_cases (length tag_key)) _ (tag_key_positive (length tag_key)) t
      ∙ ap first_of (append_assoc header directory (wrong_tag_cases tag_key file))
      ∙ first_pass header _ (header_positive _ _ _ file) h

-- the header first, then the directory: a refusal of the first stands, and else the second is left
pub ruleset in_stages = (first_stop, first_pass, number_some, header_positive)

-- a refused key is the answer
pub check_key : (key tag_key file : List ℕ) (e : Refusal) → number e ≡ first_of (key_cases (length key))
    → number e ≡ first_of (check_cases key tag_key file)
unfolding check_cases_by
check_key key tag_key file e q = q ∙ sym (first_stop (key_cases (length key)) _ (λ z. number_some e (q ∙ z)))

-- a refusal that is passed on hands on no schedule as that of an archive without a case
pub admits_none : (key tag_key file : List ℕ) (r : Result Admitted NotAdmitted) (e : NotAdmitted) → r ≡ Err e
    → number e.refusal ≡ first_of (check_cases key tag_key file)
    → (admitted_number r ≡ first_of (check_cases key tag_key file)) × HandsOn key tag_key r
admits_none key tag_key file r e told n =
    subst (λ (x : Result Admitted NotAdmitted). (admitted_number x ≡ first_of (check_cases key tag_key file)) × HandsOn key tag_key x)
    (sym told) (n, tt)

-- a good key leaves tag key and file to be asked
pub check_ready : (key tag_key file : List ℕ) (p : Result GoodSchedule Refusal) (n : ℕ) → Prepares key p → number_in p ≡ 0
    → n ≡ first_of (under_key_cases (schedule_in p) (length key) tag_key file) → n ≡ first_of (check_cases key tag_key file)
unfolding check_cases_by
check_ready key tag_key file p n r o e =
    e
    ∙ ap (λ (s : Schedule). first_of (under_key_cases s (length key) tag_key file)) r.schedule
    ∙ sym (first_pass (key_cases (length key)) _ (key_positive (length key)) (sym r.number ∙ o))

-- ---- the tag key's schedule, as it is handed on

pub tag_schedule_good : (key tag_key : List ℕ) → good_key (length key) ≡ true → schedule_of tag_key ≡ tag_schedule_under key tag_key
unfolding tag_schedule_under
tag_schedule_good key tag_key e = rw e

-- beside a key that is refused
pub tag_schedule_else : (key tag_key : List ℕ) (p : Result GoodSchedule Refusal) → Prepares key p → (number_in p ≡ 0 → ⊥)
    → schedule_of key ≡ tag_schedule_under key tag_key
unfolding tag_schedule_under
tag_schedule_else key tag_key p r t = by_test (good_key (length key)) refl
  where
    by_test : (good : Bool) → good_key (length key) ≡ good → schedule_of key ≡ cond good (schedule_of tag_key) (schedule_of key)
    by_test true e = absurd (t (r.number ∙ key_0 (length key) e))
    by_test false e = refl
