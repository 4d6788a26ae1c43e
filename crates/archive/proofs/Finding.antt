-- Finding a job: the cases of the number after those of checking, and what the answer tells.
-- Assumes nothing.
use mathlib.Core.Path.{◌≡◌, refl, sym, ap, ◌∙◌, subst}
use mathlib.Core.Bool.{true}
use mathlib.Core.List.{List, []}
use Prim.Native.Nat.{ℕ, zero, suc, ◌<◌, ◌≤◌}
use native.Mathlib.Omega.{arith}
use denote.Ref.{Bor}
use lib.ListN.{length}
use Rattle.std.specs.Prelude.{Result, Err}
use Rattle.refusals.specs.Cases.{first_of}
use Rattle.refusals.specs.Answers.{Answer, refused, gives, answer}
use Rattle.refusals.specs.Numbers.{number, answer_of}
use Rattle.refusals.specs.declared.Refusal.{Refusal}
use Rattle.refusals.proofs.Cases.{first_stop, first_pass, first_none, first_lacks}
use Rattle.refusals.proofs.Answers.{answer_gives, answer_number, answer_first, part_refused, part_gives}
use Rattle.refusals.proofs.Numbers.{number_some}
use Rattle.octets.specs.Parts.{lies_at}
use Rattle.header.specs.Fields.{directory_of}
use Rattle.jobnumber.specs.Number.{is_job_number, order_of}
use Rattle.directory.specs.Entries.{entries, entry_at, number_of}
use Rattle.directory.specs.Search.{index_of, search_cases}
use Rattle.directory.proofs.Accepted.{sound_directories}
use Rattle.directory.proofs.Searching.{some_inside, some_bears}
use Rattle.directory.proofs.EarlyEnd.{search_bearer, none_bears}
use Rattle.bodies.specs.Bodies.{number_cases, lookup_of, body_start, BodyPart}
use Rattle.bodies.proofs.Numbers.{number_search, number_missing, number_asked}
use Rattle.admission.specs.Check.{check_cases}
use Rattle.admission.proofs.Checking.{check_positive, check_lacks}
use Rattle.admission.proofs.Accepted.{accepted_directory, accepted_entries, accepted_within}
use Rattle.archive.specs.Find.{find_cases, find_of, Finds, GivesBody}

-- ---- after the check

module _ (key tag_key file number : List ℕ) where
  -- a refused check is what finding answers
  pub find_refused : (n : ℕ) → n ≡ first_of (check_cases key tag_key file) → (n ≡ 0 → ⊥) → refused n ≡ find_of key tag_key file number
  unfolding find_cases
  find_refused n e h = ap refused e ∙ sym (answer_first (check_cases key tag_key file) (number_cases file number) _ (λ q. h (e ∙ q)))

  -- an accepted archive leaves the cases of the number
  pub find_asked : first_of (check_cases key tag_key file) ≡ 0 → lookup_of file number ≡ find_of key tag_key file number
  unfolding find_cases
  find_asked e =
      ap (λ (k : ℕ). answer k (index_of (directory_of file) number))
      (sym (first_pass (check_cases key tag_key file) (number_cases file number) (check_positive order_of key tag_key file) e))

  -- of an accepted archive, the entry that bears a job number is found
  pub find_bearer : first_of (check_cases key tag_key file) ≡ 0 → is_job_number number ≡ true → (i : ℕ) → i < entries (directory_of file)
      → number_of (entry_at (directory_of file) i) ≡ number → find_of key tag_key file number ≡ gives i
  find_bearer e good i l q =
      let ascending = (sound_directories _ _ _ (accepted_directory order_of key tag_key file e)).ascending in
      sym (find_asked e) ∙ number_asked file number good ∙ sym (search_bearer (directory_of file) number ascending i l q)

  found_stages : first_of (find_cases key tag_key file number) ≡ 0
      → (first_of (check_cases key tag_key file) ≡ 0) × (first_of (number_cases file number) ≡ 0)
  unfolding find_cases
  found_stages = first_none (check_cases key tag_key file) (number_cases file number) (check_positive order_of key tag_key file)

  missing_stages : first_of (find_cases key tag_key file number) ≡ 19
      → (first_of (check_cases key tag_key file) ≡ 0) × (first_of (number_cases file number) ≡ 19)
  unfolding find_cases
  missing_stages e = go (first_of (check_cases key tag_key file)) refl
    where
      go : (n : ℕ) → first_of (check_cases key tag_key file) ≡ n
          → (first_of (check_cases key tag_key file) ≡ 0) × (first_of (number_cases file number) ≡ 19)
      go zero q =
          (q, sym (first_pass (check_cases key tag_key file) (number_cases file number) (check_positive order_of key tag_key file) q) ∙ e)
      go (suc n) q =
          let same = first_stop (check_cases key tag_key file) (number_cases file number) (λ z. let y = sym q ∙ z in omega arith) in
          absurd (first_lacks 19 (check_cases key tag_key file) (omega arith) (check_lacks order_of key tag_key file 19 refl) (sym same
          ∙ e))

  -- what an index tells
  module _ (i : ℕ) (e : find_of key tag_key file number ≡ gives i) where
    found : (first_of (check_cases key tag_key file) ≡ 0) × (first_of (search_cases (directory_of file) number) ≡ 0)
        × (index_of (directory_of file) number ≡ i)
    found =
        let p = answer_gives _ _ i e in
        let q = found_stages p.0 in
        (q.0, number_search file number q.1, p.1)

    found_inside : i < entries (directory_of file)
    found_inside = let l = some_inside (directory_of file) number found.1 in omega (arith, found.2)

    -- the body lies within the file
    pub found_within : body_start file i ≤ length file
    found_within = let w = accepted_within order_of key tag_key file found.0 i found_inside in omega arith

  pub finds : (a : Answer) → a ≡ find_of key tag_key file number → Finds key tag_key file number a
  finds a e = record {
    answered = e;
    inside = λ i g.
        let f = found i (sym e ∙ g) in
        omega (arith, found_inside i (sym e ∙ g), accepted_entries order_of key tag_key file f.0);
    bearer = λ i g. let f = found i (sym e ∙ g) in rw (← f.2) (some_bears (directory_of file) number f.1);
    nowhere = λ g i l.
        let q = missing_stages (answer_number _ _ 19 (sym e ∙ g)).0 in
        let n = accepted_entries order_of key tag_key file q.0 in
        let ascending = (sound_directories _ _ _ (accepted_directory order_of key tag_key file q.0)).ascending in
        none_bears (directory_of file) number ascending (number_missing file number q.1) i (omega arith);
  }

-- ---- the ways out of `find`

module _ (key tag_key file sought : List ℕ) where
  -- a refused archive
  pub finds_refused : (r : Result ℕ Refusal) (e : Refusal) → r ≡ Err e → number e ≡ first_of (check_cases key tag_key file)
      → Finds key tag_key file sought (answer_of r)
  finds_refused r e told q =
      finds key tag_key file sought (answer_of r) (ap answer_of told ∙ find_refused key tag_key file sought (number e) q (number_some e))

  -- an accepted one
  pub finds_asked : (r : Result ℕ Refusal) → 0 ≡ first_of (check_cases key tag_key file) → answer_of r ≡ lookup_of file sought
      → Finds key tag_key file sought (answer_of r)
  finds_asked r z e = finds key tag_key file sought (answer_of r) (e ∙ find_asked key tag_key file sought (sym z))

-- ---- the ways out of `body`

module _ (key tag_key : List ℕ) (file : Bor (List ℕ)) (number : List ℕ) (r : Bor (List ℕ)) where
  -- finding refuses
  pub body_refused : (n : ℕ) → refused n ≡ find_of key tag_key file.now number → r.now ≡ [] → GivesBody key tag_key file number r
  body_refused n e none = record {
    bytes = none ∙ part_refused _ n _ e;
    place = λ i g. let z : ◌≡◌ {A = ℕ} 0 1 = cc in absurd (omega arith);
  }

  -- finding gives j
  pub body_given_lem : (j : ℕ) → gives j ≡ find_of key tag_key file.now number → BodyPart file j r → GivesBody key tag_key file number r
  body_given_lem j e b =
      let place : lies_at file (body_start file.now j) r = b.place (found_within key tag_key file.now number j (sym e)) in
      record {
        bytes = b.bytes ∙ part_gives _ j _ e;
        place = λ i g. let same : j ≡ i = cc in subst (λ (k : ℕ). lies_at file (body_start file.now k) r) same place;
      }
