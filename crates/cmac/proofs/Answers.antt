-- What tagging and comparing answer, case by case, over the cases of the key or of the schedule that stand before them.
-- Assumes nothing.
use mathlib.Core.Path.{◌≡◌, refl, sym, ap, ap₂, ◌∙◌}
use mathlib.Core.Bool.{Bool, true, false, not, cond}
use mathlib.Core.List.{List, [], ◌∷◌}
use Prim.Native.Nat.{ℕ, zero, suc}
use native.Mathlib.Omega.{arith}
use borrow.Author.Tests.{eq-eqb, ne_eqb}
use lib.Dec.{eqb}
use lib.ListN.{length}
use Rattle.std.specs.Prelude.{Ok, Err}
use Rattle.refusals.specs.Cases.{Case, when, first_of, positive}
use Rattle.refusals.specs.Answers.{unless_refused}
use Rattle.refusals.specs.Numbers.{number}
use Rattle.refusals.specs.Shared.{good_key, key_cases, good_rounds, rounds_cases}
use Rattle.refusals.specs.declared.Refusal.{Refusal}
use Rattle.refusals.proofs.Cases.{first_stop, first_pass, one_applies, one_passes}
use Rattle.refusals.proofs.Numbers.{number_some, refused_leaves}
use Rattle.refusals.proofs.Shared.{key_positive, key_0, key_good, rounds_positive, rounds_0, rounds_good}
use Rattle.octets.specs.Equality.{same_bytes}
use Rattle.octets.specs.Parts.{overwritten}
use Rattle.octets.proofs.Parts.{overwritten_whole}
use Rattle.blocks.specs.Blocks.{block_of}
use Rattle.blocks.specs.Chains.{zero_block}
use Rattle.blocks.proofs.Blocks.{block_whole}
use Rattle.circuit.specs.Good.{no_schedule, Accepts}
use Rattle.circuit.specs.declared.GoodSchedule.{GoodSchedule}
use Rattle.circuit.specs.declared.Schedule.{Schedule}
use Rattle.expansion.specs.KeySchedule.{schedule_of}
use Rattle.cmac.specs.Tag.{tag_under, Tags, tag_cases, verify_cases, verify_number_under, write_number, WritesTag}

-- a schedule that was taken for a good one is the schedule
pub taken : (s : Schedule) (good : GoodSchedule) → Accepts s (Ok good) → good.schedule ≡ s
taken s good a = a.schedule ∙ ap (λ (b : Bool). cond b s no_schedule) (rounds_good s.rounds (sym a.number))

-- what stands in place of a refusal
refused_run : (n : ℕ) (xs ys : List ℕ) → (n ≡ 0 → ⊥) → unless_refused n xs ys ≡ ys
refused_run zero xs ys h = absurd (h refl)
refused_run (suc n) xs ys h = refl

-- ---- tagging

module _ (cases : List Case) (s : Schedule) (run : List ℕ) where
  pub tags_refused : (e : Refusal) → number e ≡ first_of cases → Tags cases s run (Err e)
  tags_refused e q = record {
    number = q;
    tag = sym (ap (λ (n : ℕ). unless_refused n (tag_under s run) zero_block) (sym q) ∙ refused_leaves e (tag_under s run) zero_block);
  }

  pub tags_done : (t : Schedule) (tag : List ℕ) → 0 ≡ first_of cases → t ≡ s → tag ≡ tag_under t run → Tags cases s run (Ok tag)
  tags_done t tag z et e = record {
    number = z;
    tag =
        e
        ∙ ap (λ (u : Schedule). tag_under u run) et
        ∙ ap (λ (n : ℕ). unless_refused n (tag_under s run) zero_block) z;
  }

pub tags_under : (s : Schedule) (run : List ℕ) (good : GoodSchedule) (tag : List ℕ) → Accepts s (Ok good)
    → tag ≡ tag_under good.schedule run
    → Tags (rounds_cases s.rounds) s run (Ok tag)
tags_under s run good tag a e = tags_done (rounds_cases s.rounds) s run good.schedule tag a.number (taken s good a) e

pub tags_good : (s : Schedule) (run tag : List ℕ) → good_rounds s.rounds ≡ true → tag ≡ tag_under s run
    → Tags (rounds_cases s.rounds) s run (Ok tag)
tags_good s run tag good e = tags_done (rounds_cases s.rounds) s run s tag (sym (rounds_0 s.rounds good)) refl e

-- ---- 23

pub tag_positive : (len : ℕ) → positive (tag_cases len) ≡ true
unfolding tag_cases positive
tag_positive len = refl

pub tag_23 : (len : ℕ) → (len ≡ 16 → ⊥) → first_of (tag_cases len) ≡ 23
unfolding tag_cases
tag_23 len h = one_applies (not (eqb len 16)) 23 (ap not (ne_eqb len 16 h))

pub tag_0 : (len : ℕ) → len ≡ 16 → first_of (tag_cases len) ≡ 0
unfolding tag_cases
tag_0 len e = one_passes (not (eqb len 16)) 23 (ap not (eq-eqb len 16 e))

-- ---- comparing

module _ (cases : List Case) (p : positive cases ≡ true) (s : Schedule) (run tag : List ℕ) where
  -- refused before the tag is looked at
  pub verify_before : (first_of cases ≡ 0 → ⊥) → first_of (verify_cases cases s run tag) ≡ first_of cases
  unfolding verify_cases
  verify_before h = first_stop cases _ h

  module _ (z : first_of cases ≡ 0) where
    pub verify_23 : (length tag ≡ 16 → ⊥) → first_of (verify_cases cases s run tag) ≡ 23
    unfolding verify_cases
    verify_23 h =
        first_pass cases _ p z
        ∙ first_stop (tag_cases (length tag)) _ (λ q. omega (arith, tag_23 (length tag) h, q))
        ∙ tag_23 (length tag) h

    pub verify_same : length tag ≡ 16 → (same : Bool) → same_bytes (tag_under s run) tag ≡ same
        → first_of (verify_cases cases s run tag) ≡ first_of (when (not same) 25 ∷ [])
    unfolding verify_cases
    verify_same h same e =
        first_pass cases _ p z
        ∙ first_pass (tag_cases (length tag)) _ (tag_positive (length tag)) (tag_0 (length tag) h)
        ∙ ap (λ t. first_of (when (not t) 25 ∷ [])) e

    pub verify_0 : length tag ≡ 16 → same_bytes (tag_under s run) tag ≡ true → first_of (verify_cases cases s run tag) ≡ 0
    unfolding first_of
    verify_0 h e = verify_same h true e

    pub verify_25 : length tag ≡ 16 → same_bytes (tag_under s run) tag ≡ false → first_of (verify_cases cases s run tag) ≡ 25
    unfolding first_of
    verify_25 h e = verify_same h false e

-- where no case stands before the tag's
module _ (s : Schedule) (run tag : List ℕ) where
  none : first_of [] ≡ 0
  unfolding first_of
  none = refl

  some : positive [] ≡ true
  unfolding positive
  some = refl

  pub good_same : length tag ≡ 16 → (same : Bool) → same_bytes (tag_under s run) tag ≡ same
      → first_of (verify_cases [] s run tag) ≡ first_of (when (not same) 25 ∷ [])
  good_same h same e = verify_same [] some s run tag none h same e

  pub good_23 : (length tag ≡ 16 → ⊥) → 23 ≡ first_of (verify_cases [] s run tag)
  good_23 h = sym (verify_23 [] some s run tag none h)

  -- the tag that is made, and the block that the lent one is read as, compared in its place
  module _ (m b : List ℕ) (h : length tag ≡ 16) (em : m ≡ tag_under s run) (eb : b ≡ block_of tag) where
    same_tag : same_bytes (tag_under s run) tag ≡ same_bytes m b
    same_tag = ap₂ same_bytes (sym em) (sym (eb ∙ block_whole tag h))

    pub good_25 : false ≡ same_bytes m b → 25 ≡ first_of (verify_cases [] s run tag)
    good_25 e = sym (verify_25 [] some s run tag none h (same_tag ∙ sym e))

    pub good_0 : true ≡ same_bytes m b → 0 ≡ first_of (verify_cases [] s run tag)
    good_0 e = sym (verify_0 [] some s run tag none h (same_tag ∙ sym e))

-- a refused key or schedule is the answer
pub verify_refused : (cases : List Case) (s : Schedule) (run tag : List ℕ) (n : ℕ) → positive cases ≡ true → n ≡ first_of cases
    → (n ≡ 0 → ⊥) → n ≡ first_of (verify_cases cases s run tag)
verify_refused cases s run tag n p e h = e ∙ sym (verify_before cases p s run tag (λ z. h (e ∙ z)))

pub ruleset refused_first = (verify_refused, key_positive, rounds_positive, number_some)

-- a good one leaves the tag's cases
pub verify_asked : (cases : List Case) (s t : Schedule) (run tag : List ℕ) (r : ℕ) → positive cases ≡ true → 0 ≡ first_of cases → t ≡ s
    → r ≡ first_of (verify_cases [] t run tag) → r ≡ first_of (verify_cases cases s run tag)
unfolding verify_cases
verify_asked cases s t run tag r p z et e =
    e ∙ ap (λ (u : Schedule). first_of (verify_cases [] u run tag)) et ∙ sym (first_pass cases _ p (sym z))

-- and so does a good schedule's round count
pub verify_rounds : (good : GoodSchedule) (run tag : List ℕ) (r : ℕ) → r ≡ first_of (verify_cases [] good.schedule run tag)
    → r ≡ verify_number_under good.schedule run tag
verify_rounds good run tag r e =
    let s = good.schedule in
    verify_asked (rounds_cases s.rounds) s s run tag r (rounds_positive s.rounds) (sym (rounds_0 s.rounds good.good)) refl e

pub ruleset under_good = (good_23, good_25, good_0, verify_rounds)

-- ---- writing

-- a good key, and the lent tag is asked; a bad one is the answer
pub past_key : (n len : ℕ) → good_key n ≡ true → write_number n len ≡ first_of (tag_cases len)
past_key n len good = first_pass (key_cases n) _ (key_positive n) (key_0 n good)

pub bad_key : (n len : ℕ) → (first_of (key_cases n) ≡ 0 → ⊥) → write_number n len ≡ first_of (key_cases n)
bad_key n len h = first_stop (key_cases n) _ h

module _ (key run before : List ℕ) where
  abbrev number_of : ℕ
  number_of = write_number (length key) (length before)

  -- a refusal leaves the lent tag alone
  left : (n : ℕ) → n ≡ number_of → (n ≡ 0 → ⊥) → WritesTag key run before n before
  left n e h =
      let kept : unless_refused n (tag_under (schedule_of key) run) before ≡ before = refused_run n _ before h in
      record { number = e; bytes = sym (ap (λ (k : ℕ). unless_refused k (tag_under (schedule_of key) run) before) (sym e) ∙ kept) }

  pub writes_key : (n : ℕ) → n ≡ first_of (key_cases (length key)) → (n ≡ 0 → ⊥) → WritesTag key run before n before
  writes_key n e h = left n (e ∙ sym (bad_key (length key) (length before) (λ z. h (e ∙ z)))) h

  module _ (z : 0 ≡ first_of (key_cases (length key))) where
    -- and refused for its own length
    pub writes_23 : (length before ≡ 16 → ⊥) → WritesTag key run before 23 before
    writes_23 h =
        let good = key_good (length key) (sym z) in
        left 23 (sym (past_key (length key) (length before) good ∙ tag_23 (length before) h)) (λ q. omega (arith, q))

    pub writes_tag : (s : Schedule) (tag after : List ℕ) → length before ≡ 16 → length tag ≡ 16 → s ≡ schedule_of key
        → tag ≡ tag_under s run
        → after ≡ overwritten tag before → WritesTag key run before 0 after
    writes_tag s tag after h l es et ea =
        let n : number_of ≡ 0 = past_key (length key) (length before) (key_good (length key) (sym z)) ∙ tag_0 (length before) h in
        record {
          number = sym n;
          bytes =
              ea
              ∙ overwritten_whole tag before (l ∙ sym h)
              ∙ et
              ∙ ap (λ (t : Schedule). tag_under t run) es
              ∙ ap (λ (k : ℕ). unless_refused k (tag_under (schedule_of key) run) before) (sym n);
        }
