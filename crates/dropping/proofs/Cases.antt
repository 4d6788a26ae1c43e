-- The cases of dropping: those of the archive and of the list, then 20.
-- Assumes nothing.
use mathlib.Core.Path.{◌≡◌, refl, sym, ◌∙◌}
use mathlib.Core.Bool.{Bool, true, false}
use mathlib.Core.List.{List, [], ◌∷◌, ◌++◌}
use Prim.Native.Nat.{ℕ, zero, suc, ◌<◌, ◌≤◌}
use native.Mathlib.Omega.{arith}
use borrow.Author.Tests.{lt-ltb, le-ltb}
use Rattle.refusals.specs.Cases.{Case, when, first_of, positive, lacks}
use Rattle.refusals.proofs.Cases.{one_applies, one_passes, first_stop, first_pass, first_none, positive_append, lacks_append}
use Rattle.refusals.specs.declared.Refusal.{Refusal}
use Rattle.refusals.specs.Numbers.{number}
use Rattle.refusals.proofs.Numbers.{number_some}
use Rattle.jobnumber.specs.Number.{order_of}
use Rattle.admission.specs.Check.{check_cases}
use Rattle.admission.proofs.Checking.{check_positive, check_lacks}
use Rattle.opening.specs.Open.{room_cases}
use Rattle.joblist.specs.List.{list_cases}
use Rattle.joblist.proofs.Cases.{list_positive, list_lacks}
use Rattle.dropping.specs.Drop.{asked_cases, drop_cases}

module _ (key tag_key file list : List ℕ) where
  pub asked_positive : positive (asked_cases key tag_key file list) ≡ true
  unfolding asked_cases
  asked_positive = positive_append (check_cases key tag_key file) _ (check_positive order_of key tag_key file) (list_positive file list)

  -- a case of the archive
  pub asked_refused : (e : Refusal) → number e ≡ first_of (check_cases key tag_key file)
      → number e ≡ first_of (asked_cases key tag_key file list)
  unfolding asked_cases
  asked_refused e is = is ∙ sym (first_stop (check_cases key tag_key file) (list_cases file list) (λ q. number_some e (is ∙ q)))

  -- none of the archive: the list's
  pub asked_list : first_of (check_cases key tag_key file) ≡ 0
      → first_of (asked_cases key tag_key file list) ≡ first_of (list_cases file list)
  unfolding asked_cases
  asked_list check = first_pass (check_cases key tag_key file) _ (check_positive order_of key tag_key file) check

  -- none of both
  pub asked_none : first_of (check_cases key tag_key file) ≡ 0 → first_of (list_cases file list) ≡ 0
      → first_of (asked_cases key tag_key file list) ≡ 0
  asked_none check e = asked_list check ∙ e

  -- and the other way round
  pub asked_stages : first_of (asked_cases key tag_key file list) ≡ 0
      → (first_of (check_cases key tag_key file) ≡ 0) × (first_of (list_cases file list) ≡ 0)
  unfolding asked_cases
  asked_stages e = first_none (check_cases key tag_key file) _ (check_positive order_of key tag_key file) e

  pub asked_lacks : lacks 20 (asked_cases key tag_key file list) ≡ true
  unfolding asked_cases
  asked_lacks =
      lacks_append 20 (check_cases key tag_key file) _ (check_lacks order_of key tag_key file 20 refl) (list_lacks file list 20 refl)

  pub drop_asked : (room : ℕ) → first_of (drop_cases key tag_key file list room) ≡ 0 → first_of (asked_cases key tag_key file list) ≡ 0
  unfolding drop_cases
  drop_asked room e = (first_none (asked_cases key tag_key file list) _ asked_positive e).0

-- ---- and then the room, of the archive or of the directory

module _ (key tag_key file list : List ℕ) (size room : ℕ) where
  abbrev asked : List Case
  asked = asked_cases key tag_key file list

  pub room_fits : first_of asked ≡ 0 → size ≤ room → first_of (asked ++ room_cases size room) ≡ 0
  unfolding room_cases
  room_fits z l = first_pass asked _ (asked_positive key tag_key file list) z ∙ one_passes _ 20 (le-ltb room size l)

  pub room_short : first_of asked ≡ 0 → room < size → first_of (asked ++ room_cases size room) ≡ 20
  unfolding room_cases
  room_short z l = first_pass asked _ (asked_positive key tag_key file list) z ∙ one_applies _ 20 (lt-ltb room size l)

  -- another number than the room's has come before it
  pub before_room : (n : ℕ) → (n ≡ 0 → ⊥) → (n ≡ 20 → ⊥) → first_of (asked ++ room_cases size room) ≡ n → first_of asked ≡ n
  unfolding room_cases
  before_room n some other e = by_first (first_of asked) refl
    where
      at_room : (b : Bool) → first_of (when b 20 ∷ []) ≡ n → ⊥
      at_room true q = other (sym q ∙ one_applies true 20 refl)
      at_room false q = some (sym q ∙ one_passes false 20 refl)

      by_first : (k : ℕ) → first_of asked ≡ k → first_of asked ≡ n
      by_first zero z = absurd (at_room _ (sym (first_pass asked _ (asked_positive key tag_key file list) z) ∙ e))
      by_first (suc k) z = sym (first_stop asked _ (λ q. omega arith)) ∙ e
