-- Internal: what the inner functions promise each other. No public contract cites it.
-- Assumes nothing.
use Rattle.std.specs.Prelude.{◌≡◌, not, List, [], ◌∷◌, ℕ, Option, Result}
use Rattle.refusals.specs.Cases.{Case, when, first_of}
use Rattle.octets.specs.Equality.{same_bytes}
use Rattle.circuit.specs.declared.GoodSchedule.{GoodSchedule}
use Rattle.circuit.specs.declared.Schedule.{Schedule}
use Rattle.expansion.specs.KeySchedule.{schedule_of}
use Rattle.cmac.specs.Tag.{tag_under}
use Rattle.header.specs.Fields.{tag_of, tagged_of}
use Rattle.admission.specs.Check.{
  under_key_cases,
  schedule_or_none,
  admitted_number,
  admitted_schedule,
  admitted_tag_schedule,
}
use Rattle.admission.specs.declared.Admitted.{Admitted}
use Rattle.admission.specs.declared.NotAdmitted.{NotAdmitted}

-- 25 under the schedule of a tag key
unfoldable pub tag_cases_under : Schedule → List ℕ → List Case
tag_cases_under s file = when (not (same_bytes (tag_under s (tagged_of file)) (tag_of file))) 25 ∷ []

-- a number beside the schedules that it was found under
pub record Beside (s : GoodSchedule) (t : Option GoodSchedule) (n : ℕ) (r : Result Admitted NotAdmitted) : Type 0 where
  pub number : admitted_number r ≡ n
  pub schedule : admitted_schedule r ≡ s.schedule
  pub tagged : admitted_tag_schedule r ≡ schedule_or_none t

-- admission under a good key: the cases of the tag key and of the file are left
pub record AdmitsUnder (s : Schedule) (keysize : ℕ) (tag_key file : List ℕ) (r : Result Admitted NotAdmitted) : Type 0 where
  pub number : admitted_number r ≡ first_of (under_key_cases s keysize tag_key file)
  pub schedule : admitted_schedule r ≡ s
  pub tagged : admitted_tag_schedule r ≡ schedule_of tag_key
