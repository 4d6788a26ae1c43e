-- `opening::open_range` meets its contract: a refusal of keys or file stands; else the job is found, and the range is opened.
use mathlib.Core.Path.{◌≡◌, sym, ◌∙◌}
use borrow.Author.Rules.{rules}
use Rattle.std.specs.Prelude.{Err}
use Rattle.refusals.proofs.Numbers.{number_some}
use Rattle.admission.proofs.Accepted.{accepted_header}
use Rattle.opening.proofs.Opening.{as_told, opens_refused, opens_unknown, opens_found}
use Rattle.opening.proofs.open_range.Goals as goal

pub returns-in_err-admitted : goal.returns-in_err-admitted
returns-in_err-admitted c =
    let e = c.in_err-admitted in
    let told : c.from_residual.result ≡ Err e.field-0.0.refusal = search rules in
    as_told _ _ _ _ _ _ _ _ _ _ told (opens_refused _ _ _ _ _ _ _ _ e.ensures.number (number_some e.field-0.0.refusal))

pub find_job-requires : goal.find_job-requires
find_job-requires c = (accepted_header _ _ _ _ (sym c.in_ok-admitted.ensures.number)).long

pub returns-in_err-job : goal.returns-in_err-job
returns-in_err-job c =
    let a = c.in_ok-admitted.ensures in
    let e = c.in_err-job in
    let told : c.from_residual-in_err-job.result ≡ Err e.field-0.0 = search rules in
    as_told _ _ _ _ _ _ _ _ _ _ told (opens_unknown _ _ _ _ _ _ _ a.number _ e.ensures.number (number_some e.field-0.0))

pub returns : goal.returns
returns c =
    let a = c.in_ok-admitted.ensures in
    let found = c.in_ok-job.ensures in
    let job = found.job in
    opens_found _ _ _ _ _ _ _ a.number _ _ _ _ _ found.number (job.0 ∙ a.handed.0) job.1 job.2 c.open.ensures
