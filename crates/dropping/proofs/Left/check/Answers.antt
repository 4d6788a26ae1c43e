-- `dropping::Left::check` meets its contract: the archive's own checks, then the list's.
use Rattle.std.proofs.Common.{◌≡◌, refl, sym}
use Rattle.refusals.specs.Cases.{first_of}
use Rattle.dropping.specs.Drop.{asked_cases}
use Rattle.dropping.proofs.Cases.{asked_none}
use Rattle.dropping.proofs.Passed.{left_jobs, whole_file, file_laid}
use Rattle.dropping.proofs.Left.check.Goals as goal

pub invariant_of-result : goal.invariant_of-result
invariant_of-result c =
    let a = c.args in
    let admitted = c.in_ok-admitted.ensures in
    let none : first_of (asked_cases a.key.now a.tag_key.now a.file.now a.list.now) ≡ 0 =
    asked_none a.key.now a.tag_key.now a.file.now a.list.now (sym admitted.number) (sym c.in_ok-named.ensures.number) in
    record {
      whole = whole_file a.key.now a.tag_key.now a.file.now a.list.now none;
      laid = file_laid a.key.now a.tag_key.now a.file.now a.list.now none c.in_ok-admitted.admitted.tag_schedule admitted.handed.1;
    }

pub returns-clause-left : goal.returns-clause-left
returns-clause-left c =
    let a = c.args in
    let admitted = c.in_ok-admitted.ensures in
    let none : first_of (asked_cases a.key.now a.tag_key.now a.file.now a.list.now) ≡ 0 =
    asked_none a.key.now a.tag_key.now a.file.now a.list.now (sym admitted.number) (sym c.in_ok-named.ensures.number) in
    (refl, left_jobs a.key.now a.tag_key.now a.file.now a.list.now none c.in_ok-named.named c.in_ok-named.ensures.named, admitted.handed.1)
