-- `opening::find_job` meets its contract: the archive number has four bytes, and a job number that was found eight.
use mathlib.Core.Path.{refl, sym, ap, ap₂, ◌∙◌}
use lib.ListN.{length}
use Rattle.refusals.proofs.Answers.{answer_gives}
use Rattle.header.proofs.Accepted.{number_length}
use Rattle.bodies.specs.Bodies.{body_at}
use Rattle.bodies.proofs.Numbers.{lookup_eight}
use Rattle.opening.specs.Open.{prefix_of}
use Rattle.opening.proofs.find_job.Goals as goal

pub unwrap-archive-requires : goal.unwrap-archive-requires
unwrap-archive-requires c = c.try_into.ensures.0 (ap length c.archive_number.ensures.bytes ∙ number_length _ c.requires)

pub unwrap-requires : goal.unwrap-requires
unwrap-requires c = c.try_into-2.ensures.0 (lookup_eight _ _ _ c.in_ok-i.ensures)

pub returns : goal.returns
returns c =
    let found = answer_gives _ _ _ (sym c.in_ok-i.ensures) in
    let archive = rw c.unwrap-archive.ensures at c.try_into.ensures.1 in
    let number = rw c.unwrap.ensures at c.try_into-2.ensures.1 in
    record {
      number = sym found.0;
      job = (
        refl,
        c.prefix.ensures ∙ ap₂ prefix_of (archive.same ∙ c.archive_number.ensures.bytes) number.same,
        c.body_at.ensures.bytes ∙ ap (body_at c.args.file.now) (sym found.1),
      );
    }
