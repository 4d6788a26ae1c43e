-- `expansion::decryption_schedule` meets its contract: the schedule that is taken for a good one is reversed.
use Rattle.std.proofs.Common.{ap, ◌∙◌}
use Rattle.circuit.proofs.Good.{accepted}
use Rattle.expansion.specs.Decryption.{decryption_of}
use Rattle.expansion.proofs.decryption_schedule.Goals as goal

pub returns : goal.returns
returns c =
    record {
      number = c.in_ok-good.ensures.number;
      schedule = c.reversed.ensures.schedule ∙ ap decryption_of (accepted c.args.schedule _ c.in_ok-good.ensures);
    }
