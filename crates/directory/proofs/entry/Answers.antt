-- `directory::entry` meets its contract: past the last whole entry the part is empty, before it the sixteen bytes lie within the directory.
-- The check finds this too, but takes minutes to refuse its edits.
use mathlib.Core.Path.{sym, ◌∙◌}
use native.Mathlib.Omega.{arith}
use Rattle.directory.proofs.Entries.{entry_inside, entry_none}
use Rattle.directory.proofs.entry.Goals as goal

pub returns-then-i-directory : goal.returns-then-i-directory
returns-then-i-directory c =
    let inside = c.if-i-directory.true in
    record { bytes = c.part.ensures.bytes ∙ sym (entry_inside _ _ inside); place = λ l. c.part.ensures.place (omega arith) }

pub returns-else-i-directory : goal.returns-else-i-directory
returns-else-i-directory c =
    let none = c.if-i-directory.false in
    record { bytes = c.part-else-i-directory.ensures.bytes ∙ sym (entry_none _ _ none); place = λ l. absurd (omega arith) }
