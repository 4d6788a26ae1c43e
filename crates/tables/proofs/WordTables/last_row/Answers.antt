-- `tables::WordTables::last_row` meets its contract: away from its own position an entry has the box's byte.
use mathlib.Core.Path.{◌∙◌, ap}
use Prim.Native.Nat.{ℕ, ◌/◌, ◌%◌}
use lib.Dec.{lit<}
use lib.ListN.{get_or}
use mir.Syntax.{w8}
use mir.Val.{Fits}
use Rattle.wordtables.proofs.Rows.{list_four}
use Rattle.wordtables.proofs.Entries.{word_byte}
use borrow.Author.Rules.{rules}
use Rattle.tables.proofs.WordTables.last_row.Goals as goal

pub returns : goal.returns
returns c =
    let r = c.args.row in
    let byte0 : Fits w8 (get_or r 0 0) = search rules in
    let byte1 : Fits w8 (get_or r 1 0) = search rules in
    let byte2 : Fits w8 (get_or r 2 0) = search rules in
    let byte3 : Fits w8 (get_or r 3 0) = search rules in
    list_four
    (ap (λ (w : ℕ). w % 256) c.entry-a.ensures ∙ word_byte 2 0 3 (get_or r 0 0) (lit< tt) (lit< tt) (lit< tt) byte0.fits)
    (ap (λ (w : ℕ). w % 256) c.entry-b.ensures ∙ word_byte 3 1 3 (get_or r 1 0) (lit< tt) (lit< tt) (lit< tt) byte1.fits)
    (ap (λ (w : ℕ). w % 256) c.entry-c.ensures ∙ word_byte 0 2 3 (get_or r 2 0) (lit< tt) (lit< tt) (lit< tt) byte2.fits)
    (ap (λ (w : ℕ). w / 256 % 256) c.entry.ensures ∙ word_byte 1 3 2 (get_or r 3 0) (lit< tt) (lit< tt) (lit< tt) byte3.fits)
