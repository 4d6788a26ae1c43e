-- `tables::WordTables::spread_row` meets its contract: the sum of an entry for each position has in each byte the sum of the other three
-- boxes' bytes.
use mathlib.Core.Path.{◌∙◌, ap, ap₂}
use Prim.Native.Nat.{ℕ, ◌+◌, ◌%◌, ◌<◌}
use native.Mathlib.Nat.{mod-lt, zero-lt-suc}
use lib.Bits.{bit_xor}
use lib.ListN.{get_or}
use mir.Syntax.{w8}
use mir.Val.{Fits}
use Rattle.boxes.specs.Boxes.{box}
use Rattle.boxes.proofs.Inverses.{box_byte}
use Rattle.octets.specs.Numbers.{bytes32}
use Rattle.wordtables.specs.Words.{word_of}
use Rattle.wordtables.proofs.Entries.{four_entries}
use borrow.Author.Rules.{rules}
use Rattle.tables.proofs.WordTables.spread_row.Goals as goal

pub returns : goal.returns
unfolding word_of
returns c =
    let a = c.args in
    let r = a.row in
    let known = c.well_formed.1.1.0 in
    let byte0 : Fits w8 (get_or r 0 0) = search rules in
    let byte1 : Fits w8 (get_or r 1 0) = search rules in
    let byte2 : Fits w8 (get_or r 2 0) = search rules in
    let byte3 : Fits w8 (get_or r 3 0) = search rules in
    let in_four : (n : ℕ) → n % 4 < 4 = λ n. mod-lt n (zero-lt-suc 3) in
    c.bytes_of.ensures
    ∙ ap bytes32
    (ap₂ bit_xor c.entry-a.ensures (ap₂ bit_xor c.entry-b.ensures (ap₂ bit_xor c.entry-c.ensures c.entry-d.ensures)))
    ∙ four_entries (box (a.from % 4) (get_or r 0 0)) (box ((a.from + 1) % 4) (get_or r 1 0)) (box ((a.from + 2) % 4) (get_or r 2 0))
    (box ((a.from + 3) % 4) (get_or r 3 0))
    (box_byte (a.from % 4) (get_or r 0 0) (in_four a.from) byte0.fits)
    (box_byte ((a.from + 1) % 4) (get_or r 1 0) (in_four (a.from + 1)) byte1.fits)
    (box_byte ((a.from + 2) % 4) (get_or r 2 0) (in_four (a.from + 2)) byte2.fits)
    (box_byte ((a.from + 3) % 4) (get_or r 3 0) (in_four (a.from + 3)) byte3.fits)
