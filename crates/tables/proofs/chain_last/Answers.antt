-- `tables::chain_last` meets its contract: L, its subkey and the sums, one after the other.
use mathlib.Core.Path.{ap, ◌∙◌}
use Rattle.blocks.specs.Xor.{xor_block}
use Rattle.circuit.specs.Run.{encrypted}
use Rattle.subkeys.specs.Subkeys.{subkey_for}
use Rattle.tables.proofs.chain_last.Goals as goal

pub returns : goal.returns
returns c =
    let a = c.args in
    c.encrypt_one.ensures
    ∙ ap (encrypted a.good.now.schedule)
    (c.xor.ensures
    ∙ ap (xor_block a.x)
    (c.xor-masked.ensures
    ∙ ap (xor_block a.last) (c.subkey.ensures ∙ ap (subkey_for a.complete) c.encrypt_one-l.ensures)))
