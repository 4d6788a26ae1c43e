-- `expansion::four_keys` meets its contract: each key is the sum of a word and a rotated word.
use Rattle.expansion.proofs.Keys.{four_made}
use Rattle.expansion.proofs.four_keys.Goals as goal

pub returns : goal.returns
returns g c =
    λ r same.
    four_made r c.args.w
    (same _ _ c.rotate.ensures)
    c.xor.ensures
    (same _ _ c.rotate-2.ensures)
    c.xor-2.ensures
    (same _ _ c.rotate-3.ensures)
    c.xor-3.ensures
    (same _ _ c.rotate-4.ensures)
    c.xor-4.ensures
