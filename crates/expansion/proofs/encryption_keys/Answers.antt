-- `expansion::encryption_keys` meets its contract: four fours, and the last key.
use Rattle.rotation.specs.Rotation.{◌>>>◌, ◌<<<◌}
use Rattle.expansion.proofs.Keys.{keys_made}
use Rattle.expansion.proofs.encryption_keys.Goals as goal

pub returns : goal.returns
returns c =
    keys_made c.args.w
    (c.four_keys-a.ensures (λ x. x >>> 19) (λ x y p. p.1))
    (c.four_keys-b.ensures (λ x. x >>> 31) (λ x y p. p.1))
    (c.four_keys-c.ensures (λ x. x <<< 61) (λ x y p. p.1))
    (c.four_keys-d.ensures (λ x. x <<< 31) (λ x y p. p.1))
    c.left.ensures
    c.xor-last.ensures
