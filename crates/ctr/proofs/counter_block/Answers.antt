-- `ctr::counter_block` meets its contract: the index is put behind the prefix.
use mathlib.Core.Path.{◌≡◌, ap₂, ◌∙◌}
use mathlib.Core.List.{List}
use Prim.Native.Nat.{ℕ}
use native.Mathlib.Omega.{arith}
use borrow.Author.Rules.{rules}
use lib.ListN.{length}
use Rattle.octets.specs.Parts.{laid}
use Rattle.octets.proofs.Laying.{puts_put}
use Rattle.ctr.proofs.Counters.{counter_laid}
use Rattle.ctr.proofs.counter_block.Goals as goal

pub returns : goal.returns
returns c =
    let a = c.args in
    let prefix : List ℕ = a.prefix in
    let twelve : length prefix ≡ 12 = search rules in
    let begun = c.load-out in
    let index = c.in_four in
    let room : length begun.result ≡ 16 = search rules in
    let four : length index.result ≡ 4 = search rules in
    (puts_put (omega arith) c.put.ensures).text
    ∙ ap₂ (λ (l s : List ℕ). laid l 12 s) begun.ensures index.ensures
    ∙ counter_laid prefix twelve a.index
