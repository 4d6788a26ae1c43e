-- `dropping::Left::write_front` meets its contract: header, directory and bodies, one behind the other.
use Rattle.std.proofs.Common.{refl, ap₂, ◌∙◌, List, ◌++◌, ℕ, ◌+◌, ◌-◌, ◌*◌, take, drop, arith}
use Rattle.codec.specs.Archive.{whole_length}
use Rattle.dropping.specs.Internal.{header_left}
use Rattle.dropping.proofs.Ways.{front_written}
use Rattle.dropping.proofs.Left.write_front.Goals as goal

pub returns : goal.returns
unfolding whole_length
returns c =
    let left = c.args.self.now in
    let before : List ℕ = c.args.out.now in
    let from : ℕ = 20 + 16 * c.count-count.result in
    let end : ℕ = c.args.whole - c.tag_size.result in
    let h : List ℕ = c.copy_from_slice.new.self in
    let d : List ℕ = c.write_directory.new.run in
    let out : List ℕ = take 20 (h ++ drop 20 before) ++ (d ++ drop (from - 20) (drop 20 (h ++ drop 20 before))) in
    front_written left.named left.file.now before left.whole h d c.write_bodies.new.run from (from - 20) end (end - from)
    (c.copy_from_slice.ensures.after
    ∙ c.header.ensures
    ∙ ap₂ (λ (n w : ℕ). header_left left.file.now n w) c.count-count.ensures.0 c.requires.0)
    c.write_directory.ensures c.write_bodies.ensures (omega (arith, c.count-count.ensures.0)) refl
    (omega (arith, c.count-count.ensures.0, c.tag_size.ensures.0, c.requires.0)) refl out refl
