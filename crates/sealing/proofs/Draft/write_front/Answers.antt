-- `sealing::Draft::write_front` meets its contract: header, directory and bodies are written, each in its place.
use Rattle.std.proofs.Common.{refl, arith, List, ◌++◌, ℕ, ◌+◌, ◌-◌, ◌*◌, length, take, drop}
use Rattle.sealing.proofs.Ways.{front_written}
use Rattle.sealing.proofs.Draft.write_front.Goals as goal

pub returns : goal.returns
returns c =
    let draft = c.args.self.now in
    let plain : List ℕ = draft.plain.now in
    let before : List ℕ = c.args.out.now in
    let from : ℕ = 20 + 16 * c.lines.result in
    let h : List ℕ = c.write_header.new.run in
    let d : List ℕ = c.write_directory.new.run in
    let b : List ℕ = c.write_bodies.new.run in
    let out₁ : List ℕ = h ++ drop 20 before in
    let out₂ : List ℕ = take 20 out₁ ++ (d ++ drop (from - 20) (drop 20 out₁)) in
    let out₃ : List ℕ = take from out₂ ++ (b ++ drop (from + length plain - from) (drop from out₂)) in
    front_written draft.layout c.args.schedule.schedule draft.sheet.now plain draft.headed draft.exact before h d b out₁ out₂ out₃ 20
    (from - 20) from
    (from + length plain - from) (from + length plain) c.write_header.ensures c.write_directory.ensures c.write_bodies.ensures refl refl
    refl
    refl (omega arith) (omega arith) (omega arith) (omega arith)
