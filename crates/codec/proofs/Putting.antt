-- The pieces of a header and of an entry, put one behind the other into zero bytes, fill them.
-- Assumes nothing.
use mathlib.Core.Path.{◌≡◌, ap, ap₂, ◌∙◌}
use mathlib.Core.List.{List, ◌∷◌, ◌++◌, append-nil}
use Prim.Native.Nat.{ℕ, ◌+◌, ◌≤◌}
use native.Mathlib.Omega.{arith}
use lib.ListN.{length, replicate, length-append, length-replicate, drop_of_length-le}
use Rattle.octets.specs.Numbers.{bytes16, bytes32}
use Rattle.octets.specs.Parts.{laid, Puts, Put}
use Rattle.octets.proofs.Laying.{put_then, puts_put}
use Rattle.codec.specs.Jobs.{entry_of}
use Rattle.codec.specs.Archive.{header_of}

-- where as many bytes as there are zeros are put, they are all that stands there
put_all : (n : ℕ) {s ys : List ℕ} {r : ℕ} → length s ≡ n → Put (replicate n 0) 0 s r ys → ys ≡ s
unfolding laid
put_all n {s} {ys} {r} e p =
    let past : length {A = ℕ} (replicate n 0) ≤ 0 + length s = omega (arith, length-replicate {A = ℕ} n 0) in
    p.text ∙ ap (λ (l : List ℕ). s ++ l) (drop_of_length-le (replicate n 0) past) ∙ append-nil s

-- the code hands a number over as the bytes that it made of it
pub entry_put : (number a b : List ℕ) (start size : ℕ) → length number ≡ 8 → a ≡ bytes32 start → b ≡ bytes32 size
    → {k m r : ℕ} {xs ys zs : List ℕ} → Puts (replicate 16 0) 0 number k xs → Puts xs k a m ys → Puts ys m b r zs
    → zs ≡ entry_of number start size
unfolding entry_of
entry_put number a b start size en ea eb {k} {m} {r} {xs} {ys} {zs} p q t =
    let la : length a ≡ 4 = ap length ea in
    let lb : length b ≡ 4 = ap length eb in
    let first : Put (replicate 16 0) 0 number k xs = puts_put (omega arith) p in
    let second : Put xs k a m ys = puts_put (omega arith) q in
    let third : Put ys m b r zs = puts_put (omega arith) t in
    let all : length (number ++ (a ++ b)) ≡ 16 = simp length-append (omega arith) in
    put_all 16 all (put_then (omega arith) first (put_then (omega arith) second third))
    ∙ ap₂ (λ (u v : List ℕ). number ++ (u ++ v)) ea eb

pub header_put : (layout keysize count whole : ℕ) (number check w : List ℕ) → length number ≡ 4 → length check ≡ 8 → w ≡ bytes32 whole
    → {k m n r : ℕ} {xs ys zs out : List ℕ} → Puts (replicate 20 0) 0 (layout ∷ keysize ∷ bytes16 count) k xs → Puts xs k number m ys
    → Puts ys m check n zs → Puts zs n w r out → out ≡ header_of layout keysize count number check whole
unfolding header_of
header_put layout keysize count whole number check w en ec ew {k} {m} {n} {r} {xs} {ys} {zs} {out} p q t u =
    let lw : length w ≡ 4 = ap length ew in
    let fields : List ℕ = layout ∷ keysize ∷ bytes16 count in
    let first : Put (replicate 20 0) 0 fields k xs = puts_put (omega arith) p in
    let second : Put xs k number m ys = puts_put (omega arith) q in
    let third : Put ys m check n zs = puts_put (omega arith) t in
    let fourth : Put zs n w r out = puts_put (omega arith) u in
    let all : length (fields ++ (number ++ (check ++ w))) ≡ 20 = simp length-append (omega arith) in
    put_all 20 all
    (put_then (omega arith) first
    (put_then (omega arith) second (put_then (omega arith) third fourth)))
    ∙ ap (λ (l : List ℕ). fields ++ (number ++ (check ++ l))) ew
