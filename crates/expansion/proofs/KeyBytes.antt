-- Key bytes of a schedule: a key stands where it is looked for, and a key put behind those that are there makes one more.
-- Assumes nothing.
use mathlib.Core.Path.{◌≡◌, refl, sym, ap, subst, ◌∙◌}
use mathlib.Core.Logic.{⊎_elim}
use mathlib.Core.List.{List, [], ◌∷◌, ◌++◌}
use Prim.Native.Nat.{ℕ, zero, suc, ◌+◌, ◌-◌, ◌*◌, ◌≤◌, ◌<◌}
use native.Mathlib.Nat.{eq-or-lt_of_le, not-suc-le-zero, le_of_suc-le-suc}
use native.Mathlib.Omega.{arith}
use native.Mathlib.Numerals.{add-one}
use mir.Syntax.{w8}
use mir.Val.{Val}
use denote.Plain.{UInt}
use denote.Array.{Array, each}
use denote.Shadow.{shadow}
use lib.ListN.{length, get_or, take, drop, replicate, length-append, length-take, length-drop}
use lib.Seq.{length-take-le}
use Rattle.octets.specs.Parts.{overwritten}
use Rattle.octets.proofs.Parts.{drop_replicate, overwritten_whole}
use Rattle.blocks.specs.Blocks.{row}
use Rattle.blocks.proofs.Blocks.{block_whole}
use Rattle.blocks.proofs.Rows.{length_row, row_at, row_turn}
use Rattle.circuit.specs.Circuit.{key_at}
use Rattle.circuit.proofs.Keys.{part_key}
use Rattle.expansion.specs.KeySchedule.{key_bytes}

-- an array of arrays of sixteen bytes: what the code knows of it is that each element has that length
pub array_sixteen : (ks : List (List ℕ)) (vs : List Val) → shadow (each (List ℕ) (Array (UInt w8) 16).own_val ks vs)
    → (i : ℕ) → i < length ks → length (get_or ks i []) ≡ 16
array_sixteen [] vs p i h = absurd (not-suc-le-zero h)
array_sixteen (k ∷ ks) [] p i h = absurd p
array_sixteen (k ∷ ks) (v ∷ vs) p zero h = p.0.1.0.1
array_sixteen (k ∷ ks) (v ∷ vs) p (suc i) h = array_sixteen ks vs p.1 i (le_of_suc-le-suc h)

-- the first i keys of a rule, each of sixteen bytes, are in their places
abbrev pub Placed : (ℕ → List ℕ) → ℕ → List ℕ → Type 0
Placed rule i out = (out ≡ key_bytes rule i) × ((j : ℕ) → j < i → length (rule j) ≡ 16)

module _ (rule : ℕ → List ℕ) where
  -- key i of those that are used
  pub key_bytes_at : (n i : ℕ) → ((j : ℕ) → j < n → length (rule j) ≡ 16) → i < n → key_at (key_bytes rule n) i ≡ rule i
  unfolding key_bytes
  key_bytes_at n i h l =
      let zeros : List ℕ = replicate (272 - 16 * n) 0 in
      let all : List ℕ = row rule n ++ zeros in
      let size : length all ≡ length (row rule n) + length zeros = length-append (row rule n) zeros in
      let room : 16 * i + 16 ≤ length all = omega (arith, length_row rule n h) in
      let whole : length (take 16 (drop (16 * i) all)) ≡ 16 = length-take-le 16 (drop (16 * i) all) (simp length-drop (omega arith)) in
      sym (part_key all i 16 refl room)
      ∙ block_whole (take 16 (drop (16 * i) all)) whole
      ∙ row_at rule n i zeros h l

  -- a turn of a loop that puts the keys in their places: key i is stored at its part of sixteen bytes, whose length the code says as w
  pub put_turn : (i w : ℕ) (out k part : List ℕ) → w ≡ 16 → i ≤ 16 → length out ≡ 272 → length k ≡ 16
      → part ≡ overwritten k (take w (drop (16 * i) out)) → Placed rule i out → k ≡ rule i
      → Placed rule (i + 1) (take (16 * i) out ++ (part ++ drop w (drop (16 * i) out)))
  unfolding key_bytes
  put_turn i w out k part ew most lo lk ep placed ek =
      let h : (j : ℕ) → j < i → length (rule j) ≡ 16 = placed.1 in
      let less : 272 - 16 * i - 16 ≡ 272 - 16 * (i + 1) = omega arith in
      let lp : length (take w (drop (16 * i) out)) ≡ 16 = simp (length-take, length-drop) (omega arith) in (
        ap (λ (p : List ℕ). take (16 * i) out ++ (p ++ drop w (drop (16 * i) out)))
            (ep ∙ overwritten_whole k (take w (drop (16 * i) out)) (lk ∙ sym lp))
            ∙ row_turn rule i w out k (replicate (272 - 16 * i) 0) ew h placed.0 ek
            ∙ ap (λ (z : List ℕ). row rule (i + 1) ++ z) (drop_replicate 16 (272 - 16 * i) ∙ ap (λ (n : ℕ). replicate n 0) less),
        λ j l. ⊎_elim (λ (e : j ≡ i). ap (λ (m : ℕ). length (rule m)) e ∙ ap length (sym ek)
            ∙ lk) (h j) (eq-or-lt_of_le (le_of_suc-le-suc (subst (λ (n : ℕ). j < n) (add-one i) l))),
      )
