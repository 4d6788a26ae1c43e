-- Encryption under a schedule and under its decryption schedule undo each other on every block, whatever the key bytes; so each is
-- one-to-one.
-- Assumes nothing.
use mathlib.Core.Path.{◌≡◌, sym, ap, ◌∙◌}
use mathlib.Core.Bool.{true}
use mathlib.Core.List.{List}
use Prim.Native.Nat.{ℕ}
use lib.ListN.{length}
use Rattle.refusals.specs.Shared.{good_rounds}
use Rattle.refusals.proofs.Shared.{counted}
use Rattle.boxes.specs.Boxes.{box}
use Rattle.boxes.proofs.Inverses.{box_undoing}
use Rattle.circuit.specs.Circuit.{aria}
use Rattle.circuit.specs.Run.{encrypted}
use Rattle.circuit.specs.declared.Schedule.{Schedule}
use Rattle.circuit.proofs.Undo.{circuit_undo, reversed_back}
use Rattle.expansion.specs.Decryption.{decryption_keys, decryption_of}
use Rattle.expansion.proofs.Reversal.{decryption_good, reversed_keys}

module _ (s : Schedule) (good : good_rounds s.rounds ≡ true) where
  pub decryption_rounds : (decryption_of s).rounds ≡ s.rounds
  decryption_rounds = ap (λ (t : Schedule). t.rounds) (decryption_good s good)

  pub decrypt_encrypt : (b : List ℕ) → length b ≡ 16 → encrypted (decryption_of s) (encrypted s b) ≡ b
  unfolding aria
  decrypt_encrypt b h =
      let k = counted s.rounds good in
      ap (λ (t : Schedule). encrypted t (encrypted s b)) (decryption_good s good)
      ∙ circuit_undo box box_undoing s.rounds s.keys (decryption_keys s.rounds s.keys) b k.some k.even h
      (reversed_keys s.rounds s.keys)

  pub encrypt_decrypt : (b : List ℕ) → length b ≡ 16 → encrypted s (encrypted (decryption_of s) b) ≡ b
  unfolding aria
  encrypt_decrypt b h =
      let k = counted s.rounds good in
      let ks : List ℕ = decryption_keys s.rounds s.keys in
      ap (λ (t : Schedule). encrypted s (encrypted t b)) (decryption_good s good)
      ∙ circuit_undo box box_undoing s.rounds ks s.keys b k.some k.even h
      (reversed_back s.rounds s.keys ks (reversed_keys s.rounds s.keys))

  -- different blocks are encrypted to different blocks
  pub encrypted_one : (a b : List ℕ) → length a ≡ 16 → length b ≡ 16 → encrypted s a ≡ encrypted s b → a ≡ b
  encrypted_one a b la lb e = sym (decrypt_encrypt a la) ∙ ap (encrypted (decryption_of s)) e ∙ decrypt_encrypt b lb
