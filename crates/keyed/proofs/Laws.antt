-- Back after forward, and forward after back, under one key: a refused run is left alone both times, and else the schedules undo each
-- other on each block.
-- Assumes nothing.
use mathlib.Core.Path.{◌≡◌, refl, sym, ap, ◌∙◌}
use mathlib.Core.Bool.{Bool, true, false}
use mathlib.Core.List.{List}
use Prim.Native.Nat.{ℕ, zero, suc, ◌≤◌}
use native.Mathlib.Omega.{arith}
use lib.ListN.{length}
use Rattle.refusals.specs.Answers.{unless_refused}
use Rattle.refusals.specs.Shared.{good_key}
use Rattle.refusals.proofs.Shared.{key_0, key_1, direction_0}
use Rattle.blocks.specs.Runs.{each_block}
use Rattle.blocks.proofs.Runs.{each_length, each_undo}
use Rattle.circuit.specs.Run.{encrypted}
use Rattle.circuit.proofs.Runs.{length_encrypted}
use Rattle.expansion.specs.KeySchedule.{schedule_of}
use Rattle.expansion.proofs.KeyLengths.{good_rounds_lem}
use Rattle.expansion.proofs.Undo.{decrypt_encrypt, encrypt_decrypt}
use Rattle.keyed.specs.KeyRun.{directed, key_run_number, key_run_bytes}
use Rattle.keyed.specs.Laws.{KeyRunLaws}
use Rattle.keyed.proofs.UnderKey.{number_key, number_whole}

-- a run is as long after as before
length_run : (key : List ℕ) (d : ℕ) (xs : List ℕ) → length (key_run_bytes key d xs) ≡ length xs
unfolding key_run_bytes
length_run key d xs = by_number (key_run_number (length key) d (length xs))
  where
    f : List ℕ → List ℕ
    f = encrypted (directed (schedule_of key) d)

    by_number : (k : ℕ) → length (unless_refused k (each_block f xs) xs) ≡ length xs
    by_number zero = each_length f (length_encrypted (directed (schedule_of key) d)) xs
    by_number (suc k) = refl

-- the number of a bad key
bad_number : (n d len : ℕ) → good_key n ≡ false → key_run_number n d len ≡ 1
bad_number n d len e = number_key n d len (λ q. omega (arith, key_1 n e, q)) ∙ key_1 n e

-- two directions are refused alike
same_number : (n d e len : ℕ) → d ≤ 1 → e ≤ 1 → key_run_number n d len ≡ key_run_number n e len
same_number n d e len hd he = by_key (good_key n) refl
  where
    by_key : (a : Bool) → good_key n ≡ a → key_run_number n d len ≡ key_run_number n e len
    by_key true p =
        number_whole n d len (key_0 n p) (direction_0 d hd) ∙ sym (number_whole n e len (key_0 n p) (direction_0 e he))
    by_key false p = bad_number n d len p ∙ sym (bad_number n e len p)

-- a key is good where a run under it is not refused
done_key : (n d len : ℕ) → key_run_number n d len ≡ 0 → good_key n ≡ true
done_key n d len e = by_key (good_key n) refl
  where
    by_key : (a : Bool) → good_key n ≡ a → good_key n ≡ true
    by_key true p = p
    by_key false p = absurd (omega (arith, bad_number n d len p, e))

-- f and g name the two directions, in either order
module _ (key xs : List ℕ) (f g : ℕ) (hf : f ≤ 1) (hg : g ≤ 1) where
  second_number : key_run_number (length key) g (length (key_run_bytes key f xs)) ≡ key_run_number (length key) f (length xs)
  second_number =
      ap (key_run_number (length key) g) (length_run key f xs) ∙ same_number (length key) g f (length xs) hg hf

  -- one after the other they leave the run as it was, where they undo each other on blocks
  there_and_back : (good_key (length key) ≡ true → (b : List ℕ) → length b ≡ 16
      → encrypted (directed (schedule_of key) g) (encrypted (directed (schedule_of key) f) b) ≡ b)
      → key_run_bytes key g (key_run_bytes key f xs) ≡ xs
  unfolding key_run_bytes
  there_and_back undo = by_number (key_run_number (length key) f (length xs)) refl
    where
      there : List ℕ → List ℕ
      there = encrypted (directed (schedule_of key) f)

      back : List ℕ → List ℕ
      back = encrypted (directed (schedule_of key) g)

      first : (k : ℕ) → key_run_number (length key) f (length xs) ≡ k → key_run_bytes key f xs ≡ unless_refused k (each_block there xs) xs
      first k e = ap (λ (n : ℕ). unless_refused n (each_block there xs) xs) e

      second : (k : ℕ) → key_run_number (length key) f (length xs) ≡ k
          → key_run_bytes key g (key_run_bytes key f xs)
          ≡ unless_refused k (each_block back (key_run_bytes key f xs)) (key_run_bytes key f xs)
      second k e = ap (λ (n : ℕ). unless_refused n (each_block back (key_run_bytes key f xs)) (key_run_bytes key f xs)) (second_number ∙ e)

      by_number : (k : ℕ) → key_run_number (length key) f (length xs) ≡ k → key_run_bytes key g (key_run_bytes key f xs) ≡ xs
      by_number zero e =
          second zero e
          ∙ ap (each_block back) (first zero e)
          ∙ each_undo there (length_encrypted (directed (schedule_of key) f)) back (undo (done_key (length key) f (length xs) e)) xs
      by_number (suc k) e = second (suc k) e ∙ first (suc k) e

pub key_run_laws : KeyRunLaws
key_run_laws =
    record {
      back_after_forward = λ key xs.
          there_and_back key xs 0 1 (omega arith) (omega arith) (λ e. decrypt_encrypt (schedule_of key) (good_rounds_lem key e));
      forward_after_back = λ key xs.
          there_and_back key xs 1 0 (omega arith) (omega arith) (λ e. encrypt_decrypt (schedule_of key) (good_rounds_lem key e));
      back_number = λ key xs. second_number key xs 0 1 (omega arith) (omega arith);
      forward_number = λ key xs. second_number key xs 1 0 (omega arith) (omega arith);
    }
