-- Back after forward, and forward after back, under one key give the run again.
-- Assumes nothing.
use Rattle.std.specs.Prelude.{◌≡◌, List, ℕ, length}
use Rattle.keyed.specs.KeyRun.{key_run_number, key_run_bytes}

pub record KeyRunLaws : Type 0 where
  pub back_after_forward : (key xs : List ℕ) → key_run_bytes key 1 (key_run_bytes key 0 xs) ≡ xs
  pub forward_after_back : (key xs : List ℕ) → key_run_bytes key 0 (key_run_bytes key 1 xs) ≡ xs
  -- the second run answers what the first did
  pub back_number : (key xs : List ℕ)
      → key_run_number (length key) 1 (length (key_run_bytes key 0 xs)) ≡ key_run_number (length key) 0 (length xs)
  pub forward_number : (key xs : List ℕ)
      → key_run_number (length key) 0 (length (key_run_bytes key 1 xs)) ≡ key_run_number (length key) 1 (length xs)
