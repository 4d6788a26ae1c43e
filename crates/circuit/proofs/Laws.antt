-- What specs/Laws.antt claims of the circuit and of runs holds.
-- Assumes nothing.
use mathlib.Core.Path.{◌≡◌, ap, ap₂, ◌∙◌}
use mathlib.Core.List.{List}
use Prim.Native.Nat.{ℕ, ◌≤◌}
use lib.ListN.{length}
use Rattle.refusals.specs.Answers.{unless_refused}
use Rattle.blocks.proofs.Runs.{each_same}
use Rattle.boxes.specs.Boxes.{box}
use Rattle.circuit.specs.Circuit.{key_at, aria}
use Rattle.circuit.specs.Run.{encrypted, run_number, run_bytes}
use Rattle.circuit.specs.Laws.{EveryCircuit, RunUnused}
use Rattle.circuit.specs.declared.Schedule.{Schedule}
use Rattle.circuit.proofs.Rounds.{length_circuit}
use Rattle.circuit.proofs.Same.{circuit_unused, circuit_boxes}
use Rattle.circuit.proofs.Undo.{circuit_undo}

pub circuit_laws : EveryCircuit
circuit_laws f u =
    record {
      sixteen = length_circuit f;
      undo = λ n ks ks' b some even lb t. circuit_undo f u n ks ks' b some even lb t;
      unused = λ n ks ks' b. circuit_unused f ks ks' b n;
      boxes = circuit_boxes f;
    }

-- a block under two schedules that agree on the keys they use
same_block : (s t : Schedule) → s.rounds ≡ t.rounds → ((i : ℕ) → i ≤ s.rounds → key_at s.keys i ≡ key_at t.keys i) → (b : List ℕ)
    → encrypted s b ≡ encrypted t b
unfolding aria
same_block s t e same b =
    circuit_unused box s.keys t.keys b s.rounds same ∙ ap (λ (n : ℕ). aria n t.keys b) e

pub run_unused : RunUnused
unfolding run_bytes
run_unused s t e same xs =
    ap₂ (λ (n : ℕ) (ys : List ℕ). unless_refused (run_number n (length xs)) ys xs) e
    (each_same (encrypted s) (encrypted t) (λ b h. same_block s t e same b) xs)
