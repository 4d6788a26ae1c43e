-- Demand 3 in one piece (01, Words of demand 3). Its statement speaks of the contracts of three calls: a run under a schedule, the
-- decryption schedule of that schedule (01's turning round), and a run under it on the bytes that the first call left.
-- Assumes nothing.
use Rattle.std.specs.Prelude.{◌≡◌, true, List, ℕ, ◌%◌, length, Result}
use Rattle.blocks.specs.Runs.{each_block}
use Rattle.diffusion.specs.Laws.{DiffusionLaws}
use Rattle.refusals.specs.declared.Refusal.{Refusal}
use Rattle.refusals.specs.Cases.{first_of}
use Rattle.refusals.specs.Numbers.{number_in}
use Rattle.refusals.specs.Shared.{good_rounds, rounds_cases}
use Rattle.octets.specs.Parts.{overwritten}
use Rattle.circuit.specs.Run.{encrypted, run_number, run_bytes, Ran}
use Rattle.expansion.specs.Decryption.{Reverses}
use Rattle.circuit.specs.Good.{schedule_in}
use Rattle.circuit.specs.declared.Schedule.{Schedule}
use Rattle.circuit.specs.declared.GoodSchedule.{GoodSchedule}
use Rattle.engines.specs.declared.Engine.{Engine}
use Rattle.engines.specs.declared.Engine.TheVariants.{Plain, Tables}
use Rattle.roundtrip.specs.declared.Answered.{Answered}

-- the contract of a run by each engine (01's paths): that of `plain::run`, and that of `tables::run`
abbrev pub RanBy : Engine → Schedule → List ℕ → ℕ → List ℕ → Type 0
RanBy Plain s before r after = Ran s before r after
RanBy Tables s before r after = Ran s before r after

-- three calls in a row under s, from xs: engine p left ys and answered a, the decryption schedule came as r,
-- engine q left zs and answered c
pub record ThreeCalls (p q : Engine) (s : Schedule) (xs : List ℕ) (a : ℕ) (ys : List ℕ) (r : Result GoodSchedule Refusal) (c : ℕ)
    (zs : List ℕ) : Type 0 where
  pub first : RanBy p s xs a ys
  pub reversed : Reverses s r
  pub second : RanBy q (schedule_in r) ys c zs

-- none of the three is refused; each run makes of each block what the rounds under its schedule make of it; and the last bytes are those at
-- the start
pub record ThereAndBack (s : Schedule) (xs : List ℕ) (a : ℕ) (ys : List ℕ) (r : Result GoodSchedule Refusal) (c : ℕ) (zs : List ℕ) : Type 0
  where
    pub first_done : a ≡ 0
    pub reversed_done : number_in r ≡ 0
    pub second_done : c ≡ 0
    pub middle : ys ≡ each_block (encrypted s) xs
    pub last : zs ≡ each_block (encrypted (schedule_in r)) ys
    pub back : zs ≡ xs

-- Demand 3: over every schedule of 12, 14 or 16 rounds, with any key bytes at all, unused ones included; over all bytes of whole
-- blocks, none included; over all four pairings of the engines. And the laws of the diffusion layer, 01's mixing.
pub record DemandThree : Type 0 where
  pub mixing : DiffusionLaws
  pub round_trip : (p q : Engine) (s : Schedule) (xs : List ℕ) → good_rounds s.rounds ≡ true → length xs % 16 ≡ 0
      → (a : ℕ) (ys : List ℕ) (r : Result GoodSchedule Refusal) (c : ℕ) (zs : List ℕ) → ThreeCalls p q s xs a ys r c zs
      → ThereAndBack s xs a ys r c zs

-- the contract of the function that makes the three calls, on every schedule and run, refused ones too: the run is as it was, and the
-- second buffer shows the bytes in between
pub record RoundTripped (s : Schedule) (before shown : List ℕ) (r : Answered) (after shows : List ℕ) : Type 0 where
  pub first : number_in r.first ≡ run_number s.rounds (length before)
  pub reversed : number_in r.reversed ≡ first_of (rounds_cases s.rounds)
  pub second : number_in r.second ≡ run_number s.rounds (length before)
  pub bytes : after ≡ before
  pub middle : shows ≡ overwritten (run_bytes s before) shown
