-- The cases that many calls share (01, Reasons for sending work back, 1 to 4, and 1 of a tag key by 02, d), each over the number that it
-- looks at.
-- Assumes nothing.
use Rattle.std.specs.Prelude.{Bool, not, ◌||◌, List, [], ◌∷◌, ℕ, ◌%◌, eqb, ltb}
use Rattle.refusals.specs.Cases.{Case, when}

-- a key has 16, 24 or 32 bytes
unfoldable pub good_key : ℕ → Bool
good_key n = eqb n 16 || (eqb n 24 || eqb n 32)

-- 1: the key is not 16, 24 or 32 bytes long
unfoldable pub key_cases : ℕ → List Case
key_cases n = when (not (good_key n)) 1 ∷ []

-- 1 also for a bad tag key (02, d), which is "of any of the three lengths or 0 bytes for none"
unfoldable pub tag_key_cases : ℕ → List Case
tag_key_cases n = when (not (eqb n 0 || good_key n)) 1 ∷ []

-- 2: the direction is neither 0 nor 1
unfoldable pub direction_cases : ℕ → List Case
direction_cases direction = when (ltb 1 direction) 2 ∷ []

-- a schedule has 12, 14 or 16 rounds
unfoldable pub good_rounds : ℕ → Bool
good_rounds n = eqb n 12 || (eqb n 14 || eqb n 16)

-- 3: a schedule handed in has a round count other than 12, 14 or 16
unfoldable pub rounds_cases : ℕ → List Case
rounds_cases n = when (not (good_rounds n)) 3 ∷ []

-- 4: the run's length is not a multiple of 16
unfoldable pub whole_cases : ℕ → List Case
whole_cases len = when (not (eqb (len % 16) 0)) 4 ∷ []
