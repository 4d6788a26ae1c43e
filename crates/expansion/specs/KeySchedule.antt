-- The key schedule of ARIA, RFC 5794, section 2.2 (01, Key preparation): from a key the four words W0 to W3 of 128 bits, and from these
-- the round keys ek1 to ek17, of which the first 13, 15 or 17 are used. A schedule has room for seventeen; those not used are zero.
-- A key of another length has a schedule of no rounds and zero keys.
-- Assumes nothing.
use Rattle.std.specs.Prelude.{◌≡◌, cond, List, [], ◌∷◌, ◌++◌, ℕ, ◌+◌, ◌-◌, ◌*◌, eqb, length, get_or, drop, replicate, Result}
use Rattle.refusals.specs.declared.Refusal.{Refusal}
use Rattle.refusals.specs.Cases.{first_of}
use Rattle.refusals.specs.Numbers.{number_in}
use Rattle.refusals.specs.Shared.{good_key, key_cases}
use Rattle.blocks.specs.Xor.{xor_block}
use Rattle.blocks.specs.Blocks.{block_of, row}
use Rattle.boxes.specs.Boxes.{box}
use Rattle.circuit.specs.Circuit.{odd_round, even_round}
use Rattle.circuit.specs.declared.Schedule.{Schedule}
use Rattle.circuit.specs.declared.GoodSchedule.{GoodSchedule}
use Rattle.circuit.specs.Good.{schedule_in}
use Rattle.rotation.specs.Rotation.{◌>>>◌, ◌<<<◌}

-- the constants C1, C2 and C3
unfoldable pub c1 : List ℕ
c1 = 0x51 ∷ 0x7c ∷ 0xc1 ∷ 0xb7 ∷ 0x27 ∷ 0x22 ∷ 0x0a ∷ 0x94 ∷ 0xfe ∷ 0x13 ∷ 0xab ∷ 0xe8 ∷ 0xfa ∷ 0x9a ∷ 0x6e ∷ 0xe0 ∷ []

unfoldable pub c2 : List ℕ
c2 = 0x6d ∷ 0xb1 ∷ 0x4a ∷ 0xcc ∷ 0x9e ∷ 0x21 ∷ 0xc8 ∷ 0x20 ∷ 0xff ∷ 0x28 ∷ 0xb1 ∷ 0xd5 ∷ 0xef ∷ 0x5d ∷ 0xe2 ∷ 0xb0 ∷ []

unfoldable pub c3 : List ℕ
c3 = 0xdb ∷ 0x92 ∷ 0x37 ∷ 0x1d ∷ 0x21 ∷ 0x26 ∷ 0xe9 ∷ 0x70 ∷ 0x03 ∷ 0x24 ∷ 0x97 ∷ 0x75 ∷ 0x04 ∷ 0xe8 ∷ 0xc9 ∷ 0x0e ∷ []

-- CK1, CK2 and CK3 for a key of n bytes, the last row for 32
unfoldable pub constants_for : ℕ → List (List ℕ)
constants_for n =
    cond (eqb n 16) (c1 ∷ c2 ∷ c3 ∷ [])
    (cond (eqb n 24) (c2 ∷ c3 ∷ c1 ∷ []) (c3 ∷ c1 ∷ c2 ∷ []))

-- the rounds for a key of n bytes; none where a key has no such length
unfoldable pub rounds_for : ℕ → ℕ
rounds_for n = cond (eqb n 16) 12 (cond (eqb n 24) 14 (cond (eqb n 32) 16 0))

-- how many round keys they use: one for each round, and one more in the last
unfoldable pub keys_for : ℕ → ℕ
keys_for n = cond (good_key n) (rounds_for n + 1) 0

-- W0 to W3 from KL, KR and the three constants, over any box family f
unfoldable pub words_by : (ℕ → ℕ → ℕ) → List ℕ → List ℕ → List (List ℕ) → List (List ℕ)
words_by f kl kr ck =
    let w0 : List ℕ = kl in
    let w1 : List ℕ = xor_block (odd_round f (get_or ck 0 []) w0) kr in
    let w2 : List ℕ = xor_block (even_round f (get_or ck 1 []) w1) w0 in
    let w3 : List ℕ = xor_block (odd_round f (get_or ck 2 []) w2) w1 in
    w0 ∷ w1 ∷ w2 ∷ w3 ∷ []

-- W0 to W3 of a key: KL is its first sixteen bytes, KR the rest, filled with zero bytes on the right. A key of another length than 16, 24
-- or 32 bytes has no words in the RFC; here it has those of its first 32 bytes, by the constants of that length
unfoldable pub words_of : List ℕ → List (List ℕ)
words_of key = words_by box (block_of key) (block_of (drop 16 key)) (constants_for (length key))

-- four round keys, made of W0 to W3 and a rotation r
unfoldable pub four : (List ℕ → List ℕ) → List (List ℕ) → List (List ℕ)
four r w =
    let w0 : List ℕ = get_or w 0 [] in
    let w1 : List ℕ = get_or w 1 [] in
    let w2 : List ℕ = get_or w 2 [] in
    let w3 : List ℕ = get_or w 3 [] in
    xor_block w0 (r w1) ∷ xor_block w1 (r w2) ∷ xor_block w2 (r w3) ∷ xor_block (r w0) w3 ∷ []

-- ek1 to ek17 from W0 to W3: four fours, and the last
unfoldable pub encryption_keys : List (List ℕ) → List (List ℕ)
encryption_keys w =
    four (λ x. x >>> 19) w
    ++ four (λ x. x >>> 31) w
    ++ four (λ x. x <<< 61) w
    ++ four (λ x. x <<< 31) w
    ++ (xor_block (get_or w 0 []) (get_or w 1 [] <<< 19) ∷ [])

-- the key bytes of a schedule that uses the first n keys of a rule: these in a row, and zero bytes in place of the others
unfoldable pub key_bytes : (ℕ → List ℕ) → ℕ → List ℕ
key_bytes key n = row key n ++ replicate (272 - 16 * n) 0

-- the schedule for a key of n bytes whose words are w
unfoldable pub schedule_for : ℕ → List (List ℕ) → Schedule
schedule_for n w = record { rounds = rounds_for n; keys = key_bytes (λ (i : ℕ). get_or (encryption_keys w) i []) (keys_for n) }

-- the schedule of a key (01's key preparation)
unfoldable pub schedule_of : List ℕ → Schedule
schedule_of key = schedule_for (length key) (words_of key)

-- the contract of expanding the words w of a key of n bytes: 01's number of the result, and the schedule in it
pub record Expands (n : ℕ) (w : List (List ℕ)) (r : Result GoodSchedule Refusal) : Type 0 where
  pub number : number_in r ≡ first_of (key_cases n)
  pub schedule : schedule_in r ≡ schedule_for n w

-- the contract of key preparation
pub record Prepares (key : List ℕ) (r : Result GoodSchedule Refusal) : Type 0 where
  pub number : number_in r ≡ first_of (key_cases (length key))
  pub schedule : schedule_in r ≡ schedule_of key
