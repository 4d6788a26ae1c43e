-- The vectors of RFC 5794, appendix A, of the definitions that the contracts cite: the block through the key schedule and the rounds, for
-- each key length, forward under the key's schedule and back under its decryption schedule.
-- Assumes nothing.
use Rattle.std.specs.Prelude.{Bool, List, [], ◌∷◌, ◌++◌, ℕ, ◌*◌}
use Rattle.octets.specs.Equality.{same_bytes}
use Rattle.octets.specs.Tables.{values}
use Rattle.circuit.specs.Run.{encrypted}
use Rattle.expansion.specs.KeySchedule.{schedule_of}
use Rattle.expansion.specs.Decryption.{decryption_of}

-- the keys of A.1 to A.3, the first n bytes of 00 01 02 ..
unfoldable pub rfc_key : ℕ → List ℕ
rfc_key n = values (λ (i : ℕ). i) n

-- the plain block, 00 11 22 .. ff
unfoldable pub rfc_plain : List ℕ
rfc_plain = values (λ (i : ℕ). i * 0x11) 16

-- the block that it becomes, under keys of 16, 24 and 32 bytes
unfoldable pub rfc_sealed16 : List ℕ
rfc_sealed16 = 0xd7 ∷ 0x18 ∷ 0xfb ∷ 0xd6 ∷ 0xab ∷ 0x64 ∷ 0x4c ∷ 0x73 ∷ 0x9d ∷ 0xa9 ∷ 0x5f ∷ 0x3b ∷ 0xe6 ∷ 0x45 ∷ 0x17 ∷ 0x78 ∷ []

unfoldable pub rfc_sealed24 : List ℕ
rfc_sealed24 = 0x26 ∷ 0x44 ∷ 0x9c ∷ 0x18 ∷ 0x05 ∷ 0xdb ∷ 0xe7 ∷ 0xaa ∷ 0x25 ∷ 0xa4 ∷ 0x68 ∷ 0xce ∷ 0x26 ∷ 0x3a ∷ 0x9e ∷ 0x79 ∷ []

unfoldable pub rfc_sealed32 : List ℕ
rfc_sealed32 = 0xf9 ∷ 0x2b ∷ 0xd7 ∷ 0xc7 ∷ 0x9f ∷ 0xb7 ∷ 0x2e ∷ 0x2f ∷ 0x2b ∷ 0x8f ∷ 0x80 ∷ 0xc1 ∷ 0x97 ∷ 0x2d ∷ 0x24 ∷ 0xfc ∷ []

-- forward and back under the key of n bytes, whose block becomes `sealed`
unfoldable pub rfc_vector : ℕ → List ℕ → List Bool
rfc_vector n sealed =
    same_bytes (encrypted (schedule_of (rfc_key n)) rfc_plain) sealed
    ∷ same_bytes (encrypted (decryption_of (schedule_of (rfc_key n))) sealed) rfc_plain
    ∷ []

-- all of them
unfoldable pub rfc_vectors : List Bool
rfc_vectors = rfc_vector 16 rfc_sealed16 ++ (rfc_vector 24 rfc_sealed24 ++ rfc_vector 32 rfc_sealed32)
