-- What the program `seal` does not hand on, and that it does not matter: of a sheet of more than 785 bytes, which has 65 lines at least,
-- it hands on so many that the length, 5 off, has the same remainder by 12; of the plain bytes 65,537 at most; of the key file 32; of the
-- tag key 33. Any call that meets the contract of sealing on what is handed on meets it on the whole. The theorems are `long_sheet`,
-- `long_input`, `long_key_file` and `long_tag_key` of proofs/Long.
-- Assumes nothing.
use Rattle.std.specs.Prelude.{List, ℕ, take}
use Rattle.refusals.specs.Answers.{Answer}
use Rattle.sheet.specs.Long.{cut_sheet}
use Rattle.sealing.specs.Seal.{Seals}

abbrev pub LongSheet : Type 0
LongSheet = (key_file tag_key sheet plain before : List ℕ) (a : Answer) (after : List ℕ)
    → Seals key_file tag_key (cut_sheet sheet) plain before a after → Seals key_file tag_key sheet plain before a after

abbrev pub LongInput : Type 0
LongInput = (key_file tag_key sheet plain before : List ℕ) (a : Answer) (after : List ℕ)
    → Seals key_file tag_key sheet (take 65537 plain) before a after → Seals key_file tag_key sheet plain before a after

abbrev pub LongKeyFile : Type 0
LongKeyFile = (key_file tag_key sheet plain before : List ℕ) (a : Answer) (after : List ℕ)
    → Seals (take 32 key_file) tag_key sheet plain before a after → Seals key_file tag_key sheet plain before a after

abbrev pub LongTagKey : Type 0
LongTagKey = (key_file tag_key sheet plain before : List ℕ) (a : Answer) (after : List ℕ)
    → Seals key_file (take 33 tag_key) sheet plain before a after → Seals key_file tag_key sheet plain before a after
