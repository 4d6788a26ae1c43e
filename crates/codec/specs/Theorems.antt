-- What is built reads back, and what is accepted can be built again, byte for byte (02, a), of both layouts at once (02, d), as statements.
-- The theorems are `accepted_fine` and `rebuilt` of proofs/Rebuilt, `built_reads` of proofs/Built.
-- Assumes nothing.
use Rattle.std.specs.Prelude.{◌≡◌, List, ℕ, length}
use Rattle.refusals.specs.Cases.{first_of}
use Rattle.refusals.specs.Answers.{gives}
use Rattle.refusals.specs.Shared.{key_cases, tag_key_cases}
use Rattle.octets.specs.Numbers.{Octets}
use Rattle.header.specs.Fields.{layout_under, archive_number}
use Rattle.archive.specs.Check.{check_of}
use Rattle.codec.specs.Jobs.{Job}
use Rattle.codec.specs.Archive.{jobs_of, whole_length, archive_of, Fine}

-- of the jobs of an accepted archive an archive can be built
abbrev pub AcceptedFine : Type 0
AcceptedFine = (key tag_key file : List ℕ) (n : ℕ) → check_of key tag_key file ≡ gives n → Fine tag_key (archive_number file) (jobs_of file)

-- a file is accepted under the keys, and its archive number and jobs are these
pub record ReadsBack (key tag_key number : List ℕ) (js : List Job) (file : List ℕ) : Type 0 where
  pub accepted : check_of key tag_key file ≡ gives (length js)
  pub named : archive_number file ≡ number
  pub jobs : jobs_of file ≡ js
  pub whole : length file ≡ whole_length (layout_under tag_key) js

-- what is built under good keys reads back
abbrev pub BuiltReads : Type 0
BuiltReads = (key tag_key number : List ℕ) (js : List Job) → first_of (key_cases (length key)) ≡ 0
    → first_of (tag_key_cases (length tag_key)) ≡ 0
    → Fine tag_key number js → ReadsBack key tag_key number js (archive_of key tag_key number js)

-- an accepted file of bytes is what its own archive number and jobs make. Over lists of any numbers it is false: `bytes32` writes
-- remainders
abbrev pub Rebuilt : Type 0
Rebuilt = (key tag_key file : List ℕ) (n : ℕ) → Octets file → check_of key tag_key file ≡ gives n
    → archive_of key tag_key (archive_number file) (jobs_of file) ≡ file
