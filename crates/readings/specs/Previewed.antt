-- The preview of dropping (02, h) on the sample archives, by the definitions that its contract cites: count, whole length and directory are
-- those of the archives of Dropped; the text that `drop --preview` prints; and the refusals about the limit of 20, beside dropping's.
-- Assumes nothing.
use Rattle.std.specs.Prelude.{◌≡◌, Bool, List, [], ◌∷◌, ◌++◌, ℕ, eqb, take, drop}
use Rattle.refusals.specs.Cases.{first_of}
use Rattle.dropping.specs.Drop.{length_left, drop_of}
use Rattle.dropping.specs.Preview.{count_left, directory_left, preview_cases}
use Rattle.preview_listing.specs.Text.{preview_text}
use Rattle.readings.specs.Readings.{job24000017}
use Rattle.readings.specs.Vectors.{rfc_key}
use Rattle.readings.specs.Sample.{sample_file, refused_by}
use Rattle.readings.specs.Tagged.{tagged_file, sample_tag_key}
use Rattle.readings.specs.Dropped.{job24000018, missing_job, no_job_number, sample_less, sample_last, three_jobs, three_less}

-- what would be left of a file: so many jobs, in so many bytes, with this directory
pub record Leaves (tag_key file list : List ℕ) (count whole : ℕ) (directory : List ℕ) : Type 0 where
  pub counted : count_left file list ≡ count
  pub sized : length_left tag_key file list ≡ whole
  pub listed : directory_left file list ≡ directory

-- jobs 1, 24000017 36 5
unfoldable pub text_less : List ℕ
text_less =
    0x6a ∷ 0x6f ∷ 0x62 ∷ 0x73 ∷ 0x20 ∷ 0x31 ∷ 0x0a
    ∷ 0x32 ∷ 0x34 ∷ 0x30 ∷ 0x30 ∷ 0x30 ∷ 0x30 ∷ 0x31 ∷ 0x37 ∷ 0x20 ∷ 0x33 ∷ 0x36 ∷ 0x20 ∷ 0x35 ∷ 0x0a ∷ []

-- refused 19
unfoldable pub text_missing : List ℕ
text_missing = 0x72 ∷ 0x65 ∷ 0x66 ∷ 0x75 ∷ 0x73 ∷ 0x65 ∷ 0x64 ∷ 0x20 ∷ 0x31 ∷ 0x39 ∷ 0x0a ∷ []

pub record SamplesPreviewed : Type 0 where
  pub sample : Leaves [] sample_file job24000018 1 41 (take 16 (drop 20 sample_less))
  pub tagged : Leaves sample_tag_key tagged_file job24000018 1 57 (take 16 (drop 20 sample_less))
  pub first : Leaves [] sample_file job24000017 1 36 (take 16 (drop 20 sample_last))
  pub middle : Leaves [] three_jobs job24000018 2 60 (take 32 (drop 20 three_less))
  pub all : Leaves [] sample_file (job24000018 ++ job24000017) 0 20 []
  pub tagged_all : Leaves sample_tag_key tagged_file (job24000018 ++ job24000017) 0 36 []
  pub none : Leaves [] sample_file [] 2 57 (take 32 (drop 20 sample_file))
  pub text : preview_text (rfc_key 16) [] sample_file job24000018 ≡ text_less
  pub tagged_text : preview_text (rfc_key 16) sample_tag_key tagged_file job24000018 ≡ text_less
  pub missing : preview_text (rfc_key 16) [] sample_file missing_job ≡ text_missing

-- whether the preview of a list has a number as its refusal, 0 for none, in a buffer of so many bytes
abbrev pub foreseen_by : ℕ → List ℕ → List ℕ → List ℕ → ℕ → Bool
foreseen_by n tag_key file list room = eqb (first_of (preview_cases (rfc_key 16) tag_key file list room)) n

-- job 24000018 in a buffer for one entry, where dropping has 20, and in one that is a byte short, and so with a tag; both jobs in a buffer
-- of no bytes, where dropping has 20; no job in a buffer for both entries, and in one that is a byte short. Then the refusals that are
-- dropping's, with no buffer: a list of seven bytes, a number with `:`, a missing one, a missing one before one with `:` and the other way
-- round; a wrong tag and an empty file before a list of seven bytes
unfoldable pub preview_readings : List Bool
preview_readings =
    foreseen_by 0 [] sample_file job24000018 16
    ∷ refused_by 20 (drop_of (rfc_key 16) [] sample_file job24000018 16)
    ∷ foreseen_by 20 [] sample_file job24000018 15
    ∷ foreseen_by 0 sample_tag_key tagged_file job24000018 16
    ∷ foreseen_by 20 sample_tag_key tagged_file job24000018 15
    ∷ foreseen_by 0 [] sample_file (job24000018 ++ job24000017) 0
    ∷ refused_by 20 (drop_of (rfc_key 16) [] sample_file (job24000018 ++ job24000017) 0)
    ∷ foreseen_by 0 [] sample_file [] 32
    ∷ foreseen_by 20 [] sample_file [] 31
    ∷ foreseen_by 27 [] sample_file (take 7 job24000018) 0
    ∷ foreseen_by 18 [] sample_file no_job_number 0
    ∷ foreseen_by 19 [] sample_file missing_job 0
    ∷ foreseen_by 19 [] sample_file (missing_job ++ no_job_number) 0
    ∷ foreseen_by 18 [] sample_file (no_job_number ++ missing_job) 0
    ∷ foreseen_by 25 sample_tag_key (take 72 tagged_file ++ (0x86 ∷ [])) (take 7 job24000018) 0
    ∷ foreseen_by 5 [] [] (take 7 job24000018) 0
    ∷ []
