-- What reading leaves in a lent buffer, whatever the operating system hands over, and what it answers.
-- Assumes nothing.
use Rattle.std.specs.Prelude.{◌≡◌, Bool, true, false, List, ℕ, ◌≤◌, ◌<◌, length, take, drop, replicate, Result, Ok, Err}
use Rattle.inputs.specs.declared.ReadFailed.{ReadFailed}
use Rattle.inputs.specs.declared.Counted.{Counted}

-- n bytes stand at the front of a buffer. The second part follows from the first; it is what lending the front of the buffer asks
abbrev pub IsPrefixLen : ℕ → List ℕ → Type 0
IsPrefixLen n buf = (n ≤ length buf) × (n ≡ length (take n buf))

-- n bytes at the front of a buffer that held `before` may have been read: it holds `after`, as long as it was and unaltered past these n.
-- Which bytes they are, and how many up to the buffer's length, is the operating system's choice. `front` follows from `within`; it is
-- what lending the front of the buffer asks
pub record Filled (before : List ℕ) (n : ℕ) (after : List ℕ) : Type 0 where
  pub within : n ≤ length after
  pub front : n ≡ length (take n after)
  pub same : length after ≡ length before
  pub rest : drop n after ≡ drop n before

-- the bytes of a key file: what stands at the front of a buffer of 33 zero bytes that the file was read into
pub record KeyRead (bytes : List ℕ) : Type 0 where
  pub n : ℕ
  pub buffer : List ℕ
  pub filled : Filled (replicate 33 0) n buffer
  pub taken : bytes ≡ take n buffer

-- where a read failed, the buffer is not full: an input that fills it was read so far without an error
abbrev pub FailsShort : Bool → ℕ → List ℕ → Type 0
FailsShort failed n buf = failed ≡ true → n < length buf

-- how many bytes a file has beyond the buffer, by the remainder modulo 12: none where it did not fill it. Else it is the operating
-- system's choice
pub record Beyond (n beyond : ℕ) (buf : List ℕ) : Type 0 where
  pub small : beyond < 12
  pub none : n < length buf → beyond ≡ 0

-- ---- an answer

-- how many bytes were read, also where a read failed
abbrev pub length_in : Result ℕ ReadFailed → ℕ
length_in (Ok n) = n
length_in (Err e) = e.length

-- whether a read failed
abbrev pub failed_in : {A : Type 0} → Result A ReadFailed → Bool
failed_in (Ok n) = false
failed_in (Err e) = true

-- how many bytes one read put at the front of a buffer: none where it failed
abbrev pub read_in : {E : Type 0} → Result ℕ E → ℕ
read_in (Ok n) = n
read_in (Err e) = 0

-- how many first bytes of a file were read, also where a read failed
abbrev pub first_in : Result Counted ReadFailed → ℕ
first_in (Ok c) = c.length
first_in (Err e) = e.length

-- how many more it has; of one that could not be read nothing is told
abbrev pub beyond_in : Result Counted ReadFailed → ℕ
beyond_in (Ok c) = c.beyond
beyond_in (Err e) = 0
