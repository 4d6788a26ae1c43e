-- Which entries of a file a list of job numbers names, by the search of each number (directory, specs/Search), over any bytes; and that in
-- a directory which passes its checks these are the entries whose number is in the list. The theorem is `marks_listed` of proofs/Listed.
-- Assumes nothing.
use Rattle.std.specs.Prelude.{◌≡◌, Bool, false, not, ◌&&◌, List, ℕ, ◌<◌, eqb, get_or, Result, Ok, Err}
use Rattle.refusals.specs.Cases.{first_of}
use Rattle.refusals.specs.Numbers.{number_in}
use Rattle.refusals.specs.declared.Refusal.{Refusal}
use Rattle.octets.specs.Below.{all_below}
use Rattle.header.specs.Fields.{directory_of}
use Rattle.directory.specs.Entries.{entries, entry_at, number_of}
use Rattle.directory.specs.Search.{index_of}
use Rattle.directory.specs.Sound.{Sound}
use Rattle.joblist.specs.List.{numbers, listed, is_listed, list_cases}

-- whether the search of one of the first n numbers comes to entry i
unfoldable pub named_by : List ℕ → List ℕ → ℕ → ℕ → Bool
named_by file list n i = not (all_below (λ (k : ℕ). not (eqb (index_of (directory_of file) (listed list k)) i)) n)

-- whether entry i is marked; none is where the list is refused
abbrev pub marked_in : Result (List Bool) Refusal → ℕ → Bool
marked_in (Ok named) i = get_or named i false
marked_in (Err e) i = false

-- the contract of marking: the number of the first case of the list, 0 for none; and of each of the first 64 entries, which are all that an
-- archive has, whether the list names it. Beside a refusal no entry is marked
pub record Marked (file list : List ℕ) (r : Result (List Bool) Refusal) : Type 0 where
  pub number : number_in r ≡ first_of (list_cases file list)
  pub named : (i : ℕ) → i < 64 → marked_in r i ≡ (eqb (number_in r) 0 && named_by file list (numbers list) i)

-- where a list has no case and the directory is sound, the list names the entries whose number is in it
abbrev pub MarksListed : Type 0
MarksListed = (file list : List ℕ) (from limit : ℕ) → Sound (directory_of file) from limit → first_of (list_cases file list) ≡ 0
    → (i : ℕ) → i < entries (directory_of file)
    → named_by file list (numbers list) i ≡ is_listed list (number_of (entry_at (directory_of file) i))
