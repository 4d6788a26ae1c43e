-- What a search does not depend on, and what its early end does not change (02, b): "On any contents whose job numbers are digits,
-- ascending or not, its answer is the same whatever stands after that entry. All answers on archives are unchanged." The first sentence
-- holds over any bytes, digits or not. The theorems are `early_end` and `unchanged` of proofs/EarlyEnd; archives are for crate
-- opened_jobs, specs/EarlyEnd.
-- They say what is answered. How many entries are looked at on the way is no value, so no contract can say it.
-- Assumes nothing.
use Rattle.std.specs.Prelude.{◌≡◌, true, List, [], ◌∷◌, ℕ, suc, ◌*◌, ◌<◌, eqb, take}
use Rattle.refusals.specs.Cases.{Case, when, first_of}
use Rattle.refusals.specs.Answers.{Answer, answer}
use Rattle.octets.specs.Below.{first_index}
use Rattle.directory.specs.Entries.{entries}
use Rattle.directory.specs.Check.{directory_cases}
use Rattle.directory.specs.Search.{bears, above, search_of}

-- two directories that are the same up to and including an entry above the number: a search answers the same in both, whatever stands after
abbrev pub EarlyEnd : Type 0
EarlyEnd = (c d number : List ℕ) (k : ℕ) → k < entries c → k < entries d → above c number k ≡ true
    → take (16 * suc k) c ≡ take (16 * suc k) d → search_of c number ≡ search_of d number

-- ---- the full search, which ends at no entry but one that bears the number

unfoldable pub full_index_of : List ℕ → List ℕ → ℕ
full_index_of d number = first_index (bears d number) (entries d)

unfoldable pub full_search_cases : List ℕ → List ℕ → List Case
full_search_cases d number = when (eqb (full_index_of d number) (entries d)) 19 ∷ []

abbrev pub full_search_of : List ℕ → List ℕ → Answer
full_search_of d number = answer (first_of (full_search_cases d number)) (full_index_of d number)

-- on a directory that passes its checks a search answers what the full one does
abbrev pub Unchanged : Type 0
Unchanged = (d number : List ℕ) (from limit : ℕ) → first_of (directory_cases d from limit) ≡ 0
    → search_of d number ≡ full_search_of d number
