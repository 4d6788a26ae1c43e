-- The preview beside dropping (02, h): "It must equal dropping into another buffer, long enough, and reading the new archive's plate and
-- contents, and it gives every refusal that dropping gives, except that 20 measures the contents only." As statements on any two calls that
-- meet the contracts of dropping and of its preview, each with a buffer of its own. The theorems are `preview_is_drop`, `preview_accepts`,
-- `preview_refuses`, `preview_all` and `preview_bounds` of proofs/Previews.
-- Assumes nothing.
use Rattle.std.specs.Prelude.{◌≡◌, true, List, ℕ, ◌+◌, ◌*◌, ◌%◌, ◌<◌, ◌≤◌, length, take, drop, Result}
use Rattle.std.specs.Borrow.{Bor}
use Rattle.refusals.specs.Answers.{Answer, refused, gives}
use Rattle.refusals.specs.declared.Refusal.{Refusal}
use Rattle.refusals.specs.Numbers.{number_in}
use Rattle.header.specs.Fields.{layout_of, tag_size, count_of, length_of, directory_of}
use Rattle.directory.specs.Entries.{entry_at, number_of}
use Rattle.archive.specs.Check.{check_of, GivesDirectory}
use Rattle.joblist.specs.List.{numbers, listed, is_listed}
use Rattle.dropping.specs.Drop.{Drops}
use Rattle.dropping.specs.Preview.{count_in, length_in, Previews}
use Rattle.dropping.specs.declared.Previewed.{Previewed}
use Rattle.dropped_jobs.specs.Answers.{Borne}

-- a new archive of n bytes is as the preview r said, which left `seen` in a buffer that held `held`: checking it under the same keys gives
-- the count; the whole length that it states is the length, and is n; any call that meets the contract of handing back the directory hands
-- back the bytes at the front of the buffer, sixteen a job; and the rest of the buffer is unaltered
pub record Foreseen (key tag_key held new : List ℕ) (n : ℕ) (r : Result Previewed Refusal) (seen : List ℕ) : Type 0 where
  pub count : check_of key tag_key new ≡ gives (count_in r)
  pub stated : length_of new ≡ length_in r
  pub size : length_in r ≡ n
  pub contents : (file directory : Bor (List ℕ)) → file.now ≡ new → GivesDirectory key tag_key file directory
      → directory.now ≡ take (16 * count_in r) seen
  pub rest : drop (16 * count_in r) seen ≡ drop (16 * count_in r) held

-- if dropping gives n and leaves `after`, and the preview of the same list is no refusal, the first n bytes of `after` are as it said
abbrev pub PreviewIsDrop : Type 0
PreviewIsDrop = (key tag_key file list before held : List ℕ) (n : ℕ) (after : List ℕ) (r : Result Previewed Refusal) (seen : List ℕ)
    → Drops key tag_key file list before (gives n) after → Previews key tag_key file list held r seen → number_in r ≡ 0
    → Foreseen key tag_key held (take n after) n r seen

-- where the preview is no refusal, dropping gives its length in any buffer long enough, and 20 in any other; where dropping gives an
-- archive, the preview is no refusal in any buffer with sixteen bytes for each of its jobs, and 20 in any other
pub record AcceptsAlike (before held : List ℕ) (a : Answer) (after : List ℕ) (r : Result Previewed Refusal) : Type 0 where
  pub long : number_in r ≡ 0 → length_in r ≤ length before → a ≡ gives (length_in r)
  pub short : number_in r ≡ 0 → length before < length_in r → a ≡ refused 20
  pub wide : (n : ℕ) → a ≡ gives n → 16 * count_of (take n after) ≤ length held → number_in r ≡ 0
  pub narrow : (n : ℕ) → a ≡ gives n → length held < 16 * count_of (take n after) → number_in r ≡ 20

abbrev pub PreviewAccepts : Type 0
PreviewAccepts = (key tag_key file list before held : List ℕ) (a : Answer) (after : List ℕ) (r : Result Previewed Refusal) (seen : List ℕ)
    → Drops key tag_key file list before a after → Previews key tag_key file list held r seen → AcceptsAlike before held a after r

-- every refusal but 20 is the same of both, whatever the buffers; and beside a refusal the preview answers 0 and 0 and alters no byte
pub record RefusesAlike (held : List ℕ) (a : Answer) (r : Result Previewed Refusal) (seen : List ℕ) : Type 0 where
  pub forth : (n : ℕ) → (n ≡ 20 → ⊥) → a ≡ refused n → number_in r ≡ n
  pub back : (n : ℕ) → (n ≡ 0 → ⊥) → (n ≡ 20 → ⊥) → number_in r ≡ n → a ≡ refused n
  pub unaltered : (number_in r ≡ 0 → ⊥) → (count_in r ≡ 0) × (length_in r ≡ 0) × (seen ≡ held)

abbrev pub PreviewRefuses : Type 0
PreviewRefuses = (key tag_key file list before held : List ℕ) (a : Answer) (after : List ℕ) (r : Result Previewed Refusal) (seen : List ℕ)
    → Drops key tag_key file list before a after → Previews key tag_key file list held r seen → RefusesAlike held a r seen

-- a list of the numbers of all entries and of no others leaves no job: its preview is never 20, in a buffer of 0 bytes either, and alters
-- no byte
abbrev pub PreviewAll : Type 0
PreviewAll = (key tag_key file list held : List ℕ) (count : ℕ) (r : Result Previewed Refusal) (seen : List ℕ)
    → check_of key tag_key file ≡ gives count
    → length list % 8 ≡ 0 → ((k : ℕ) → k < numbers list → Borne file (listed list k))
    → ((i : ℕ) → i < count_of file → is_listed list (number_of (entry_at (directory_of file) i)) ≡ true)
    → Previews key tag_key file list held r seen
    → (number_in r ≡ 0) × (count_in r ≡ 0) × (length_in r ≡ 20 + tag_size (layout_of file)) × (seen ≡ held)

-- whatever is previewed: at most 64 jobs, in an archive of at most 65,536 bytes; and a buffer of 1,024 bytes has room for every directory
abbrev pub PreviewBounds : Type 0
PreviewBounds = (key tag_key file list held : List ℕ) (r : Result Previewed Refusal) (seen : List ℕ)
    → Previews key tag_key file list held r seen
    → (count_in r ≤ 64) × (length_in r ≤ 65536) × (1024 ≤ length held → number_in r ≡ 20 → ⊥)
