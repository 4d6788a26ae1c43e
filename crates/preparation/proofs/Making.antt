-- The words of a key as the code makes them, over the tables of ARIA's boxes.
-- Assumes nothing.
use mathlib.Core.Path.{◌≡◌, ap, ap₂, ◌∙◌}
use mathlib.Core.List.{List}
use Prim.Native.Nat.{ℕ}
use lib.ListN.{length, drop}
use Rattle.blocks.specs.Blocks.{block_of}
use Rattle.boxes.specs.Boxes.{boxes, box_by, box}
use Rattle.expansion.specs.KeySchedule.{constants_for, words_by, words_of}

-- the words of a key, over tables that are ARIA's boxes
pub words_of_lem : (key : List ℕ) {t : List (List ℕ)} {kl kr : List ℕ} {ck w : List (List ℕ)}
    → t ≡ boxes → kl ≡ block_of key → kr ≡ block_of (drop 16 key) → ck ≡ constants_for (length key)
    → w ≡ words_by (box_by t) kl kr ck → w ≡ words_of key
unfolding words_of box
words_of_lem key {kl = kl} {kr = kr} {ck = ck} t l r k e =
    e
    ∙ ap (λ (x : List (List ℕ)). words_by (box_by x) kl kr ck) t
    ∙ ap₂ (λ (x y : List ℕ). words_by (box_by boxes) x y ck) l r
    ∙ ap (words_by (box_by boxes) (block_of key) (block_of (drop 16 key))) k
