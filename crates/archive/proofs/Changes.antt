-- No one byte of an accepted archive with a tag can be changed: one under the tag would change the tag, and the tag is one of these bytes.
-- Assumes nothing.
use mathlib.Core.Path.{◌≡◌, refl, sym, ap, ◌∙◌}
use mathlib.Core.Bool.{Bool, true, false}
use mathlib.Core.List.{List, ◌++◌}
use Prim.Native.Nat.{ℕ, suc, ◌*◌, ◌/◌, ◌≤◌, ◌<◌}
use native.Mathlib.Omega.{arith}
use borrow.Author.Tests.{ltb-true, ltb-false}
use lib.Dec.{ltb}
use lib.ListN.{length, get_or, take, drop, set, length-set}
use lib.Seq.{take-set-le, take-set-lt, drop-set-lt, get_or-set_same}
use Rattle.refusals.specs.Cases.{first_of}
use Rattle.refusals.specs.Answers.{gives}
use Rattle.refusals.proofs.Answers.{answer_gives}
use Rattle.expansion.specs.KeySchedule.{schedule_of}
use Rattle.cmac.specs.Changes.{SameOutside}
use Rattle.cmac.proofs.Changes.{one_block_changed}
use Rattle.header.specs.Fields.{count_of, bodies_end, tag_of, tagged_of}
use Rattle.jobnumber.specs.Number.{order_of}
use Rattle.admission.specs.Check.{check_cases, tag_bytes}
use Rattle.admission.proofs.Tags.{tag_under_lem}
use Rattle.admission.proofs.Accepted.{accepted_tag, accepted_tag_rounds}
use Rattle.archive.specs.Check.{check_of}
use Rattle.archive.specs.Sound.{SoundArchive}
use Rattle.archive.specs.Changes.{OneByteChanged}
use Rattle.archive.proofs.Sound.{sound_archives}

-- a byte that is set changes one block
set_outside : (m : List ℕ) (i b : ℕ) → SameOutside (i / 16) m (set m i b)
set_outside m i b =
    record {
      size = sym (length-set m i b);
      before = sym (take-set-le (16 * (i / 16)) m i b (omega arith));
      behind = sym (drop-set-lt (16 * suc (i / 16)) m i b (omega arith));
    }

-- the bytes under the tag tell the archive
same_archive : (tag_key file other : List ℕ) (n m : ℕ) → SoundArchive tag_key file n → SoundArchive tag_key other m
    → tagged_of file ≡ tagged_of other → file ≡ other
same_archive tag_key file other n m s t e = sym s.tagged ∙ ap (λ (l : List ℕ). l ++ tag_bytes tag_key l) e ∙ t.tagged

module _ (key tag_key file : List ℕ) (n m i b : ℕ) (some : length tag_key ≡ 0 → ⊥) (a : check_of key tag_key file ≡ gives n)
    (c : check_of key tag_key (set file i b) ≡ gives m) where
  abbrev other : List ℕ
  other = set file i b

  accepted : first_of (check_cases key tag_key file) ≡ 0
  accepted = (answer_gives (first_of (check_cases key tag_key file)) (count_of file) n a).0

  accepted_other : first_of (check_cases key tag_key other) ≡ 0
  accepted_other = (answer_gives (first_of (check_cases key tag_key other)) (count_of other) m c).0

  sound : SoundArchive tag_key file n
  sound = sound_archives key tag_key file n a

  sound_other : SoundArchive tag_key other m
  sound_other = sound_archives key tag_key other m c

  -- the tag lies at the same place
  same_end : bodies_end other ≡ bodies_end file
  same_end = omega (arith, sound.placed, sound_other.placed, length-set file i b)

  -- a byte under the tag: the tags are the same
  under : i < bodies_end file → tagged_of file ≡ tagged_of other
  unfolding tag_of tagged_of
  under h =
      let front : List ℕ = tagged_of file in
      let tagged : tagged_of other ≡ set front i b =
      ap (λ (k : ℕ). take k other) same_end ∙ take-set-lt (bodies_end file) file i b h
      in
      let tag : tag_of file ≡ tag_of other = sym (ap (λ (k : ℕ). drop k other) same_end ∙ drop-set-lt (bodies_end file) file i b h) in
      let tags : tag_bytes tag_key front ≡ tag_bytes tag_key (set front i b) =
      sym (accepted_tag order_of key tag_key file accepted)
      ∙ tag
      ∙ accepted_tag order_of key tag_key other accepted_other
      ∙ ap (tag_bytes tag_key) tagged
      in
      one_block_changed (schedule_of tag_key) (accepted_tag_rounds order_of key tag_key file accepted some) (i / 16) front (set front i b)
      (set_outside front i b)
      (sym (tag_under_lem tag_key front some) ∙ tags ∙ tag_under_lem tag_key (set front i b) some)
      ∙ sym tagged

  -- a byte of the tag: it is not under it
  within : bodies_end file ≤ i → tagged_of file ≡ tagged_of other
  unfolding tagged_of
  within h = sym (ap (λ (k : ℕ). take k other) same_end ∙ take-set-le (bodies_end file) file i b h)

  same_file : file ≡ other
  same_file = same_archive tag_key file other n m sound sound_other (by_place (ltb i (bodies_end file)) refl)
    where
      by_place : (t : Bool) → ltb i (bodies_end file) ≡ t → tagged_of file ≡ tagged_of other
      by_place true p = under (ltb-true i (bodies_end file) p)
      by_place false p = within (ltb-false i (bodies_end file) p)

pub one_byte_changed : OneByteChanged
one_byte_changed key tag_key file n m i b some a l c =
    sym (get_or-set_same file i b 0 l) ∙ ap (λ (x : List ℕ). get_or x i 0) (sym (same_file key tag_key file n m i b some a c))
