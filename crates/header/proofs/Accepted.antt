-- What a header without a case is known to have, and that one which has it is without a case.
-- Assumes nothing.
use mathlib.Core.Path.{◌≡◌}
use mathlib.Core.Bool.{true}
use mathlib.Core.List.{List}
use Prim.Native.Nat.{ℕ, ◌+◌, ◌*◌, ◌≤◌}
use native.Mathlib.Omega.{arith}
use borrow.Author.Tests.{ltb-false, le-ltb, eqb-true, eq-eqb, not-false}
use lib.ListN.{length, length-take, length-drop}
use Rattle.refusals.specs.Cases.{first_of}
use Rattle.refusals.proofs.Cases.{clear}
use Rattle.octets.proofs.Equality.{same_eq, eq_same}
use Rattle.header.specs.Fields.{layout_of, is_layout, tag_size, key_length_of, count_of, archive_number, key_check_of, length_of}
use Rattle.header.specs.Fields.{directory_end, directory_of}
use Rattle.header.specs.Cases.{front_cases, field_cases, header_cases}
use Rattle.header.proofs.Cases.{header_positive}

pub record HeaderGood (layout keysize : ℕ) (check file : List ℕ) : Type 0 where
  pub long : 20 ≤ length file
  pub short : length file ≤ 65536
  pub known : is_layout (layout_of file) ≡ true
  pub laid : layout_of file ≡ layout
  pub keyed : key_length_of file ≡ keysize
  pub few : count_of file ≤ 64
  pub stated : length_of file ≡ length file
  pub room : directory_end file + tag_size (layout_of file) ≤ length file
  pub checked : key_check_of file ≡ check

pub header_good : (layout keysize : ℕ) (check file : List ℕ) → first_of (header_cases layout keysize check file) ≡ 0
    → HeaderGood layout keysize check file
unfolding header_cases front_cases field_cases
header_good layout keysize check file e =
    let c = clear (header_cases layout keysize check file) (header_positive layout keysize check file) e in
    record {
      long = ltb-false _ _ (c 0);
      short = ltb-false _ _ (c 1);
      known = not-false _ (c 2);
      laid = eqb-true _ _ (not-false _ (c 3));
      keyed = eqb-true _ _ (not-false _ (c 4));
      few = ltb-false _ _ (c 5);
      stated = eqb-true _ _ (not-false _ (c 6));
      room = ltb-false _ _ (c 7);
      checked = same_eq _ _ (not-false _ (c 8));
    }

pub header_none : (layout keysize : ℕ) (check file : List ℕ) → HeaderGood layout keysize check file
    → first_of (header_cases layout keysize check file) ≡ 0
unfolding header_cases front_cases field_cases first_of
header_none layout keysize check file g =
    rw (
      le-ltb _ _ g.long,
      le-ltb _ _ g.short,
      g.known,
      eq-eqb _ _ g.laid,
      eq-eqb _ _ g.keyed,
      le-ltb _ _ g.few,
      eq-eqb _ _ g.stated,
      le-ltb _ _ g.room,
      eq_same _ _ g.checked,
    )

-- where there is room for them, the archive number has four bytes and the directory 16 a job
pub number_length : (file : List ℕ) → 20 ≤ length file → length (archive_number file) ≡ 4
unfolding archive_number
number_length file h = simp (length-take, length-drop) (omega arith)

pub directory_length : (file : List ℕ) → directory_end file ≤ length file → length (directory_of file) ≡ 16 * count_of file
unfolding directory_of
directory_length file h = simp (length-take, length-drop) (omega arith)
