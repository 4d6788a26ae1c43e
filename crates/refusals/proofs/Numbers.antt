-- Laws of the papers' numbers of refusals: none is 0, which stands for no refusal; so a result with the number 0 is no refusal, and after
-- one a lent run is as it was.
-- Assumes nothing.
use Rattle.std.proofs.Common.{◌≡◌, ℕ, List, refl, sym, arith}
use Rattle.std.specs.Prelude.{◌<◌}
use Rattle.refusals.specs.Answers.{refused, answer, unless_refused}
use Rattle.refusals.specs.declared.Refusal.{Refusal}
use Rattle.refusals.specs.declared.Refusal.TheVariants.{
  KeyLength,
  Direction,
  RoundCount,
  RunLength,
  FileTooShort,
  FileTooLong,
  UnknownLayout,
  OtherKeySize,
  JobCount,
  StatedLength,
  NoRoom,
  KeyCheck,
  NotDigits,
  NotAscending,
  BodyStart,
  BodyEnd,
  BytesLeft,
  NoJobNumber,
  UnknownJob,
  BufferTooShort,
  SheetLength,
  SheetKeyLength,
  TagLength,
  OtherLayout,
  TagDiffers,
  RangeEnd,
  ListLength,
}
use Rattle.refusals.specs.Numbers.{number}
use Rattle.refusals.proofs.Answers.{answer_refused}

pub number_above : (e : Refusal) → 0 < number e
number_above KeyLength = omega arith
number_above Direction = omega arith
number_above RoundCount = omega arith
number_above RunLength = omega arith
number_above FileTooShort = omega arith
number_above FileTooLong = omega arith
number_above UnknownLayout = omega arith
number_above OtherKeySize = omega arith
number_above JobCount = omega arith
number_above StatedLength = omega arith
number_above NoRoom = omega arith
number_above KeyCheck = omega arith
number_above NotDigits = omega arith
number_above NotAscending = omega arith
number_above BodyStart = omega arith
number_above BodyEnd = omega arith
number_above BytesLeft = omega arith
number_above NoJobNumber = omega arith
number_above UnknownJob = omega arith
number_above BufferTooShort = omega arith
number_above SheetLength = omega arith
number_above SheetKeyLength = omega arith
number_above TagLength = omega arith
number_above OtherLayout = omega arith
number_above TagDiffers = omega arith
number_above RangeEnd = omega arith
number_above ListLength = omega arith

pub number_some : (e : Refusal) → number e ≡ 0 → ⊥
number_some e q = let l : 0 < number e = number_above e in omega arith

-- a refused call that works in place leaves what it was lent
pub refused_leaves : (e : Refusal) (xs ys : List ℕ) → unless_refused (number e) xs ys ≡ ys
refused_leaves KeyLength xs ys = refl
refused_leaves Direction xs ys = refl
refused_leaves RoundCount xs ys = refl
refused_leaves RunLength xs ys = refl
refused_leaves FileTooShort xs ys = refl
refused_leaves FileTooLong xs ys = refl
refused_leaves UnknownLayout xs ys = refl
refused_leaves OtherKeySize xs ys = refl
refused_leaves JobCount xs ys = refl
refused_leaves StatedLength xs ys = refl
refused_leaves NoRoom xs ys = refl
refused_leaves KeyCheck xs ys = refl
refused_leaves NotDigits xs ys = refl
refused_leaves NotAscending xs ys = refl
refused_leaves BodyStart xs ys = refl
refused_leaves BodyEnd xs ys = refl
refused_leaves BytesLeft xs ys = refl
refused_leaves NoJobNumber xs ys = refl
refused_leaves UnknownJob xs ys = refl
refused_leaves BufferTooShort xs ys = refl
refused_leaves SheetLength xs ys = refl
refused_leaves SheetKeyLength xs ys = refl
refused_leaves TagLength xs ys = refl
refused_leaves OtherLayout xs ys = refl
refused_leaves TagDiffers xs ys = refl
refused_leaves RangeEnd xs ys = refl
refused_leaves ListLength xs ys = refl

-- where the cases come to a refusal's number, that is the answer
pub refused_is : (e : Refusal) (m v : ℕ) → number e ≡ m → refused (number e) ≡ answer m v
refused_is e m v q = sym (rw (sym q) (answer_refused (number e) v (number_some e)))
