-- The papers' numbers of the refusals (01, Reasons for sending work back, and 02): what a call that may refuse answers, as a number and as
-- an `Answer`. Contracts go through these and name no refusal.
-- Assumes nothing.
use Rattle.std.specs.Prelude.{ℕ, Result, Ok, Err}
use Rattle.refusals.specs.Answers.{Answer, refused, gives}
use Rattle.refusals.specs.declared.Refusal.{Refusal}
use Rattle.refusals.specs.declared.Refusal.TheVariants.{
  KeyLength,
  Direction,
  RoundCount,
  RunLength,
  FileTooShort,
  FileTooLong,
  UnknownLayout,
  OtherKeySize,
  JobCount,
  StatedLength,
  NoRoom,
  KeyCheck,
  NotDigits,
  NotAscending,
  BodyStart,
  BodyEnd,
  BytesLeft,
  NoJobNumber,
  UnknownJob,
  BufferTooShort,
  SheetLength,
  SheetKeyLength,
  TagLength,
  OtherLayout,
  TagDiffers,
  RangeEnd,
  ListLength,
}

-- the papers' number of a refusal
abbrev pub number : Refusal → ℕ
number KeyLength = 1
number Direction = 2
number RoundCount = 3
number RunLength = 4
number FileTooShort = 5
number FileTooLong = 6
number UnknownLayout = 7
number OtherKeySize = 8
number JobCount = 9
number StatedLength = 10
number NoRoom = 11
number KeyCheck = 12
number NotDigits = 13
number NotAscending = 14
number BodyStart = 15
number BodyEnd = 16
number BytesLeft = 17
number NoJobNumber = 18
number UnknownJob = 19
number BufferTooShort = 20
number SheetLength = 21
number SheetKeyLength = 22
number TagLength = 23
number OtherLayout = 24
number TagDiffers = 25
number RangeEnd = 26
number ListLength = 27

-- the number that a result is: 0, or the refusal's
abbrev pub number_in : {A : Type 0} → Result A Refusal → ℕ
number_in (Ok v) = 0
number_in (Err e) = number e

-- the answer that a result with a number in it is
abbrev pub answer_of : Result ℕ Refusal → Answer
answer_of (Ok n) = gives n
answer_of (Err e) = refused (number e)
