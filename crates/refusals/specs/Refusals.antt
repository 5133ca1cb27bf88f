-- The number and the place of each refusal (01, 'Who caused the refusal'; 02, [1], [3], [6]). A place that is not named
-- is 0. Assumes nothing.
use Rattle.std.specs.Prelude.{ℕ}
use Rattle.group.specs.Limits.{limit}
use Rattle.refusals.specs.declared.Refusal.{Refusal}
use Rattle.refusals.specs.declared.Refusal.TheVariants.{TooManyLetters, NotLetter, BadFrame, BadEntry}
use Rattle.refusals.specs.declared.Refusal.TheVariants.{NotReduced, ShortTable, ShortBuffer, LongSpelling}
use Rattle.refusals.specs.declared.Refusal.TheVariants.{Misspelled, LargeExponents, HighIndex}
use Rattle.refusals.specs.declared.Refusal.TheVariants.{BadRegister, HolderFull, RegisterFull, NotTree}

-- The paper's number of a refusal.
abbrev pub number_of : Refusal → ℕ
number_of TooManyLetters = 1
number_of (NotLetter offset) = 2
number_of BadFrame = 3
number_of (BadEntry offset) = 4
number_of (NotReduced i) = 5
number_of ShortTable = 6
number_of ShortBuffer = 7
number_of LongSpelling = 8
number_of (Misspelled offset) = 9
number_of LargeExponents = 10
number_of HighIndex = 11
number_of BadRegister = 12
number_of HolderFull = 13
number_of RegisterFull = 14
number_of NotTree = 15

-- The paper's place: the limit, an offset from 0, or the index of a generator.
abbrev pub place_of : Refusal → ℕ
place_of TooManyLetters = limit
place_of (NotLetter offset) = offset
place_of BadFrame = 0
place_of (BadEntry offset) = offset
place_of (NotReduced i) = i.0
place_of ShortTable = 0
place_of ShortBuffer = 0
place_of LongSpelling = 0
place_of (Misspelled offset) = offset
place_of LargeExponents = 0
place_of HighIndex = 0
place_of BadRegister = 0
place_of HolderFull = 0
place_of RegisterFull = 0
place_of NotTree = 0
