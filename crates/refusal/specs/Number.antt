-- The number that document 01 gives each refusal.
use Rattle.std.specs.Prelude.{ℕ}
use Rattle.refusal.specs.declared.Refusal.{Refusal}
use Rattle.refusal.specs.declared.Refusal.TheVariants.{NotInDomain, DoesNotFit, WouldAssert, WouldPanic, EndsEarly, NotShortest, UnknownOperator, NotEarlier, LowAboveHigh, TooManySteps, LeftOver, DivisorZero, ResultTooWide, NotLogical, InputsWrong, NoRoom}

abbrev pub number_of : Refusal → ℕ
number_of NotInDomain = 1
number_of DoesNotFit = 2
number_of WouldAssert = 3
number_of WouldPanic = 4
number_of EndsEarly = 5
number_of NotShortest = 6
number_of UnknownOperator = 7
number_of NotEarlier = 8
number_of LowAboveHigh = 9
number_of TooManySteps = 10
number_of LeftOver = 11
number_of DivisorZero = 12
number_of ResultTooWide = 13
number_of NotLogical = 14
number_of InputsWrong = 15
number_of NoRoom = 16
