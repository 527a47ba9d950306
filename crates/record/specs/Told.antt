-- A refusal as it is told: every ground has its number in the table of refusals.
use Rattle.std.specs.Prelude.{ℕ, Result, Ok, Err}
use Rattle.record.specs.Refusals.{none, refused}
use Rattle.record.specs.declared.Refusal.{Refusal}
use Rattle.record.specs.declared.CountAnswer.{CountAnswer}
use Rattle.record.specs.declared.grounds.Refused.{Refused}
use Rattle.record.specs.declared.grounds.Ground.{Ground}
use Rattle.record.specs.declared.grounds.Ground.TheVariants.{TooFew, TooMany, OutOfRange, NotANumber, BadFactor, NoRoom, BadMeter, NoDeviation, BadFile, BadChannel}

-- the number of a ground
abbrev pub number_of : Ground → ℕ
number_of TooFew = 1
number_of TooMany = 2
number_of OutOfRange = 3
number_of NotANumber = 4
number_of BadFactor = 5
number_of NoRoom = 6
number_of BadMeter = 7
number_of NoDeviation = 8
number_of BadFile = 9
number_of BadChannel = 11

-- the number and the place; noughts where nothing is refused
abbrev pub told : {A : Type 0} → Result A Refused → Refusal
told (Ok _) = none
told (Err e) = refused (number_of e.why) e.place

-- how many entries were written, or the refusal and nought
abbrev pub count_told : Result ℕ Refused → CountAnswer
count_told (Ok n) = record { number = 0; place = 0; count = n }
count_told (Err e) = record { number = number_of e.why; place = e.place; count = 0 }
