-- A sum as it is told at the C boundary.
use Rattle.std.specs.Prelude.{Option, Some, None, Result, Ok, Err}
use Rattle.wide.specs.Wide.{halves}
use Rattle.record.specs.Told.{number_of}
use Rattle.record.specs.declared.grounds.Refused.{Refused}
use Rattle.sums.specs.declared.Sum.{Sum}
use Rattle.sums.specs.declared.SumAnswer.{SumAnswer}
use Rattle.sums.specs.declared.Part.{Part}

-- the sum with its count, or the refusal and noughts
abbrev pub sum_told : Result Sum Refused → SumAnswer
sum_told (Ok s) = record { number = 0; place = 0; sum = s.total; count = s.count }
sum_told (Err e) = record { number = number_of e.why; place = e.place; sum = halves 0; count = 0 }

-- a sum as a part of an answer, or 1 where it is not due
abbrev pub part_told : Option Sum → Part
part_told (Some s) = record { number = 0; sum = s.total; count = s.count }
part_told None = record { number = 1; sum = halves 0; count = 0 }
