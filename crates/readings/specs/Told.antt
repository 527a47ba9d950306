-- What a reading is refused for, and the sums of readings, as they are told.
use Rattle.std.specs.Prelude.{ℕ, Some, Result, Ok, Err}
use Rattle.record.specs.Told.{number_of}
use Rattle.record.specs.declared.grounds.Refused.{Refused}
use Rattle.record.specs.declared.grounds.Ground.{Ground}
use Rattle.sums.specs.Answers.{no_part}
use Rattle.sums.specs.Told.{part_told}
use Rattle.readings.specs.declared.Sums.{Sums}
use Rattle.readings.specs.declared.FloatSums.{FloatSums}

-- the number of a ground, or nought
abbrev pub number_told : {A : Type 0} → Result A Ground → ℕ
number_told (Ok _) = 0
number_told (Err g) = number_of g

-- the sums, with 1 for the modified one where it is not due, or the refusal and noughts
abbrev pub sums_told : Result Sums Refused → FloatSums
sums_told (Ok s) = record { number = 0; place = 0; allan = part_told (Some s.allan); modified = part_told s.modified; changed = s.changed }
sums_told (Err e) = record { number = number_of e.why; place = e.place; allan = no_part; modified = no_part; changed = 0 }
