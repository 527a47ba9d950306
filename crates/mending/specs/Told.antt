-- What was salvaged as it is told at the C boundary.
use Rattle.std.specs.Prelude.{cond, Result, Ok, Err}
use Rattle.record.specs.Told.{number_of}
use Rattle.record.specs.declared.grounds.Refused.{Refused}
use Rattle.mending.specs.declared.Kept.{Kept}
use Rattle.mending.specs.declared.SalvageAnswer.{SalvageAnswer}

-- the two counts, what is left over, and 1 for a value outside its range that was met, else 0; or the refusal and noughts
abbrev pub salvage_told : Result Kept Refused → SalvageAnswer
salvage_told (Ok s) = record { number = 0; place = 0; old_count = s.old_count; new_count = s.new_count; left_over = s.left_over; met = cond s.met 1 0 }
salvage_told (Err e) = record { number = number_of e.why; place = e.place; old_count = 0; new_count = 0; left_over = 0; met = 0 }
