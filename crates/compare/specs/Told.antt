-- Which record is the quieter as it is told at the C boundary.
use Rattle.std.specs.Prelude.{ℕ, Result, Ok, Err}
use Rattle.record.specs.Told.{number_of}
use Rattle.record.specs.declared.grounds.Refused.{Refused}
use Rattle.compare.specs.declared.Choice.{Choice}
use Rattle.compare.specs.declared.Choice.TheVariants.{First, Second}
use Rattle.compare.specs.declared.QuieterAnswer.{QuieterAnswer}

-- 1 for the first record, 2 for the second
abbrev pub which_of : Choice → ℕ
which_of First = 1
which_of Second = 2

-- that, or the refusal and nought
abbrev pub which_told : Result Choice Refused → QuieterAnswer
which_told (Ok choice) = record { number = 0; place = 0; which = which_of choice }
which_told (Err e) = record { number = number_of e.why; place = e.place; which = 0 }
