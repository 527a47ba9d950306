-- The drift figure as it is told at the C boundary.
use Rattle.std.specs.Prelude.{Result, Ok, Err, pos}
use Rattle.record.specs.Told.{number_of}
use Rattle.record.specs.declared.grounds.Refused.{Refused}
use Rattle.drift.specs.declared.Drift.{Drift}
use Rattle.drift.specs.declared.DriftAnswer.{DriftAnswer}

-- P and R, or the refusal and noughts
abbrev pub drift_told : Result Drift Refused → DriftAnswer
drift_told (Ok d) = record { number = 0; place = 0; p = d.p; r = d.r }
drift_told (Err e) = record { number = number_of e.why; place = e.place; p = pos 0; r = 0 }
