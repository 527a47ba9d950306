-- A meter and its sums as they are told at the C boundary.
use Rattle.std.specs.Prelude.{Result, Ok, Err}
use Rattle.record.specs.Told.{number_of}
use Rattle.record.specs.declared.grounds.Refused.{Refused}
use Rattle.sums.specs.Answers.{no_part}
use Rattle.sums.specs.Told.{part_told}
use Rattle.meter.specs.declared.Meter.{Meter}
use Rattle.meter.specs.declared.MeterAnswer.{MeterAnswer}
use Rattle.meter.specs.declared.Sums.{Sums}
use Rattle.meter.specs.declared.Report.{Report}

-- the new meter, or the refusal and the meter as it came
abbrev pub meter_told : Meter → Result Meter Refused → MeterAnswer
meter_told old (Ok new) = record { number = 0; place = 0; meter = new }
meter_told old (Err e) = record { number = number_of e.why; place = e.place; meter = old }

-- both sums, each with its own number, or the refusal and noughts
abbrev pub report_told : Result Sums Refused → Report
report_told (Ok s) = record { number = 0; place = 0; allan = part_told s.allan; modified = part_told s.modified }
report_told (Err e) = record { number = number_of e.why; place = e.place; allan = no_part; modified = no_part }
