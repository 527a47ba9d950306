-- What was read of a file as it is told at the C boundary.
use Rattle.std.specs.Prelude.{Result, Ok, Err, pos}
use Rattle.record.specs.Told.{number_of}
use Rattle.record.specs.declared.grounds.Refused.{Refused}
use Rattle.phr.specs.Kinds.{number_of_kind}
use Rattle.phr.specs.declared.Held.{Held}
use Rattle.phr.specs.declared.Contents.{Contents}
use Rattle.phr.specs.declared.ReadAnswer.{ReadAnswer}
use Rattle.phr.specs.declared.RecordAnswer.{RecordAnswer}

-- kind and count, or the refusal and noughts
abbrev pub read_told : Result Held Refused → ReadAnswer
read_told (Ok h) = record { number = 0; place = 0; kind = number_of_kind h.kind; count = h.count }
read_told (Err e) = record { number = number_of e.why; place = e.place; kind = 0; count = 0 }

-- version, kind, start and count, or the refusal and noughts
abbrev pub record_told : Result Contents Refused → RecordAnswer
record_told (Ok h) = record { number = 0; place = 0; version = h.version; kind = number_of_kind h.kind; start = h.start; count = h.count }
record_told (Err e) = record { number = number_of e.why; place = e.place; version = 0; kind = 0; start = pos 0; count = 0 }
