-- The text of a record as it is told at the C boundary.
use Rattle.std.specs.Prelude.{Result, Ok, Err}
use Rattle.record.specs.Told.{number_of}
use Rattle.record.specs.declared.grounds.Refused.{Refused}
use Rattle.listing.specs.declared.Totals.{Totals}
use Rattle.listing.specs.declared.Written.{Written}
use Rattle.listing.specs.declared.SheetAnswer.{SheetAnswer}

-- how many bytes of text, and the totals with the record's; or the refusal, nought, and the totals as they came
abbrev pub text_told : Totals → Result Written Refused → SheetAnswer
text_told t (Ok w) = record { number = 0; place = 0; length = w.length; totals = w.totals }
text_told t (Err e) = record { number = number_of e.why; place = e.place; length = 0; totals = t }
