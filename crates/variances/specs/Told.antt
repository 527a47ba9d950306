-- A fraction and a deviation as they are told at the C boundary.
use Rattle.std.specs.Prelude.{ℕ, Result, Ok, Err}
use Rattle.wide.specs.Wide.{halves}
use Rattle.record.specs.Told.{number_of}
use Rattle.record.specs.declared.grounds.Refused.{Refused}
use Rattle.variances.specs.declared.fractions.Fraction.{Fraction}
use Rattle.variances.specs.declared.FractionAnswer.{FractionAnswer}
use Rattle.variances.specs.declared.DeviationAnswer.{DeviationAnswer}

-- the fraction, or the refusal and noughts
abbrev pub fraction_told : Result Fraction Refused → FractionAnswer
fraction_told (Ok f) = record { number = 0; place = 0; numerator = f.numerator; denominator = f.denominator }
fraction_told (Err e) = record { number = number_of e.why; place = e.place; numerator = halves 0; denominator = 0 }

-- the deviation, or the refusal and nought
abbrev pub deviation_told : Result ℕ Refused → DeviationAnswer
deviation_told (Ok r) = record { number = 0; place = 0; deviation = r }
deviation_told (Err e) = record { number = number_of e.why; place = e.place; deviation = 0 }
