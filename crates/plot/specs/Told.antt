-- A drawn number and a dot with the number and the place of their refusal.
use Rattle.std.specs.Prelude.{Result, Ok, Err, Float}
use Rattle.record.specs.Told.{number_of}
use Rattle.record.specs.declared.grounds.Refused.{Refused}
use Rattle.plot.specs.Drawn.{plus_zero}
use Rattle.plot.specs.declared.drawn.DrawnAnswer.{DrawnAnswer}
use Rattle.plot.specs.declared.dots.Dot.{Dot}
use Rattle.plot.specs.declared.dots.Dot.TheVariants.{Nought}
use Rattle.plot.specs.declared.dots.DotAnswer.{DotAnswer}

-- the double, or the refusal and plus zero
abbrev pub drawn_told : Result Float Refused → DrawnAnswer
drawn_told (Ok x) = record { number = 0; place = 0; value = x }
drawn_told (Err e) = record { number = number_of e.why; place = e.place; value = plus_zero }

-- the dot, or the refusal and nought
abbrev pub dot_told : Result Dot Refused → DotAnswer
dot_told (Ok dot) = record { number = 0; place = 0; dot = dot }
dot_told (Err e) = record { number = number_of e.why; place = e.place; dot = Nought }
