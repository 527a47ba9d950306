-- Plot dots: a drawn number, or nought, or too few.
use Rattle.std.specs.Prelude.{ℕ, cond, ◌==◌, Float}
use Rattle.variances.specs.declared.DeviationAnswer.{DeviationAnswer}
use Rattle.plot.specs.Drawn.{plus_zero, drawn_number}
use Rattle.plot.specs.declared.dots.Dot.{Dot}
use Rattle.plot.specs.declared.dots.Dot.TheVariants.{Drawn, Nought, TooFew}
use Rattle.plot.specs.declared.dots.DotAnswer.{DotAnswer}

-- the number and the value that each dot stands for
unfoldable pub dot_number : Dot → ℕ
dot_number (Drawn v) = 0
dot_number Nought = 0
dot_number TooFew = 1

unfoldable pub dot_value : Dot → Float
dot_value (Drawn v) = v
dot_value Nought = plus_zero
dot_value TooFew = plus_zero

-- a dot's input is the deviation entry's: r = 0 gives nought; count 0, the only 1 there, gives too few; other refusals stand, with the dot nought
unfoldable pub dot_answer : DeviationAnswer → DotAnswer
dot_answer d =
    cond (d.number == 0) (record { number = 0; place = 0; dot = cond (d.deviation == 0) Nought (Drawn (drawn_number d.deviation)) })
    (cond (d.number == 1) (record { number = 0; place = 0; dot = TooFew })
    (record { number = d.number; place = d.place; dot = Nought }))
