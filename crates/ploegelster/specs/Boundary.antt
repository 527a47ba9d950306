-- What C cannot hand over, told in numbers: a dot is a kind and a double, a noise type is its alpha.
use Rattle.std.specs.Prelude.{ℕ, zero, suc, ℤ, pos, negsuc}
use Rattle.plot.specs.Dots.{dot_value}
use Rattle.noise.specs.Noise.{told_alpha}
use Rattle.noise.specs.Bars.{no_bar, bars_answer}
use Rattle.plot.specs.declared.dots.Dot.{Dot}
use Rattle.plot.specs.declared.dots.Dot.TheVariants.{Drawn, Nought, TooFew}
use Rattle.plot.specs.declared.dots.DotAnswer.{DotAnswer}
use Rattle.noise.specs.declared.Noise.TheVariants.{WhitePhase, FlickerPhase, WhiteFrequency, FlickerFrequency, RandomWalkFrequency}
use Rattle.noise.specs.declared.NoiseAnswer.{NoiseAnswer}
use Rattle.noise.specs.declared.bars.BarsAnswer.{BarsAnswer}
use Rattle.ploegelster.specs.declared.drawing.ToldDot.{ToldDot}
use Rattle.ploegelster.specs.declared.drawing.ToldNoise.{ToldNoise}

-- the kind of a dot
unfoldable pub dot_kind : Dot → ℕ
dot_kind Nought = 0
dot_kind (Drawn v) = 1
dot_kind TooFew = 2

-- an answer's dot as its kind and value
unfoldable pub told_dot : DotAnswer → ToldDot
told_dot a = record { number = a.number; place = a.place; kind = dot_kind a.dot; value = dot_value a.dot }

-- an answer's type as its alpha; beside a refusal nought
unfoldable pub told_noise : NoiseAnswer → ToldNoise
told_noise a = record { number = a.number; place = a.place; alpha = told_alpha a }

-- an alpha that no type has is refused 3, before all else
unfoldable pub no_such_type : BarsAnswer
no_such_type = record { number = 3; place = 0; bar = no_bar }

-- bars for noise of the type that has this alpha
unfoldable pub bars_by_alpha : ℕ → ℤ → ℕ → BarsAnswer
bars_by_alpha r (pos zero) M = bars_answer r WhiteFrequency M
bars_by_alpha r (pos (suc zero)) M = bars_answer r FlickerPhase M
bars_by_alpha r (pos (suc (suc zero))) M = bars_answer r WhitePhase M
bars_by_alpha r (pos (suc (suc (suc n)))) M = no_such_type
bars_by_alpha r (negsuc zero) M = bars_answer r FlickerFrequency M
bars_by_alpha r (negsuc (suc zero)) M = bars_answer r RandomWalkFrequency M
bars_by_alpha r (negsuc (suc (suc n))) M = no_such_type
