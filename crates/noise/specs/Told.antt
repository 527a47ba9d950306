-- A noise type and a bar row as they are told.
use Rattle.std.specs.Prelude.{Result, Ok, Err}
use Rattle.record.specs.Told.{number_of}
use Rattle.record.specs.declared.grounds.Refused.{Refused}
use Rattle.noise.specs.Bars.{no_bar}
use Rattle.noise.specs.declared.Noise.{Noise}
use Rattle.noise.specs.declared.Noise.TheVariants.{WhitePhase}
use Rattle.noise.specs.declared.NoiseAnswer.{NoiseAnswer}
use Rattle.noise.specs.declared.bars.Bar.{Bar}
use Rattle.noise.specs.declared.bars.BarsAnswer.{BarsAnswer}

-- the type, or the refusal and the first type of the table
abbrev pub noise_told : Result Noise Refused → NoiseAnswer
noise_told (Ok t) = record { number = 0; place = 0; noise = t }
noise_told (Err e) = record { number = number_of e.why; place = e.place; noise = WhitePhase }

-- the row, or the refusal and noughts
abbrev pub bars_told : Result Bar Refused → BarsAnswer
bars_told (Ok bar) = record { number = 0; place = 0; bar = bar }
bars_told (Err e) = record { number = number_of e.why; place = e.place; bar = no_bar }
