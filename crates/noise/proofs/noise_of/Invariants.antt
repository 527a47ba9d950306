-- `noise::noise_of` meets its contract. The loop's invariant: 4096 r2 is above r1 times each bound so far.
use Rattle.noise.proofs.NoiseLaws.{SearchAt}
use Rattle.noise.proofs.noise_of.Given as goal

abbrev pub invariant-loop-noise : goal.invariant-loop-noise
invariant-loop-noise l = SearchAt l.r1 l.r2 l.noise-index
