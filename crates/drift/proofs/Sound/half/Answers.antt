-- `drift::Sound::half` meets its contract: N is not nought, so that 1 can be taken from it.
use native.Mathlib.Omega.{arith}
use Rattle.drift.proofs.DriftLaws.{none_drifting, half_is}
use Rattle.drift.proofs.Sound.half.Goals as goal

pub overflow_sub-result : goal.overflow_sub-result
overflow_sub-result c = omega (arith, (none_drifting _ c.args.self.now.unrefused).enough)

pub returns : goal.returns
returns c = half_is _
