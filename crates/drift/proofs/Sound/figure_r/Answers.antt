-- `drift::Sound::figure_r` meets its contract: h is small, so that its square fits a word.
use native.Mathlib.Omega.{arith}
use Rattle.drift.proofs.DriftLaws.{square_is, r_within}
use Rattle.drift.proofs.Sound.figure_r.Goals as goal

pub overflow_mul-result : goal.overflow_mul-result
overflow_mul-result c = omega (arith, r_within _ c.args.self.now.unrefused, square_is _ c.half-h.ensures)

pub returns : goal.returns
returns c = square_is _ c.half-h.ensures
