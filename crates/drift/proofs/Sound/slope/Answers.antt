-- `drift::Sound::slope` meets its contract: P is rounded down on either side of nought.
use native.Mathlib.Omega.{arith}
use Rattle.drift.proofs.DriftLaws.{r_bounds, divisor_some, divisor_no_minus_one, taken_apart}
use Rattle.drift.proofs.Sound.slope.Goals as goal

pub overflow_cast-r : goal.overflow_cast-r
overflow_cast-r c = omega (arith, r_bounds _ c.args.self.now.unrefused c.figure_r-r.ensures)

pub div_euclid-requires-clause-nonzero : goal.div_euclid-requires-clause-nonzero
div_euclid-requires-clause-nonzero c = divisor_some _ c.args.self.now.unrefused c.figure_r-r.ensures

pub div_euclid-requires-clause-no_overflow : goal.div_euclid-requires-clause-no_overflow
div_euclid-requires-clause-no_overflow c = λ minus_one _. divisor_no_minus_one _ c.args.self.now.unrefused c.figure_r-r.ensures minus_one

pub overflow_cast-r-2 : goal.overflow_cast-r-2
overflow_cast-r-2 c = omega (arith, r_bounds _ c.args.self.now.unrefused c.figure_r-r.ensures)

pub rem_euclid-requires-clause-nonzero : goal.rem_euclid-requires-clause-nonzero
rem_euclid-requires-clause-nonzero c = divisor_some _ c.args.self.now.unrefused c.figure_r-r.ensures

pub invariant_of-result : goal.invariant_of-result
invariant_of-result c =
    let parts = taken_apart _ c.args.self.now.unrefused c.figure_r-r.ensures c.figure_p-p.ensures c.div_euclid.ensures c.rem_euclid.ensures.value c.div_euclid.type_inv c.rem_euclid.type_inv in
    record { unrefused = c.args.self.now.unrefused; square = c.figure_r-r.ensures; below = parts.0; parts = parts.1 }
