-- A power of ten is never nought.
use Rattle.printed.proofs.print.DecimalsDisplay.fmt.Goals as goal
use Rattle.std.proofs.Common.{arith}
use Rattle.std.proofs.Math.Nat.{one-le-pow}

pub nonzero_div-self : goal.nonzero_div-self
nonzero_div-self g c = omega (arith, c.saturating_pow-one.ensures, one-le-pow g.row.PLACES 10 (omega arith))

pub nonzero_rem-self : goal.nonzero_rem-self
nonzero_rem-self g c = omega (arith, c.saturating_pow-one.ensures, one-le-pow g.row.PLACES 10 (omega arith))
