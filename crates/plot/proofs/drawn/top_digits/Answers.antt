-- `plot::drawn::top_digits` meets its contract.
use Rattle.std.proofs.Common.{arith}
use Rattle.plot.proofs.Grid.{dropped, kept, zeros_tell_dropped, kept_by_shifts, none_dropped}
use Rattle.plot.proofs.drawn.top_digits.Goals as goal

pub returns-then-zeros-lt11 : goal.returns-then-zeros-lt11
unfolding kept dropped
returns-then-zeros-lt11 c =
    kept_by_shifts c.args.r c.ranges.r.fits _ (zeros_tell_dropped c.args.r c.ranges.r.fits)

pub returns : goal.returns
unfolding kept dropped
returns c =
    none_dropped c.args.r (omega (arith, zeros_tell_dropped c.args.r c.ranges.r.fits))
