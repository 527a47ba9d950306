-- `plot::drawn::draw` meets its contract.
use Rattle.plot.proofs.Grid.{dropped, kept}
use Rattle.plot.proofs.Doubles.{quotient_drawn}
use Rattle.plot.proofs.drawn.draw.Goals as goal

pub returns : goal.returns
unfolding kept dropped
returns c =
    quotient_drawn c.args.r _ _ c.ranges.r.fits c.top_digits.ensures c.nearest_u64_to_f64.ensures
