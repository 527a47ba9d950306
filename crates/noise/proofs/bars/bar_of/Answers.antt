-- `noise::bars::bar_of` meets its contract.
use Rattle.noise.specs.Bars.{bar_of}
use Rattle.noise.proofs.bars.bar_of.Goals as goal

pub returns : goal.returns
unfolding bar_of
returns c = λ i. record { low = c.draw-low.ensures i; mid = c.draw-mid.ensures i; high = c.draw-high.ensures i }
