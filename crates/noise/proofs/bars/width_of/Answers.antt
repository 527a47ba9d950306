-- `noise::bars::width_of` meets its contract.
use Rattle.noise.proofs.BarLaws.{width_in_parts}
use Rattle.noise.proofs.bars.width_of.Goals as goal

pub returns : goal.returns
returns c = width_in_parts _ _
