-- `noise::bars::no_bar` meets its contract.
use mathlib.Core.Path.{refl}
use lib.Ieee
use Rattle.noise.specs.Bars.{no_bar}
use Rattle.noise.proofs.bars.no_bar.Goals as goal

pub returns : goal.returns
unfolding no_bar Ieee.of_bits
returns c = refl
