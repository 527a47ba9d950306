-- `noise::noise_of` meets its contract, what its invariant leaves to show.
use native.Mathlib.Omega.{arith}
use Rattle.noise.proofs.NoiseLaws.{type_found, bound_passed, last_is_left}
use Rattle.noise.proofs.noise_of.Goals as goal

pub returns-then-at_most : goal.returns-then-at_most
returns-then-at_most c =
    type_found _ _ _ (omega arith) c.product-ratio.ensures c.product.ensures c.at_most.ensures c.loop-noise.invariant c.if-at_most.true

pub loop-noise-preserved : goal.loop-noise-preserved
loop-noise-preserved c =
    bound_passed _ _ _ (omega arith) c.product-ratio.ensures c.product.ensures c.at_most.ensures c.loop-noise.invariant c.if-at_most.false

pub returns : goal.returns
returns c = last_is_left _ _ _ (omega arith) c.loop-noise.invariant
