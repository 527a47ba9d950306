-- `compare::not_above` meets its contract.
use native.Mathlib.Omega.{arith}
use Rattle.compare.proofs.QuieterLaws.{within_hundred_bits, products_compared}
use Rattle.compare.proofs.not_above.Goals as goal

pub times-requires : goal.times-requires
times-requires c = (within_hundred_bits c.requires.0 c.requires.2, omega (arith, c.requires))

pub times-requires-2 : goal.times-requires-2
times-requires-2 c = (within_hundred_bits c.requires.1 c.requires.3, omega (arith, c.requires))

pub returns : goal.returns
returns c = products_compared _ _ c.times.ensures c.times-2.ensures c.at_most.ensures
