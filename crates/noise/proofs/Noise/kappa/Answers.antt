-- `noise::Noise::kappa` meets its contract: the table has kappa of each type at its place.
use native.Mathlib.Omega.{arith}
use Rattle.noise.proofs.NoiseLaws.{index_within, kappa_at}
use Rattle.noise.proofs.Noise.kappa.Goals as goal

pub offset_bounds-at : goal.offset_bounds-at
offset_bounds-at c = omega (arith, c.index-at.ensures, index_within c.args.self)

pub bounds-at : goal.bounds-at
bounds-at c = omega (arith, c.index-at.ensures, index_within c.args.self)

pub returns : goal.returns
returns c = kappa_at _ c.index-at.ensures
