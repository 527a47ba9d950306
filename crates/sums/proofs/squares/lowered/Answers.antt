-- `sums::squares::lowered` meets its contract.
use native.Mathlib.Nat.{mul-le-mul}
use native.Mathlib.Omega.{arith}
use Rattle.sums.proofs.SquareLaws.{squares_lowered}
use Rattle.sums.proofs.squares.lowered.Goals as goal

pub overflow_mul-more : goal.overflow_mul-more
overflow_mul-more c = omega (arith, mul-le-mul c.requires.0 c.requires.0)

pub overflow_mul-more-2 : goal.overflow_mul-more-2
overflow_mul-more-2 c = omega (arith, mul-le-mul c.requires.1 (mul-le-mul c.requires.0 c.requires.0))

pub overflow_mul-more-3 : goal.overflow_mul-more-3
overflow_mul-more-3 c = omega (arith, mul-le-mul c.requires.1 (mul-le-mul c.requires.0 c.requires.0))

pub returns : goal.returns
returns c =
    let a = c.args in
    squares_lowered a.squares a.raised a.m a.count c.requires.2 c.requires.3 c.sum.ensures c.product.ensures c.difference.ensures
