-- `sums::squares::with_number` meets its contract: the parts' products are small, and so are the sums.
use mathlib.Core.Path.{ap}
use Prim.Native.Nat.{ℕ, ◌%◌, ◌^◌}
use native.Mathlib.Omega.{arith}
use Rattle.sums.proofs.SquareLaws.{number_taken, high_part_is, high_square_small, cross_small, low_square_small}
use Rattle.sums.proofs.squares.with_number.Goals as goal

pub overflow_mul-result : goal.overflow_mul-result
overflow_mul-result c = rw (high_part_is c.args.u c.requires.0) (omega (arith, high_square_small c.args.u c.requires.0))

pub overflow_add-result : goal.overflow_add-result
overflow_add-result c = rw (high_part_is c.args.u c.requires.0) (omega (arith, high_square_small c.args.u c.requires.0))

pub overflow_mul-result-2 : goal.overflow_mul-result-2
overflow_mul-result-2 c = rw (high_part_is c.args.u c.requires.0) (omega (arith, cross_small c.args.u c.requires.0))

pub overflow_add-result-2 : goal.overflow_add-result-2
overflow_add-result-2 c = rw (high_part_is c.args.u c.requires.0) (omega (arith, cross_small c.args.u c.requires.0))

pub overflow_mul-result-3 : goal.overflow_mul-result-3
overflow_mul-result-3 c = omega (arith, low_square_small c.args.u c.requires.0)

pub overflow_add-result-3 : goal.overflow_add-result-3
overflow_add-result-3 c = omega (arith, low_square_small c.args.u c.requires.0)

pub returns : goal.returns
returns c =
    let u = c.args.u in
    ap (λ (h : ℕ). number_taken c.args.parts u h (u % 2 ^ 22)) (high_part_is u c.requires.0)
