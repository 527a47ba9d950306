-- `meter::arithmetic::Ready::with_terms` meets its contract.
use native.Mathlib.Omega.{arith}
use mir.Syntax.{w64}
use mir.ValLaws.{to_z-of_z}
use Rattle.meter.proofs.ArithmeticLaws.{next_fits, sample_counted, difference_taken_in, window_taken_in}
use Rattle.meter.proofs.arithmetic.Ready.with_terms.Goals as goal

pub overflow_add-next : goal.overflow_add-next
overflow_add-next c = omega (arith, next_fits _ c.args.self.now.together c.args.self.now.room)

pub overflow_mul-m : goal.overflow_mul-m
overflow_mul-m c = omega (arith, next_fits _ c.args.self.now.together c.args.self.now.room)

pub returns-then-s-m : goal.returns-then-s-m
returns-then-s-m c =
    sample_counted c.args.self.now.meter c.args.self.now.together c.args.d c.args.window c.requires.0 c.requires.1 (omega arith)

pub overflow_add-terms : goal.overflow_add-terms
overflow_add-terms c = omega (arith, next_fits _ c.args.self.now.together c.args.self.now.room)

pub overflow_mul-m-2 : goal.overflow_mul-m-2
overflow_mul-m-2 c = omega (arith, next_fits _ c.args.self.now.together c.args.self.now.room)

pub returns-then-next-m : goal.returns-then-next-m
returns-then-next-m c =
    let same = to_z-of_z w64 c.args.window c.ranges.window in
    rw same (difference_taken_in c.args.self.now.meter c.args.self.now.together c.args.d c.args.window c.requires.0 c.requires.1 (omega arith) (omega (arith, c.well_formed)) c.with_square-more.ensures
    (omega arith))

pub overflow_add-windows : goal.overflow_add-windows
overflow_add-windows c = omega (arith, next_fits _ c.args.self.now.together c.args.self.now.room)

pub returns : goal.returns
returns c =
    let same = to_z-of_z w64 c.args.window c.ranges.window in
    rw (same, same) (window_taken_in c.args.self.now.meter c.args.self.now.together c.args.d c.args.window c.requires.0 c.requires.1 (omega arith) (omega (arith, c.well_formed)) c.with_square-more.ensures
    (omega arith) (omega (arith, c.well_formed)) c.with_square.ensures)
