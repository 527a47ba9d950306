-- `meter::arithmetic::difference` meets its contract: samples in range keep each step within a word.
use mir.Syntax.{w64}
use Rattle.laws.proofs.Machine.{operation_fits, machine_is, left_of, right_of}
use Rattle.meter.proofs.ArithmeticLaws.{difference_of, difference_fits}
use Rattle.meter.proofs.arithmetic.difference.Goals as goal

pub overflow_mul-result : goal.overflow_mul-result
overflow_mul-result c =
    let e = difference_of c.args.x c.args.y c.args.z in
    operation_fits w64 (right_of (left_of e)) (difference_fits c.args.x c.args.y c.args.z c.requires).0.1

pub overflow_sub-result : goal.overflow_sub-result
overflow_sub-result c =
    let e = difference_of c.args.x c.args.y c.args.z in
    operation_fits w64 (left_of e) (difference_fits c.args.x c.args.y c.args.z c.requires).0

pub overflow_add-result : goal.overflow_add-result
overflow_add-result c = operation_fits w64 (difference_of c.args.x c.args.y c.args.z) (difference_fits c.args.x c.args.y c.args.z c.requires)

pub returns : goal.returns
returns c = machine_is w64 (difference_of c.args.x c.args.y c.args.z) (difference_fits c.args.x c.args.y c.args.z c.requires)
