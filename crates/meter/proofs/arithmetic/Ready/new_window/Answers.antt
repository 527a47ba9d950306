-- `meter::arithmetic::Ready::new_window` meets its contract.
use native.Mathlib.Omega.{arith}
use mir.Syntax.{w64}
use Rattle.laws.proofs.Machine.{operation_fits}
use Rattle.meter.proofs.TestLaws.{holds_together_lem}
use Rattle.meter.proofs.ArithmeticLaws.{grown_of, slid_of, window_grows_fits, window_slides_fits, window_waits, window_grows, window_slides}
use Rattle.meter.proofs.arithmetic.Ready.new_window.Goals as goal

pub overflow_mul-meter : goal.overflow_mul-meter
overflow_mul-meter c = omega (arith, (holds_together_lem _ c.args.self.now.together).factor_most)

pub returns-then-meter : goal.returns-then-meter
returns-then-meter c =
    window_waits c.args.self.now.meter c.args.self.now.together c.args.d c.args.e c.requires.0 c.requires.1 (omega arith)

pub overflow_mul-meter-2 : goal.overflow_mul-meter-2
overflow_mul-meter-2 c = omega (arith, (holds_together_lem _ c.args.self.now.together).factor_most)

pub overflow_add-result : goal.overflow_add-result
overflow_add-result c =
    operation_fits w64 (grown_of c.args.self.now.meter c.args.d) (window_grows_fits _ c.args.self.now.together c.args.d c.args.e c.requires.0 c.requires.1)

pub returns-then-meter-2 : goal.returns-then-meter-2
returns-then-meter-2 c =
    window_grows c.args.self.now.meter c.args.self.now.together c.args.d c.args.e c.requires.0 c.requires.1 (omega arith) (omega arith)

pub overflow_add-result-2 : goal.overflow_add-result-2
overflow_add-result-2 c =
    operation_fits w64 (grown_of c.args.self.now.meter c.args.d) (window_grows_fits _ c.args.self.now.together c.args.d c.args.e c.requires.0 c.requires.1)

pub overflow_sub-result : goal.overflow_sub-result
overflow_sub-result c =
    operation_fits w64 (slid_of c.args.self.now.meter c.args.d c.args.e) (window_slides_fits _ c.args.self.now.together c.args.d c.args.e c.requires.0 c.requires.1)

pub returns : goal.returns
returns c =
    window_slides c.args.self.now.meter c.args.self.now.together c.args.d c.args.e c.requires.0 c.requires.1 (omega arith)
