-- `drift::Sound::figure_p` meets its contract: samples in range keep each step within a word.
use native.Mathlib.Omega.{arith}
use mir.Syntax.{w64}
use Rattle.laws.proofs.Machine.{operation_fits, left_of, right_of}
use Rattle.drift.proofs.DriftLaws.{h_within, figure_of, figure_fits, figure_is}
use Rattle.drift.proofs.Sound.figure_p.Goals as goal

pub overflow_mul-result : goal.overflow_mul-result
overflow_mul-result c = omega (arith, h_within _ c.args.self.now.unrefused, c.half-h.ensures)

pub offset_bounds-samples-h : goal.offset_bounds-samples-h
offset_bounds-samples-h c = omega (arith, h_within _ c.args.self.now.unrefused, c.half-h.ensures)

pub bounds-samples-h : goal.bounds-samples-h
bounds-samples-h c = omega (arith, h_within _ c.args.self.now.unrefused, c.half-h.ensures)

pub offset_bounds-samples-h-2 : goal.offset_bounds-samples-h-2
offset_bounds-samples-h-2 c = omega (arith, h_within _ c.args.self.now.unrefused, c.half-h.ensures)

pub bounds-samples-h-2 : goal.bounds-samples-h-2
bounds-samples-h-2 c = omega (arith, h_within _ c.args.self.now.unrefused, c.half-h.ensures)

pub overflow_mul-result-2 : goal.overflow_mul-result-2
overflow_mul-result-2 c =
    operation_fits w64 (right_of (left_of (figure_of c.half-h.result c.args.self.now.samples.now))) (figure_fits _ c.args.self.now.unrefused c.half-h.result).0.1

pub overflow_sub-result : goal.overflow_sub-result
overflow_sub-result c =
    operation_fits w64 (left_of (figure_of c.half-h.result c.args.self.now.samples.now)) (figure_fits _ c.args.self.now.unrefused c.half-h.result).0

pub bounds-samples-0 : goal.bounds-samples-0
bounds-samples-0 c = omega (arith, h_within _ c.args.self.now.unrefused)

pub overflow_add-result : goal.overflow_add-result
overflow_add-result c =
    operation_fits w64 (figure_of c.half-h.result c.args.self.now.samples.now) (figure_fits _ c.args.self.now.unrefused c.half-h.result)

pub returns : goal.returns
returns c =
    figure_is c.args.self.now.samples.now c.args.self.now.unrefused c.half-h.ensures
