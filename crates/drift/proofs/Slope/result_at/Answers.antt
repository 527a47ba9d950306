-- `drift::Slope::result_at` meets its contract: the floor is taken apart, and each step fits a word.
use native.Mathlib.Omega.{arith}
use mir.Syntax.{w64}
use Rattle.laws.proofs.Machine.{operation_fits, left_of, right_of}
use Rattle.drift.proofs.DriftLaws.{none_drifting, result_of, product_below, result_fits, result_is}
use Rattle.drift.proofs.Slope.result_at.Goals as goal

pub triangle-t-requires : goal.triangle-t-requires
triangle-t-requires c = omega (arith, (none_drifting _ c.args.self.now.unrefused).not_too_many)

pub overflow_cast-down : goal.overflow_cast-down
overflow_cast-down c =
    let line = c.args.self.now in
    (result_fits line.samples.now line.whole _ _ _ (line.unrefused, line.below, line.parts, c.requires) line.square c.triangle-t.ensures).1.0.1.1

pub overflow_mul-down : goal.overflow_mul-down
overflow_mul-down c =
    let line = c.args.self.now in
    operation_fits w64 (left_of (right_of (result_of line.samples.now line.whole line.rest c.args.i line.r c.triangle-t.result)))
    (result_fits line.samples.now line.whole _ _ _ (line.unrefused, line.below, line.parts, c.requires) line.square c.triangle-t.ensures).1.0

pub overflow_mul-down-2 : goal.overflow_mul-down-2
overflow_mul-down-2 c =
    let line = c.args.self.now in
    omega (arith, product_below line.samples.now line.whole _ _ _ (line.unrefused, line.below, line.parts, c.requires) line.square c.triangle-t.ensures)

pub overflow_cast-down-2 : goal.overflow_cast-down-2
overflow_cast-down-2 c =
    let line = c.args.self.now in
    (result_fits line.samples.now line.whole _ _ _ (line.unrefused, line.below, line.parts, c.requires) line.square c.triangle-t.ensures).1.1.1

pub overflow_add-down : goal.overflow_add-down
overflow_add-down c =
    let line = c.args.self.now in
    operation_fits w64 (right_of (result_of line.samples.now line.whole line.rest c.args.i line.r c.triangle-t.result))
    (result_fits line.samples.now line.whole _ _ _ (line.unrefused, line.below, line.parts, c.requires) line.square c.triangle-t.ensures).1

pub overflow_sub-result : goal.overflow_sub-result
overflow_sub-result c =
    let line = c.args.self.now in
    operation_fits w64 (result_of line.samples.now line.whole line.rest c.args.i line.r c.triangle-t.result)
    (result_fits line.samples.now line.whole _ _ _ (line.unrefused, line.below, line.parts, c.requires) line.square c.triangle-t.ensures)

pub returns : goal.returns
returns c =
    let line = c.args.self.now in
    result_is line.samples.now line.whole _ _ _ (line.unrefused, line.below, line.parts, c.requires) line.square c.triangle-t.ensures
