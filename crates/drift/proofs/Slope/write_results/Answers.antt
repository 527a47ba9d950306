-- `drift::Slope::write_results` meets its contract, what its invariant leaves to show.
use mathlib.Core.Path.{refl, sym, ◌∙◌}
use native.Mathlib.Omega.{arith}
use lib.IntN.{pos}
use Rattle.std.proofs.Common.{length, length-take-le}
use Rattle.laws.proofs.ListLaws.{written_one_more, written_over}
use Rattle.drift.proofs.DriftLaws.{without_drift_length, result_read}
use Rattle.drift.proofs.Slope.write_results.Goals as goal

pub loop-i-preserved : goal.loop-i-preserved
loop-i-preserved c =
    let length-is = without_drift_length c.args.self.now.samples.now in
    let front = length-take-le (length c.args.self.now.samples.now) c.args.buffer.now c.requires in
    written_one_more _ _ c.loop-i.i (pos 0) (omega (arith, length-is, front)) (omega arith) c.loop-i.invariant (result_read _ c.loop-i.i c.result_at.ensures c.result_at.type_inv)

pub returns : goal.returns
returns c =
    let length-is = without_drift_length c.args.self.now.samples.now in
    let front = length-take-le (length c.args.self.now.samples.now) c.args.buffer.now c.requires in
    rw (c.loop-i.invariant ∙ written_over _ _ c.loop-i.i (omega arith) (length-is ∙ sym front), length-is) refl
