-- `drift::Slope::first_outside` meets its contract, what its invariant leaves to show.
use mathlib.Core.Path.{sym}
use native.Mathlib.Omega.{arith}
use lib.IntN.{pos}
use Rattle.laws.proofs.ListLaws.{search_goes_on, search_ends_here, search_ends}
use Rattle.record.specs.Refusals.{in_range}
use Rattle.drift.specs.Drift.{without_drift}
use Rattle.drift.proofs.DriftLaws.{without_drift_length, result_tells}
use Rattle.drift.proofs.Slope.first_outside.Goals as goal

pub loop-i-preserved : goal.loop-i-preserved
loop-i-preserved c =
    let told = result_tells _ c.loop-i.i c.result_at.ensures c.result_at.type_inv c.in_range.ensures c.if-not-in_range.false in
    (omega arith, search_goes_on in_range (pos 0) _ _ (omega (arith, without_drift_length c.args.self.now.samples.now)) c.loop-i.invariant.1 told)

pub returns-then-not-in_range : goal.returns-then-not-in_range
returns-then-not-in_range c =
    let told = result_tells _ c.loop-i.i c.result_at.ensures c.result_at.type_inv c.in_range.ensures c.if-not-in_range.true in
    sym (search_ends_here in_range (pos 0) _ _ (omega (arith, without_drift_length c.args.self.now.samples.now)) c.loop-i.invariant.1 told)

pub returns : goal.returns
returns c =
    let length-is = without_drift_length c.args.self.now.samples.now in
    omega (arith, length-is, search_ends in_range (without_drift c.args.self.now.samples.now) c.loop-i.i (omega (arith, length-is)) c.loop-i.invariant.1)
