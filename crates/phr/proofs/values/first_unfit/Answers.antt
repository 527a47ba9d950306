-- `phr::values::first_unfit` meets its contract, what its invariant leaves to show.
use Rattle.std.proofs.Common.{◌≡◌, length, refl, arith}
use Rattle.phr.specs.Kinds.{number_of_kind}
use Rattle.phr.proofs.RangeSearch.{value_passes, value_fails, no_value_fails}
use Rattle.phr.proofs.SignLaws.{loaded_value}
use Rattle.phr.proofs.values.first_unfit.Goals as goal

pub loop-i-preserved : goal.loop-i-preserved
loop-i-preserved c =
    value_passes _ _ c.loop-i.i (omega arith) c.loop-i.invariant (loaded_value _ (omega arith)) c.has.ensures c.if-not-has.false

pub returns-then-not-has : goal.returns-then-not-has
returns-then-not-has c =
    value_fails _ _ c.loop-i.i (omega arith) c.loop-i.invariant (loaded_value _ (omega arith)) c.has.ensures c.if-not-has.true

pub returns : goal.returns
returns c =
    let whole : c.loop-i.i ≡ length c.args.values.now = omega arith in
    no_value_fails (number_of_kind c.args.kind) c.args.values.now (length c.args.values.now) refl (rw whole at c.loop-i.invariant)
