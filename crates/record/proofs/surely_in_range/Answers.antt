-- `record::surely_in_range` meets its contract, what its invariant leaves to show.
use Rattle.std.proofs.Common.{arith, rules, leb-true}
use Rattle.record.proofs.SurePass.{one_more_passed, passed_in_range}
use Rattle.record.proofs.surely_in_range.Goals as goal

pub loop-x-preserved : goal.loop-x-preserved
loop-x-preserved c = one_more_passed c.args.samples.now c.loop-x.reached c.loop-x.x-index c.loop-x.invariant (search rules) c.moved_up-reached.ensures

pub returns : goal.returns
returns c sure = passed_in_range c.args.samples.now c.loop-x.reached c.loop-x.x-index c.loop-x.invariant (omega arith) (leb-true _ _ sure)
