-- `record::surely_in_range` meets its contract. The loop's invariant: every sample before `x` was passed.
use Rattle.record.proofs.SurePass.{Passed}
use Rattle.record.proofs.surely_in_range.Given as goal

abbrev pub invariant-loop-x : goal.invariant-loop-x
invariant-loop-x l = Passed l.reached l.samples l.x-index
