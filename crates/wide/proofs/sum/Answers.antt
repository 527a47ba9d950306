-- `wide::sum` meets its contract.
use Rattle.std.proofs.Common.{rules}
use Rattle.wide.specs.Wide.{wide_sum}
use Rattle.wide.proofs.sum.Goals as goal

pub returns : goal.returns
unfolding wide_sum
returns c = search rules
