-- `wide::difference` meets its contract.
use Rattle.std.proofs.Common.{rules}
use Rattle.wide.specs.Wide.{wide_difference}
use Rattle.wide.proofs.difference.Goals as goal

pub returns : goal.returns
unfolding wide_difference
returns c = search rules
