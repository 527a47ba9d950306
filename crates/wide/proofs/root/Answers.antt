-- `wide::root` meets its contract.
use Rattle.std.proofs.Common.{arith}
use Rattle.wide.specs.Wide.{value}
use Rattle.wide.proofs.Roots.{root_is}
use Rattle.wide.proofs.root.Goals as goal

pub returns : goal.returns
returns c = root_is (value c.args.a) _ (omega arith) (omega arith) (omega arith)
