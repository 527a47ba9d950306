-- `sums::blocks::with_square` meets its contract.
use mathlib.Core.Path.{ap, ◌∙◌}
use Rattle.wide.specs.Wide.{wide_sum}
use Rattle.sums.proofs.blocks.with_square.Goals as goal

pub returns : goal.returns
returns c = c.sum.ensures ∙ ap (wide_sum c.args.total) c.product.ensures
