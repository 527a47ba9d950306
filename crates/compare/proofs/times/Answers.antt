-- `compare::times` meets its contract.
use mathlib.Core.Path.{ap, ◌∙◌}
use Rattle.wide.specs.Wide.{wide_sum}
use Rattle.compare.proofs.QuieterLaws.{high_times_fits, times_in_halves}
use Rattle.compare.proofs.times.Goals as goal

pub overflow_mul-hi : goal.overflow_mul-hi
overflow_mul-hi c = record { fits = high_times_fits c.args.a c.args.count c.requires.0 c.requires.1 }

pub returns : goal.returns
returns c =
    c.sum.ensures ∙ ap (wide_sum _) c.product-low.ensures ∙ times_in_halves c.args.a c.args.count c.requires.0 c.requires.1
