-- `variances::deviations::time_root` meets its contract.
use native.Mathlib.Omega.{arith}
use Rattle.sums.specs.Published.{time_denominator}
use Rattle.variances.specs.Answers.{time_deviation_answer}
use Rattle.variances.proofs.deviations.time_root.Goals as goal

pub of_variance-requires : goal.of_variance-requires
of_variance-requires c = (omega arith, omega arith)

pub returns : goal.returns
unfolding time_deviation_answer time_denominator
returns c = c.of_variance.ensures
