-- `variances::fractions::time_variance` meets its contract.
use native.Mathlib.Omega.{arith}
use Rattle.sums.specs.Published.{time_denominator}
use Rattle.variances.specs.Answers.{time_fraction_answer}
use Rattle.variances.proofs.fractions.time_variance.Goals as goal

pub variance-requires : goal.variance-requires
variance-requires c = (omega arith, omega arith)

pub returns : goal.returns
unfolding time_fraction_answer time_denominator
returns c = c.variance.ensures
