-- `variances::fractions::allan_variance` meets its contract.
use native.Mathlib.Omega.{arith}
use Rattle.sums.specs.Published.{allan_denominator}
use Rattle.variances.specs.Answers.{allan_fraction_answer}
use Rattle.variances.proofs.fractions.allan_variance.Goals as goal

pub variance-requires : goal.variance-requires
variance-requires c = (omega arith, omega arith)

pub returns : goal.returns
unfolding allan_fraction_answer allan_denominator
returns c = c.variance.ensures
