-- `variances::deviations::allan_root` meets its contract.
use native.Mathlib.Omega.{arith}
use Rattle.sums.specs.Published.{allan_denominator}
use Rattle.variances.specs.Answers.{allan_deviation_answer}
use Rattle.variances.proofs.deviations.allan_root.Goals as goal

pub of_variance-requires : goal.of_variance-requires
of_variance-requires c = (omega arith, omega arith)

pub returns : goal.returns
unfolding allan_deviation_answer allan_denominator
returns c = c.of_variance.ensures
