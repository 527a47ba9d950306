-- `variances::refusals::check` meets its contract.
use mathlib.Core.Path.{sym}
use native.Mathlib.Omega.{arith}
use Rattle.variances.proofs.FigureLaws.{factor_nought, factor_too_large, count_nought, count_too_large, sum_too_large, high_half_decides, allowed_none}
use Rattle.variances.proofs.refusals.check.Goals as goal

pub returns-then-m-lt1 : goal.returns-then-m-lt1
returns-then-m-lt1 c = rw c.at.ensures (sym (factor_nought _ _ _ (omega arith)))

pub returns-then-m : goal.returns-then-m
returns-then-m c = rw c.at-then-m.ensures (sym (factor_too_large _ _ _ (omega arith)))

pub returns-then-count-eq0 : goal.returns-then-count-eq0
returns-then-count-eq0 c = rw c.at-then-count-eq0.ensures (sym (count_nought _ _ _ (omega arith) (omega arith) (omega arith)))

pub returns-then-count-gt-MOST_SAMPLES : goal.returns-then-count-gt-MOST_SAMPLES
returns-then-count-gt-MOST_SAMPLES c = rw c.at-then-count-gt-MOST_SAMPLES.ensures (sym (count_too_large _ _ _ (omega arith) (omega arith) (omega arith)))

pub returns-then-high-ge4611686018427387904 : goal.returns-then-high-ge4611686018427387904
returns-then-high-ge4611686018427387904 c = rw c.at-then-high-ge4611686018427387904.ensures (sym (sum_too_large _ _ _ (omega arith) (omega arith) (omega arith) (omega arith) (omega arith)))

pub returns : goal.returns
returns c =
    sym (allowed_none _ _ _ (record { factor_least = omega arith; factor_most = omega arith; count_least = omega arith; count_most = omega arith; sum_below = high_half_decides _ (omega arith) (omega arith) }))
