-- `noise::bars::check_bars` meets its contract.
use mathlib.Core.Path.{sym}
use native.Mathlib.Omega.{arith}
use Rattle.noise.proofs.BarLaws.{deviation_nought, deviation_too_large, too_few, too_many, no_refusal}
use Rattle.noise.proofs.bars.check_bars.Goals as goal

pub returns-then-r-eq0 : goal.returns-then-r-eq0
returns-then-r-eq0 c = rw c.at.ensures (sym (deviation_nought _ _ (omega arith)))

pub returns-then-r-gt-LARGEST_DEVIATION : goal.returns-then-r-gt-LARGEST_DEVIATION
returns-then-r-gt-LARGEST_DEVIATION c = rw c.at-then-r-gt-LARGEST_DEVIATION.ensures (sym (deviation_too_large _ _ (λ e. omega arith) (omega arith)))

pub returns-then-intervals-lt10 : goal.returns-then-intervals-lt10
returns-then-intervals-lt10 c = rw c.at-then-intervals-lt10.ensures (sym (too_few _ _ (λ e. omega arith) (omega arith) (omega arith)))

pub returns-then-intervals-gt-MOST_READINGS : goal.returns-then-intervals-gt-MOST_READINGS
returns-then-intervals-gt-MOST_READINGS c =
    rw c.at-then-intervals-gt-MOST_READINGS.ensures (sym (too_many _ _ (λ e. omega arith) (omega arith) (omega arith) (omega arith)))

pub returns : goal.returns
returns c = sym (no_refusal _ _ (λ e. omega arith) (omega arith) (omega arith) (omega arith))
