-- `frequency::check_differences` meets its contract.
use mathlib.Core.Path.{sym, ◌∙◌}
use native.Mathlib.Omega.{arith}
use Rattle.frequency.proofs.FrequencyLaws.{samples_too_many, no_sample, no_room_for_differences, range_decides}
use Rattle.frequency.proofs.check_differences.Goals as goal

pub returns-then-count-gt-MOST_SAMPLES : goal.returns-then-count-gt-MOST_SAMPLES
returns-then-count-gt-MOST_SAMPLES c = rw c.at.ensures (sym (samples_too_many _ _ (omega arith)))

pub returns-then-count-eq0 : goal.returns-then-count-eq0
returns-then-count-eq0 c = rw c.at-then-count-eq0.ensures (sym (no_sample _ _ (omega arith) (omega arith)))

pub returns-then-room-count : goal.returns-then-room-count
returns-then-room-count c = rw c.at-then-room-count.ensures (sym (no_room_for_differences _ _ (omega arith) (λ e. omega arith) (omega arith)))

pub returns : goal.returns
returns c = c.check_range.ensures ∙ sym (range_decides _ _ (omega arith) (λ e. omega arith) (omega arith))
