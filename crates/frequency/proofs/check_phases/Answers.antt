-- `frequency::check_phases` meets its contract.
use mathlib.Core.Path.{◌≡◌, sym, ◌∙◌}
use mathlib.Core.Bool.{true}
use native.Mathlib.Omega.{arith}
use mir.Syntax.{w64}
use mir.Val.{of_z, to_z}
use mir.Facts.{to_z-of_z}
use Rattle.record.specs.Refusals.{in_range}
use Rattle.record.proofs.RangeLaws.{sample_bounded, loaded_in_range}
use Rattle.frequency.proofs.FrequencyLaws.{no_reading_leaves, readings_too_many, no_room_for_phases, start_outside, reading_leaves, phases_unrefused}
use Rattle.frequency.proofs.check_phases.Goals as goal
use Rattle.frequency.proofs.check_phases.Goals.{Else-not-in_range}

-- the start as the code reads it is the start, and its test tells
start_read : (c : Else-not-in_range) → let x = c.args.start in to_z w64 (of_z w64 x) ≡ x
start_read c = to_z-of_z {w = w64} c.ranges.start

start_inside : (c : Else-not-in_range) → in_range (to_z w64 (of_z w64 c.args.start)) ≡ true
start_inside c = sym c.in_range.ensures ∙ c.if-not-in_range.false

pub returns-then-count-gt-MOST_READINGS : goal.returns-then-count-gt-MOST_READINGS
returns-then-count-gt-MOST_READINGS c = rw c.at.ensures (sym (readings_too_many _ _ _ (omega arith)))

pub returns-then-room-count : goal.returns-then-room-count
returns-then-room-count c = rw c.at-then-room-count.ensures (sym (no_room_for_phases _ _ _ (omega arith) (omega arith)))

pub returns-then-not-in_range : goal.returns-then-not-in_range
returns-then-not-in_range c =
    let outside = loaded_in_range c.args.start c.ranges.start.sfits c.in_range.ensures c.if-not-in_range.true in
    rw c.at-then-not-in_range.ensures (sym (start_outside _ _ _ (omega arith) (omega arith) outside))

pub first_leaving-leaving-requires : goal.first_leaving-leaving-requires
first_leaving-leaving-requires c = sample_bounded _ (start_inside (goal.at.first_leaving-leaving-requires c).Else-not-in_range)

pub returns-then-leaving-count : goal.returns-then-leaving-count
returns-then-leaving-count c =
    let here = (goal.at.returns-then-leaving-count c).Else-not-in_range in
    rw c.at-then-leaving-count.ensures
    (rw (← start_read here) (sym (reading_leaves _ _ _ (omega arith) (omega arith) (start_inside here) c.first_leaving-leaving.result (omega arith) (omega arith))))

pub returns : goal.returns
returns c =
    let here = (goal.at.returns c).Else-not-in_range in
    rw (← start_read here) (sym (phases_unrefused _ _ _ (omega arith) (omega arith) (start_inside here) (no_reading_leaves _ _ (omega arith))))
