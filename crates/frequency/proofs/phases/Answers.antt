-- `frequency::phases` meets its contract.
use Rattle.std.proofs.Common.{◌≡◌, sym, w64}
use Rattle.std.proofs.lemmas.Result.{err_from_is_err_and}
use mir.Facts.{to_z-of_z}
use Rattle.record.specs.Refusals.{none}
use Rattle.record.proofs.AnswerLaws.{error_value, error_left, count_value, left_answered}
use Rattle.frequency.specs.Frequency.{phase_refusal_from}
use Rattle.frequency.proofs.FrequencyLaws.{unrefused_stays, phases_have_room}
use Rattle.frequency.proofs.phases.Goals as goal
use Rattle.frequency.proofs.phases.Goals.{In_ok-check_phases}
use Rattle.std.proofs.Common.{length}

-- nothing is refused
unrefused : (c : In_ok-check_phases) → let x = c.args in none ≡ phase_refusal_from x.start x.readings.now (length x.buffer.now)
unrefused c = rw (to_z-of_z {w = w64} c.ranges.start) at c.in_ok-check_phases.ensures

pub returns-in_err-check_phases : goal.returns-in_err-check_phases
returns-in_err-check_phases c =
    let p = err_from_is_err_and c.from_residual.result c.from_residual.ensures.1 in
    let refused = rw (to_z-of_z {w = w64} c.ranges.start) at c.in_err-check_phases.ensures in
    record { value = rw (p.1, p.2) (error_value _ _ refused); buffer_after = error_left _ _ _ refused }

pub write_phases-requires : goal.write_phases-requires
write_phases-requires c =
    let nothing = sym (unrefused (goal.at.write_phases-requires c).In_ok-check_phases) in
    let known = unrefused_stays _ _ _ nothing in
    rw (to_z-of_z {w = w64} c.ranges.start) (known.in_range_lem, known.stay, phases_have_room _ _ _ nothing)

pub returns : goal.returns
returns c =
    let nothing = unrefused (goal.at.returns c).In_ok-check_phases in
    record { value = count_value _ nothing; buffer_after = left_answered _ _ (sym nothing) (rw (to_z-of_z {w = w64} c.ranges.start) at c.write_phases.ensures) }
