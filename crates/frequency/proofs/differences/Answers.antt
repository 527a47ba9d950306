-- `frequency::differences` meets its contract.
use Rattle.std.proofs.Common.{sym}
use Rattle.std.proofs.lemmas.Result.{err_from_is_err_and}
use Rattle.record.proofs.AnswerLaws.{error_value, error_left, count_value, left_answered}
use Rattle.frequency.proofs.FrequencyLaws.{unrefused_differs}
use Rattle.frequency.proofs.differences.Goals as goal

pub returns-in_err-check_differences : goal.returns-in_err-check_differences
returns-in_err-check_differences c =
    let p = err_from_is_err_and c.from_residual.result c.from_residual.ensures.1 in
    record { value = rw (p.1, p.2) (error_value _ _ c.in_err-check_differences.ensures); buffer_after = error_left _ _ _ c.in_err-check_differences.ensures }

pub write_differences-requires : goal.write_differences-requires
write_differences-requires c =
    let known = unrefused_differs _ _ (sym c.in_ok-check_differences.ensures) in (known.in_range_lem, known.room_enough)

pub overflow_sub-result : goal.overflow_sub-result
overflow_sub-result c = (unrefused_differs _ _ (sym c.in_ok-check_differences.ensures)).some

pub returns : goal.returns
returns c = record { value = count_value _ c.in_ok-check_differences.ensures; buffer_after = left_answered _ _ (sym c.in_ok-check_differences.ensures) c.write_differences.ensures }
