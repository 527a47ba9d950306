-- `drift::slope_with_room` meets its contract.
use Rattle.std.proofs.Common.{sym, ◌∙◌, arith}
use Rattle.std.proofs.lemmas.Result.{err_from_is_err_and}
use Rattle.record.proofs.ToldLaws.{refuses, answered_not}
use Rattle.drift.proofs.DriftLaws.{sized_bounds, drift_by_range, removal_size_refuses, removal_no_room, removal_sample_outside}
use Rattle.drift.proofs.slope_with_room.Goals as goal

pub returns-in_err-check_size : goal.returns-in_err-check_size
returns-in_err-check_size c =
    let size = c.in_err-check_size.ensures in
    let p = err_from_is_err_and c.from_residual.result c.from_residual.ensures.1 in
    rw (p.1, p.2) (size ∙ sym (removal_size_refuses _ _ (refuses _ size)))

pub returns-then-room-count : goal.returns-then-room-count
returns-then-room-count c =
    let bounds = sized_bounds _ c.in_ok-check_size.ensures in
    rw c.at.ensures (sym (removal_no_room _ _ bounds.0 bounds.1 (omega arith)))

pub returns-in_err-new : goal.returns-in_err-new
returns-in_err-new c =
    let bounds = sized_bounds _ c.in_ok-check_size.ensures in
    let from = c.from_residual-in_err-new in
    let p = err_from_is_err_and from.result from.ensures.1 in
    rw (p.1, p.2)
    (sym (removal_sample_outside _ _ bounds.0 bounds.1 (omega arith) (c.in_err-new.ensures.refusal ∙ drift_by_range _ bounds.0 bounds.1) (answered_not c.in_err-new.field-0.0)))
