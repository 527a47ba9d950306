-- `meter::Meter::after_gap` meets its contract.
use Rattle.std.proofs.lemmas.Result.{err_from_is_err_and}
use Rattle.meter.proofs.AnswerLaws.{gap_given, gap_refused}
use Rattle.meter.proofs.Meter.after_gap.Goals as goal

pub returns-in_err-check : goal.returns-in_err-check
returns-in_err-check c =
    let p = err_from_is_err_and c.from_residual.result c.from_residual.ensures.1 in
    rw (p.1, p.2, c.in_err-check.ensures.1) (gap_refused _ c.in_err-check.ensures.0)

pub returns : goal.returns
returns c = gap_given _ c.in_ok-check.ensures c.with_gap.ensures
