-- `meter::Meter::sums` meets its contract.
use mathlib.Core.Path.{refl}
use Rattle.std.proofs.lemmas.Result.{err_from_is_err_and}
use Rattle.meter.proofs.AnswerLaws.{report_given, report_refused}
use Rattle.meter.proofs.Meter.sums.Goals as goal

pub returns-in_err-check : goal.returns-in_err-check
returns-in_err-check c =
    let p = err_from_is_err_and c.from_residual.result c.from_residual.ensures.1 in
    rw (p.1, p.2, c.in_err-check.ensures.1) (report_refused _ c.in_err-check.ensures.0 refl)

pub returns : goal.returns
returns c = report_given _ c.in_ok-check.ensures c.part.ensures c.part-2.ensures
