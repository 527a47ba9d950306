-- `drift::figure` meets its contract.
use Rattle.std.proofs.Common.{sym}
use Rattle.std.proofs.lemmas.Result.{err_from_is_err_and}
use Rattle.drift.proofs.DriftLaws.{figure_error, figure_answered}
use Rattle.drift.proofs.figure.Goals as goal

pub returns-in_err-sound : goal.returns-in_err-sound
returns-in_err-sound c =
    let p = err_from_is_err_and c.from_residual.result c.from_residual.ensures.1 in
    rw (p.1, p.2) (figure_error _ _ c.in_err-sound.ensures.refusal)

pub returns : goal.returns
returns c =
    let told = c.in_ok-sound.ensures in
    figure_answered _ (sym told.refusal) (rw told.same at c.figure_p.ensures) (rw told.same at c.figure_r.ensures)
