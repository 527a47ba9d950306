-- `noise::by_deviations` meets its contract.
use Rattle.std.proofs.lemmas.Result.{err_from_is_err_and}
use Rattle.noise.proofs.NoiseLaws.{type_error, type_given}
use Rattle.noise.proofs.by_deviations.Goals as goal

pub returns-in_err-check_deviations : goal.returns-in_err-check_deviations
returns-in_err-check_deviations c =
    let p = err_from_is_err_and c.from_residual.result c.from_residual.ensures.1 in
    rw (p.1, p.2) (type_error _ _ _ c.in_err-check_deviations.ensures)

pub returns : goal.returns
returns c = type_given _ _ c.in_ok-check_deviations.ensures c.noise_of.ensures
