-- `variances::deviations::of_variance` meets its contract.
use mathlib.Core.Path.{sym, ◌∙◌}
use Rattle.std.proofs.lemmas.Result.{err_from_is_err_and}
use Prim.Native.Nat.{◌*◌}
use Rattle.wide.specs.Wide.{value}
use Rattle.variances.specs.Deviations.{deviation}
use Rattle.variances.proofs.AnswerLaws.{figure_error, figure_allowed}
use Rattle.variances.proofs.FigureLaws.{Allowed, nothing_refused, square_fits, scaled_square_fits, denominator_fits, denominator_above_nought}
use Rattle.variances.proofs.deviations.of_variance.Goals as goal
use Rattle.variances.proofs.deviations.of_variance.Goals.{In_ok-check}

allowed : (c : In_ok-check) → let x = c.args in Allowed (value x.sum.total) x.m x.sum.count
allowed c = nothing_refused c.in_ok-check.ensures

pub returns-in_err-check : goal.returns-in_err-check
returns-in_err-check c =
    let x = c.args in
    let p = err_from_is_err_and c.from_residual.result c.from_residual.ensures.1 in
    rw (p.1, p.2) (figure_error _ _ _ (deviation (value x.sum.total) (x.scale * (x.m * x.m) * x.sum.count)) _ c.in_err-check.ensures)

pub overflow_mul-m : goal.overflow_mul-m
overflow_mul-m c = square_fits (allowed (goal.at.overflow_mul-m c).In_ok-check)

pub overflow_mul-scale : goal.overflow_mul-scale
overflow_mul-scale c = scaled_square_fits (allowed (goal.at.overflow_mul-scale c).In_ok-check) _ c.requires.1

pub overflow_mul-scale-2 : goal.overflow_mul-scale-2
overflow_mul-scale-2 c = denominator_fits (allowed (goal.at.overflow_mul-scale-2 c).In_ok-check) _ c.requires.1

pub deviation-requires : goal.deviation-requires
deviation-requires c = (denominator_above_nought (allowed (goal.at.deviation-requires c).In_ok-check) _ c.requires.0, (allowed (goal.at.deviation-requires c).In_ok-check).sum_below)

pub returns : goal.returns
returns c =
    let x = c.args in
    c.deviation.ensures ∙ sym (figure_allowed _ _ _ (deviation (value x.sum.total) (x.scale * (x.m * x.m) * x.sum.count)) (allowed (goal.at.returns c).In_ok-check))
