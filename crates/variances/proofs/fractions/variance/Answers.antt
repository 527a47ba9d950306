-- `variances::fractions::variance` meets its contract.
use mathlib.Core.Path.{sym, ◌∙◌}
use Rattle.std.proofs.lemmas.Result.{err_from_is_err_and}
use Rattle.wide.specs.Wide.{value}
use Rattle.variances.proofs.AnswerLaws.{error_fraction, fraction_allowed}
use Rattle.variances.proofs.FigureLaws.{Allowed, nothing_refused, square_fits, scaled_square_fits, denominator_fits, denominator_above_nought}
use Rattle.variances.proofs.fractions.variance.Goals as goal
use Rattle.variances.proofs.fractions.variance.Goals.{In_ok-check}

allowed : (c : In_ok-check) → let x = c.args in Allowed (value x.sum.total) x.m x.sum.count
allowed c = nothing_refused c.in_ok-check.ensures

pub returns-in_err-check : goal.returns-in_err-check
returns-in_err-check c =
    let p = err_from_is_err_and c.from_residual.result c.from_residual.ensures.1 in
    rw (p.1, p.2) (error_fraction _ _ _ c.in_err-check.ensures)

pub overflow_mul-m : goal.overflow_mul-m
overflow_mul-m c = square_fits (allowed (goal.at.overflow_mul-m c).In_ok-check)

pub overflow_mul-scale : goal.overflow_mul-scale
overflow_mul-scale c = scaled_square_fits (allowed (goal.at.overflow_mul-scale c).In_ok-check) _ c.requires.1

pub overflow_mul-scale-2 : goal.overflow_mul-scale-2
overflow_mul-scale-2 c = denominator_fits (allowed (goal.at.overflow_mul-scale-2 c).In_ok-check) _ c.requires.1

pub lowest-requires : goal.lowest-requires
lowest-requires c = denominator_above_nought (allowed (goal.at.lowest-requires c).In_ok-check) _ c.requires.0

pub returns : goal.returns
returns c = c.lowest.ensures ∙ sym (fraction_allowed _ _ _ _ _ (allowed (goal.at.returns c).In_ok-check))
