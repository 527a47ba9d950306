-- `drift::removed` meets its contract: every refusal comes before the first entry is written.
use Rattle.std.proofs.Common.{◌≡◌, length, sym, ◌∙◌}
use Rattle.std.proofs.lemmas.Result.{err_from_is_err_and}
use Rattle.record.proofs.AnswerLaws.{error_value, error_left, count_value, left_answered}
use Rattle.drift.specs.Drift.{removal_refusal}
use Rattle.drift.proofs.DriftLaws.{results_refusal, removal_by_results}
use Rattle.drift.proofs.removed.Goals as goal
use Rattle.drift.proofs.removed.Goals.{In_ok-slope}

pub returns-in_err-slope : goal.returns-in_err-slope
returns-in_err-slope c =
    let refused = c.in_err-slope.ensures in
    let p = err_from_is_err_and c.from_residual.result c.from_residual.ensures.1 in
    record { value = rw (p.1, p.2) (error_value _ _ refused); buffer_after = error_left _ _ _ refused }

-- the slope is the record's, and its results decide
decided : (c : In_ok-slope) → let x = c.args in removal_refusal x.samples.now (length x.buffer.now) ≡ results_refusal x.samples.now
decided c =
    let told = c.in_ok-slope.ensures in
    removal_by_results _ _ (rw told.0 at c.in_ok-slope.slope.unrefused) told.1

pub returns-in_err-check_results : goal.returns-in_err-check_results
returns-in_err-check_results c =
    let same = c.in_ok-slope.ensures.0 in
    let outside = rw same at c.in_err-check_results.ensures in
    let refused = outside ∙ sym (decided (goal.at.returns-in_err-check_results c).In_ok-slope) in
    let from = c.from_residual-in_err-check_results in
    let p = err_from_is_err_and from.result from.ensures.1 in
    record { value = rw (p.1, p.2) (error_value _ _ refused); buffer_after = error_left _ _ _ refused }

pub returns : goal.returns
returns c =
    let same = c.in_ok-slope.ensures.0 in
    let nothing = rw same at c.in_ok-check_results.ensures in
    let unrefused = nothing ∙ sym (decided (goal.at.returns c).In_ok-slope) in
    record { value = count_value _ unrefused; buffer_after = left_answered _ _ (sym unrefused) (rw same at c.write_results.ensures) }
