-- `drift::Sound::new` meets its contract.
use Rattle.std.proofs.Common.{sym, ◌∙◌}
use Rattle.std.proofs.lemmas.Result.{err_from_is_err_and}
use Rattle.record.proofs.ToldLaws.{refuses}
use Rattle.drift.proofs.DriftLaws.{sized_bounds, drift_size_refuses, drift_by_range}
use Rattle.drift.proofs.Sound.new.Goals as goal

pub returns-in_err-check_size-clause-refusal : goal.returns-in_err-check_size-clause-refusal
returns-in_err-check_size-clause-refusal c =
    let size = c.in_err-check_size.ensures in
    let p = err_from_is_err_and c.from_residual.result c.from_residual.ensures.1 in
    rw (p.1, p.2) (size ∙ sym (drift_size_refuses _ (refuses _ size)))

pub returns-in_err-check_range-clause-refusal : goal.returns-in_err-check_range-clause-refusal
returns-in_err-check_range-clause-refusal c =
    let bounds = sized_bounds _ c.in_ok-check_size.ensures in
    let from = c.from_residual-in_err-check_range in
    let p = err_from_is_err_and from.result from.ensures.1 in
    rw (p.1, p.2) (c.in_err-check_range.ensures ∙ sym (drift_by_range _ bounds.0 bounds.1))

pub invariant_of-result : goal.invariant_of-result
invariant_of-result c =
    let bounds = sized_bounds _ c.in_ok-check_size.ensures in record {
      unrefused = drift_by_range _ bounds.0 bounds.1 ∙ sym c.in_ok-check_range.ensures;
    }
