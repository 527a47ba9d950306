-- `sums::modified` meets its contract.
use mathlib.Core.Path.{sym, ap, ◌∙◌}
use native.Mathlib.Omega.{arith}
use Rattle.std.proofs.lemmas.Result.{err_from_is_err_and}
use Rattle.record.proofs.RefusalLaws.{Sound}
use Rattle.sums.specs.Published.{modified_count}
use Rattle.sums.specs.Answers.{modified_demand}
use Rattle.sums.proofs.AnswerLaws.{with_count, record_sound, modified_none, modified_error, modified_sum_given}
use Rattle.sums.proofs.modified.Goals as goal
use Rattle.sums.proofs.modified.Goals.{In_ok-check_record}

sound : (c : In_ok-check_record) → let x = c.args in Sound modified_demand x.m x.samples.now
sound c = record_sound c.in_ok-check_record.ensures

pub returns-in_err-check_record : goal.returns-in_err-check_record
returns-in_err-check_record c =
    let p = err_from_is_err_and c.from_residual.result c.from_residual.ensures.1 in
    rw (p.1, p.2) (modified_error _ _ _ c.in_err-check_record.ensures)

pub invariant_of-record : goal.invariant_of-record
invariant_of-record c = record { unrefused = modified_none _ _ (sound (goal.at.invariant_of-record c).In_ok-check_record) }

pub modified_total-total-requires : goal.modified_total-total-requires
modified_total-total-requires c = omega (arith, (sound (goal.at.modified_total-total-requires c).In_ok-check_record).enough)

pub overflow_mul-count : goal.overflow_mul-count
overflow_mul-count c = omega (arith, (sound (goal.at.overflow_mul-count c).In_ok-check_record).factor_most)

pub overflow_sub-count : goal.overflow_sub-count
overflow_sub-count c = omega (arith, (sound (goal.at.overflow_sub-count c).In_ok-check_record).enough)

pub returns : goal.returns
unfolding modified_count
returns c = ap (with_count _) c.modified_total-total.ensures ∙ sym (modified_sum_given _ _ (sound (goal.at.returns c).In_ok-check_record))
