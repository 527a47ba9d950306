-- `sums::allan` meets its contract.
use mathlib.Core.Path.{sym, ap, ◌∙◌}
use native.Mathlib.Omega.{arith}
use Rattle.std.proofs.lemmas.Result.{err_from_is_err_and}
use Rattle.record.proofs.RefusalLaws.{Sound, sound_none}
use Rattle.sums.specs.Published.{allan_count}
use Rattle.sums.specs.Answers.{allan_demand}
use Rattle.sums.proofs.AnswerLaws.{with_count, record_sound, allan_error, allan_sum_given}
use Rattle.sums.proofs.allan.Goals as goal
use Rattle.sums.proofs.allan.Goals.{In_ok-check_record}

sound : (c : In_ok-check_record) → let x = c.args in Sound allan_demand x.m x.samples.now
sound c = record_sound c.in_ok-check_record.ensures

pub returns-in_err-check_record : goal.returns-in_err-check_record
returns-in_err-check_record c =
    let p = err_from_is_err_and c.from_residual.result c.from_residual.ensures.1 in
    rw (p.1, p.2) (allan_error _ _ _ c.in_err-check_record.ensures)

pub invariant_of-record : goal.invariant_of-record
invariant_of-record c = record { unrefused = sound_none _ _ _ (sound (goal.at.invariant_of-record c).In_ok-check_record) }

pub overflow_mul-count : goal.overflow_mul-count
overflow_mul-count c = omega (arith, (sound (goal.at.overflow_mul-count c).In_ok-check_record).factor_most)

pub overflow_sub-count : goal.overflow_sub-count
overflow_sub-count c = omega (arith, (sound (goal.at.overflow_sub-count c).In_ok-check_record).enough)

pub returns : goal.returns
unfolding allan_count
returns c = ap (with_count _) c.allan_total-total.ensures ∙ sym (allan_sum_given _ _ (sound (goal.at.returns c).In_ok-check_record))
