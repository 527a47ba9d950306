-- `noise::of_record` meets its contract.
use mathlib.Core.Path.{sym, ap₂, ◌∙◌}
use native.Mathlib.Omega.{arith}
use Rattle.std.proofs.lemmas.Result.{err_from_is_err_and}
use Rattle.record.proofs.RefusalLaws.{Sound}
use Rattle.sums.proofs.AnswerLaws.{record_sound}
use Rattle.noise.specs.Noise.{type_answer}
use Rattle.noise.proofs.NoiseLaws.{noise_demand, record_error, record_given, sound_at_factor, sound_at_double}
use Rattle.noise.proofs.of_record.Goals as goal
use Rattle.noise.proofs.of_record.Goals.{In_ok-check_record}

sound : (c : In_ok-check_record) → let x = c.args in Sound noise_demand x.m x.samples.now
sound c = record_sound c.in_ok-check_record.ensures

pub returns-in_err-check_record : goal.returns-in_err-check_record
returns-in_err-check_record c =
    let p = err_from_is_err_and c.from_residual.result c.from_residual.ensures.1 in
    rw (p.1, p.2) (record_error _ _ _ c.in_err-check_record.ensures)

pub time_deviation-requires : goal.time_deviation-requires
time_deviation-requires c = sound_at_factor _ _ (sound (goal.at.time_deviation-requires c).In_ok-check_record)

pub overflow_mul-m : goal.overflow_mul-m
overflow_mul-m c = omega (arith, (sound (goal.at.overflow_mul-m c).In_ok-check_record).factor_most)

pub time_deviation-requires-2 : goal.time_deviation-requires-2
time_deviation-requires-2 c = sound_at_double _ _ (sound (goal.at.time_deviation-requires-2 c).In_ok-check_record)

pub returns : goal.returns
returns c =
    c.by_deviations.ensures
    ∙ ap₂ type_answer c.time_deviation.ensures c.time_deviation-2.ensures
    ∙ sym (record_given _ _ c.in_ok-check_record.ensures)
