-- `phr::write` meets its contract: it writes only what is not refused.
use Rattle.std.proofs.Common.{length, sym, arith}
use Rattle.std.proofs.lemmas.Result.{err_from_is_err_and}
use Rattle.record.proofs.AnswerLaws.{error_value, error_left, count_value, left_answered}
use Rattle.record.proofs.ToldLaws.{refuses_nothing}
use Rattle.phr.specs.Kinds.{number_of_kind}
use Rattle.phr.proofs.HeaderLaws.{file_written}
use Rattle.phr.proofs.WriteCases.{Writable, unrefused_writable}
use Rattle.phr.proofs.write.Goals as goal
use Rattle.phr.proofs.write.Goals.{In_ok-check_write}

-- what is known where nothing is refused
writable_there : (c : In_ok-check_write) → Writable 8 (number_of_kind c.args.kind) c.args.values.now (length c.args.buffer.now)
writable_there c = unrefused_writable _ _ _ (refuses_nothing c.in_ok-check_write.ensures)

pub returns-in_err-check_write : goal.returns-in_err-check_write
returns-in_err-check_write c =
    let p = err_from_is_err_and c.from_residual.result c.from_residual.ensures.1 in
    record { value = rw (p.1, p.2) (error_value _ _ c.in_err-check_write.ensures); buffer_after = error_left _ _ _ c.in_err-check_write.ensures }

pub write_first_eight-requires : goal.write_first_eight-requires
write_first_eight-requires c = omega (arith, (writable_there (goal.at.write_first_eight-requires c).In_ok-check_write).enough)

pub write_values-requires : goal.write_values-requires
write_values-requires c =
    omega (arith, (writable_there (goal.at.write_values-requires c).In_ok-check_write).enough, c.write_first_eight.auto.buffer)

pub returns : goal.returns
returns c =
    let nothing = c.in_ok-check_write.ensures in
    let w = writable_there (goal.at.returns c).In_ok-check_write in
    record {
      value = count_value _ nothing;
      buffer_after = left_answered _ _ (sym nothing) (file_written _ _ c.args.buffer.now (omega (arith, w.enough)) c.write_first_eight.ensures c.write_values.ensures);
    }
