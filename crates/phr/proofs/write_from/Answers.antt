-- `phr::write_from` meets its contract: it writes only what is not refused.
use Rattle.std.proofs.Common.{◌≡◌, length, sym, arith}
use Rattle.std.proofs.lemmas.Result.{err_from_is_err_and}
use Rattle.record.specs.Refusals.{none}
use Rattle.record.proofs.AnswerLaws.{error_value, error_left, count_value, left_answered}
use Rattle.record.proofs.ToldLaws.{refuses_nothing}
use Rattle.phr.specs.Kinds.{number_of_kind}
use Rattle.phr.specs.Writing.{write_record_refusal}
use Rattle.phr.proofs.HeaderLaws.{file_from_written}
use Rattle.phr.proofs.SignLaws.{loaded_value}
use Rattle.phr.proofs.WriteCases.{WritableFrom, unrefused_from}
use Rattle.phr.proofs.write_from.Goals as goal
use Rattle.phr.proofs.write_from.Goals.{In_ok-check_write_record}

-- nothing is refused, and what is known then
unrefused : (c : In_ok-check_write_record) → let a = c.args in none ≡ write_record_refusal (number_of_kind a.kind) a.start a.values.now (length a.buffer.now)
unrefused c = rw (loaded_value c.args.start c.ranges.start.sfits) at c.in_ok-check_write_record.ensures

writable_there : (c : In_ok-check_write_record) → let a = c.args in WritableFrom (number_of_kind a.kind) a.start a.values.now (length a.buffer.now)
writable_there c = unrefused_from _ _ _ _ (refuses_nothing (unrefused c))

pub returns-in_err-check_write_record : goal.returns-in_err-check_write_record
returns-in_err-check_write_record c =
    let p = err_from_is_err_and c.from_residual.result c.from_residual.ensures.1 in
    let refused = rw (loaded_value c.args.start c.ranges.start.sfits) at c.in_err-check_write_record.ensures in
    record { value = rw (p.1, p.2) (error_value _ _ refused); buffer_after = error_left _ _ _ refused }

pub write_first_eight-requires : goal.write_first_eight-requires
write_first_eight-requires c = omega (arith, (writable_there (goal.at.write_first_eight-requires c).In_ok-check_write_record).writable.enough)

pub write_value-requires : goal.write_value-requires
write_value-requires c =
    omega (arith, (writable_there (goal.at.write_value-requires c).In_ok-check_write_record).writable.enough, c.write_first_eight.auto.buffer)

pub write_values-requires : goal.write_values-requires
write_values-requires c =
    omega (arith, (writable_there (goal.at.write_values-requires c).In_ok-check_write_record).writable.enough, c.write_first_eight.auto.buffer, c.write_value.auto.buffer)

pub returns : goal.returns
returns c =
    let nothing = unrefused (goal.at.returns c).In_ok-check_write_record in
    let w = writable_there (goal.at.returns c).In_ok-check_write_record in
    let loaded = loaded_value c.args.start c.ranges.start.sfits in
    record {
      value = count_value _ nothing;
      buffer_after = left_answered _ _ (sym nothing)
          (file_from_written _ _ _ c.args.buffer.now (omega (arith, w.writable.enough)) loaded c.write_first_eight.ensures c.write_value.ensures c.write_values.ensures);
    }
