-- `phr::read_either` meets its contract: it reads only what is not refused.
use Rattle.std.proofs.Common.{◌≤◌, length, sym, ◌∙◌, arith}
use Rattle.std.proofs.lemmas.Result.{err_from_is_err_and}
use Rattle.record.proofs.AnswerLaws.{error_left, left_answered}
use Rattle.record.proofs.ToldLaws.{refuses_nothing}
use Rattle.phr.specs.Reading.{either_tests, record_values}
use Rattle.phr.proofs.AnswerCases.{record_error, record_value}
use Rattle.phr.proofs.KindLaws.{either_kind}
use Rattle.phr.proofs.ReadCases.{ReadableRecord, unrefused_record, sound_within}
use Rattle.phr.proofs.read_either.Goals as goal
use Rattle.phr.proofs.read_either.Goals.{In_ok-check_read_record}

-- what is known where nothing is refused
readable_there : (c : In_ok-check_read_record) → ReadableRecord c.args.bytes.now (length c.args.buffer.now)
readable_there c = unrefused_record _ _ (refuses_nothing c.in_ok-check_read_record.ensures)

eight_there : (c : In_ok-check_read_record) → 8 ≤ length c.args.bytes.now
eight_there c = omega (arith, (readable_there c).header.sound, sound_within either_tests c.args.bytes.now)

pub returns-in_err-check_read_record : goal.returns-in_err-check_read_record
returns-in_err-check_read_record c =
    let p = err_from_is_err_and c.from_residual.result c.from_residual.ensures.1 in
    record { value = rw (p.1, p.2) (record_error _ _ _ c.in_err-check_read_record.ensures); buffer_after = error_left _ _ _ c.in_err-check_read_record.ensures }

pub head_length-requires : goal.head_length-requires
head_length-requires c = eight_there (goal.at.head_length-requires c).In_ok-check_read_record

pub count_of-requires : goal.count_of-requires
count_of-requires c = eight_there (goal.at.count_of-requires c).In_ok-check_read_record

pub read_values-requires : goal.read_values-requires
read_values-requires c =
    let r = (readable_there (goal.at.read_values-requires c).In_ok-check_read_record).counted in
    omega (arith, r.whole, r.enough, c.count_of.ensures, c.head_length.ensures)

pub said-requires : goal.said-requires
said-requires c =
    let known = (goal.at.said-requires c).In_ok-check_read_record in
    let header = (readable_there known).header in
    (eight_there known, either_kind _ header.sound, header.present)

pub returns : goal.returns
unfolding record_values
returns c =
    let nothing = c.in_ok-check_read_record.ensures in
    record {
      value = record_value _ _ nothing _ c.said.ensures;
      buffer_after = left_answered _ _ (sym nothing) (c.read_values.ensures ∙ rw (c.count_of.ensures, c.head_length.ensures));
    }
