-- `phr::read` meets its contract: it reads only what is not refused.
use Rattle.std.proofs.Common.{◌≤◌, length, sym, ◌∙◌, arith}
use Rattle.std.proofs.lemmas.Result.{err_from_is_err_and}
use Rattle.record.proofs.AnswerLaws.{error_left, left_answered}
use Rattle.record.proofs.ToldLaws.{refuses_nothing}
use Rattle.phr.specs.Reading.{header_tests, values_of}
use Rattle.phr.proofs.AnswerCases.{read_error, read_value}
use Rattle.phr.proofs.KindLaws.{first_kind}
use Rattle.phr.proofs.ReadCases.{Readable, unrefused_readable, sound_within}
use Rattle.phr.proofs.read.Goals as goal
use Rattle.phr.proofs.read.Goals.{In_ok-check_read}

-- what is known where nothing is refused
readable_there : (c : In_ok-check_read) → Readable c.args.bytes.now (length c.args.buffer.now)
readable_there c = unrefused_readable _ _ (refuses_nothing c.in_ok-check_read.ensures)

eight_there : (c : In_ok-check_read) → 8 ≤ length c.args.bytes.now
eight_there c = omega (arith, (readable_there c).sound, sound_within header_tests c.args.bytes.now)

pub returns-in_err-check_read : goal.returns-in_err-check_read
returns-in_err-check_read c =
    let p = err_from_is_err_and c.from_residual.result c.from_residual.ensures.1 in
    record { value = rw (p.1, p.2) (read_error _ _ _ c.in_err-check_read.ensures); buffer_after = error_left _ _ _ c.in_err-check_read.ensures }

pub count_of-count-requires : goal.count_of-count-requires
count_of-count-requires c = eight_there (goal.at.count_of-count-requires c).In_ok-check_read

pub read_values-requires : goal.read_values-requires
read_values-requires c =
    let r = (readable_there (goal.at.read_values-requires c).In_ok-check_read).counted in
    omega (arith, r.whole, r.enough)

pub kind_of-requires : goal.kind_of-requires
kind_of-requires c =
    let known = (goal.at.kind_of-requires c).In_ok-check_read in
    (eight_there known, first_kind _ (readable_there known).sound)

pub returns : goal.returns
unfolding values_of
returns c =
    let nothing = c.in_ok-check_read.ensures in
    record {
      value = read_value _ _ nothing _ c.kind_of.ensures c.count_of-count.ensures;
      buffer_after = left_answered _ _ (sym nothing) (c.read_values.ensures ∙ rw c.count_of-count.ensures);
    }
