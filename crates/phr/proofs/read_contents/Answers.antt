-- `phr::read_contents` meets its contract.
use Rattle.std.proofs.Common.{arith}
use Rattle.std.proofs.lemmas.Result.{err_from_is_err_and}
use Rattle.record.proofs.ToldLaws.{refuses_nothing}
use Rattle.phr.specs.Reading.{either_tests}
use Rattle.phr.proofs.AnswerCases.{header_error, header_value}
use Rattle.phr.proofs.KindLaws.{either_kind}
use Rattle.phr.proofs.ReadCases.{sound_within, unrefused_counted_header}
use Rattle.phr.proofs.read_contents.Goals as goal

pub returns-in_err-check_counted_header : goal.returns-in_err-check_counted_header
returns-in_err-check_counted_header c =
    let p = err_from_is_err_and c.from_residual.result c.from_residual.ensures.1 in
    rw (p.1, p.2) (header_error _ _ c.in_err-check_counted_header.ensures)

pub said-requires : goal.said-requires
said-requires c =
    let header = (unrefused_counted_header _ (refuses_nothing c.in_ok-check_counted_header.ensures)).0 in
    (omega (arith, header.sound, sound_within either_tests c.args.bytes.now), either_kind _ header.sound, header.present)

pub returns : goal.returns
returns c = header_value _ c.in_ok-check_counted_header.ensures _ c.said.ensures
