-- `phr::refusals::check_write` meets its contract.
use Rattle.std.proofs.Common.{sym, ◌∙◌}
use Rattle.std.proofs.lemmas.Result.{err_from_is_err_and}
use Rattle.record.proofs.RefusalLaws.{refusal_stands, none_gives_way}
use Rattle.record.proofs.ToldLaws.{refuses, refuses_nothing}
use Rattle.phr.proofs.KindLaws.{number_most}
use Rattle.phr.proofs.WriteCases.{kind_passes}
use Rattle.phr.proofs.refusals.check_write.Goals as goal

pub returns-in_err-check_room : goal.returns-in_err-check_room
returns-in_err-check_room c =
    let r = c.in_err-check_room.ensures in
    let p = err_from_is_err_and c.from_residual.result c.from_residual.ensures.1 in
    rw (p.1, p.2) (r ∙ sym (kind_passes _ _ _ (number_most c.args.kind) ∙ refusal_stands _ _ (refuses _ r)))

pub returns : goal.returns
returns c =
    c.check_unfit.ensures ∙ sym (kind_passes _ _ _ (number_most c.args.kind) ∙ none_gives_way _ _ (refuses_nothing c.in_ok-check_room.ensures))
