-- `record::check_record` meets its contract.
use Rattle.std.proofs.Common.{sym, ◌∙◌}
use Rattle.std.proofs.lemmas.Result.{err_from_is_err_and}
use Rattle.record.proofs.RefusalLaws.{size_refuses, size_gives_way}
use Rattle.record.proofs.ToldLaws.{refuses, refuses_nothing}
use Rattle.record.proofs.check_record.Goals as goal

pub returns-in_err-check_size : goal.returns-in_err-check_size
returns-in_err-check_size c =
    let size = c.in_err-check_size.ensures in
    let p = err_from_is_err_and c.from_residual.result c.from_residual.ensures.1 in
    rw (p.1, p.2) (size ∙ sym (size_refuses _ _ _ (refuses _ size)))

pub returns : goal.returns
returns c = c.check_range.ensures ∙ sym (size_gives_way _ _ _ (refuses_nothing c.in_ok-check_size.ensures))
