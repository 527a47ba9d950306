-- `listing::samples::phase` meets its contract.
use Rattle.std.proofs.Common.{refl}
use Rattle.std.proofs.lemmas.Result.{err_from_is_err_and}
use Rattle.listing.proofs.SheetCases.{values_counted, values_in_front}
use Rattle.listing.proofs.samples.phase.Goals as goal

pub returns-in_err-contents-clause-value : goal.returns-in_err-contents-clause-value
returns-in_err-contents-clause-value c =
    let p = err_from_is_err_and c.from_residual.result c.from_residual.ensures.1 in
    rw (p.1, p.2) (values_counted _ 4096 (rw c.requires at c.in_err-contents.ensures.value))

pub returns : goal.returns
returns c =
    let read = c.in_ok-contents.ensures in
    let answered = rw c.requires at read.value in
    record { value = values_counted _ 4096 answered; in_front = values_in_front _ 4096 answered refl _ (rw c.requires at read.buffer_after) }
