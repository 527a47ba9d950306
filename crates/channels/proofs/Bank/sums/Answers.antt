-- `channels::Bank::sums` meets its contract: the meter is the one that the bank holds.
use Rattle.std.proofs.Common.{ap, ◌∙◌}
use Rattle.std.proofs.lemmas.Result.{err_from_is_err_and}
use Rattle.channels.specs.Shares.{meter_of}
use Rattle.channels.specs.Answers.{bank_report_answer, channel_report_answer}
use Rattle.channels.proofs.ChannelLaws.{report_off_channel}
use Rattle.channels.proofs.Bank.sums.Goals as goal

pub returns-in_err-on : goal.returns-in_err-on
unfolding bank_report_answer channel_report_answer
returns-in_err-on c =
    let p = err_from_is_err_and c.from_residual.result c.from_residual.ensures.1 in
    rw (p.1, p.2) (report_off_channel _ _ _ c.in_err-on.ensures)

pub returns : goal.returns
unfolding bank_report_answer
returns c =
    let held = c.meter.ensures ∙ ap (meter_of c.args.self) c.in_ok-on.ensures in
    rw held at c.sums_on.ensures
