-- `channels::Bank::after_gap` meets its contract: the meter is the one that the bank holds, and it is put where that was.
use Rattle.std.proofs.Common.{ap, ◌∙◌}
use Rattle.std.proofs.lemmas.Result.{err_from_is_err_and}
use Rattle.channels.specs.Shares.{meter_of}
use Rattle.channels.specs.Answers.{bank_gap_answer, channel_gap_answer}
use Rattle.channels.proofs.ChannelLaws.{told_off_channel, bank_error, bank_given}
use Rattle.channels.proofs.Bank.after_gap.Goals as goal

pub returns-in_err-paused : goal.returns-in_err-paused
unfolding bank_gap_answer channel_gap_answer
returns-in_err-paused c =
    let p = err_from_is_err_and c.from_residual.result c.from_residual.ensures.1 in
    rw (p.1, p.2) (bank_error c.args.self c.args.channel (meter_of c.args.self c.args.channel) _ (told_off_channel _ _ _ _ c.in_err-paused.ensures))

pub returns-in_err-next : goal.returns-in_err-next
unfolding bank_gap_answer
returns-in_err-next c =
    let held = c.meter.ensures ∙ ap (meter_of c.args.self) c.in_ok-paused.ensures in
    let told = rw held at c.in_err-next.ensures in
    let from = c.from_residual-in_err-next in
    let p = err_from_is_err_and from.result from.ensures.1 in
    rw (p.1, p.2) (bank_error c.args.self c.args.channel _ _ told)

pub returns : goal.returns
unfolding bank_gap_answer
returns c =
    let held = c.meter.ensures ∙ ap (meter_of c.args.self) c.in_ok-paused.ensures in
    let told = rw held at c.in_ok-next.ensures in
    rw (c.with_meter.ensures, c.in_ok-paused.ensures) (bank_given c.args.self c.args.channel _ told)
