-- `channels::Bank::with_fresh` meets its contract: the meter is put where the channel's was.
use Rattle.std.proofs.lemmas.Result.{err_from_is_err_and}
use Rattle.channels.specs.Shares.{meter_of}
use Rattle.channels.specs.Answers.{bank_start_answer, channel_start_answer}
use Rattle.channels.proofs.ChannelLaws.{told_off_channel, bank_error, bank_given}
use Rattle.channels.proofs.Bank.with_fresh.Goals as goal

pub returns-in_err-on : goal.returns-in_err-on
unfolding bank_start_answer channel_start_answer
returns-in_err-on c =
    let p = err_from_is_err_and c.from_residual.result c.from_residual.ensures.1 in
    rw (p.1, p.2) (bank_error c.args.self c.args.channel (meter_of c.args.self c.args.channel) _ (told_off_channel _ _ _ _ c.in_err-on.ensures))

pub returns-in_err-next : goal.returns-in_err-next
unfolding bank_start_answer
returns-in_err-next c =
    let old = meter_of c.args.self c.args.channel in
    let from = c.from_residual-in_err-next in
    let p = err_from_is_err_and from.result from.ensures.1 in
    rw (p.1, p.2) (bank_error c.args.self c.args.channel old _ (c.in_err-next.ensures old))

pub returns : goal.returns
unfolding bank_start_answer
returns c =
    let old = meter_of c.args.self c.args.channel in
    rw (c.with_meter.ensures, c.in_ok-on.ensures) (bank_given c.args.self c.args.channel _ (c.in_ok-next.ensures old))
