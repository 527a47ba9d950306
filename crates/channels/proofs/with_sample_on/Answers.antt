-- `channels::with_sample_on` meets its contract.
use Rattle.std.proofs.lemmas.Result.{err_from_is_err_and}
use Rattle.channels.specs.Answers.{channel_sample_answer}
use Rattle.channels.proofs.ChannelLaws.{sample_off_channel, told_off_channel}
use Rattle.channels.proofs.with_sample_on.Goals as goal

pub returns-in_err-on : goal.returns-in_err-on
unfolding channel_sample_answer
returns-in_err-on c =
    let off = c.in_err-on.ensures in
    let p = err_from_is_err_and c.from_residual.result c.from_residual.ensures.1 in
    (rw (p.1, p.2) (told_off_channel _ _ _ _ off), (sample_off_channel c.args.meter c.args.channel c.args.ring.now c.args.x off.0).1)
