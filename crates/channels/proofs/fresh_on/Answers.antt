-- `channels::fresh_on` meets its contract.
use Rattle.std.proofs.lemmas.Result.{err_from_is_err_and}
use Rattle.channels.specs.Answers.{channel_start_answer}
use Rattle.channels.proofs.ChannelLaws.{told_off_channel}
use Rattle.channels.proofs.fresh_on.Goals as goal

pub returns-in_err-on : goal.returns-in_err-on
unfolding channel_start_answer
returns-in_err-on c old =
    let p = err_from_is_err_and c.from_residual.result c.from_residual.ensures.1 in
    rw (p.1, p.2) (told_off_channel _ _ _ _ c.in_err-on.ensures)
