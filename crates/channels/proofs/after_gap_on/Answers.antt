-- `channels::after_gap_on` meets its contract.
use Rattle.std.proofs.Common.{arith}
use Rattle.std.proofs.lemmas.Result.{err_from_is_err_and}
use Rattle.channels.specs.Answers.{channel_gap_answer}
use Rattle.channels.proofs.ChannelLaws.{told_off_channel, on_channel}
use Rattle.channels.proofs.after_gap_on.Goals as goal

pub returns-in_err-new : goal.returns-in_err-new
unfolding channel_gap_answer
returns-in_err-new c =
    let p = err_from_is_err_and c.from_residual.result c.from_residual.ensures.1 in
    rw (p.1, p.2) (told_off_channel _ _ _ _ c.in_err-new.ensures)

pub returns : goal.returns
unfolding channel_gap_answer
returns c = on_channel _ (omega (arith, c.in_ok-new.ensures)) c.after_gap.ensures
