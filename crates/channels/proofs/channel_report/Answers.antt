-- `channels::channel_report` meets its contract.
use Rattle.std.proofs.Common.{◌∙◌, arith}
use Rattle.channels.specs.Answers.{channel_report_answer}
use Rattle.channels.proofs.ChannelLaws.{report_off_channel, on_channel}
use Rattle.channels.proofs.channel_report.Goals as goal

pub returns-in-Ok : goal.returns-in-Ok
unfolding channel_report_answer
returns-in-Ok c = on_channel _ (omega (arith, c.in-Ok.ensures)) c.report.ensures

pub returns-in-Err : goal.returns-in-Err
unfolding channel_report_answer
returns-in-Err c = c.from.ensures ∙ report_off_channel _ _ _ c.in-Err.ensures
