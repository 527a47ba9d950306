-- `channels::Channel::fresh` meets its contract.
use Rattle.std.proofs.Common.{ap, ◌∙◌}
use Rattle.meter.specs.Answers.{start_answer}
use Rattle.channels.specs.Answers.{channel_start_answer}
use Rattle.channels.proofs.ChannelLaws.{part_cut, on_channel}
use Rattle.channels.proofs.Channel.fresh.Goals as goal

pub returns : goal.returns
unfolding channel_start_answer
returns c old =
    on_channel _ c.args.self.within (c.new.ensures old ∙ ap (start_answer old c.args.m) (part_cut c.args.self.index c.args.ring.now c.span-from.ensures.0 c.span-from.ensures.1))
