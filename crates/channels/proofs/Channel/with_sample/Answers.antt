-- `channels::Channel::with_sample` meets its contract.
use Rattle.std.proofs.Common.{w64}
use mir.ValLaws.{to_z-of_z}
use Rattle.channels.proofs.ChannelLaws.{sampled_on_part}
use Rattle.channels.proofs.Channel.with_sample.Goals as goal

pub returns : goal.returns
returns c =
    sampled_on_part c.args.meter c.args.self.index c.args.ring.now c.args.x c.args.self.within c.span-from.ensures.0 c.span-from.ensures.1
    (rw (to_z-of_z w64 c.args.x c.ranges.x) at c.with_sample.ensures)
