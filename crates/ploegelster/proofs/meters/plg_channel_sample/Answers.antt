-- `ploegelster::meters::plg_channel_sample` meets its contract.
use mathlib.Core.Path.{refl}
use native.Mathlib.Omega.{arith}
use Prim.Native.Nat.{◌+◌, ◌*◌, ◌/◌, ◌≤◌}
use lib.ListN.{length}
use mir.Syntax.{w64}
use mir.ValLaws.{to_z-of_z}
use Rattle.channels.specs.Answers.{no_channel}
use Rattle.channels.proofs.ChannelLaws.{part_inside, sample_off_channel, sampled_on_part}
use Rattle.ploegelster.proofs.meters.plg_channel_sample.Goals as goal
use Rattle.ploegelster.proofs.meters.plg_channel_sample.Goals.{Else-channel-gt-LAST_CHANNEL}

-- the channel's part lies within the ring
lies : (c : Else-channel-gt-LAST_CHANNEL) → c.args.channel * (length c.args.ring.now / 16) + length c.args.ring.now / 16 ≤ length c.args.ring.now
lies c = part_inside c.args.channel (length c.args.ring.now) (omega (arith, c.if-channel-gt-LAST_CHANNEL.false))

pub returns-then-channel-gt-LAST_CHANNEL : goal.returns-then-channel-gt-LAST_CHANNEL
unfolding no_channel
returns-then-channel-gt-LAST_CHANNEL c = rw c.into.ensures (sample_off_channel c.args.meter c.args.channel c.args.ring.now c.args.x c.if-channel-gt-LAST_CHANNEL.true)

pub overflow_mul-from : goal.overflow_mul-from
overflow_mul-from c = omega (arith, lies (goal.at.overflow_mul-from c).Else-channel-gt-LAST_CHANNEL, c.well_formed)

pub overflow_add-to : goal.overflow_add-to
overflow_add-to c = omega (arith, lies (goal.at.overflow_add-to c).Else-channel-gt-LAST_CHANNEL, c.well_formed)

pub offset_bounds-ring-from : goal.offset_bounds-ring-from
offset_bounds-ring-from c = omega (arith, lies (goal.at.offset_bounds-ring-from c).Else-channel-gt-LAST_CHANNEL, c.well_formed)

pub slice_bounds-plg_meter_sample-end : goal.slice_bounds-plg_meter_sample-end
slice_bounds-plg_meter_sample-end c = lies (goal.at.slice_bounds-plg_meter_sample-end c).Else-channel-gt-LAST_CHANNEL

pub returns : goal.returns
returns c =
    sampled_on_part c.args.meter c.args.channel c.args.ring.now c.args.x (omega (arith, c.if-channel-gt-LAST_CHANNEL.false)) refl refl
    (rw (to_z-of_z w64 c.args.x c.ranges.x) at c.plg_meter_sample.ensures)
