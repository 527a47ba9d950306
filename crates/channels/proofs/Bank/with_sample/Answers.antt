-- `channels::Bank::with_sample` meets its contract: the meter is the one that the bank holds, and it is put where that was.
use Rattle.std.proofs.Common.{ap, ◌∙◌, w64}
use mir.ValLaws.{to_z-of_z}
use Rattle.std.proofs.lemmas.Result.{err_from_is_err_and}
use Rattle.channels.specs.Shares.{meter_of}
use Rattle.channels.specs.Answers.{bank_sample_answer, bank_ring_left, channel_sample_answer}
use Rattle.channels.proofs.ChannelLaws.{sample_off_channel, told_off_channel, bank_error, bank_given}
use Rattle.channels.proofs.Bank.with_sample.Goals as goal

pub returns-in_err-on : goal.returns-in_err-on
unfolding bank_sample_answer bank_ring_left channel_sample_answer
returns-in_err-on c =
    let old = meter_of c.args.self c.args.channel in
    let off = c.in_err-on.ensures in
    let p = err_from_is_err_and c.from_residual.result c.from_residual.ensures.1 in (
      rw (p.1, p.2) (bank_error c.args.self c.args.channel old _ (told_off_channel _ _ _ _ off)),
      (sample_off_channel old c.args.channel c.args.ring.now c.args.x off.0).1,
    )

pub returns-in_err-next : goal.returns-in_err-next
unfolding bank_sample_answer bank_ring_left
returns-in_err-next c =
    let held = c.meter.ensures ∙ ap (meter_of c.args.self) c.in_ok-on.ensures in
    let told = rw (held, to_z-of_z w64 c.args.x c.ranges.x) at c.in_err-next.ensures in
    let from = c.from_residual-in_err-next in
    let p = err_from_is_err_and from.result from.ensures.1 in
    (rw (p.1, p.2) (bank_error c.args.self c.args.channel _ _ told.0), told.1)

pub returns : goal.returns
unfolding bank_sample_answer bank_ring_left
returns c =
    let held = c.meter.ensures ∙ ap (meter_of c.args.self) c.in_ok-on.ensures in
    let told = rw (held, to_z-of_z w64 c.args.x c.ranges.x) at c.in_ok-next.ensures in
    (rw (c.with_meter.ensures, c.in_ok-on.ensures) (bank_given c.args.self c.args.channel _ told.0), told.1)
