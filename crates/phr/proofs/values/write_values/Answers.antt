-- `phr::values::write_values` meets its contract, what its invariant leaves to show.
use Rattle.std.proofs.Common.{◌∙◌, arith}
use Rattle.phr.proofs.SignLaws.{loaded_value}
use Rattle.phr.proofs.ValueLaws.{values_none_written, values_one_more_written, values_all_written}
use Rattle.phr.proofs.values.write_values.Goals as goal

pub loop-i-init : goal.loop-i-init
loop-i-init c = values_none_written c.args.place c.args.values.now c.args.buffer.now c.requires

pub loop-i-preserved : goal.loop-i-preserved
loop-i-preserved c =
    values_one_more_written c.args.place c.args.values.now c.args.buffer.now c.requires c.loop-i.i (omega arith) c.loop-i.invariant (loaded_value _ (omega arith)) c.write_value.ensures

pub returns : goal.returns
returns c =
    let a = c.args in
    c.loop-i.invariant ∙ values_all_written a.place a.values.now a.buffer.now c.requires c.loop-i.i (omega arith)
