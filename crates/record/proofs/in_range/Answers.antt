-- `record::in_range` meets its contract: its two comparisons are the range.
use Rattle.std.proofs.Common.{w64}
use mir.ValLaws.{to_z-of_z}
use Rattle.record.proofs.RangeLaws.{sample_below, sample_not_below}
use Rattle.record.proofs.in_range.Goals as goal

pub returns-then-x : goal.returns-then-x
returns-then-x c = sample_below c.args.x (rw (to_z-of_z w64 c.args.x c.ranges.x) at c.if-x.true)

pub returns : goal.returns
returns c =
    let x = c.args.x in
    rw (to_z-of_z w64 x c.ranges.x) (sample_not_below x (rw (to_z-of_z w64 x c.ranges.x) at c.if-x.false))
