-- `record::range_refusal` meets its contract: where the pass is not sure, the search decides.
use Rattle.std.proofs.Common.{sym}
use Rattle.record.proofs.check_range.Goals as goal

pub returns-then-surely_in_range : goal.returns-then-surely_in_range
returns-then-surely_in_range c = sym (c.surely_in_range.ensures c.if-surely_in_range.true)
