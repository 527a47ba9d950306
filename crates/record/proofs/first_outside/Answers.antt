-- `record::first_outside` meets its contract, what its invariant leaves to show.
use Rattle.std.proofs.Common.{pos, sym, arith, rules}
use Rattle.laws.proofs.ListLaws.{search_goes_on, search_ends_here, search_ends}
use Rattle.record.specs.Refusals.{in_range}
use Rattle.record.proofs.RangeLaws.{loaded_in_range}
use Rattle.record.proofs.RefusalLaws.{out_of_range, all_in_range}
use Rattle.record.proofs.first_outside.Goals as goal

pub loop-i-preserved : goal.loop-i-preserved
loop-i-preserved c = search_goes_on in_range (pos 0) _ _ (omega arith) c.loop-i.invariant (loaded_in_range _ (search rules) c.in_range.ensures c.if-not-in_range.false)

pub returns-then-not-in_range : goal.returns-then-not-in_range
returns-then-not-in_range c =
    rw c.at.ensures (sym (out_of_range _ _ (omega arith) (search_ends_here in_range (pos 0) _ _ (omega arith) c.loop-i.invariant (loaded_in_range _ (search rules) c.in_range.ensures c.if-not-in_range.true))))

pub returns : goal.returns
returns c = sym (all_in_range _ (search_ends in_range _ c.loop-i.i (omega arith) c.loop-i.invariant))
