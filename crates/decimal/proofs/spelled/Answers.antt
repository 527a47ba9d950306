-- `decimal::spelled` meets its contract, what its invariant leaves to show.
use Rattle.std.proofs.Common.{arith}
use Rattle.decimal.proofs.DigitLaws.{none_laid, one_more_laid, all_laid}
use Rattle.decimal.proofs.spelled.Goals as goal

pub loop-i-init : goal.loop-i-init
loop-i-init c = none_laid _ _ (omega arith) (omega arith)

pub returns-then-rest-eq0-clause-value : goal.returns-then-rest-eq0-clause-value
returns-then-rest-eq0-clause-value c = rw (← c.from-rest.ensures) (all_laid c.loop-i.invariant (omega arith)).0

pub returns-then-rest-eq0-clause-digits_after : goal.returns-then-rest-eq0-clause-digits_after
returns-then-rest-eq0-clause-digits_after c = rw (c.by_ten-tenth.ensures.1, ← c.from-rest.ensures) (all_laid c.loop-i.invariant (omega arith)).1

pub loop-i-preserved : goal.loop-i-preserved
loop-i-preserved c = rw (c.by_ten-tenth.ensures.0, c.by_ten-tenth.ensures.1) (one_more_laid c.loop-i.invariant (omega arith)).1
