-- `decimal::spelled` meets its contract. The loop's invariant: the digits from place `i` on are laid down, and `rest` has the others.
use Rattle.decimal.proofs.DigitLaws.{Laid}
use Rattle.decimal.proofs.spelled.Given as goal

abbrev pub invariant-loop-i : goal.invariant-loop-i
invariant-loop-i l = Laid l.initial.rest l.initial.digits l.digits l.rest l.i
