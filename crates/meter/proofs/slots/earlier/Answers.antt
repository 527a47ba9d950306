-- `meter::slots::earlier` meets its contract.
use borrow.Author.Tests.{le-leb, lt-leb}
use mathlib.Core.Path.{sym}
use native.Mathlib.Omega.{arith}
use Rattle.laws.proofs.Tests.{choice_true, choice_false}
use Rattle.meter.proofs.slots.earlier.Goals as goal

pub returns-then-own-back : goal.returns-then-own-back
returns-then-own-back c = sym (choice_false _ _ (lt-leb c.args.back c.args.own (omega arith)))

pub returns : goal.returns
returns c = sym (choice_true _ _ (le-leb c.args.back c.args.own (omega arith)))
