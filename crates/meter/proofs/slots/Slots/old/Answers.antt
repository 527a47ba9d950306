-- `meter::slots::Slots::old` meets its contract.
use borrow.Author.Tests.{le-leb, lt-leb}
use mathlib.Core.Path.{refl, sym, ◌∙◌}
use native.Mathlib.Omega.{arith}
use mir.Syntax.{w64}
use Rattle.laws.proofs.Machine.{read_back}
use Rattle.laws.proofs.Tests.{choice_true, choice_false}
use Rattle.meter.proofs.slots.Slots.old.Goals as goal

pub returns-then-self-due : goal.returns-then-self-due
returns-then-self-due c = sym (choice_false _ _ (lt-leb c.args.due c.args.self.now.meter.stretch (omega arith)))

pub returns : goal.returns
returns c =
    read_back {w = w64} refl (record { sfits = c.slot.type_inv }) ∙ c.slot.ensures ∙ sym (choice_true _ _ (le-leb c.args.due c.args.self.now.meter.stretch (omega arith)))
