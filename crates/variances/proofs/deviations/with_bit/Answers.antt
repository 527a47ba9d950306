-- `variances::deviations::with_bit` meets its contract.
use mathlib.Core.Path.{sym, ◌∙◌}
use Rattle.laws.proofs.Tests.{choice_true, choice_false}
use Rattle.variances.proofs.deviations.with_bit.Goals as goal

pub returns-then-square_at_most : goal.returns-then-square_at_most
returns-then-square_at_most c = sym (choice_true _ _ (sym c.square_at_most.ensures ∙ c.if-square_at_most.true))

pub returns-else-square_at_most : goal.returns-else-square_at_most
returns-else-square_at_most c = sym (choice_false _ _ (sym c.square_at_most.ensures ∙ c.if-square_at_most.false))
