-- `meter::tests::slots_lie` meets its contract.
use mathlib.Core.Path.{sym, ◌∙◌}
use native.Mathlib.Omega.{arith}
use Rattle.meter.proofs.TestLaws.{holds_together_lem, length_decides, meter_decides}
use Rattle.meter.proofs.tests.slots_lie.Goals as goal

pub overflow_mul-result : goal.overflow_mul-result
overflow_mul-result c =
    omega (arith, (holds_together_lem _ (sym c.holds_together.ensures ∙ c.if-holds_together.true)).factor_most)

pub returns-then-holds_together : goal.returns-then-holds_together
returns-then-holds_together c =
    sym (length_decides c.args.meter c.args.ring.now (sym c.holds_together.ensures ∙ c.if-holds_together.true))

pub returns-else-holds_together : goal.returns-else-holds_together
returns-else-holds_together c =
    c.if-holds_together.false ∙ sym (meter_decides c.args.meter c.args.ring.now (sym c.holds_together.ensures ∙ c.if-holds_together.false))
