-- `phr::refusals::check_unfit` meets its contract.
use Rattle.std.proofs.Common.{sym, ap, ◌∙◌, arith}
use Rattle.record.specs.Refusals.{refused}
use Rattle.phr.proofs.ValueCases.{value_outside, none_outside}
use Rattle.phr.proofs.refusals.check_unfit.Goals as goal

pub returns-then-unfit-values : goal.returns-then-unfit-values
returns-then-unfit-values c =
    let first = c.first_unfit-unfit.ensures in
    rw c.at.ensures (ap (refused 3) first ∙ sym (value_outside _ _ (omega (arith, first))))

pub returns : goal.returns
returns c = sym (none_outside _ _ (omega (arith, c.first_unfit-unfit.ensures)))
