-- `variances::deviations::deviation` meets its contract.
use mathlib.Core.Path.{sym, ap, ◌∙◌}
use Rattle.wide.specs.Wide.{value}
use Rattle.variances.proofs.AnswerLaws.{given_deviation, above_refused, not_above_given}
use Rattle.variances.proofs.DeviationLaws.{passes_so_above, fails_so_not_above}
use Rattle.variances.proofs.deviations.deviation.Goals as goal

pub returns-then-square_at_most : goal.returns-then-square_at_most
returns-then-square_at_most c =
    rw c.at.ensures (sym (above_refused _ (passes_so_above (value c.args.sum) c.args.d c.requires.0 c.requires.1 (sym c.square_at_most.ensures ∙ c.if-square_at_most.true))))

pub by_bits-requires : goal.by_bits-requires
by_bits-requires c =
    (c.requires.0, c.requires.1, sym c.square_at_most.ensures ∙ c.if-square_at_most.false)

pub returns : goal.returns
returns c =
    let fails = sym c.square_at_most.ensures ∙ c.if-square_at_most.false in
    ap given_deviation c.by_bits.ensures ∙ sym (not_above_given _ (fails_so_not_above (value c.args.sum) c.args.d c.requires.0 c.requires.1 fails))
