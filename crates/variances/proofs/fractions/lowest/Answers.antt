-- `variances::fractions::lowest` meets its contract: neither d nor the divisor is nought, so that both divisions answer.
use Rattle.std.proofs.Common.{◌≡◌, ◌%◌, ◌<◌, refl, sym, ap, ◌∙◌}
use Rattle.wide.specs.Wide.{value}
use Rattle.wide.proofs.Divisions.{division_given, quotient_given, remainder_given}
use Rattle.variances.specs.Fractions.{gcd}
use Rattle.variances.proofs.FractionLaws.{divisor_above_nought, lowest_by_divisor}
use Rattle.variances.proofs.fractions.lowest.Goals as goal
use Rattle.variances.proofs.fractions.lowest.Goals.{After-gcd-divisor}

divisor : (c : After-gcd-divisor) → let x = c.args in c.gcd-divisor.result ≡ gcd x.d (value x.sum % x.d)
divisor c = c.gcd-divisor.ensures ∙ ap (gcd c.args.d) (remainder_given (value c.args.sum) c.args.d c.requires (sym c.divided.ensures ∙ c.unwrap-first.ensures))

some : (c : After-gcd-divisor) → 0 < c.gcd-divisor.result
some c = divisor_above_nought (value c.args.sum) c.args.d c.requires refl (divisor c)

pub unwrap-first-requires : goal.unwrap-first-requires
unwrap-first-requires c = rw (c.divided.ensures, division_given (value c.args.sum) c.args.d c.requires) refl

pub unwrap-reduced-requires : goal.unwrap-reduced-requires
unwrap-reduced-requires c =
    rw (c.divided-2.ensures, division_given (value c.args.sum) c.gcd-divisor.result (some (goal.at.unwrap-reduced-requires c).After-gcd-divisor)) refl

pub nonzero_div-denominator : goal.nonzero_div-denominator
nonzero_div-denominator c = some (goal.at.nonzero_div-denominator c).After-gcd-divisor

pub returns : goal.returns
returns c =
    let n = value c.args.sum in
    let at = (goal.at.returns c).After-gcd-divisor in
    lowest_by_divisor n c.args.d c.requires refl (divisor at)
    (quotient_given n c.gcd-divisor.result (some at) (sym c.divided-2.ensures ∙ c.unwrap-reduced.ensures))
