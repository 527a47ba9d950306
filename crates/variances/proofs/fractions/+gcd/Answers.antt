-- `variances::fractions::gcd` meets its contract, what its measure leaves to show.
use mathlib.Core.Path.{sym, ap, ◌∙◌}
use native.Mathlib.Omega.{arith}
use Rattle.variances.specs.Fractions.{gcd as greatestDivisor}
use Rattle.variances.proofs.FractionLaws.{gcd_ends, gcd_goes_on}
use Rattle.variances.proofs.fractions.+gcd.Goals as goal

pub returns-then-b-eq0 : goal.returns-then-b-eq0
returns-then-b-eq0 t c = sym (ap (greatestDivisor c.args.a) c.if-b-eq0.true ∙ gcd_ends c.args.a)

pub returns : goal.returns
returns t c = c.gcd.ensures ∙ sym (gcd_goes_on c.args.a c.args.b (omega arith))
