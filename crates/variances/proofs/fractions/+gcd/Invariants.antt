-- `variances::fractions::gcd` meets its contract. The measure is the second number: the remainder that replaces it is below it.
use Rattle.variances.proofs.fractions.+gcd.Given as goal

abbrev pub decreases-gcd : goal.decreases-gcd
decreases-gcd l = l.b
