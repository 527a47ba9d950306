-- What each entry answers, refusals too: noughts beside every refusal.
use Rattle.std.specs.Prelude.{cond, not, ◌&&◌, ℕ, ◌/◌, ◌^◌, leb, ltb, eqb}
use Rattle.wide.specs.Wide.{halves}
use Rattle.record.specs.Refusals.{refused_if, ◌then◌}
use Rattle.record.specs.declared.Refusal.{Refusal}
use Rattle.sums.specs.Published.{allan_denominator, time_denominator}
use Rattle.variances.specs.Fractions.{gcd}
use Rattle.variances.specs.Deviations.{deviation}
use Rattle.variances.specs.declared.FractionAnswer.{FractionAnswer}
use Rattle.variances.specs.declared.DeviationAnswer.{DeviationAnswer}

-- entries that take a sum, factor and count: 5, 1 (count 0), 2 (count over 32,768), 3 (a sum of 2^126 or more)
unfoldable pub figure_refusal : ℕ → ℕ → ℕ → Refusal
figure_refusal s m count =
    refused_if (not (leb 1 m && leb m 10922)) 5 0
    then refused_if (eqb count 0) 1 0
    then refused_if (ltb 32768 count) 2 0
    then refused_if (leb (2 ^ 126) s) 3 0

-- n / d in lowest terms, or the refusal and noughts
unfoldable pub fraction_answer : Refusal → ℕ → ℕ → FractionAnswer
fraction_answer r n d =
    cond (eqb r.number 0) (record { number = 0; place = 0; numerator = halves (n / gcd n d); denominator = d / gcd n d })
    (record { number = r.number; place = r.place; numerator = halves 0; denominator = 0 })

-- the Allan variance A / (2 m^2 K) and the time variance B / (6 m^2 C) in lowest terms
unfoldable pub allan_fraction_answer : ℕ → ℕ → ℕ → FractionAnswer
allan_fraction_answer a m k = fraction_answer (figure_refusal a m k) a (allan_denominator m k)

unfoldable pub time_fraction_answer : ℕ → ℕ → ℕ → FractionAnswer
time_fraction_answer b m c = fraction_answer (figure_refusal b m c) b (time_denominator m c)

-- a deviation, or the refusal and nought
unfoldable pub deviation_answer : Refusal → ℕ → DeviationAnswer
deviation_answer refusal r =
    cond (eqb refusal.number 0) (record { number = 0; place = 0; deviation = r })
    (record { number = refusal.number; place = refusal.place; deviation = 0 })

-- the deviations of the Allan variance and of the time variance: refused as those are, then 3 where r would be above 2^62
unfoldable pub allan_deviation_answer : ℕ → ℕ → ℕ → DeviationAnswer
allan_deviation_answer a m k =
    let r : ℕ = deviation a (allan_denominator m k) in deviation_answer (figure_refusal a m k then refused_if (ltb (2 ^ 62) r) 3 0) r

unfoldable pub time_deviation_answer : ℕ → ℕ → ℕ → DeviationAnswer
time_deviation_answer b m c =
    let r : ℕ = deviation b (time_denominator m c) in deviation_answer (figure_refusal b m c then refused_if (ltb (2 ^ 62) r) 3 0) r
