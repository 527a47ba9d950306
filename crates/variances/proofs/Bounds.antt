-- No record within the bounds brings a deviation above 2^62: the entries that take a sum, a factor and a count refuse none of it.
use mathlib.Core.Path.{◌≡◌}
use mathlib.Core.List.{List}
use Prim.Native.Nat.{ℕ, ◌*◌, ◌^◌, ◌≤◌, ◌<◌}
use native.Mathlib.Decide.{dec_le}
use native.Mathlib.Nat.{le_refl, mul-le-mul, mul-pos}
use native.Mathlib.Omega.{arith}
use borrow.Author.Tests.{le-ltb}
use lib.Dec.{leb→le}
use lib.IntN.{ℤ}
use Rattle.laws.specs.Greatest.{Greatest}
use Rattle.record.specs.Refusals.{none, record_refusal}
use Rattle.record.proofs.RefusalLaws.{none_sound, Sound}
use Rattle.sums.specs.Published.{allan_sum, allan_count, allan_denominator, modified_sum, modified_count, time_denominator}
use Rattle.variances.specs.Deviations.{within, deviation}
use Rattle.sums.specs.Answers.{allan_demand, modified_demand}
use Rattle.sums.proofs.PublishedLaws.{allan_within, allan_sum_below, modified_within, modified_sum_below}
use Rattle.variances.proofs.AnswerLaws.{deviation_refusal}
use Rattle.variances.proofs.DeviationLaws.{deviation_is_greatest}
use Rattle.variances.proofs.FigureLaws.{Allowed, allowed_none, denominator_above_nought}

-- a variance a/d of at most 2^83 has a deviation of at most 2^62
pub greatest_within : (a d : ℕ) → 0 < d → 2 * a ≤ d * 2 ^ 84 → (r : ℕ) → Greatest (within a d) r → r ≤ 2 ^ 62
greatest_within a d some small r g = go (dec_le r (2 ^ 62))
  where
    go : Dec (r ≤ 2 ^ 62) → r ≤ 2 ^ 62
    go (yes under) = under
    go (no over) =
        let large : 2 ^ 62 ≤ r = omega arith in
        absurd (omega (arith, leb→le (r * r * d) (a * 2 ^ 40) g.passes, mul-le-mul (mul-le-mul large large) (le_refl d)))

module _ (s m count d : ℕ) (allowed : Allowed s m count) (some : 0 < d) (small : 2 * s ≤ d * 2 ^ 84) where
  small_deviation : deviation s d ≤ 2 ^ 62
  small_deviation = greatest_within s d some small (deviation s d) (deviation_is_greatest s d some allowed.sum_below)

  small_deviation_unrefused : deviation_refusal s m count (deviation s d) ≡ none
  small_deviation_unrefused = simp (allowed_none s m count allowed, le-ltb (2 ^ 62) (deviation s d) small_deviation)

-- ---- the Allan variance: A is at most K * 2^84
module _ (m : ℕ) (xs : List ℤ) (unrefused : record_refusal allan_demand m xs ≡ none) where
  abbrev allan_sound : Sound allan_demand m xs
  allan_sound = none_sound allan_demand m xs unrefused

  pub allan_allowed : Allowed (allan_sum m xs) m (allan_count m xs)
  unfolding allan_count
  allan_allowed = record {
    factor_least = allan_sound.factor_least;
    factor_most = allan_sound.factor_most;
    count_least = omega (arith, allan_sound.enough);
    count_most = omega (arith, allan_sound.not_too_many);
    sum_below = allan_sum_below m xs unrefused;
  }

  pub allan_denominator_above_nought : 0 < allan_denominator m (allan_count m xs)
  unfolding allan_denominator
  allan_denominator_above_nought = denominator_above_nought allan_allowed 2 (omega arith)

  allan_variance_small : 2 * allan_sum m xs ≤ allan_denominator m (allan_count m xs) * 2 ^ 84
  unfolding allan_sum allan_denominator
  allan_variance_small =
      omega (
        arith,
        allan_within m xs allan_sound.bounded (allan_count m xs),
        mul-le-mul (mul-pos allan_sound.factor_least allan_sound.factor_least) (le_refl (allan_count m xs)),
      )

  pub allan_deviation_within : deviation (allan_sum m xs) (allan_denominator m (allan_count m xs)) ≤ 2 ^ 62
  allan_deviation_within = small_deviation _ m (allan_count m xs) _ allan_allowed allan_denominator_above_nought allan_variance_small

  pub allan_deviation_unrefused :
      deviation_refusal (allan_sum m xs) m (allan_count m xs) (deviation (allan_sum m xs) (allan_denominator m (allan_count m xs))) ≡ none
  allan_deviation_unrefused = small_deviation_unrefused _ m (allan_count m xs) (allan_denominator m (allan_count m xs)) allan_allowed allan_denominator_above_nought allan_variance_small

-- ---- the time variance: B is at most C * m^2 * 2^84
module _ (m : ℕ) (xs : List ℤ) (unrefused : record_refusal modified_demand m xs ≡ none) where
  abbrev modified_sound : Sound modified_demand m xs
  modified_sound = none_sound modified_demand m xs unrefused

  pub modified_allowed : Allowed (modified_sum m xs) m (modified_count m xs)
  unfolding modified_count
  modified_allowed = record {
    factor_least = modified_sound.factor_least;
    factor_most = modified_sound.factor_most;
    count_least = omega (arith, modified_sound.enough);
    count_most = omega (arith, modified_sound.not_too_many, modified_sound.factor_least);
    sum_below = modified_sum_below m xs unrefused;
  }

  pub time_denominator_above_nought : 0 < time_denominator m (modified_count m xs)
  unfolding time_denominator
  time_denominator_above_nought = denominator_above_nought modified_allowed 6 (omega arith)

  time_variance_small : 2 * modified_sum m xs ≤ time_denominator m (modified_count m xs) * 2 ^ 84
  unfolding modified_sum time_denominator
  time_variance_small = omega (arith, modified_within m xs modified_sound.bounded (modified_count m xs))

  pub time_deviation_within : deviation (modified_sum m xs) (time_denominator m (modified_count m xs)) ≤ 2 ^ 62
  time_deviation_within = small_deviation _ m (modified_count m xs) _ modified_allowed time_denominator_above_nought time_variance_small

  pub time_deviation_unrefused :
      deviation_refusal (modified_sum m xs) m (modified_count m xs) (deviation (modified_sum m xs) (time_denominator m (modified_count m xs))) ≡ none
  time_deviation_unrefused = small_deviation_unrefused _ m (modified_count m xs) (time_denominator m (modified_count m xs)) modified_allowed time_denominator_above_nought time_variance_small
