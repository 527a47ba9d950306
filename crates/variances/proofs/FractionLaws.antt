-- Euclid's rule gives the greatest common divisor, and dividing by it gives lowest terms: the value is unchanged, and numerator and denominator
-- have no common divisor above 1.
use mathlib.Core.Path.{◌≡◌, refl, sym, ap, ◌∙◌, subst}
use Prim.Native.Nat.{ℕ, zero, suc, ◌*◌, ◌/◌, ◌%◌, ◌<◌, ◌∣◌}
use native.Mathlib.Nat.{mod-lt, zero-lt-suc, dvd_refl, dvd-zero, dvd-mod_iff, dvd_antisymm, pos_of_dvd_of_pos, mul-dvd-mul_left, div-mul_cancel, mul-div_cancel', eq-one_of_dvd-one, dvd_of_mul-dvd-mul_left, mul-one, div_self, zero-div}
use native.Mathlib.Omega.{arith}
use Rattle.wide.specs.Wide.{halves}
use Rattle.wide.specs.declared.Wide.{Wide}
use Rattle.record.specs.Refusals.{none}
use Rattle.variances.specs.Fractions.{euclid, gcd}
use Rattle.variances.specs.Answers.{fraction_answer}
use Rattle.variances.specs.declared.FractionAnswer.{FractionAnswer}

-- more remainders than are needed change nothing
enough_remainders : (k j a b : ℕ) → b < k → b < j → euclid k a b ≡ euclid j a b
unfolding euclid
enough_remainders zero j a b h l = absurd (omega arith)
enough_remainders (suc k) zero a b h l = absurd (omega arith)
enough_remainders (suc k) (suc j) a zero h l = refl
enough_remainders (suc k) (suc j) a (suc b) h l =
    let r = mod-lt a {m = suc b} (zero-lt-suc b) in enough_remainders k j (suc b) (a % suc b) (omega arith) (omega arith)

-- the rule, as the code follows it
pub gcd_ends : (a : ℕ) → gcd a 0 ≡ a
unfolding gcd euclid
gcd_ends a = refl

pub gcd_goes_on : (a b : ℕ) → 0 < b → gcd a b ≡ gcd b (a % b)
unfolding gcd euclid
gcd_goes_on a zero h = absurd (omega arith)
gcd_goes_on a (suc b) h =
    let r = mod-lt a {m = suc b} (zero-lt-suc b) in
    enough_remainders (suc b) (suc (a % suc b)) (suc b) (a % suc b) r (omega arith)

euclid_divides : (k a b : ℕ) → b < k → (euclid k a b ∣ a) × (euclid k a b ∣ b)
unfolding euclid
euclid_divides zero a b h = absurd (omega arith)
euclid_divides (suc k) a zero h = (dvd_refl a, dvd-zero a)
euclid_divides (suc k) a (suc b) h =
    let r = mod-lt a {m = suc b} (zero-lt-suc b) in
    let d = euclid_divides k (suc b) (a % suc b) (omega arith) in
    ((dvd-mod_iff _ d.0).0 d.1, d.0)

euclid_greatest : (k a b c : ℕ) → b < k → c ∣ a → c ∣ b → c ∣ euclid k a b
unfolding euclid
euclid_greatest zero a b c h p q = absurd (omega arith)
euclid_greatest (suc k) a zero c h p q = p
euclid_greatest (suc k) a (suc b) c h p q =
    let r = mod-lt a {m = suc b} (zero-lt-suc b) in
    euclid_greatest k (suc b) (a % suc b) c (omega arith) q ((dvd-mod_iff _ q).1 p)

-- it divides both numbers
pub gcd_divides_first : (a b : ℕ) → gcd a b ∣ a
unfolding gcd
gcd_divides_first a b = (euclid_divides (suc b) a b (omega arith)).0

pub gcd_divides_second : (a b : ℕ) → gcd a b ∣ b
unfolding gcd
gcd_divides_second a b = (euclid_divides (suc b) a b (omega arith)).1

-- every common divisor divides it
pub common_divides_gcd : (a b c : ℕ) → c ∣ a → c ∣ b → c ∣ gcd a b
unfolding gcd
common_divides_gcd a b c p q = euclid_greatest (suc b) a b c (omega arith) p q

pub gcd_above_nought : (a b : ℕ) → 0 < b → 0 < gcd a b
gcd_above_nought a b h = pos_of_dvd_of_pos (gcd_divides_second a b) h

-- n / d in lowest terms
pub record Fraction : Type 0 where
  pub numerator : ℕ
  pub denominator : ℕ

abbrev pub lowest_terms : ℕ → ℕ → Fraction
lowest_terms n d = record { numerator = n / gcd n d; denominator = d / gcd n d }

module _ (n d : ℕ) (h : 0 < d) where
  -- the value is unchanged
  pub lowest_same_value : (lowest_terms n d).numerator * d ≡ n * (lowest_terms n d).denominator
  lowest_same_value =
      let g = gcd n d in
      let e : n / g * g ≡ n = div-mul_cancel g (gcd_divides_first n d) in
      let f : d / g * g ≡ d = div-mul_cancel g (gcd_divides_second n d) in
      ap (λ (t : ℕ). n / g * t) (sym f) ∙ swapped (n / g) (d / g) g ∙ ap (λ (t : ℕ). t * (d / g)) e
    where
      swapped : (a b g : ℕ) → a * (b * g) ≡ a * g * b
      swapped a b g = omega arith

  -- numerator and denominator have no common divisor but 1
  pub lowest_no_common : (c : ℕ) → c ∣ (lowest_terms n d).numerator → c ∣ (lowest_terms n d).denominator → c ≡ 1
  lowest_no_common c p q =
      let g = gcd n d in
      let gp : 0 < g = gcd_above_nought n d h in
      let a : g * c ∣ n = subst (λ (t : ℕ). g * c ∣ t) (mul-div_cancel' g (gcd_divides_first n d)) (mul-dvd-mul_left c g p) in
      let b : g * c ∣ d = subst (λ (t : ℕ). g * c ∣ t) (mul-div_cancel' g (gcd_divides_second n d)) (mul-dvd-mul_left c g q) in
      eq-one_of_dvd-one (dvd_of_mul-dvd-mul_left c gp (rw mul-one (common_divides_gcd n d (g * c) a b)))

-- nought is 0/1
pub lowest_of_nought : (d : ℕ) → 0 < d → ((lowest_terms 0 d).numerator ≡ 0) × ((lowest_terms 0 d).denominator ≡ 1)
lowest_of_nought d h =
    let e : gcd 0 d ≡ d = dvd_antisymm (gcd_divides_second 0 d) (common_divides_gcd 0 d d (dvd-zero d) (dvd_refl d)) in
    (zero-div (gcd 0 d), rw e (div_self h))

-- ---- by two divisions: the remainder by d gives the divisor, and that divides both

module _ (n d : ℕ) (some : 0 < d) {sum divisor : ℕ} (sum_is : sum ≡ n) (divisor-is : divisor ≡ gcd d (sum % d)) where
  pub divisor_is_gcd : divisor ≡ gcd n d
  divisor_is_gcd = divisor-is ∙ ap (λ (t : ℕ). gcd d (t % d)) sum_is ∙ sym (gcd_goes_on n d some)

  pub divisor_above_nought : 0 < divisor
  divisor_above_nought = rw divisor_is_gcd (gcd_above_nought n d some)

  abbrev reduced_to : Wide → ℕ → FractionAnswer
  reduced_to numerator denominator = record { number = 0; place = 0; numerator = numerator; denominator = denominator }

  pub lowest_by_divisor : {numerator : Wide} → numerator ≡ halves (sum / divisor) → reduced_to numerator (d / divisor) ≡ fraction_answer none n d
  unfolding fraction_answer
  lowest_by_divisor numerator-is =
      ap (λ (w : Wide). reduced_to w (d / divisor)) (numerator-is ∙ ap (λ (t : ℕ). halves (t / divisor)) sum_is)
      ∙ ap (λ (g : ℕ). reduced_to (halves (n / g)) (d / g)) divisor_is_gcd
