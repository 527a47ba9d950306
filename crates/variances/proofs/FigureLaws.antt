-- The cases of the refusal of a sum, a factor and a count in their order, and what is known where nothing is refused.
use mathlib.Core.Path.{◌≡◌}
use mathlib.Core.Bool.{not, ◌&&◌}
use Prim.Native.Nat.{ℕ, ◌*◌, ◌^◌, ◌≤◌, ◌<◌}
use native.Mathlib.Nat.{mul-le-mul, mul-pos}
use native.Mathlib.Omega.{arith}
use borrow.Author.Tests.{ltb-false, leb-true, leb-false, eqb-false, not-false, lt-ltb, le-ltb, le-leb, lt-leb, eq-eqb, ne_eqb}
use lib.Dec.{leb, ltb, eqb}
use mir.Syntax.{w64}
use mir.Val.{Fits}
use Rattle.laws.proofs.Tests.{first_true, second_true, second_fails}
use Rattle.laws.proofs.Halves.{two_digits_below}
use Rattle.wide.specs.Wide.{value}
use Rattle.wide.specs.declared.Wide.{Wide}
use Rattle.record.specs.Refusals.{none, refused, refused_if, ◌then◌}
use Rattle.record.proofs.ToldLaws.{refuses_nothing}
use Rattle.record.proofs.RefusalLaws.{first_refuses_nothing, rest_refuses_nothing, test_fails}
use Rattle.variances.specs.Answers.{figure_refusal}

-- what is known where nothing is refused
pub record Allowed (s m count : ℕ) : Type 0 where
  pub factor_least : 1 ≤ m
  pub factor_most : m ≤ 10922
  pub count_least : 0 < count
  pub count_most : count ≤ 32768
  pub sum_below : s < 2 ^ 126

-- a sum whose high half is below 2^62 is below 2^126
pub high_half_decides : (sum : Wide) → sum.hi < 2 ^ 62 → sum.lo < 2 ^ 64 → value sum < 2 ^ 126
high_half_decides sum high low = two_digits_below (2 ^ 62) (2 ^ 64) sum.hi sum.lo high low

-- ---- 5, 1, 2, 3: the first that holds is the answer

module _ (s m count : ℕ) where
  pub factor_nought : m < 1 → figure_refusal s m count ≡ refused 5 0
  unfolding figure_refusal
  factor_nought h = simp (lt-leb 1 m h)

  pub factor_too_large : 10922 < m → figure_refusal s m count ≡ refused 5 0
  unfolding figure_refusal
  factor_too_large h = simp (lt-leb m 10922 h, second_fails (leb 1 m))

  module _ (least : 1 ≤ m) (most : m ≤ 10922) where
    pub count_nought : count ≡ 0 → figure_refusal s m count ≡ refused 1 0
    unfolding figure_refusal
    count_nought e = simp (le-leb 1 m least, le-leb m 10922 most, eq-eqb count 0 e)

    pub count_too_large : 32768 < count → figure_refusal s m count ≡ refused 2 0
    unfolding figure_refusal
    count_too_large h = simp (le-leb 1 m least, le-leb m 10922 most, ne_eqb count 0 (λ e. omega arith), lt-ltb 32768 count h)

    pub sum_too_large : 0 < count → count ≤ 32768 → 2 ^ 126 ≤ s → figure_refusal s m count ≡ refused 3 0
    unfolding figure_refusal
    sum_too_large some few large =
        simp (le-leb 1 m least, le-leb m 10922 most, ne_eqb count 0 (λ e. omega arith), le-ltb 32768 count few, le-leb (2 ^ 126) s large)

  pub allowed_none : Allowed s m count → figure_refusal s m count ≡ none
  unfolding figure_refusal
  allowed_none a =
      simp (
        le-leb 1 m a.factor_least,
        le-leb m 10922 a.factor_most,
        ne_eqb count 0 (λ e. omega arith),
        le-ltb 32768 count a.count_most,
        lt-leb (2 ^ 126) s a.sum_below,
      )

  pub unrefused_allowed : (figure_refusal s m count).number ≡ 0 → Allowed s m count
  unfolding figure_refusal
  unrefused_allowed e =
      let good = leb 1 m && leb m 10922 in
      let factor = refused_if (not good) 5 0 in
      let no_count = refused_if (eqb count 0) 1 0 in
      let many = refused_if (ltb 32768 count) 2 0 in
      let large = refused_if (leb (2 ^ 126) s) 3 0 in
      let good-factor = not-false good (test_fails (not good) 5 0 (omega arith) (first_refuses_nothing factor (no_count then many then large) e)) in
      let counts = rest_refuses_nothing factor (no_count then many then large) e in
      let sums = rest_refuses_nothing no_count (many then large) counts in
      let some : count ≡ 0 → ⊥ = eqb-false count 0 (test_fails _ 1 0 (omega arith) (first_refuses_nothing no_count (many then large) counts)) in record {
        factor_least = leb-true 1 m (first_true (leb 1 m) _ good-factor);
        factor_most = leb-true m 10922 (second_true (leb 1 m) _ good-factor);
        count_least = omega arith;
        count_most = ltb-false 32768 count (test_fails _ 2 0 (omega arith) (first_refuses_nothing many large sums));
        sum_below = leb-false (2 ^ 126) s (test_fails _ 3 0 (omega arith) (rest_refuses_nothing many large sums));
      }

pub unrefused_none : (s m count : ℕ) → (figure_refusal s m count).number ≡ 0 → figure_refusal s m count ≡ none
unrefused_none s m count e = allowed_none s m count (unrefused_allowed s m count e)

-- where no refusal was found
pub nothing_refused : {s m count : ℕ} → none ≡ figure_refusal s m count → Allowed s m count
nothing_refused {s} {m} {count} is = unrefused_allowed s m count (refuses_nothing is)

-- ---- the denominator f m^2 count, f up to 6, stays far below a word and is not nought

module _ {s m count : ℕ} (a : Allowed s m count) where
  square_most : m * m ≤ 10922 * 10922
  square_most = mul-le-mul a.factor_most a.factor_most

  pub square_fits : Fits w64 (m * m)
  square_fits = omega (arith, square_most)

  module _ (f : ℕ) (small : f ≤ 6) where
    scaled_most : f * (m * m) ≤ 6 * (10922 * 10922)
    scaled_most = mul-le-mul small square_most

    pub scaled_square_fits : Fits w64 (f * (m * m))
    scaled_square_fits = omega (arith, scaled_most)

    pub denominator_fits : Fits w64 (f * (m * m) * count)
    denominator_fits = omega (arith, mul-le-mul scaled_most a.count_most)

  pub denominator_above_nought : (f : ℕ) → 0 < f → 0 < f * (m * m) * count
  denominator_above_nought f some = mul-pos (mul-pos some (mul-pos a.factor_least a.factor_least)) a.count_least
