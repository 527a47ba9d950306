-- What a float reading becomes, told by its exact value: 3 beyond the range, otherwise the nearest whole number, which is the value itself where there is
-- no fraction.
use mathlib.Core.Path.{◌≡◌, refl, sym, ap, ◌∙◌}
use mathlib.Core.Bool.{Bool, true, false, not, cond, true≢false}
use Prim.Native.Nat.{ℕ, ◌+◌, ◌*◌, ◌/◌, ◌%◌, ◌^◌, ◌≤◌, ◌<◌}
use native.Mathlib.Nat.{add-zero, mul_right_comm, mul-mod_left, div-add-mod', eq_of_mul-eq-mul_right, mul-lt-mul_of_pos_right, lt_of_mul-lt-mul_right}
use native.Mathlib.Omega.{arith}
use borrow.Author.Tests.{ltb-true, ltb-false, lt-ltb, le-ltb, eq-eqb, eqb-true, not-false}
use lib.Dec.{T, ltb, eqb}
use lib.IntN.{ℤ, pos, nat_abs}
use lib.Ieee.{Float, nan, inf, fin, binary64, up, down, of_bits, is_nan}
use lib.Ieee.Fits.{down_pos}
use lib.Ieee.Exact.{HasValue}
use lib.Ieee.Nearest.{closest, closest_mono, closest_same}
use Rattle.laws.specs.Nearest.{with_sign}
use Rattle.laws.proofs.Tests.{choice_true, choice_false, tests_agree}
use Rattle.laws.proofs.Rounding.{closest_whole, with_sign_size, closest_is_nearest, nearest_is_closest}
use Rattle.readings.specs.Readings.{reading_number, sample_of, has_fraction, Nearest, Exactly}

-- ---- readings that are told by their bits or their kind

-- minus zero is the sample 0, and has no fraction
pub minus_zero_is_nought : (reading_number (of_bits binary64 0x8000_0000_0000_0000) ≡ 0) × (sample_of (of_bits binary64 0x8000_0000_0000_0000) ≡ pos 0) × (has_fraction (of_bits binary64 0x8000_0000_0000_0000) ≡ false)
unfolding of_bits reading_number sample_of has_fraction
minus_zero_is_nought = (refl, refl, refl)

-- an infinite reading is 3
pub infinite_is_three : (s : Bool) → reading_number (inf s) ≡ 3
unfolding reading_number
infinite_is_three s = refl

-- what is not a number is 4, and nothing else is
pub not_a_number_is_four : reading_number nan ≡ 4
unfolding reading_number
not_a_number_is_four = refl

pub four_is_not_a_number : (x : Float) → reading_number x ≡ 4 → x ≡ nan
unfolding reading_number
four_is_not_a_number nan four = refl
four_is_not_a_number (inf s) four = absurd (omega arith)
four_is_not_a_number (fin s m e) four = by_range (ltb (2 ^ 40 * down e) (m * up e)) four
  where
    by_range : (beyond : Bool) → ◌≡◌ {A = ℕ} (cond beyond 3 0) 4 → fin s m e ≡ nan
    by_range true z = absurd (omega arith)
    by_range false z = absurd (omega arith)

-- ---- the exact value of a finite reading, a / c in size

-- a fraction leaves no rest where one of the same value leaves none
no_rest_across : (a d b c : ℕ) → 0 < d → a * c ≡ b * d → a % d ≡ 0 → b % c ≡ 0
no_rest_across a d b c some same none =
    let whole : a ≡ a / d * d = sym (div-add-mod' a d) ∙ ap (λ (r : ℕ). a / d * d + r) none ∙ add-zero (a / d * d) in
    let quotient : b ≡ a / d * c = eq_of_mul-eq-mul_right d some b (a / d * c) (sym same ∙ ap (λ (k : ℕ). k * c) whole ∙ mul_right_comm (a / d) d c) in
    ap (λ (k : ℕ). k % c) quotient ∙ mul-mod_left (a / d) c

-- and lies beyond a limit where one of the same value does
beyond_across : (limit a d b c : ℕ) → 0 < c → a * c ≡ b * d → limit * d < a → limit * c < b
beyond_across limit a d b c some same beyond =
    let scaled : limit * d * c < a * c = mul-lt-mul_of_pos_right beyond some in
    lt_of_mul-lt-mul_right d (omega (arith, same, mul_right_comm limit d c))

module _ (s : Bool) (a c : ℕ) (some : 0 < c) where
  -- 3 beyond 2^40, fraction or not
  number_by_value : (x : Float) → HasValue x s a c → reading_number x ≡ cond (ltb (2 ^ 40 * c) a) 3 0
  unfolding reading_number
  number_by_value nan v = absurd v
  number_by_value (inf t) v = absurd v
  number_by_value (fin t m e) v =
      ap (λ (beyond : Bool). cond beyond 3 0)
      (tests_agree (ltb (2 ^ 40 * down e) (m * up e)) (ltb (2 ^ 40 * c) a)
      (λ h. lt-ltb (2 ^ 40 * c) a (beyond_across (2 ^ 40) (m * up e) (down e) a c some v.1 (ltb-true _ _ h)))
      (λ h. lt-ltb (2 ^ 40 * down e) (m * up e) (beyond_across (2 ^ 40) a c (m * up e) (down e) (down_pos e) (sym v.1) (ltb-true _ _ h))))

  -- the nearest whole number
  pub sample_by_value : (x : Float) → HasValue x s a c → sample_of x ≡ with_sign s (closest a c)
  unfolding sample_of
  sample_by_value nan v = absurd v
  sample_by_value (inf t) v = absurd v
  sample_by_value (fin t m e) v = λ i. with_sign (v.0 i) (closest_same (m * up e) (down e) a c (down_pos e) some v.1 i)

  -- a rest is a fraction
  pub fraction_by_value : (x : Float) → HasValue x s a c → has_fraction x ≡ not (eqb (a % c) 0)
  unfolding has_fraction
  fraction_by_value nan v = absurd v
  fraction_by_value (inf t) v = absurd v
  fraction_by_value (fin t m e) v =
      ap not
      (tests_agree (eqb (m * up e % down e) 0) (eqb (a % c) 0)
      (λ h. eq-eqb (a % c) 0 (no_rest_across (m * up e) (down e) a c (down_pos e) v.1 (eqb-true _ 0 h)))
      (λ h. eq-eqb (m * up e % down e) 0 (no_rest_across a c (m * up e) (down e) some (sym v.1) (eqb-true _ 0 h))))

  module _ (x : Float) (value : HasValue x s a c) where
    pub beyond_the_range : 2 ^ 40 * c < a → reading_number x ≡ 3
    beyond_the_range h = number_by_value x value ∙ choice_true _ _ (lt-ltb (2 ^ 40 * c) a h)

    pub within_the_range : a ≤ 2 ^ 40 * c → reading_number x ≡ 0
    within_the_range h = number_by_value x value ∙ choice_false _ _ (le-ltb (2 ^ 40 * c) a h)

-- ---- a reading that becomes a sample

-- what tests as not a number is 4, and anything else is a number
pub nan_is_four : (x : Float) → is_nan x ≡ true → reading_number x ≡ 4
unfolding is_nan
nan_is_four nan t = not_a_number_is_four
nan_is_four (inf s) t = absurd (true≢false (sym t))
nan_is_four (fin s m e) t = absurd (true≢false (sym t))

pub not_nan_is_number : (x : Float) → is_nan x ≡ false → T (not (is_nan x))
not_nan_is_number x t = rw t tt

pub sample_is_number : (x : Float) → reading_number x ≡ 0 → T (not (is_nan x))
unfolding is_nan reading_number
sample_is_number nan number = absurd (omega arith)
sample_is_number (inf s) number = tt
sample_is_number (fin s m e) number = tt

-- it lies in the range, before rounding and after
within_by_number : (s : Bool) (m : ℕ) (e : ℤ) → reading_number (fin s m e) ≡ 0 → m * up e ≤ 2 ^ 40 * down e
unfolding reading_number
within_by_number s m e number = by_range (ltb (2 ^ 40 * down e) (m * up e)) refl number
  where
    by_range : (beyond : Bool) → ltb (2 ^ 40 * down e) (m * up e) ≡ beyond → ◌≡◌ {A = ℕ} (cond beyond 3 0) 0 → m * up e ≤ 2 ^ 40 * down e
    by_range true t z = absurd (omega arith)
    by_range false t z = ltb-false (2 ^ 40 * down e) (m * up e) t

pub sample_bounded : (x : Float) → reading_number x ≡ 0 → nat_abs (sample_of x) ≤ 2 ^ 40
unfolding sample_of
sample_bounded nan number = omega arith
sample_bounded (inf s) number = omega arith
sample_bounded (fin s m e) number =
    let within = within_by_number s m e number in
    omega (arith, with_sign_size s (closest (m * up e) (down e)), closest_mono (m * up e) (down e) (2 ^ 40) 1 (down_pos e) (omega arith) (omega arith))

-- ---- what the sample means

-- a finite reading's sample is nearest to it
pub sample_nearest : (x : Float) → reading_number x ≡ 0 → Nearest x (sample_of x)
unfolding sample_of reading_number
sample_nearest nan number = absurd (omega arith)
sample_nearest (inf s) number = absurd (omega arith)
sample_nearest (fin s m e) number = record {
  sign = s;
  over = m * up e;
  under = down e;
  value = (refl, refl);
  nearest = closest_is_nearest s (m * up e) (down e) (down_pos e);
}

-- and nothing else is
pub nearest_is_sample : (x : Float) (z : ℤ) → Nearest x z → z ≡ sample_of x
nearest_is_sample x z n =
    nearest_is_closest n.sign n.over n.under z n.nearest
    ∙ sym (sample_by_value n.sign n.over n.under n.nearest.some x n.value)

-- a reading with a fraction is no whole number exactly
pub fraction_not_exact : (x : Float) → has_fraction x ≡ true → (z : ℤ) → Exactly x z → ⊥
fraction_not_exact x fraction z exact =
    let none : nat_abs z % 1 ≡ 0 = omega arith in
    true≢false (sym fraction ∙ fraction_by_value exact.sign (nat_abs z) 1 (omega arith) x exact.value ∙ ap not (eq-eqb (nat_abs z % 1) 0 none))

-- and one without is its sample exactly
pub sample_exact : (x : Float) → reading_number x ≡ 0 → has_fraction x ≡ false → Exactly x (sample_of x)
unfolding sample_of reading_number has_fraction
sample_exact nan number whole = absurd (omega arith)
sample_exact (inf s) number whole = absurd (omega arith)
sample_exact (fin s m e) number whole =
    let size = with_sign_size s (closest (m * up e) (down e)) in
    let none = eqb-true (m * up e % down e) 0 (not-false _ whole) in record {
      sign = s;
      value = (refl, omega (arith, closest_whole (m * up e) (down e) (down_pos e) none, ap (λ (n : ℕ). n * down e) size));
      signed = ap (with_sign s) (sym size);
    }
