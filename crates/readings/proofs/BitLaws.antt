-- A double by its bits, as the code takes it apart: the exponent's field and the digits below the leading one tell its exact value, and with it the
-- number, the sample and the fraction.
use mathlib.Core.Path.{◌≡◌, refl, sym, ap, ◌∙◌, subst}
use mathlib.Core.Bool.{Bool, true, false, not, cond}
use Prim.Native.Nat.{ℕ, zero, suc, ◌+◌, ◌-◌, ◌*◌, ◌/◌, ◌%◌, ◌^◌, ◌≤◌, ◌<◌}
use native.Mathlib.Nat.{zero-mul, le-mul_of_pos_right, mul-one, mul_assoc, mod-eq_of_lt, eq_of_mul-eq-mul_right}
use native.Mathlib.Decide.{dec_lt}
use native.Mathlib.Omega.{arith}
use borrow.Author.Tests.{eq-eqb, eqb-true, ne_eqb, le-leb, lt-leb}
use lib.Dec.{T, eqb, leb}
use lib.IntN.{pos, nat_abs}
use lib.Ieee.{Float, nan, inf, fin, binary64, up, down, odd, of_fields, of_bits, to_bits, fits, is_nan}
use lib.Ieee.Bits.{of_bits-to_bits}
use lib.Ieee.Exact.{HasValue, odd_sign}
use lib.Ieee.Nearest.{closest}
use lib.Pow.{pow-add, pow_pos, pow_mono}
use mir.Syntax.{w64}
use mir.Val.{SFits, to_z}
use Rattle.laws.specs.Nearest.{with_sign}
use Rattle.laws.proofs.Tests.{choice_false, tests_agree}
use Rattle.laws.proofs.Parts.{small_fits}
use Rattle.laws.proofs.Expressions.{◌∋◌, ⊝◌}
use Rattle.laws.proofs.Machine.{Fit, machine, machine_is}
use Rattle.laws.proofs.Rounding.{near_is_closest, with_sign_size}
use Rattle.readings.specs.Readings.{reading_number, sample_of, has_fraction}
use Rattle.readings.proofs.ReadingLaws.{infinite_is_three, sample_is_number, sample_bounded, sample_by_value, fraction_by_value, beyond_the_range, within_the_range}

-- ---- the exact value by the two fields

-- one value, written as two fractions
same_value : (x : Float) (s : Bool) (a c b d : ℕ) → 0 < c → a * d ≡ b * c → HasValue x s a c → HasValue x s b d
same_value nan s a c b d some same v = v
same_value (inf t) s a c b d some same v = v
same_value (fin t m e) s a c b d some same v = (
  v.0,
  eq_of_mul-eq-mul_right c some (m * up e * d) (b * down e) (omega (arith, ap (λ (k : ℕ). k * d) v.1, ap (λ (k : ℕ). k * down e) same)),
)

module _ (s : Bool) (digits : ℕ) where
  -- no leading digit: digits of 2^-1074
  subnormal_value : HasValue (of_fields binary64 s 0 digits) s digits (2 ^ 1074)
  unfolding of_fields
  subnormal_value = subst (λ (n : ℕ). HasValue (odd 53 s digits 0 1074) s n (2 ^ 1074)) (mul-one digits) (odd_sign 53 s digits 0 1074)

  -- the digits with the leading one, times 2^(field - 1075)
  normal_value : (field : ℕ) → suc field < 2047 → HasValue (of_fields binary64 s (suc field) digits) s ((2 ^ 52 + digits) * 2 ^ field) (2 ^ 1074)
  unfolding of_fields
  normal_value field finite =
      subst (λ (x : Float). HasValue x s ((2 ^ 52 + digits) * 2 ^ field) (2 ^ 1074))
      (sym (choice_false _ _ (ne_eqb (suc field) 2047 (omega arith)))) (odd_sign 53 s (2 ^ 52 + digits) field 1074)

  -- as a fraction of 2^k, k = 1075 - field
  value_below : (field k : ℕ) → field + k ≡ 1075 → 0 < field → HasValue (of_fields binary64 s field digits) s (2 ^ 52 + digits) (2 ^ k)
  value_below zero k sum some = absurd (omega arith)
  value_below (suc field) k sum some =
      let powers : 2 ^ field * 2 ^ k ≡ 2 ^ 1074 = sym (pow-add 2 field k) ∙ ap (λ (n : ℕ). 2 ^ n) (let same : field + k ≡ 1074 = omega arith in same) in
      same_value (of_fields binary64 s (suc field) digits) s ((2 ^ 52 + digits) * 2 ^ field) (2 ^ 1074) (2 ^ 52 + digits) (2 ^ k) (pow_pos 1074)
      (mul_assoc (2 ^ 52 + digits) (2 ^ field) (2 ^ k) ∙ ap (λ (n : ℕ). (2 ^ 52 + digits) * n) powers)
      (normal_value field (omega arith))

  -- as a whole number, k = field - 1075
  value_above : (field k : ℕ) → 1075 + k ≡ field → field < 2047 → HasValue (of_fields binary64 s field digits) s ((2 ^ 52 + digits) * 2 ^ k) 1
  value_above zero k sum finite = absurd (omega arith)
  value_above (suc field) k sum finite =
      let powers : 2 ^ field ≡ 2 ^ k * 2 ^ 1074 = ap (λ (n : ℕ). 2 ^ n) (let same : field ≡ k + 1074 = omega arith in same) ∙ pow-add 2 k 1074 in
      same_value (of_fields binary64 s (suc field) digits) s ((2 ^ 52 + digits) * 2 ^ field) (2 ^ 1074) ((2 ^ 52 + digits) * 2 ^ k) 1 (pow_pos 1074)
      (mul-one ((2 ^ 52 + digits) * 2 ^ field) ∙ ap (λ (n : ℕ). (2 ^ 52 + digits) * n) powers ∙ sym (mul_assoc (2 ^ 52 + digits) (2 ^ k) (2 ^ 1074)))
      (normal_value field finite)

  -- a field of all ones is infinite, or no number
  not_finite : T (not (is_nan (of_fields binary64 s 2047 digits))) → reading_number (of_fields binary64 s 2047 digits) ≡ 3
  unfolding of_fields is_nan
  not_finite = by_digits (eqb digits 0)
    where
      by_digits : (none : Bool) → T (not (is_nan (cond none (inf s) nan))) → reading_number (cond none (inf s) nan) ≡ 3
      by_digits true number = infinite_is_three s
      by_digits false number = absurd number

-- ---- the number, the sample and the fraction by the two fields: 2^40 has the field 1063 and no digits, a half has the field 1022

module _ (s : Bool) (field digits : ℕ) (low : digits < 2 ^ 52) where
  abbrev sized : Float
  sized = of_fields binary64 s field digits

  fields_beyond : field < 2048 → T (not (is_nan sized)) → 1063 * 2 ^ 52 < field * 2 ^ 52 + digits → reading_number sized ≡ 3
  fields_beyond most number beyond = elim (dec_lt field 1075) [
    | yes under ↦
        let k = 1075 - field in
        beyond_the_range s (2 ^ 52 + digits) (2 ^ k) (pow_pos k) sized (value_below s digits field k (omega arith) (omega arith)) (short k (omega arith))
    | no over ↦
        elim (dec_lt field 2047) [
          | yes finite ↦
              let k = field - 1075 in
              beyond_the_range s ((2 ^ 52 + digits) * 2 ^ k) 1 (omega arith) sized (value_above s digits field k (omega arith) finite)
              (omega (arith, le-mul_of_pos_right (2 ^ 52 + digits) (pow_pos k)))
          | no last ↦ all_ones (omega arith) number
        ]
  ]
    where
      short : (k : ℕ) → field + k ≡ 1075 → 2 ^ 40 * 2 ^ k < 2 ^ 52 + digits
      short k sum = elim (dec_lt field 1064) [
        | yes at_end ↦ let twelve : k ≤ 12 = omega arith in omega (arith, pow_mono twelve)
        | no after ↦ let eleven : k ≤ 11 = omega arith in omega (arith, pow_mono eleven)
      ]

      all_ones : field ≡ 2047 → T (not (is_nan sized)) → reading_number sized ≡ 3
      all_ones is = subst (λ (n : ℕ). T (not (is_nan (of_fields binary64 s n digits))) → reading_number (of_fields binary64 s n digits) ≡ 3) (sym is) (not_finite s digits)

  without_field : field ≡ 0 → HasValue sized s digits (2 ^ 1074)
  without_field none = subst (λ (n : ℕ). HasValue (of_fields binary64 s n digits) s digits (2 ^ 1074)) (sym none) (subnormal_value s digits)

  far_below : (digits ≤ 2 ^ 40 * 2 ^ 1074) × (2 * digits < 2 ^ 1074)
  far_below = wide_below (2 ^ 1074) (pow_mono {i = 54} {j = 1074} (omega arith))
    where
      wide_below : (c : ℕ) → 2 ^ 54 ≤ c → (digits ≤ 2 ^ 40 * c) × (2 * digits < c)
      wide_below c wide = (omega arith, omega arith)

  fields_within : field * 2 ^ 52 + digits ≤ 1063 * 2 ^ 52 → reading_number sized ≡ 0
  fields_within within = elim (dec_lt 0 field) [
    | yes some ↦
        let k = 1075 - field in
        within_the_range s (2 ^ 52 + digits) (2 ^ k) (pow_pos k) sized (value_below s digits field k (omega arith) some) (long k (omega arith))
    | no none ↦ within_the_range s digits (2 ^ 1074) (pow_pos 1074) sized (without_field (omega arith)) far_below.0
  ]
    where
      long : (k : ℕ) → field + k ≡ 1075 → 2 ^ 52 + digits ≤ 2 ^ 40 * 2 ^ k
      long k sum = elim (dec_lt field 1063) [
        | yes before ↦ let thirteen : 13 ≤ k = omega arith in omega (arith, pow_mono thirteen)
        | no at_end ↦ let twelve : 12 ≤ k = omega arith in omega (arith, pow_mono twelve)
      ]

  -- below a half: a fraction a / c with 2a below c, and nought just where both fields are
  below_half : field < 1022 → {A : Type 0} →
      ((a c : ℕ) → 0 < c → HasValue sized s a c → 2 * a < c → eqb a 0 ≡ eqb (field + digits) 0 → A) → A
  below_half small given = elim (dec_lt 0 field) [
    | yes some ↦
        let k = 1075 - field in
        let long : 54 ≤ k = omega arith in
        given (2 ^ 52 + digits) (2 ^ k) (pow_pos k) (value_below s digits field k (omega arith) some) (omega (arith, pow_mono long))
        (ne_eqb (2 ^ 52 + digits) 0 (λ e. omega arith) ∙ sym (ne_eqb (field + digits) 0 (λ e. omega arith)))
    | no none ↦
        let same : digits ≡ field + digits = omega arith in
        given digits (2 ^ 1074) (pow_pos 1074) (without_field (omega arith)) far_below.1 (ap (λ (n : ℕ). eqb n 0) same)
  ]

  pub small_sample : field < 1022 → sample_of sized ≡ with_sign s 0
  small_sample small = below_half small (λ a c some value half same.
      sample_by_value s a c some sized value ∙ ap (with_sign s) (sym (near_is_closest a c some 0 (omega arith) (λ exact. refl))))

  pub small_fraction : field < 1022 → has_fraction sized ≡ not (eqb (field + digits) 0)
  small_fraction small = below_half small (λ a c some value half same.
      fraction_by_value s a c some sized value ∙ ap not (ap (λ (n : ℕ). eqb n 0) (mod-eq_of_lt (let under : a < c = omega arith in under)) ∙ same))

  -- from a half on: the digits over 2^k, k = 1075 - field
  module _ (k : ℕ) (sum : field + k ≡ 1075) (some : 0 < field) where
    pub large_sample : sample_of sized ≡ with_sign s (closest (2 ^ 52 + digits) (2 ^ k))
    large_sample = sample_by_value s (2 ^ 52 + digits) (2 ^ k) (pow_pos k) sized (value_below s digits field k sum some)

    -- the rest may be scaled
    pub large_fraction : {u : ℕ} → 0 < u → has_fraction sized ≡ not (eqb ((2 ^ 52 + digits) % 2 ^ k * u) 0)
    large_fraction {u} scale =
        let r : ℕ = (2 ^ 52 + digits) % 2 ^ k in
        fraction_by_value s (2 ^ 52 + digits) (2 ^ k) (pow_pos k) sized (value_below s digits field k sum some)
        ∙ ap not
        (tests_agree (eqb r 0) (eqb (r * u) 0)
        (λ none. eq-eqb (r * u) 0 (ap (λ (t : ℕ). t * u) (eqb-true r 0 none) ∙ zero-mul u))
        (λ none. eq-eqb r 0 (eq_of_mul-eq-mul_right u scale r 0 (eqb-true (r * u) 0 none ∙ sym (zero-mul u)))))

-- every subnormal is 0, and has a fraction
pub subnormal_is_nought : (s : Bool) (digits : ℕ) → 0 < digits → digits < 2 ^ 52 → (reading_number (of_fields binary64 s 0 digits) ≡ 0)
    × (sample_of (of_fields binary64 s 0 digits) ≡ pos 0) × (has_fraction (of_fields binary64 s 0 digits) ≡ true)
subnormal_is_nought s digits some low = (
  fields_within s 0 digits low (omega arith),
  small_sample s 0 digits low (omega arith) ∙ no_sign s,
  small_fraction s 0 digits low (omega arith) ∙ ap not (ne_eqb (0 + digits) 0 (λ none. omega arith)),
)
  where
    no_sign : (t : Bool) → with_sign t 0 ≡ pos 0
    no_sign true = refl
    no_sign false = refl

-- ---- a double and its bits

module _ (x : Float) (held : T (fits binary64 x)) where
  abbrev bits : ℕ
  bits = to_bits binary64 x

  pub by_fields : x ≡ of_fields binary64 (leb (2 ^ 63) bits) (bits % 2 ^ 63 / 2 ^ 52) (bits % 2 ^ 52)
  unfolding of_bits
  by_fields = sym (of_bits-to_bits binary64 x held)

  pub fields_are : (bits % 2 ^ 63 / 2 ^ 52 * 2 ^ 52 + bits % 2 ^ 52 ≡ bits % 2 ^ 63) × (bits % 2 ^ 63 / 2 ^ 52 < 2048) × (bits % 2 ^ 52 < 2 ^ 52)
  fields_are = (omega arith, omega arith, omega arith)

  pub bits_beyond : T (not (is_nan x)) → 1063 * 2 ^ 52 < bits % 2 ^ 63 → reading_number x ≡ 3
  bits_beyond number beyond =
      ap reading_number by_fields
      ∙ fields_beyond (leb (2 ^ 63) bits) (bits % 2 ^ 63 / 2 ^ 52) (bits % 2 ^ 52) fields_are.2 fields_are.1
      (subst (λ (y : Float). T (not (is_nan y))) by_fields number) (omega (arith, fields_are))

  pub bits_within : bits % 2 ^ 63 ≤ 1063 * 2 ^ 52 → reading_number x ≡ 0
  bits_within within =
      ap reading_number by_fields
      ∙ fields_within (leb (2 ^ 63) bits) (bits % 2 ^ 63 / 2 ^ 52) (bits % 2 ^ 52) fields_are.2 (omega (arith, fields_are))

  -- a reading in range: r is the size of its sample
  module _ (sample : reading_number x ≡ 0) where
    pub is_number : T (not (is_nan x))
    is_number = sample_is_number x sample

    pub fields_in_range : (bits % 2 ^ 63 / 2 ^ 52 * 2 ^ 52 + bits % 2 ^ 52 ≤ 1063 * 2 ^ 52) × (bits % 2 ^ 52 < 2 ^ 52)
    fields_in_range =
        let never : 1063 * 2 ^ 52 < bits % 2 ^ 63 → ⊥ = λ beyond. omega (arith, sample, bits_beyond is_number beyond) in
        (omega (arith, fields_are), fields_are.2)

    module _ (r : ℕ) (nearest : (s : Bool) → sample_of (of_fields binary64 s (bits % 2 ^ 63 / 2 ^ 52) (bits % 2 ^ 52)) ≡ with_sign s r) where
      by_sign : sample_of x ≡ with_sign (leb (2 ^ 63) bits) r
      by_sign = ap sample_of by_fields ∙ nearest (leb (2 ^ 63) bits)

      size_bounded : r ≤ 2 ^ 40
      size_bounded = omega (arith, sample_bounded x sample, ap nat_abs by_sign, with_sign_size (leb (2 ^ 63) bits) r)

      pub size_fits : SFits w64 (pos r)
      size_fits = small_fits (pos r) (omega (arith, size_bounded))

      pub negated_fits : Fit w64 (⊝ (r ∋ pos r))
      negated_fits = ((refl, size_fits), omega (arith, size_bounded))

      pub above_nought : bits < 2 ^ 63 → to_z w64 r ≡ sample_of x
      above_nought h = machine_is w64 (r ∋ pos r) (refl, size_fits) ∙ sym (by_sign ∙ ap (λ (s : Bool). with_sign s r) (lt-leb (2 ^ 63) bits h))

      pub below_nought : 2 ^ 63 ≤ bits → machine w64 (⊝ (r ∋ pos r)) ≡ sample_of x
      below_nought h = machine_is w64 (⊝ (r ∋ pos r)) negated_fits ∙ sym (by_sign ∙ ap (λ (s : Bool). with_sign s r) (le-leb (2 ^ 63) bits h))
