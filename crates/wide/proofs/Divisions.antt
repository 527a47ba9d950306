-- What a division answers, digit by digit: a digit from its guess, a quotient from two digits, and both numbers scaled alike.
use Rattle.std.proofs.Common.{◌≡◌, ℕ, ◌+◌, ◌-◌, ◌*◌, ◌/◌, ◌%◌, ◌^◌, ◌<◌, ◌≤◌, max, Bool, cond, None, Some, sym, ap, ◌∙◌, ap₂, mod-lt, mod-eq_of_lt, div-add-mod', mul-le-mul_left, mul-le-mul_right, pow_pos, ne_eqb, arith}
use Rattle.std.proofs.Math.Nat.{div-mul-le_self, lt-div-mul-add, div-lt_iff_lt-mul, add-mul-div_right, mul-div-mul_right, mul-div_cancel}
use Rattle.std.proofs.lemmas.Nat.{le-div, pow-add}
use Rattle.laws.proofs.Halves.{quotient_is, remainder_is, high_half, low_half, high_part_below, remainder_scaled}
use Rattle.wide.specs.Wide.{value, halves, division_of}
use Rattle.wide.specs.declared.Wide.{Wide}
use Rattle.wide.specs.declared.Division.{Division}

-- ---- a quotient of one digit to the base b, guessed from what both numbers count of b, where the divisor counts half of b or more
module _ (b n d : ℕ) (positive : 0 < b) (top : b ≤ 2 * (d / b)) (below : n < d * b) where
  abbrev guess : ℕ
  guess = n / b / (d / b)

  some : 0 < d / b
  some = omega arith

  divisor_some : 0 < d
  divisor_some = omega (arith, div-mul-le_self d b, mul-le-mul_right b some)

  over : n < (guess + 1) * d
  over =
      let high : n / b + 1 ≤ guess * (d / b) + d / b = omega (arith, lt-div-mul-add {a = n / b} some) in
      omega (arith, lt-div-mul-add {a = n} positive, mul-le-mul_right b high, mul-le-mul_left (guess + 1) (div-mul-le_self d b))

  -- it is not too small
  pub guess_reaches : n / d ≤ guess
  guess_reaches =
      let less : n / d < guess + 1 = (div-lt_iff_lt-mul divisor_some).1 over in
      omega arith

  guess_within : guess ≤ b + 1
  guess_within =
      let high : n / b < (b + 2) * (d / b) = omega (arith, high_part_below d b n positive below, div-add-mod' d b, mod-lt d positive, top) in
      let less : guess < b + 2 = (div-lt_iff_lt-mul some).1 high in
      omega arith

  under : guess * d ≤ n + 2 * d
  under =
      omega (
        arith,
        ap (λ (t : ℕ). guess * t) (div-add-mod' d b),
        mul-le-mul_right b (div-mul-le_self (n / b) (d / b)),
        div-mul-le_self n b,
        mul-le-mul_right (d % b) guess_within,
        mul-le-mul_left (b + 1) (mod-lt d positive),
        mul-le-mul_right b top,
        div-mul-le_self d b,
      )

  -- it is two too large at most
  pub guess_near : guess ≤ n / d + 2
  guess_near =
      let most : guess ≤ (n + 2 * d) / d = le-div guess (n + 2 * d) d divisor_some under in
      omega (arith, add-mul-div_right n 2 divisor_some)

  -- so that it is the quotient after two steps, each of which takes one off where it is too large
  pub guess_lowered_twice : {first second : ℕ} → first ≤ max (n / d) (guess - 1) → n / d ≤ second → second ≤ max (n / d) (first - 1) → second ≡ n / d
  guess_lowered_twice once reaches twice = omega (arith, guess_near)

-- ---- quotient and remainder of two digits: the high one first, and its remainder before the low one
module _ (b h l d : ℕ) (positive : 0 < d) where
  whole : h * b + l ≡ (h / d * b + (h % d * b + l) / d) * d + (h % d * b + l) % d
  whole = omega (arith, ap (λ (t : ℕ). t * b) (div-add-mod' h d), div-add-mod' (h % d * b + l) d)

  pub quotient_by_halves : (h * b + l) / d ≡ h / d * b + (h % d * b + l) / d
  quotient_by_halves = quotient_is (h * b + l) d (h / d * b + (h % d * b + l) / d) ((h % d * b + l) % d) (mod-lt (h % d * b + l) positive) whole

  pub remainder_by_halves : (h * b + l) % d ≡ (h % d * b + l) % d
  remainder_by_halves = remainder_is (h * b + l) d (h / d * b + (h % d * b + l) / d) ((h % d * b + l) % d) (mod-lt (h % d * b + l) positive) whole

-- with a rest below the divisor the quotient is one digit
pub one_digit_quotient : (b rest l d : ℕ) → rest < d → l < b → (rest * b + l) / d < b
one_digit_quotient b rest l d below low = high_part_below b d (rest * b + l) (omega arith) (omega (arith, mul-le-mul_right b below))

-- the same, of a number that is taken apart, by what two divisions answer
module _ (b n : ℕ) {d q r : ℕ} (positive : 0 < d) (q-is : q ≡ n / b / d) (r-is : r ≡ n / b % d) where
  pub quotient_by_digits : {q' : ℕ} → q' ≡ (r * b + n % b) / d → q * b + q' ≡ n / d
  quotient_by_digits next =
      ap₂ (λ (s t : ℕ). s * b + t) q-is (next ∙ ap (λ (t : ℕ). (t * b + n % b) / d) r-is)
      ∙ sym (quotient_by_halves b (n / b) (n % b) d positive)
      ∙ ap (λ (t : ℕ). t / d) (div-add-mod' n b)

  pub remainder_by_digits : {r' : ℕ} → r' ≡ (r * b + n % b) % d → r' ≡ n % d
  remainder_by_digits next =
      next
      ∙ ap (λ (t : ℕ). (t * b + n % b) % d) r-is
      ∙ sym (remainder_by_halves b (n / b) (n % b) d positive)
      ∙ ap (λ (t : ℕ). t % d) (div-add-mod' n b)

-- ---- both numbers scaled so that the divisor has its top bit
module _ {n d k : ℕ} (least : 2 ^ k ≤ d) (most : d < 2 * 2 ^ k) (within : k < 64) (below : n < d * 2 ^ 64) where
  abbrev unit : ℕ
  unit = 2 ^ (63 - k)

  unit_some : 0 < unit
  unit_some = pow_pos (63 - k)

  unit_is : 2 ^ k * unit ≡ 2 ^ 63
  unit_is =
      let all : k + (63 - k) ≡ 63 = omega arith in
      sym (pow-add 2 k (63 - k)) ∙ ap (λ (t : ℕ). 2 ^ t) all

  divisor_below : d * unit < 2 ^ 64
  divisor_below = omega (arith, unit_is, unit_some, mul-le-mul_right unit most)

  number_below : n * unit < d * unit * 2 ^ 64
  number_below = omega (arith, unit_some, mul-le-mul_right unit below)

  divisor_is : d * unit % 2 ^ 64 ≡ d * unit
  divisor_is = mod-eq_of_lt divisor_below

  number_is : n * unit % 2 ^ 128 ≡ n * unit
  number_is =
      let within-two : n * unit < 2 ^ 128 = omega (arith, number_below, divisor_below) in
      mod-eq_of_lt within-two

  pub scaled_top : 2 ^ 63 ≤ d * unit % 2 ^ 64
  scaled_top = omega (arith, divisor_is, unit_is, mul-le-mul_right unit least)

  pub scaled_below : n * unit % 2 ^ 128 < d * unit % 2 ^ 64 * 2 ^ 64
  scaled_below = omega (arith, divisor_is, number_is, number_below)

  pub scaled_quotient : n * unit % 2 ^ 128 / (d * unit % 2 ^ 64) ≡ n / d
  scaled_quotient = ap₂ ◌/◌ number_is divisor_is ∙ mul-div-mul_right n d unit_some

  pub scaled_remainder : n * unit % 2 ^ 128 % (d * unit % 2 ^ 64) / unit ≡ n % d
  scaled_remainder =
      let positive : 0 < d = omega (arith, pow_pos k) in
      ap (λ (t : ℕ). t / unit) (ap₂ ◌%◌ number_is divisor_is ∙ remainder_scaled n d unit positive unit_some)
      ∙ mul-div_cancel (n % d) unit_some

-- ---- by a divisor that is not nought there is an answer
module _ (n d : ℕ) (positive : 0 < d) where
  abbrev pub division : Division
  division = record { quotient = halves (n / d); remainder = n % d }

  pub division_given : division_of n d ≡ Some division
  unfolding division_of
  division_given =
      let some : d ≡ 0 → ⊥ = λ none. omega arith in
      ap (λ (t : Bool). cond t None (Some division)) (ne_eqb d 0 some)

  module _ {answer : Division} (given : division_of n d ≡ Some answer) where
    same : division ≡ answer
    same = let is = division_given in cc

    pub quotient_given : answer.quotient ≡ halves (n / d)
    quotient_given = sym (ap (λ (v : Division). v.quotient) same)

    pub remainder_given : answer.remainder ≡ n % d
    remainder_given = sym (ap (λ (v : Division). v.remainder) same)

-- ---- a wide number by a word
module _ (a : Wide) (d : ℕ) (positive : 0 < d) (low : a.lo < 2 ^ 64) where
  abbrev rest : ℕ
  rest = a.hi % d * 2 ^ 64 + a.lo

  rest_below : rest / d < 2 ^ 64
  rest_below = one_digit_quotient (2 ^ 64) (a.hi % d) a.lo d (mod-lt a.hi positive) low

  quotient_high : a.hi / d ≡ value a / d / 2 ^ 64
  quotient_high =
      sym (high_half (2 ^ 64) (a.hi / d) (rest / d) rest_below) ∙ sym (ap (λ (t : ℕ). t / 2 ^ 64) (quotient_by_halves (2 ^ 64) a.hi a.lo d positive))

  quotient_low : rest / d ≡ value a / d % 2 ^ 64
  quotient_low =
      sym (low_half (2 ^ 64) (a.hi / d) (rest / d) rest_below) ∙ sym (ap (λ (t : ℕ). t % 2 ^ 64) (quotient_by_halves (2 ^ 64) a.hi a.lo d positive))

  pub division_by_halves : {q r : ℕ} → q ≡ rest / d → r ≡ rest % d → Some (record { quotient = record { hi = a.hi / d; lo = q }; remainder = r }) ≡ division_of (value a) d
  division_by_halves q-is r-is =
      let low-is = q-is ∙ quotient_low in
      let r-equal = r-is ∙ sym (remainder_by_halves (2 ^ 64) a.hi a.lo d positive) in
      (λ i. Some (record { quotient = record { hi = quotient_high i; lo = low-is i }; remainder = r-equal i }))
      ∙ sym (division_given (value a) d positive)
