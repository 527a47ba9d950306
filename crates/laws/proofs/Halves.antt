-- Numbers in two halves to a base: what each half is, and their product with one digit, over any base.
use mathlib.Core.Path.{◌≡◌, refl, ap}
use Prim.Native.Nat.{ℕ, zero, suc, ◌+◌, ◌-◌, ◌*◌, ◌/◌, ◌%◌, ◌^◌, ◌≤◌, ◌<◌}
use native.Mathlib.Nat.{mod-lt, mul-lt-mul_of_pos_right, mul-le-mul, mul-le-mul_left, mul-le-mul_right, div-add-mod', div-eq_of_lt-le, div-lt_iff_lt-mul, two-pow-succ}
use native.Mathlib.Omega.{arith}

-- ---- one quotient and one remainder
module _ (n d q r : ℕ) (below : r < d) (split : n ≡ q * d + r) where
  pub quotient_is : n / d ≡ q
  quotient_is = div-eq_of_lt-le d (omega arith) (omega arith)

  pub remainder_is : n % d ≡ r
  remainder_is = omega (arith, div-add-mod' n d, ap (λ (t : ℕ). t * d) quotient_is)

-- the two halves of a number that is put together from two
pub high_half : (b h l : ℕ) → l < b → (h * b + l) / b ≡ h
high_half b h l below = quotient_is (h * b + l) b h l below refl

pub low_half : (b h l : ℕ) → l < b → (h * b + l) % b ≡ l
low_half b h l below = remainder_is (h * b + l) b h l below refl

-- a number below c * b has its high part below c
pub high_part_below : (c b n : ℕ) → 0 < b → n < c * b → n / b < c
high_part_below c b n positive below = (div-lt_iff_lt-mul positive).1 below

-- two digits, one below c and one below b, make a number below c * b
pub two_digits_below : (c b h l : ℕ) → h < c → l < b → h * b + l < c * b
two_digits_below c b h l high low = omega (arith, mul-le-mul_right b high)

-- a remainder, and what is divided, times the same
pub remainder_scaled : (n d u : ℕ) → 0 < d → 0 < u → n * u % (d * u) ≡ n % d * u
remainder_scaled n d u d-positive u-positive =
    remainder_is (n * u) (d * u) (n / d) (n % d * u) (mul-lt-mul_of_pos_right (mod-lt n d-positive) u-positive)
    (omega (arith, ap (λ (t : ℕ). t * u) (div-add-mod' n d)))

-- a difference modulo t is the difference where it does not go below nought
pub difference_within : (t x y : ℕ) → x < t → y ≤ x → (x + t - y) % t ≡ x - y
difference_within t x y below under = remainder_is (x + t - y) t 1 (x - y) (omega arith) (omega arith)

-- ---- products of digits, and what fits beside them below b * b
pub product_below : (b p q : ℕ) → p < b → q < b → p * q < b * b
product_below b p q left right = omega (arith, mul-le-mul left right)

pub product_and_digit_below : (b p q r : ℕ) → p < b → q < b → r < b → p * q + r < b * b
product_and_digit_below b p q r left right more = omega (arith, mul-le-mul_right q left, mul-le-mul_left b right)

-- two digits by one, in three: the low digit's product first, and its high half into the high digit's product
pub two_digits_times : (b h l y u : ℕ) → u ≡ h * y + l * y / b → u * b + l * y % b ≡ (h * b + l) * y
two_digits_times b h l y u upper = omega (arith, ap (λ (t : ℕ). t * b) upper, div-add-mod' (l * y) b)

pub upper_digits_below : (b h l y : ℕ) → h < b → l < b → y < b → h * y + l * y / b < b * b
upper_digits_below b h l y high low times =
    product_and_digit_below b h y (l * y / b) high times (high_part_below b b (l * y) (omega arith) (product_below b l y low times))

-- ---- powers of two, at a width one less
pub power_doubles : (k : ℕ) → 0 < k → 2 ^ k ≡ 2 * 2 ^ (k - 1)
power_doubles zero some = absurd (omega arith)
power_doubles (suc k) some =
    let less : k ≡ suc k - 1 = omega arith in
    omega (arith, two-pow-succ k, ap (λ (t : ℕ). 2 ^ t) less)
