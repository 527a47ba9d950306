-- What the code's doubles are, what a double over a power of two is, and that two doubles above nought of one value are one.
use Rattle.std.proofs.Common.{◌≡◌, ℕ, zero, suc, ◌+◌, ◌-◌, ◌*◌, ◌/◌, ◌%◌, ◌^◌, ◌<◌, ◌≤◌, Bool, true, false, ◌&&◌, ◌||◌, T, eqb, ltb, leb, ℤ, pos, negsuc, sym, refl, ap, ◌∙◌, inl, inr, true≢false, lt_of_lt_of_le, zero-lt-suc, mul_assoc, mul_comm, le_antisymm, mul-pos, one-mul, pow-suc, mul-one, mul_right_comm, arith, lit<, lit≤, eqb→eq, ltb→lt, lt→ltb, pow_pos, pow_mono, pow-add, shl_lt}
use native.Mathlib.Nat.{eq_of_mul-eq-mul_right}
use lib.Ieee.{Float, nan, inf, fin, Format, binary64, up, down, size, round, div, lt, eq, le, fits, of_int, of_bits}
use lib.Ieee.Fits.{up_pos, down_pos, and_l, and_r}
use lib.Ieee.Exact.{HasValue, round_exact}
use lib.Ieee.Scale.{round_same}
use lib.Ieee.Positive.{num, den, positive, le→cross}
use Rattle.plot.specs.Drawn.{plus_zero, drawn_number}
use Rattle.plot.proofs.Grid.{dropped, kept, below_or_from, digits_at_most, kept_digits, power_parts}

-- ---- the doubles that the code writes out

pub zero_written : of_bits binary64 0 ≡ plus_zero
unfolding of_bits
zero_written = refl

-- 1048576.0
pub scale_written : of_bits binary64 0x4130_0000_0000_0000 ≡ fin false 1 (pos 20)
unfolding of_bits
scale_written = refl

-- ---- over a power of two

pub over_power : (f : Format) (x : Float) (a k : ℕ) → HasValue x false a 1 → div f x (fin false 1 (pos k)) ≡ round f false a (2 ^ k)
unfolding div
over_power f nan a k value = absurd value
over_power f (inf s) a k value = absurd value
over_power f (fin true m e) a k value = absurd (true≢false value.0)
over_power f (fin false m e) a k value =
    round_same f false (m * up e * 1) (1 * 2 ^ k * down e) a (2 ^ k) (mul-pos (mul-pos (zero-lt-suc 0) (pow_pos k)) (down_pos e)) (pow_pos k)
    (ap (λ (x : ℕ). x * 2 ^ k) value.1
    ∙ mul_assoc a (down e) (2 ^ k)
    ∙ ap (λ (x : ℕ). a * x) (mul_comm (down e) (2 ^ k) ∙ ap (λ (x : ℕ). x * down e) (sym (one-mul (2 ^ k)))))

-- the digits that are kept, over a power of two, are a double exactly
pub kept_exact : (r k : ℕ) → r < 2 ^ 64 → k ≤ 1000 → HasValue (round binary64 false (kept r) (2 ^ k)) false (kept r) (2 ^ k)
unfolding dropped kept
kept_exact r k word most =
    let s = dropped r in
    let digits = r / 2 ^ s in
    let above = s + (1074 - k) in
    let few : size r ≤ 64 = digits_at_most r word in
    round_exact binary64 false (digits * 2 ^ s) (2 ^ k) digits above (pow_pos k) (kept_digits r)
    (lt_of_lt_of_le (shl_lt 53 above (kept_digits r)) (pow_mono {i = 53 + above} {j = 2098} (omega arith)))
    (mul_assoc digits (2 ^ s) (2 ^ 1074)
    ∙ ap (λ (x : ℕ). digits * x) (sym (pow-add 2 s 1074) ∙ ap (λ (x : ℕ). 2 ^ x) (omega arith) ∙ pow-add 2 above k)
    ∙ sym (mul_assoc digits (2 ^ above) (2 ^ k)))

whole_rounded : (n : ℕ) → of_int binary64 (pos n) ≡ round binary64 false n 1
unfolding of_int
whole_rounded n = refl

-- what draw computes from the digits that are kept
pub quotient_drawn : (r : ℕ) (n : ℕ) (x : Float) → r < 2 ^ 64 → n ≡ kept r → x ≡ of_int binary64 (pos n)
    → div binary64 x (of_bits binary64 0x4130_0000_0000_0000) ≡ drawn_number r
unfolding drawn_number kept dropped
quotient_drawn r n x word digits nearest =
    rw (nearest, digits, whole_rounded, scale_written) (over_power binary64 (round binary64 false (kept r) 1) (kept r) 20 (kept_exact r 0 word (lit≤ tt)))

-- ---- the digits of a double

module _ (s : Bool) (m : ℕ) (e : ℤ) where
  pub digits_below : T (fits binary64 (fin s m e)) → m < 2 ^ 53
  unfolding fits
  digits_below = by_digits m
    where
      by_digits : (m : ℕ) → T (fits binary64 (fin s m e)) → m < 2 ^ 53
      by_digits zero double = lit< tt
      by_digits (suc m) double =
          let A = eqb (suc m % 2) 1 in
          let B = ltb (suc m) (2 ^ 53) in
          let C = leb (down e) (2 ^ 1074) in
          let D = ltb (suc m * up e) (2 ^ 1024 * down e) in
          ltb→lt (suc m) (2 ^ 53) (and_r A B (and_l (A && B) C (and_l (A && B && C) D double)))

  pub last_digit_one : T (fits binary64 (fin s (suc m) e)) → suc m % 2 ≡ 1
  unfolding fits
  last_digit_one double =
      let A = eqb (suc m % 2) 1 in
      let B = ltb (suc m) (2 ^ 53) in
      let C = leb (down e) (2 ^ 1074) in
      let D = ltb (suc m * up e) (2 ^ 1024 * down e) in
      eqb→eq (suc m % 2) 1 (and_l A B (and_l (A && B) C (and_l (A && B && C) D double)))

-- ---- a number is an odd one times a power of two in one way

even_not_odd : (m t : ℕ) → m % 2 ≡ 1 → m ≡ t * 2 → ⊥
even_not_odd m t odd even = omega arith

power_not_lower : (m n a b : ℕ) → m % 2 ≡ 1 → m * 2 ^ a ≡ n * 2 ^ b → b ≤ a
power_not_lower m n a b odd same = elim (below_or_from a b) [
  | inl lower ↦
      let rest = n * 2 ^ (b - suc a) in
      absurd (even_not_odd m rest odd
      (eq_of_mul-eq-mul_right (2 ^ a) (pow_pos a) m (rest * 2)
      (same ∙ power_parts n b (suc a) lower ∙ ap (λ (x : ℕ). rest * x) (pow-suc 2 a) ∙ sym (mul_assoc rest (2 ^ a) 2) ∙ mul_right_comm rest (2 ^ a) 2)))
  | inr from ↦ from
]

odd_parts_agree : (m n a b : ℕ) → m % 2 ≡ 1 → n % 2 ≡ 1 → m * 2 ^ a ≡ n * 2 ^ b → (m ≡ n) × (a ≡ b)
odd_parts_agree m n a b odd-m odd-n same =
    let level : a ≡ b = le_antisymm (power_not_lower n m b a odd-n (sym same)) (power_not_lower m n a b odd-m same) in
    (eq_of_mul-eq-mul_right (2 ^ b) (pow_pos b) m n (rw level at same), level)

powers_joined : (m a b : ℕ) → m * 2 ^ a * 2 ^ b ≡ m * 2 ^ (a + b)
powers_joined m a b = mul_assoc m (2 ^ a) (2 ^ b) ∙ ap (λ (x : ℕ). m * x) (sym (pow-add 2 a b))

not_nought : (a b : ℕ) → a + suc b ≡ 0 → ⊥
not_nought a b nought = omega arith

exponents_agree : (m n : ℕ) (e g : ℤ) → m % 2 ≡ 1 → n % 2 ≡ 1 → m * up e * down g ≡ n * up g * down e → (m ≡ n) × (e ≡ g)
exponents_agree m n (pos a) (pos b) odd-m odd-n same =
    let agree = odd_parts_agree m n a b odd-m odd-n (sym (mul-one (m * 2 ^ a)) ∙ same ∙ mul-one (n * 2 ^ b)) in (agree.0, ap pos agree.1)
exponents_agree m n (pos a) (negsuc b) odd-m odd-n same =
    absurd (not_nought a b (odd_parts_agree m n (a + suc b) 0 odd-m odd-n (sym (powers_joined m a (suc b)) ∙ same ∙ mul-one (n * 1))).1)
exponents_agree m n (negsuc a) (pos b) odd-m odd-n same =
    absurd (not_nought b a (odd_parts_agree n m (b + suc a) 0 odd-n odd-m (sym (powers_joined n b (suc a)) ∙ sym same ∙ mul-one (m * 1))).1)
exponents_agree m n (negsuc a) (negsuc b) odd-m odd-n same =
    let agree = odd_parts_agree m n (suc b) (suc a) odd-m odd-n (sym (ap (λ (x : ℕ). x * 2 ^ suc b) (mul-one m)) ∙ same ∙ ap (λ (x : ℕ). x * 2 ^ suc a) (mul-one n)) in
    let level : a ≡ b = omega (arith, agree.1) in
    (agree.0, ap negsuc level)

-- ---- the order of doubles

-- two doubles above nought of one value are one
pub one_value_one_double : (x y : Float) → T (fits binary64 x) → T (fits binary64 y) → T (positive x) → T (positive y)
    → num x * den y ≡ num y * den x → x ≡ y
one_value_one_double (fin false (suc m) e) (fin false (suc n) g) double-x double-y above-x above-y same =
    let agree = exponents_agree (suc m) (suc n) e g (last_digit_one false m e double-x) (last_digit_one false n g double-y) same in
    λ i. fin false (agree.0 i) (agree.1 i)
one_value_one_double nan y double-x double-y above-x above-y same = elim above-x [ ]
one_value_one_double (inf _) y double-x double-y above-x above-y same = elim above-x [ ]
one_value_one_double (fin false zero e) y double-x double-y above-x above-y same = elim above-x [ ]
one_value_one_double (fin false (suc m) e) nan double-x double-y above-x above-y same = elim above-y [ ]
one_value_one_double (fin false (suc m) e) (inf _) double-x double-y above-x above-y same = elim above-y [ ]
one_value_one_double (fin false (suc m) e) (fin false zero g) double-x double-y above-x above-y same = elim above-y [ ]
one_value_one_double (fin false (suc m) e) (fin true _ g) double-x double-y above-x above-y same = elim above-y [ ]
one_value_one_double (fin true _ e) y double-x double-y above-x above-y same = elim above-x [ ]

pub neither_less_same : (x y : Float) → T (fits binary64 x) → T (fits binary64 y) → T (positive x) → T (positive y)
    → T (le x y) → T (le y x) → x ≡ y
neither_less_same x y double-x double-y above-x above-y one other =
    one_value_one_double x y double-x double-y above-x above-y (le_antisymm (le→cross x y above-x above-y one) (le→cross y x above-y above-x other))

some_more : (a b : ℕ) → 0 < b → 0 < a + b
some_more a b some = omega arith

either_holds : (s t : Bool) → T s → T (s || t)
either_holds true t holds = tt
either_holds false t holds = absurd holds

-- a number with a minus, and minus infinity, are not above a double above nought
pub minus_not_above : (m : ℕ) (e : ℤ) (x : Float) → T (positive x) → T (le (fin true m e) x)
unfolding le
minus_not_above m e (fin false n g) above =
    either_holds (lt (fin true m e) (fin false n g)) (eq (fin true m e) (fin false n g))
    (lt→ltb 0 (m * up e * down g + n * up g * down e)
    (some_more (m * up e * down g) (n * up g * down e) (mul-pos (mul-pos (ltb→lt 0 n above) (up_pos g)) (down_pos e))))
minus_not_above m e nan above = elim above [ ]
minus_not_above m e (inf _) above = elim above [ ]
minus_not_above m e (fin true n g) above = elim above [ ]

pub minus_infinity_not_above : (x : Float) → T (positive x) → T (le (inf true) x)
unfolding le
minus_infinity_not_above (fin false n g) above = tt
minus_infinity_not_above nan above = elim above [ ]
minus_infinity_not_above (inf _) above = elim above [ ]
minus_infinity_not_above (fin true n g) above = elim above [ ]
