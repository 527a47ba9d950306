-- Of the whole numbers with 53 binary digits and noughts behind them, kept r is the greatest that is not above r.
use Rattle.std.proofs.Common.{◌≡◌, ℕ, zero, suc, ◌+◌, ◌-◌, ◌*◌, ◌/◌, ◌%◌, ◌^◌, ◌<◌, ◌≤◌, Bool, true, false, not, T, ltb, ◌⊎◌, sym, refl, ap, ◌∙◌, inl, inr, le_trans, le_of_eq, lt_of_le_of_lt, le_of_lt, mul-le-mul_right, mod-eq_of_lt, mul_assoc, eq-zero-or-pos, mul-le-mul_left, pow-suc, le-div_iff_mul-le, mul-one, div-mul-le_self, le_of_mul-le-mul_right, div-one, arith, lit<, ltb→lt, nltb→le, pow_pos, pow_mono, pow-add, shl_lt}
use lib.Count.{count_leading_zeros, leading_unique}
use lib.Ieee.{size}
use lib.Ieee.Digits.{size-lt, size_reaches, size-le}
use lib.Ieee.Fits.{kept-lt}

pub below_or_from : (a b : ℕ) → (a < b) ⊎ (b ≤ a)
below_or_from a b = by_test (ltb a b) (ltb→lt a b) (nltb→le a b)
  where
    by_test : (test : Bool) → (T test → a < b) → (T (not test) → b ≤ a) → (a < b) ⊎ (b ≤ a)
    by_test true below from = inl (below tt)
    by_test false below from = inr (from tt)

-- ---- how many digits are dropped

-- how many of r's lower binary digits a double leaves out
unfoldable pub dropped : ℕ → ℕ
dropped r = size r - 53

-- r with those digits cleared
unfoldable pub kept : ℕ → ℕ
kept r = r / 2 ^ dropped r * 2 ^ dropped r

-- a number of d digits is at least half of 2^d
half_reached : (r d : ℕ) → size r ≡ d → 2 ^ d ≤ 2 * r + 1
half_reached r zero digits = omega arith
half_reached r (suc d) digits = omega (arith, size_reaches r d (omega arith), pow-suc 2 d)

module _ (r : ℕ) (word : r < 2 ^ 64) where
  pub digits_at_most : size r ≤ 64
  digits_at_most = size-le r 64 word

  zeros_before_digits : 64 - size r ≡ count_leading_zeros 64 r
  zeros_before_digits =
      leading_unique 64 r (64 - size r) (size r) (omega (arith, digits_at_most)) (size-lt r) (half_reached r (size r) refl)

  pub zeros_tell_dropped : 11 - count_leading_zeros 64 r ≡ dropped r
  unfolding dropped
  zeros_tell_dropped = omega (arith, digits_at_most, zeros_before_digits)

-- ---- the digits that are kept

module _ (r : ℕ) where
  pub kept_not_above : kept r ≤ r
  unfolding kept
  kept_not_above = div-mul-le_self r (2 ^ dropped r)

  pub kept_digits : r / 2 ^ dropped r < 2 ^ 53
  unfolding dropped
  kept_digits = kept-lt 53 r

  pub kept_by_shifts : r < 2 ^ 64 → (s : ℕ) → s ≡ dropped r → r / 2 ^ s * 2 ^ s % 2 ^ 64 ≡ kept r
  unfolding kept
  kept_by_shifts word s by = rw by (mod-eq_of_lt (lt_of_le_of_lt (div-mul-le_self r (2 ^ dropped r)) word))

  pub none_dropped : dropped r ≡ 0 → r ≡ kept r
  unfolding kept
  none_dropped none = rw none (sym (mul-one (r / 1) ∙ div-one r))

  -- where a digit is dropped, the digit before the last 52 that are kept is a one
  pub kept_full : 0 < dropped r → 2 ^ (52 + dropped r) ≤ kept r
  unfolding dropped kept
  kept_full some =
      let reached : 2 ^ (52 + dropped r) ≤ r = size_reaches r (52 + dropped r) (omega arith) in
      let whole = pow-add 2 52 (dropped r) in
      le_trans (le_of_eq whole) (mul-le-mul_right (2 ^ dropped r) ((le-div_iff_mul-le (pow_pos (dropped r))).1 (le_trans (le_of_eq (sym whole)) reached)))

pub power_parts : (m j s : ℕ) → s ≤ j → m * 2 ^ j ≡ m * 2 ^ (j - s) * 2 ^ s
power_parts m j s within =
    ap (λ (k : ℕ). m * 2 ^ k) (omega arith) ∙ ap (λ (x : ℕ). m * x) (pow-add 2 (j - s) s) ∙ sym (mul_assoc m (2 ^ (j - s)) (2 ^ s))

-- ---- none between kept r and r

pub none_above_kept : (m j r : ℕ) → m < 2 ^ 53 → m * 2 ^ j ≤ r → m * 2 ^ j ≤ kept r
unfolding kept
none_above_kept m j r digits most = elim (below_or_from j (dropped r)) [
  | inl finer ↦ le_trans (le_of_lt (shl_lt 53 j digits)) (le_trans (pow_mono (omega arith)) (kept_full r (omega arith)))
  | inr coarser ↦
      let parts = power_parts m j (dropped r) coarser in
      le_trans (le_of_eq parts) (mul-le-mul_right (2 ^ dropped r) ((le-div_iff_mul-le (pow_pos (dropped r))).1 (le_trans (le_of_eq (sym parts)) most)))
]

pub kept_above_nought : (r : ℕ) → 1 ≤ r → 0 < kept r
kept_above_nought r least = none_above_kept 1 0 r (lit< tt) least

pub kept_in_order : {r s : ℕ} → r ≤ s → kept r ≤ kept s
unfolding kept
kept_in_order {r} {s} order =
    none_above_kept (r / 2 ^ dropped r) (dropped r) s (kept_digits r) (le_trans (div-mul-le_self r (2 ^ dropped r)) order)

-- so too where both are scaled by powers of two
pub none_above_scaled : (m j i r : ℕ) → m < 2 ^ 53 → m * 2 ^ j ≤ r * 2 ^ i → m * 2 ^ j ≤ kept r * 2 ^ i
none_above_scaled m j i r digits most = elim (below_or_from j i) [
  | inl finer ↦ elim (eq-zero-or-pos (dropped r)) [
    | inl none ↦ rw (← none_dropped r none) most
    | inr some ↦
        let full : 2 ^ 53 ≤ kept r = le_trans (pow_mono {i = 53} {j = 52 + dropped r} (omega arith)) (kept_full r some) in
        le_trans (mul-le-mul_right (2 ^ j) (le_trans (le_of_lt digits) full)) (mul-le-mul_left (kept r) (pow_mono (le_of_lt finer)))
  ]
  | inr coarser ↦
      let parts = power_parts m j i coarser in
      le_trans (le_of_eq parts)
      (mul-le-mul_right (2 ^ i) (none_above_kept m (j - i) r digits (le_of_mul-le-mul_right (le_trans (le_of_eq (sym parts)) most) (pow_pos i))))
]
