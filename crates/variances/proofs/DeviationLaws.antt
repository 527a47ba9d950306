-- The deviation is the greatest number that passes its test, and bit by bit it is found; the test one above 2^62 tells whether it is above 2^62.
use mathlib.Core.Path.{◌≡◌, subst, ◌∙◌}
use mathlib.Core.Bool.{true, false}
use Prim.Native.Nat.{ℕ, ◌+◌, ◌*◌, ◌^◌, ◌≤◌, ◌<◌}
use native.Mathlib.Nat.{le_refl, le_trans, lt_of_lt_of_le, not-le_of_lt, mul-le-mul, mul-lt-mul_of_pos_right}
use native.Mathlib.Omega.{arith}
use lib.Dec.{T, leb→le, le→leb, lit<, lit≤}
use Rattle.laws.specs.Greatest.{Greatest, bit_by_bit, greatest}
use Rattle.laws.proofs.GreatestLaws.{one_greatest, greatest_is, no_bits_left}
use Rattle.laws.proofs.Tests.{true_holds}
use Rattle.variances.specs.Deviations.{within, deviation}

-- ---- the test: r^2 d is not above a times 2^40

module _ (a d : ℕ) where
  -- what passes, passes lower too
  pub within_goes_down : (r s : ℕ) → r ≤ s → T (within a d s) → T (within a d r)
  within_goes_down r s under pass =
      le→leb (r * r * d) (a * 2 ^ 40) (le_trans (mul-le-mul (mul-le-mul under under) (le_refl d)) (leb→le (s * s * d) (a * 2 ^ 40) pass))

  pub nought_within : T (within a d 0)
  nought_within = le→leb (0 * 0 * d) (a * 2 ^ 40) (omega arith)

  fails_above : (r : ℕ) → within a d r ≡ false → (s : ℕ) → r ≤ s → T (within a d s) → ⊥
  fails_above r fails s under pass = subst T fails (within_goes_down r s under pass)

  module _ (some : 0 < d) (below : a < 2 ^ 126) where
    -- no sum below 2^126 has a deviation of 2^84
    pub within_ends : T (within a d (2 ^ 84)) → ⊥
    within_ends pass =
        let small : a * 2 ^ 40 < 2 ^ 126 * 2 ^ 40 = mul-lt-mul_of_pos_right below (lit< tt) in
        let large : 2 ^ 84 * 2 ^ 84 * 1 ≤ 2 ^ 84 * 2 ^ 84 * d = mul-le-mul (le_refl (2 ^ 84 * 2 ^ 84)) some in
        not-le_of_lt (lt_of_lt_of_le small (le_trans (lit≤ tt) large)) (leb→le (2 ^ 84 * 2 ^ 84 * d) (a * 2 ^ 40) pass)

    -- the deviation passes, and no greater number does
    pub deviation_is_greatest : Greatest (within a d) (deviation a d)
    unfolding deviation
    deviation_is_greatest = greatest_is (within a d) within_goes_down 84 nought_within within_ends

    -- ---- the test one above 2^62
    pub passes_so_above : within a d (2 ^ 62 + 1) ≡ true → 2 ^ 62 < deviation a d
    passes_so_above passes = omega (arith, deviation_is_greatest.most (2 ^ 62 + 1) (true_holds passes))

    module _ (fails : within a d (2 ^ 62 + 1) ≡ false) where
      pub fails_so_not_above : deviation a d ≤ 2 ^ 62
      fails_so_not_above =
          let not_above_lem : 2 ^ 62 < deviation a d → ⊥ = λ above. fails_above (2 ^ 62 + 1) fails (deviation a d) (omega arith) deviation_is_greatest.passes in
          omega arith

      -- 63 bits are then enough
      pub deviation_by_bits : greatest 63 (within a d) ≡ deviation a d
      deviation_by_bits =
          one_greatest (greatest_is (within a d) within_goes_down 63 nought_within (fails_above (2 ^ 62 + 1) fails (2 ^ 63) (lit≤ tt))) deviation_is_greatest

      pub found_by_bits : (left r : ℕ) → left ≡ 0 → bit_by_bit (within a d) left r ≡ greatest 63 (within a d) → r ≡ deviation a d
      found_by_bits left r none found = no_bits_left (within a d) left r none ∙ found ∙ deviation_by_bits
