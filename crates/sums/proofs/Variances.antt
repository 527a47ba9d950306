-- The time variance is m^2/3 times the modified variance, and at factor 1 the modified variance is the Allan variance.
use mathlib.Core.Path.{◌≡◌, ap, ◌∙◌}
use mathlib.Core.List.{List}
use Prim.Native.Nat.{ℕ, ◌+◌, ◌*◌}
use native.Mathlib.Nat.{add-zero}
use native.Mathlib.Omega.{arith}
use lib.IntN.{ℤ, +ℤ_idl}
use Rattle.laws.specs.Sums.{sum, sum_ℤ, square}
use Rattle.laws.proofs.SumLaws.{sum_equal}
use Rattle.sums.specs.Published.{difference, window_sum, allan_sum, allan_count, allan_denominator, modified_sum, modified_count, time_denominator}

-- the modified variance is B / (2 m^4 C)
unfoldable pub modified_denominator : ℕ → ℕ → ℕ
modified_denominator m c = 2 * (m * m * m * m) * c

-- B / (6 m^2 C) and m^2 B / (3 * 2 m^4 C) are equal fractions: multiplied across they are equal
pub time_variance_is_modified : (m b c : ℕ) → b * (3 * modified_denominator m c) ≡ m * m * b * time_denominator m c
unfolding modified_denominator time_denominator
time_variance_is_modified m b c = omega arith

-- ---- factor 1: a window is one second difference

window_of_one : (xs : List ℤ) (j : ℕ) → window_sum 1 xs j ≡ difference 1 xs j
unfolding window_sum sum_ℤ
window_of_one xs j = +ℤ_idl (difference 1 xs (j + 0)) ∙ ap (difference 1 xs) (add-zero j)

pub modified_count_at_one : (xs : List ℤ) → modified_count 1 xs ≡ allan_count 1 xs
unfolding modified_count allan_count
modified_count_at_one xs = omega arith

pub modified_sum_at_one : (xs : List ℤ) → modified_sum 1 xs ≡ allan_sum 1 xs
unfolding modified_sum allan_sum
modified_sum_at_one xs =
    ap (λ (n : ℕ). sum n (λ j. square (window_sum 1 xs j))) (modified_count_at_one xs)
    ∙ sum_equal (allan_count 1 xs) _ _ (λ j below. ap square (window_of_one xs j))

pub modified_denominator_at_one : (c : ℕ) → modified_denominator 1 c ≡ allan_denominator 1 c
unfolding modified_denominator allan_denominator
modified_denominator_at_one c = omega arith
