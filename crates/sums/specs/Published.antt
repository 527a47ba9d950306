-- The published sums of a phase record x_0 to x_(N-1) at factor m, letter by letter. Source: NIST Technical Note 1337, the definitions paper
-- reprinted there (its overlapping estimate of the Allan variance, and its modified Allan variance), counted here from 0 and with the interval
-- between samples as the unit of time.
use Rattle.std.specs.Prelude.{ℕ, ◌+◌, ◌-◌, ◌*◌, List, ℤ, pos, ◌+ℤ◌, ◌-ℤ◌, ◌*ℤ◌, length}
use Rattle.laws.specs.Sums.{sum, sum_ℤ, square}
use Rattle.laws.specs.Lists.{at}

-- the second difference d_i = x_(i+2m) - 2 x_(i+m) + x_i
unfoldable pub difference : ℕ → List ℤ → ℕ → ℤ
difference m xs i = at xs (i + 2 * m) -ℤ pos 2 *ℤ at xs (i + m) +ℤ at xs i

-- Allan, N at least 2m+1: the count K = N-2m
unfoldable pub allan_count : ℕ → List ℤ → ℕ
allan_count m xs = length xs - 2 * m

-- A is the sum of d_i squared, i from 0 to N-2m-1
unfoldable pub allan_sum : ℕ → List ℤ → ℕ
allan_sum m xs = sum (allan_count m xs) (λ i. square (difference m xs i))

-- the variance is A / (2 m^2 K)
unfoldable pub allan_denominator : ℕ → ℕ → ℕ
allan_denominator m k = 2 * (m * m) * k

-- S_j is the sum of d_j to d_(j+m-1)
unfoldable pub window_sum : ℕ → List ℤ → ℕ → ℤ
window_sum m xs j = sum_ℤ m (λ i. difference m xs (j + i))

-- modified, N at least 3m: the count C = N-3m+1, written so that it is nought below 3m
unfoldable pub modified_count : ℕ → List ℤ → ℕ
modified_count m xs = length xs + 1 - 3 * m

-- B is the sum of S_j squared, j from 0 to N-3m
unfoldable pub modified_sum : ℕ → List ℤ → ℕ
modified_sum m xs = sum (modified_count m xs) (λ j. square (window_sum m xs j))

-- the time variance, m^2/3 times the modified variance, is B / (6 m^2 C)
unfoldable pub time_denominator : ℕ → ℕ → ℕ
time_denominator m c = 6 * (m * m) * c
