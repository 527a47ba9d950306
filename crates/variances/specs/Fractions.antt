-- The greatest common divisor, by which a fraction comes to lowest terms: Euclid's rule of repeated remainders.
use Rattle.std.specs.Prelude.{ℕ, zero, suc, ◌%◌}

-- Euclid's rule for at most so many remainders: the second number replaces the first, and the remainder the second, until that is nought
unfoldable pub euclid : ℕ → ℕ → ℕ → ℕ
euclid zero a b = a
euclid (suc more) a zero = a
euclid (suc more) a (suc b) = euclid more (suc b) (a % suc b)

-- the remainder falls at each step, so that one more than b are enough
unfoldable pub gcd : ℕ → ℕ → ℕ
gcd a b = euclid (suc b) a b
