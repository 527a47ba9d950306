-- What a number in two halves stands for, and what each function answers, over plain naturals.
use Rattle.std.specs.Prelude.{ℕ, ◌+◌, ◌-◌, ◌*◌, ◌/◌, ◌%◌, ◌^◌, cond, Option, None, Some, ◌==◌, nat_le}
use Rattle.laws.specs.Greatest.{greatest}
use Rattle.wide.specs.declared.Wide.{Wide}
use Rattle.wide.specs.declared.Division.{Division}

-- the number that two halves stand for
abbrev pub value : Wide → ℕ
value w = w.hi * 2 ^ 64 + w.lo

-- the two halves of a number below 2^128
abbrev pub halves : ℕ → Wide
halves n = record { hi = n / 2 ^ 64; lo = n % 2 ^ 64 }

-- a sum; past the top it starts again from nought
unfoldable pub wide_sum : Wide → Wide → Wide
wide_sum a b = halves ((value a + value b) % 2 ^ 128)

-- a difference; past nought it goes on from the top
unfoldable pub wide_difference : Wide → Wide → Wide
wide_difference a b = halves ((value a + 2 ^ 128 - value b) % 2 ^ 128)

-- quotient and remainder; a divisor of nought divides nothing
unfoldable pub division_of : ℕ → ℕ → Option Division
division_of n d = cond (d == 0) None (Some (record { quotient = halves (n / d); remainder = n % d }))

-- the greatest r with r * r not above n, for n below 2^128
unfoldable pub square_root : ℕ → ℕ
square_root n = greatest 64 (λ r. nat_le (r * r) n)
