-- The deviation of a variance.
use Rattle.std.specs.Prelude.{Bool, ℕ, ◌*◌, ◌^◌, leb}
use Rattle.laws.specs.Greatest.{greatest}

-- r squared times D is not above A times 2^40
abbrev pub within : ℕ → ℕ → ℕ → Bool
within a d r = leb (r * r * d) (a * 2 ^ 40)

-- the greatest whole number r with r^2 D not above A times 2^40, for A below 2^126 and D not nought: picoseconds in units of 2^-20
unfoldable pub deviation : ℕ → ℕ → ℕ
deviation a d = greatest 84 (within a d)
