-- What the whole number nearest to a fraction is, apart from how it is found.
use Rattle.std.specs.Prelude.{◌≡◌, Bool, cond, ℕ, ◌*◌, ◌%◌, ◌≤◌, ◌<◌, ℤ, pos, neg_ℤ, nat_abs, ◌-ℤ◌, ◌*ℤ◌}

-- a whole number by its sign and its size; nought has no sign
abbrev pub with_sign : Bool → ℕ → ℤ
with_sign s n = cond s (neg_ℤ (pos n)) (pos n)

-- the distance of z and the fraction over / under with a sign, in parts of 1 / under
abbrev pub distance : Bool → ℕ → ℕ → ℤ → ℕ
distance sign over under z = nat_abs (z *ℤ pos under -ℤ with_sign sign over)

-- z is nearest to the fraction: twice their distance is at most 1, and z is even where it is exactly 1
pub record NearestTo (sign : Bool) (over under : ℕ) (z : ℤ) : Type 0 where
  pub some : 0 < under
  pub near : 2 * distance sign over under z ≤ under
  pub tie : 2 * distance sign over under z ≡ under → nat_abs z % 2 ≡ 0
