-- The square root is the greatest number whose square is not above a number, and the only one that its square and its successor's say; and the bits
-- of a root that is found bit by bit.
use Rattle.std.proofs.Common.{◌≡◌, ℕ, ◌+◌, ◌-◌, ◌*◌, ◌%◌, ◌^◌, ◌<◌, ◌≤◌, Bool, leb, ap, ◌∙◌, le_trans, mod-eq_of_lt, mul-le-mul, one-mul, not-le_of_lt, arith, le→leb, leb→le, pow_pos}
use lib.Dec.{T}
use lib.Pow.{pow-lt}
use Rattle.laws.specs.Greatest.{Greatest}
use Rattle.laws.proofs.GreatestLaws.{greatest_is, last_is_greatest, one_greatest}
use Rattle.laws.proofs.Halves.{power_doubles}
use Rattle.wide.specs.Wide.{square_root}

abbrev pub square_within : ℕ → ℕ → Bool
square_within n r = leb (r * r) n

square_falls : (n r s : ℕ) → r ≤ s → T (square_within n s) → T (square_within n r)
square_falls n r s under pass = le→leb (r * r) n (le_trans (mul-le-mul under under) (leb→le (s * s) n pass))

pub square_root_is_greatest : (n : ℕ) → n < 2 ^ 64 * 2 ^ 64 → Greatest (λ r. leb (r * r) n) (square_root n)
unfolding square_root
square_root_is_greatest n below =
    greatest_is (square_within n)
    (square_falls n)
    64
    (le→leb (0 * 0) n (omega arith))
    (λ pass. not-le_of_lt below (leb→le (2 ^ 64 * 2 ^ 64) n pass))

-- a number whose square is not above another, while its successor's is, is the root
pub root_is : (n r : ℕ) → n < 2 ^ 64 * 2 ^ 64 → r * r ≤ n → n < (r + 1) * (r + 1) → r ≡ square_root n
root_is n r below under over =
    one_greatest
    (last_is_greatest (square_within n) (square_falls n) r (le→leb (r * r) n under) (λ pass. not-le_of_lt over (leb→le ((r + 1) * (r + 1)) n pass)))
    (square_root_is_greatest n below)

-- ---- found bit by bit

-- a word with one bit
pub bit_of_word : (w k : ℕ) → k < w → 1 * 2 ^ k % 2 ^ w ≡ 2 ^ k
bit_of_word w k below = ap (λ (t : ℕ). t % 2 ^ w) (one-mul (2 ^ k)) ∙ mod-eq_of_lt (pow-lt below)

-- one turn: from the root's bits above 2^left to those above 2^(left-1)
module _ (left : ℕ) (some : 0 < left) (within : left ≤ 64) where
  abbrev pub bit : ℕ
  bit = 1 * 2 ^ (left - 1) % 2 ^ 64

  pub bit_is : bit ≡ 2 ^ (left - 1)
  bit_is = bit_of_word 64 (left - 1) (omega arith)

  pub bit_fits : (r : ℕ) → r + 2 ^ left ≤ 2 ^ 64 → r + bit < 2 ^ 64
  bit_fits r room = omega (arith, bit_is, power_doubles left some, pow_pos (left - 1))
