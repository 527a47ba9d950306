-- Squares of signed numbers from words: a number raised by c so that it is not below nought, and a square by the parts of its number above and below a
-- base; each of one number, and of the terms of a sum.
use mathlib.Core.Path.{◌≡◌, sym}
use Prim.Native.Nat.{ℕ, zero, suc, ◌+◌, ◌*◌, ◌/◌, ◌%◌, ◌^◌, ◌≤◌, ◌<◌}
use native.Mathlib.Nat.{div-add-mod', le_refl}
use native.Mathlib.Omega.{arith}
use lib.Dec.{T}
use lib.IntN.{ℤ, pos, negsuc, nat_abs, ◌+ℤ◌}
use lib.Signed.{non_neg}
use mir.Syntax.{w64}
use mir.Val.{SFits, Fits, of_z}
use Rattle.laws.specs.Sums.{sum, square}
use Rattle.laws.proofs.Parts.{plus, minus, one_part, size_is, +ℤ_parts}
use Rattle.laws.proofs.Expressions.{Expression, #◌, ◌∋◌, ◌⊕◌}
use Rattle.laws.proofs.Machine.{Fit, machine, result, operation_fits, cast_fits, cast_is}

-- ---- a number raised by c

abbrev pub raised : ℕ → ℤ → ℕ
raised c z = nat_abs (z +ℤ pos c)

module _ (c : ℕ) (z : ℤ) (within : nat_abs z ≤ c) where
  pub raised_is : raised c z + minus z ≡ plus z + c
  raised_is = omega (arith, +ℤ_parts z (pos c), one_part (z +ℤ pos c), size_is (z +ℤ pos c), size_is z, one_part z)

  pub raised_within : raised c z ≤ 2 * c
  raised_within = omega (arith, raised_is, size_is z)

-- the machine raises a number that it holds as the word s
module _ (c : ℕ) (z : ℤ) (within : nat_abs z ≤ c) (small : c ≤ 2 ^ 61) (s : ℕ) (s-is : s ≡ of_z w64 z) where
  abbrev raising : Expression
  raising = s ∋ z ⊕ # c

  raising_fits : Fit w64 raising
  raising_fits = omega (arith, size_is z)

  pub raise_fits : SFits w64 (result w64 raising)
  raise_fits = operation_fits w64 raising raising_fits

  pub raise_casts : T (non_neg (machine w64 raising)) × Fits w64 (nat_abs (machine w64 raising))
  raise_casts = cast_fits w64 w64 raising raising_fits (omega (arith, size_is z))

  pub raise_is : nat_abs (machine w64 raising) ≡ raised c z
  raise_is = cast_is w64 raising (raised c z) raising_fits (omega (arith, raised_is c z within))

-- above nought n more than c, below it n less
square_above : (c n u : ℕ) → u ≡ n + c → n * n + 2 * c * u ≡ u * u + c * c
square_above c n u e = rw e (omega arith)

square_below : (c n u : ℕ) → c ≡ u + n → n * n + 2 * c * u ≡ u * u + c * c
square_below c n u e = rw e (omega arith)

-- the square of a number from that of the raised one
pub square_of_raised : (c : ℕ) (z : ℤ) → nat_abs z ≤ c → square z + 2 * c * raised c z ≡ raised c z * raised c z + c * c
square_of_raised c (pos n) within = square_above c n (raised c (pos n)) (omega (arith, raised_is c (pos n) within))
square_of_raised c (negsuc n) within = square_below c (suc n) (raised c (negsuc n)) (omega (arith, raised_is c (negsuc n) within))

-- the squares of many
pub squares_of_raised : (c n : ℕ) (f : ℕ → ℤ) → ((i : ℕ) → i < n → nat_abs (f i) ≤ c) →
    sum n (λ i. square (f i)) + 2 * c * sum n (λ i. raised c (f i)) ≡ sum n (λ i. raised c (f i) * raised c (f i)) + n * (c * c)
unfolding sum
squares_of_raised c zero f within = omega arith
squares_of_raised c (suc n) f within =
    omega (arith, squares_of_raised c n f (λ i below. within i (omega arith)), square_of_raised c (f n) (within n (le_refl _)))

-- ---- a square by the parts of its number above and below b

pub square_by_parts : (b u : ℕ) → u * u ≡ u / b * (u / b) * (b * b) + u / b * (u % b) * (2 * b) + u % b * (u % b)
square_by_parts b u = joined (u / b) (u % b) (sym (div-add-mod' u b))
  where
    joined : (h l : ℕ) → u ≡ h * b + l → u * u ≡ h * h * (b * b) + h * l * (2 * b) + l * l
    joined h l e = rw e (omega arith)

-- the squares of many
pub squares_by_parts : (b n : ℕ) (f : ℕ → ℕ) →
    sum n (λ i. f i * f i)
    ≡ sum n (λ i. f i / b * (f i / b)) * (b * b) + sum n (λ i. f i / b * (f i % b)) * (2 * b) + sum n (λ i. f i % b * (f i % b))
unfolding sum
squares_by_parts b zero f = omega arith
squares_by_parts b (suc n) f = omega (arith, squares_by_parts b n f, square_by_parts b (f n))
