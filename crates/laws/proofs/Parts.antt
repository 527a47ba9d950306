-- A signed number is the difference of two naturals of which one is nought: its equations, orders, ranges and sizes are facts about the two,
-- which `omega` reads. A law `..-by-parts` shows such a fact, and `parts-of-..` takes it apart.
use mathlib.Core.Path.{◌≡◌, refl, sym, ap, subst}
use mathlib.Core.Bool.{Bool, true, false, not, cond}
use Prim.Native.Nat.{ℕ, zero, suc, ◌+◌, ◌*◌, ◌-◌, ◌<◌, ◌≤◌, ◌^◌, min}
use native.Mathlib.Nat.{mul-le-mul}
use native.Mathlib.Omega.{arith}
use lib.Dec.{T, ltb, ltb→lt, nltb→le, lt→ltb, leb→le, le→leb}
use lib.IntN.{ℤ, pos, negsuc, neg_ℤ, nat_abs, sub_ℕ, ◌+ℤ◌, ◌*ℤ◌}
use lib.Signed.{mag, ◌≤ℤ◌, ◌<ℤ◌}
use mir.Syntax.{Width}
use mir.Val.{SFits, hbits}
use Rattle.laws.specs.Sums.{square}

-- how far z lies above nought
abbrev pub plus : ℤ → ℕ
plus (pos n) = n
plus (negsuc n) = 0

-- how far z lies below nought
abbrev pub minus : ℤ → ℕ
minus (pos n) = 0
minus (negsuc n) = suc n

-- a number lies above nought or below it, not both
pub one_part : (z : ℤ) → min (plus z) (minus z) ≡ 0
one_part (pos n) = omega arith
one_part (negsuc n) = omega arith

-- two numbers are equal where their differences are
pub equal_by_parts : (a b : ℤ) → plus a + minus b ≡ plus b + minus a → a ≡ b
equal_by_parts (pos a) (pos b) e = ap pos (let same : a ≡ b = omega arith in same)
equal_by_parts (pos a) (negsuc b) e = absurd (omega arith)
equal_by_parts (negsuc a) (pos b) e = absurd (omega arith)
equal_by_parts (negsuc a) (negsuc b) e = ap negsuc (let same : a ≡ b = omega arith in same)

-- equal numbers have equal differences
pub parts_of_equal : {a b : ℤ} → a ≡ b → plus a + minus b ≡ plus b + minus a
parts_of_equal {a} {b} e = subst (λ (t : ℤ). plus a + minus t ≡ plus t + minus a) e refl

-- ---- sums, negations, products

-- the difference of two naturals, whichever is greater
difference_parts : (a b : ℕ) → plus (sub_ℕ a b) + b ≡ a + minus (sub_ℕ a b)
difference_parts a b = by_test (ltb a b) (ltb→lt a b) (nltb→le a b)
  where
    by_test : (t : Bool) → (T t → a < b) → (T (not t) → b ≤ a) →
        let z = cond t (negsuc (b - suc a)) (pos (a - b)) in plus z + b ≡ a + minus z
    by_test true below above = omega (arith, below tt)
    by_test false below above = omega (arith, above tt)

-- a sum is the sum of the parts
pub +ℤ_parts : (a b : ℤ) → plus (a +ℤ b) + (minus a + minus b) ≡ (plus a + plus b) + minus (a +ℤ b)
+ℤ_parts (pos a) (pos b) = omega arith
+ℤ_parts (pos a) (negsuc b) = omega (arith, difference_parts a (suc b))
+ℤ_parts (negsuc a) (pos b) = omega (arith, difference_parts b (suc a))
+ℤ_parts (negsuc a) (negsuc b) = omega arith

-- a negation trades the parts
pub neg_ℤ_parts : (a : ℤ) → (plus (neg_ℤ a) ≡ minus a) × (minus (neg_ℤ a) ≡ plus a)
neg_ℤ_parts (pos zero) = (refl, refl)
neg_ℤ_parts (pos (suc n)) = (refl, refl)
neg_ℤ_parts (negsuc n) = (refl, refl)

-- a product is the four products of the parts
pub *ℤ_parts : (a b : ℤ) → plus (a *ℤ b) + (plus a * minus b + minus a * plus b) ≡ (plus a * plus b + minus a * minus b) + minus (a *ℤ b)
*ℤ_parts (pos a) (pos b) = omega arith
*ℤ_parts (pos a) (negsuc b) = omega (arith, neg_ℤ_parts (pos (a * suc b)))
*ℤ_parts (negsuc a) (pos b) = omega (arith, neg_ℤ_parts (pos (suc a * b)))
*ℤ_parts (negsuc a) (negsuc b) = omega arith

-- ---- orders

-- at most
pub le_by_parts : (a b : ℤ) → plus a + minus b ≤ plus b + minus a → a ≤ℤ b
le_by_parts (pos a) (pos b) h = record { le = le→leb a b (omega arith) }
le_by_parts (pos a) (negsuc b) h = absurd (omega arith)
le_by_parts (negsuc a) (pos b) h = record { le = tt }
le_by_parts (negsuc a) (negsuc b) h = record { le = le→leb b a (omega arith) }

pub parts_of_le : {a b : ℤ} → a ≤ℤ b → plus a + minus b ≤ plus b + minus a
parts_of_le {a = pos a} {b = pos b} h = omega (arith, leb→le a b h.le)
parts_of_le {a = pos a} {b = negsuc b} h = absurd h.le
parts_of_le {a = negsuc a} {b = pos b} h = omega arith
parts_of_le {a = negsuc a} {b = negsuc b} h = omega (arith, leb→le b a h.le)

-- less than
pub lt_by_parts : (a b : ℤ) → plus a + minus b < plus b + minus a → a <ℤ b
lt_by_parts (pos a) (pos b) h = record { lt = lt→ltb a b (omega arith) }
lt_by_parts (pos a) (negsuc b) h = absurd (omega arith)
lt_by_parts (negsuc a) (pos b) h = record { lt = tt }
lt_by_parts (negsuc a) (negsuc b) h = record { lt = lt→ltb b a (omega arith) }

pub parts_of_lt : {a b : ℤ} → a <ℤ b → plus a + minus b < plus b + minus a
parts_of_lt {a = pos a} {b = pos b} h = omega (arith, ltb→lt a b h.lt)
parts_of_lt {a = pos a} {b = negsuc b} h = absurd h.lt
parts_of_lt {a = negsuc a} {b = pos b} h = omega arith
parts_of_lt {a = negsuc a} {b = negsuc b} h = omega (arith, ltb→lt b a h.lt)

-- `omega (arith, signed)` reads and proves equations and orders of signed numbers
pub ruleset signed = (equal_by_parts, parts_of_equal, le_by_parts, parts_of_le, lt_by_parts, parts_of_lt)

-- ---- ranges

-- a number fits a width
pub fits_by_parts : {w : Width} (z : ℤ) → plus z < 2 ^ hbits w → minus z ≤ 2 ^ hbits w → SFits w z
fits_by_parts (pos n) h g = record { sfits = h }
fits_by_parts (negsuc n) h g = record { sfits = g }

pub parts_of_fits : {w : Width} {z : ℤ} → SFits w z → (plus z < 2 ^ hbits w) × (minus z ≤ 2 ^ hbits w)
parts_of_fits {w} {z = pos n} h = omega (arith, h.sfits)
parts_of_fits {w} {z = negsuc n} h = omega (arith, h.sfits)

-- ---- sizes

-- the size is the sum of the parts, and the magnitude that a width bounds is no greater
pub size_is : (z : ℤ) → (nat_abs z ≡ plus z + minus z) × (mag z ≤ nat_abs z)
size_is (pos n) = omega arith
size_is (negsuc n) = omega arith

-- a number of small size fits
pub small_fits : {w : Width} (z : ℤ) → nat_abs z < 2 ^ hbits w → SFits w z
small_fits z h = record { sfits = omega (arith, size_is z) }

-- the size of a sum is at most the sum of the sizes
pub +ℤ_size : (a b : ℤ) → nat_abs (a +ℤ b) ≤ nat_abs a + nat_abs b
+ℤ_size a b = omega (arith, +ℤ_parts a b, one_part (a +ℤ b), size_is a, size_is b, size_is (a +ℤ b))

-- a negation has the same size
pub neg_ℤ_size : (a : ℤ) → nat_abs (neg_ℤ a) ≡ nat_abs a
neg_ℤ_size a = omega (arith, neg_ℤ_parts a, size_is a, size_is (neg_ℤ a))

-- the size of a product is the product of the sizes
pub *ℤ_size : (a b : ℤ) → nat_abs (a *ℤ b) ≡ nat_abs a * nat_abs b
*ℤ_size (pos a) (pos b) = refl
*ℤ_size (pos a) (negsuc b) = neg_ℤ_size (pos (a * suc b))
*ℤ_size (negsuc a) (pos b) = neg_ℤ_size (pos (suc a * b))
*ℤ_size (negsuc a) (negsuc b) = refl

-- ---- squares

-- a square is the size of the product
pub square_is : (z : ℤ) → square z ≡ nat_abs (z *ℤ z)
square_is z = sym (*ℤ_size z z)

-- the square of a number within c is within c²
pub square_within_lem : (z : ℤ) {c : ℕ} → nat_abs z ≤ c → square z ≤ c * c
square_within_lem z h = mul-le-mul h h

-- 2ab ≤ a² + b²
pub twice_product_within : (a b : ℕ) → a * b + b * a ≤ a * a + b * b
twice_product_within zero b = omega arith
twice_product_within (suc a) zero = omega arith
twice_product_within (suc a) (suc b) = omega (arith, twice_product_within a b)
