-- An expression over signed numbers is the difference of a pair of naturals: an equation, an order, a size or a range of expressions is one
-- fact about their pairs, which `omega arith` shows.
use mathlib.Core.Path.{◌≡◌, refl, ap}
use Prim.Native.Nat.{ℕ, ◌+◌, ◌*◌, ◌<◌, ◌≤◌, ◌^◌}
use native.Mathlib.Omega.{arith}
use lib.IntN.{ℤ, pos, neg_ℤ, nat_abs, ◌+ℤ◌, ◌-ℤ◌, ◌*ℤ◌}
use lib.Signed.{◌≤ℤ◌, ◌<ℤ◌}
use mir.Syntax.{Width}
use mir.Val.{SFits, hbits}
use Rattle.laws.proofs.Parts.{plus, minus, one_part, equal_by_parts, +ℤ_parts, neg_ℤ_parts, *ℤ_parts, le_by_parts, lt_by_parts, fits_by_parts, size_is}

-- what joins two expressions: a sum, a difference, a product
pub data Operation : Type 0 where
  add sub mul : Operation

-- an expression over signed numbers
pub data Expression : Type 0 where
  -- a number: a parameter, an element of a list, what a call gave
  $◌ : ℤ → Expression
  -- a number written out in the code
  ±◌ : ℤ → Expression
  -- a number that a local's bits hold
  ◌∋◌ : ℕ → ℤ → Expression
  -- two expressions joined
  join : Operation → Expression → Expression → Expression
  -- the negation of an expression
  ⊝◌ : Expression → Expression

infixl 6 ◌⊕◌ ◌⊖◌
infixl 7 ◌⊗◌
infix 8 ⊝◌
infix 9 $◌ ±◌ #◌ ◌∋◌
-- a natural written out in the code
abbrev pub #◌ : ℕ → Expression
# n = ± pos n

-- the sum of two expressions
abbrev pub ◌⊕◌ : Expression → Expression → Expression
a ⊕ b = join add a b

-- the difference of two expressions
abbrev pub ◌⊖◌ : Expression → Expression → Expression
a ⊖ b = join sub a b

-- the product of two expressions
abbrev pub ◌⊗◌ : Expression → Expression → Expression
a ⊗ b = join mul a b

-- an operation on numbers
abbrev pub apply : Operation → ℤ → ℤ → ℤ
apply add a b = a +ℤ b
apply sub a b = a -ℤ b
apply mul a b = a *ℤ b

-- what an expression means
abbrev pub ⟦◌⟧ : Expression → ℤ
⟦ $ z ⟧ = z
⟦ ± z ⟧ = z
⟦ s ∋ z ⟧ = z
⟦ join o a b ⟧ = apply o ⟦ a ⟧ ⟦ b ⟧
⟦ ⊝ a ⟧ = neg_ℤ ⟦ a ⟧

-- an operation on pairs
abbrev pub apply_pairs : Operation → ℕ × ℕ → ℕ × ℕ → ℕ × ℕ
apply_pairs add p q = (p.0 + q.0, p.1 + q.1)
apply_pairs sub p q = (p.0 + q.1, p.1 + q.0)
apply_pairs mul p q = (p.0 * q.0 + p.1 * q.1, p.0 * q.1 + p.1 * q.0)

-- the two naturals whose difference an expression is
abbrev pub pair : Expression → ℕ × ℕ
pair ($ z) = (plus z, minus z)
pair (± z) = (plus z, minus z)
pair (s ∋ z) = (plus z, minus z)
pair (join o a b) = apply_pairs o (pair a) (pair b)
pair (⊝ a) = ((pair a).1, (pair a).0)

-- z is the difference of the two naturals p
abbrev pub IsDifference : ℤ → ℕ × ℕ → Type 0
IsDifference z p = plus z + p.1 ≡ p.0 + minus z

-- an operation on numbers is the operation on their pairs
joined : (o : Operation) (y z : ℤ) (p q : ℕ × ℕ) → IsDifference y p → IsDifference z q → IsDifference (apply o y z) (apply_pairs o p q)
joined add y z p q e f = omega (arith, +ℤ_parts y z)
joined sub y z p q e f = omega (arith, +ℤ_parts y (neg_ℤ z), neg_ℤ_parts z)
joined mul y z p q e f =
    let plus-e = ap (λ (t : ℕ). t * plus z) e in
    let minus-e = ap (λ (t : ℕ). t * minus z) e in
    omega (arith, *ℤ_parts y z, plus-e, minus-e, ap (λ (t : ℕ). p.0 * t) f, ap (λ (t : ℕ). p.1 * t) f)

-- an expression is the difference of its pair
pub sound : (e : Expression) → IsDifference ⟦ e ⟧ (pair e)
sound ($ z) = refl
sound (± z) = refl
sound (s ∋ z) = refl
sound (join o a b) = joined o ⟦ a ⟧ ⟦ b ⟧ (pair a) (pair b) (sound a) (sound b)
sound (⊝ a) = omega (arith, sound a, neg_ℤ_parts ⟦ a ⟧)

-- ---- equations, orders, sizes and ranges by pairs

infix 5 ◌≐◌ ◌⊑◌ ◌⊏◌
-- the pairs say that a is b
abbrev pub ◌≐◌ : Expression → Expression → Type 0
a ≐ b = (pair a).0 + (pair b).1 ≡ (pair b).0 + (pair a).1

-- the pairs say that a is at most b
abbrev pub ◌⊑◌ : Expression → Expression → Type 0
a ⊑ b = (pair a).0 + (pair b).1 ≤ (pair b).0 + (pair a).1

-- the pairs say that a is less than b
abbrev pub ◌⊏◌ : Expression → Expression → Type 0
a ⊏ b = (pair a).0 + (pair b).1 < (pair b).0 + (pair a).1

-- the pair says that the size is at most c
abbrev pub Sized : Expression → ℕ → Type 0
Sized e c = ((pair e).0 ≤ (pair e).1 + c) × ((pair e).1 ≤ (pair e).0 + c)

-- the pair says that the number fits the width
abbrev pub Ranged : Width → Expression → Type 0
Ranged w e = ((pair e).0 < (pair e).1 + 2 ^ hbits w) × ((pair e).1 ≤ (pair e).0 + 2 ^ hbits w)

-- an equation of numbers: `equation a b (omega arith)`
pub equation : (a b : Expression) → a ≐ b → ⟦ a ⟧ ≡ ⟦ b ⟧
equation a b h = equal_by_parts ⟦ a ⟧ ⟦ b ⟧ (omega (arith, sound a, sound b))

-- an order of numbers
pub at_most : (a b : Expression) → a ⊑ b → ⟦ a ⟧ ≤ℤ ⟦ b ⟧
at_most a b h = le_by_parts ⟦ a ⟧ ⟦ b ⟧ (omega (arith, sound a, sound b))

-- a strict order of numbers
pub less_than : (a b : Expression) → a ⊏ b → ⟦ a ⟧ <ℤ ⟦ b ⟧
less_than a b h = lt_by_parts ⟦ a ⟧ ⟦ b ⟧ (omega (arith, sound a, sound b))

-- a bound on the size
pub size_within : (e : Expression) (c : ℕ) → Sized e c → nat_abs ⟦ e ⟧ ≤ c
size_within e c h = omega (arith, sound e, one_part ⟦ e ⟧, size_is ⟦ e ⟧)

-- the range of a width
pub in_range_lem : {w : Width} (e : Expression) → Ranged w e → SFits w ⟦ e ⟧
in_range_lem e h = fits_by_parts ⟦ e ⟧ (omega (arith, sound e, one_part ⟦ e ⟧)) (omega (arith, sound e, one_part ⟦ e ⟧))
