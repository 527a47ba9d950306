-- The machine writes each result of an expression over signed numbers as bits of a width and reads it back: where every result fits, it has
-- what the expression means, in operations, tests, casts and calls.
use mathlib.Core.Path.{◌≡◌, refl, sym, ◌∙◌, ap, ap₂, subst}
use mathlib.Core.Bool.{Bool, true, false, not}
use Prim.Native.Nat.{ℕ, ◌+◌, ◌<◌, ◌≤◌, ◌^◌}
use native.Mathlib.Omega.{arith}
use lib.Dec.{T, nleb→lt}
use lib.IntN.{ℤ, pos, negsuc, neg_ℤ, nat_abs, ◌-ℤ◌, +ℤ_idl}
use lib.Signed.{mag, le_z, lt_z, non_neg, le_z_yes, lt_z_yes, lt_z_no}
use mir.Syntax.{Width}
use mir.Val.{SFits, Fits, bits, hbits, to_z, of_z}
use mir.Facts.{to_z-of_z}
use Rattle.laws.proofs.Parts.{plus, minus, one_part, parts_of_le, parts_of_lt, size_is}
use Rattle.laws.proofs.Expressions.{Expression, $◌, ±◌, ◌∋◌, join, ⊝◌, apply, ⟦◌⟧, pair, sound, ◌⊑◌, ◌⊏◌, Ranged, in_range_lem}

-- what the machine reads of an expression; it negates by taking from nought
abbrev pub machine : Width → Expression → ℤ
machine w ($ z) = to_z w (of_z w z)
machine w (± z) = z
machine w (s ∋ z) = to_z w s
machine w (join o a b) = to_z w (of_z w (apply o (machine w a) (machine w b)))
machine w (⊝ a) = to_z w (of_z w (pos 0 -ℤ machine w a))

-- the result of the last operation, before it is written
abbrev pub result : Width → Expression → ℤ
result w ($ z) = z
result w (± z) = z
result w (s ∋ z) = to_z w s
result w (join o a b) = apply o (machine w a) (machine w b)
result w (⊝ a) = pos 0 -ℤ machine w a

-- every number on the way fits
abbrev pub Fit : Width → Expression → Type 0
Fit w ($ z) = SFits w z
Fit w (± z) = mag z < 2 ^ hbits w
Fit w (s ∋ z) = (s ≡ of_z w z) × SFits w z
Fit w (join o a b) = Fit w a × Fit w b × Ranged w (join o a b)
Fit w (⊝ a) = Fit w a × Ranged w (⊝ a)

-- what the expression means fits
meaning_fits : (w : Width) (e : Expression) → Fit w e → SFits w ⟦ e ⟧
meaning_fits w ($ z) f = f
meaning_fits w (± z) f = record { sfits = f }
meaning_fits w (s ∋ z) f = f.1
meaning_fits w (join o a b) f = in_range_lem (join o a b) f.2
meaning_fits w (⊝ a) f = in_range_lem (⊝ a) f.1

-- a number that is written and read back is the same
pub read_back : {w : Width} {y z : ℤ} → y ≡ z → SFits w z → to_z w (of_z w y) ≡ z
read_back {w} e f = ap (λ (t : ℤ). to_z w (of_z w t)) e ∙ to_z-of_z f

-- what is taken from nought is negated
from_nought : {y z : ℤ} → y ≡ z → pos 0 -ℤ y ≡ neg_ℤ z
from_nought {z} e = ap (λ (t : ℤ). pos 0 -ℤ t) e ∙ +ℤ_idl (neg_ℤ z)

-- the machine has what the expression means
pub machine_is : (w : Width) (e : Expression) → Fit w e → machine w e ≡ ⟦ e ⟧
machine_is w ($ z) f = to_z-of_z f
machine_is w (± z) f = refl
machine_is w (s ∋ z) f = ap (to_z w) f.0 ∙ to_z-of_z f.1
machine_is w (join o a b) f =
    read_back (ap₂ (apply o) (machine_is w a f.0) (machine_is w b f.1)) (meaning_fits w (join o a b) f)
machine_is w (⊝ a) f = read_back (from_nought (machine_is w a f.0)) (meaning_fits w (⊝ a) f)

-- so has the last operation
pub result_is : (w : Width) (e : Expression) → Fit w e → result w e ≡ ⟦ e ⟧
result_is w ($ z) f = refl
result_is w (± z) f = refl
result_is w (s ∋ z) f = machine_is w (s ∋ z) f
result_is w (join o a b) f = ap₂ (apply o) (machine_is w a f.0) (machine_is w b f.1)
result_is w (⊝ a) f = from_nought (machine_is w a f.0)

-- the last operation does not overflow
pub operation_fits : (w : Width) (e : Expression) → Fit w e → SFits w (result w e)
operation_fits w e f = subst (SFits w) (sym (result_is w e f)) (meaning_fits w e f)

-- ---- the operands of an expression, or itself where it has none

-- the first
abbrev pub left_of : Expression → Expression
left_of ($ z) = $ z
left_of (± z) = ± z
left_of (s ∋ z) = s ∋ z
left_of (join o a b) = a
left_of (⊝ a) = a

-- the last
abbrev pub right_of : Expression → Expression
right_of ($ z) = $ z
right_of (± z) = ± z
right_of (s ∋ z) = s ∋ z
right_of (join o a b) = b
right_of (⊝ a) = a

-- ---- tests, as a branch leaves them

-- a test that came out true, and one that came out false
true_holds : {t : Bool} → t ≡ true → T t
true_holds e = subst T (sym e) tt

false_fails : {t : Bool} → t ≡ false → T (not t)
false_fails e = subst (λ (t : Bool). T (not t)) (sym e) tt

-- the test a <= b that fails
not_at_most : (a b : ℤ) → T (not (le_z a b)) → plus b + minus a < plus a + minus b
not_at_most (pos a) (pos b) t = omega (arith, nleb→lt a b t)
not_at_most (pos a) (negsuc b) t = omega arith
not_at_most (negsuc a) (pos b) t = absurd t
not_at_most (negsuc a) (negsuc b) t = omega (arith, nleb→lt b a t)

module _ (w : Width) (a b : Expression) (f : Fit w a) (g : Fit w b) where
  -- a test of what the machine has is the test of what the expressions mean
  pub test_is : (test : ℤ → ℤ → Bool) → test (machine w a) (machine w b) ≡ test ⟦ a ⟧ ⟦ b ⟧
  test_is test = ap₂ test (machine_is w a f) (machine_is w b g)

  -- a < b, and the branch was taken
  pub lt_taken : lt_z (machine w a) (machine w b) ≡ true → a ⊏ b
  lt_taken t = omega (arith, sound a, sound b, parts_of_lt {a = ⟦ a ⟧} {b = ⟦ b ⟧} (lt_z_yes (true_holds (sym (test_is lt_z) ∙ t))))

  -- a < b, and the branch was left
  pub lt_left : lt_z (machine w a) (machine w b) ≡ false → b ⊑ a
  lt_left t = omega (arith, sound a, sound b, parts_of_le {a = ⟦ b ⟧} {b = ⟦ a ⟧} (lt_z_no (false_fails (sym (test_is lt_z) ∙ t))))

  -- a <= b, and the branch was taken
  pub le_taken : le_z (machine w a) (machine w b) ≡ true → a ⊑ b
  le_taken t = omega (arith, sound a, sound b, parts_of_le {a = ⟦ a ⟧} {b = ⟦ b ⟧} (le_z_yes (true_holds (sym (test_is le_z) ∙ t))))

  -- a <= b, and the branch was left
  pub le_left : le_z (machine w a) (machine w b) ≡ false → b ⊏ a
  le_left t = omega (arith, sound a, sound b, not_at_most ⟦ a ⟧ ⟦ b ⟧ (false_fails (sym (test_is le_z) ∙ t)))

-- ---- casts to an unsigned type

-- a number that is not below nought
not_below : (z : ℤ) → minus z ≤ plus z → T (non_neg z)
not_below (pos n) h = tt
not_below (negsuc n) h = absurd (omega arith)

-- the cast gives the natural that the expression is
pub cast_is : (w : Width) (e : Expression) (n : ℕ) → Fit w e → (pair e).0 ≡ (pair e).1 + n → nat_abs (machine w e) ≡ n
cast_is w e n f h = ap nat_abs (machine_is w e f) ∙ omega (arith, sound e, one_part ⟦ e ⟧, size_is ⟦ e ⟧)

-- what the cast asks
pub cast_fits : (w w' : Width) (e : Expression) → Fit w e → ((pair e).1 ≤ (pair e).0) × ((pair e).0 < (pair e).1 + 2 ^ bits w') →
    T (non_neg (machine w e)) × Fits w' (nat_abs (machine w e))
cast_fits w w' e f h =
    subst (λ (z : ℤ). T (non_neg z) × Fits w' (nat_abs z)) (sym (machine_is w e f))
    (not_below ⟦ e ⟧ (omega (arith, sound e)), record { fits = omega (arith, sound e, one_part ⟦ e ⟧, size_is ⟦ e ⟧) })

-- ---- the arguments of a call

-- each number is read back from its bits, and the callee's contract computes with no width
abbrev pub argument : Width → Expression → ℤ
argument w ($ z) = to_z w (of_z w z)
argument w (± z) = z
argument w (s ∋ z) = to_z w s
argument w (join o a b) = apply o (argument w a) (argument w b)
argument w (⊝ a) = neg_ℤ (argument w a)

-- the numbers that an expression starts from fit
abbrev pub LeavesFit : Width → Expression → Type 0
LeavesFit w ($ z) = SFits w z
LeavesFit w (± z) = Unit {0}
LeavesFit w (s ∋ z) = (s ≡ of_z w z) × SFits w z
LeavesFit w (join o a b) = LeavesFit w a × LeavesFit w b
LeavesFit w (⊝ a) = LeavesFit w a

-- the callee has what the expression means
pub argument_is : (w : Width) (e : Expression) → LeavesFit w e → argument w e ≡ ⟦ e ⟧
argument_is w ($ z) f = to_z-of_z f
argument_is w (± z) f = refl
argument_is w (s ∋ z) f = ap (to_z w) f.0 ∙ to_z-of_z f.1
argument_is w (join o a b) f = ap₂ (apply o) (argument_is w a f.0) (argument_is w b f.1)
argument_is w (⊝ a) f = ap neg_ℤ (argument_is w a f)
