-- Tests as Booleans, and the facts that they stand for.
use mathlib.Core.Path.{◌≡◌, refl, sym, subst, ◌∙◌}
use mathlib.Core.Logic.{◌⊎◌, inl, inr}
use mathlib.Core.Bool.{Bool, true, false, cond, not, ◌&&◌, false≢true}
use Prim.Native.Nat.{ℕ, ◌≤◌, ◌<◌}
use borrow.Author.Tests.{le-leb, lt-leb, leb-true, leb-false}
use lib.Dec.{T, leb}

-- ---- a test that holds, as T and as an equation

pub holds_true : (t : Bool) → T t → t ≡ true
holds_true true h = refl
holds_true false h = absurd h

pub true_holds : {t : Bool} → t ≡ true → T t
true_holds e = subst T (sym e) tt

-- ---- a choice by the value of its test

module _ {A : Type 0} (a b : A) where
  pub choice_true : {t : Bool} → t ≡ true → cond t a b ≡ a
  choice_true e = rw e

  pub choice_false : {t : Bool} → t ≡ false → cond t a b ≡ b
  choice_false e = rw e

-- ---- a choice by the order of two numbers

pub choice_by_order : {A : Type 0} (a b : ℕ) {p q r : A} → (a ≤ b → p ≡ r) → (b < a → q ≡ r) → cond (leb a b) p q ≡ r
choice_by_order {A} a b {p} {q} {r} at_most above = by_test (leb a b) refl
  where
    by_test : (t : Bool) → leb a b ≡ t → cond t p q ≡ r
    by_test true e = at_most (leb-true a b e)
    by_test false e = above (leb-false a b e)

-- two choices by one order
pub choices_agree : {A : Type 0} (a b : ℕ) {p p' q q' : A} → (a ≤ b → p ≡ p') → (b < a → q ≡ q') → cond (leb a b) p q ≡ cond (leb a b) p' q'
choices_agree a b at_most above =
    choice_by_order a b (λ h. at_most h ∙ sym (choice_true _ _ (le-leb a b h))) (λ h. above h ∙ sym (choice_false _ _ (lt-leb a b h)))

-- ---- a test that never has one value has the other

pub never_true : (t : Bool) → (t ≡ true → ⊥) → t ≡ false
never_true true never = absurd (never refl)
never_true false never = refl

pub never_false : (t : Bool) → (t ≡ false → ⊥) → t ≡ true
never_false true never = refl
never_false false never = absurd (never refl)

-- ---- negation: what a test's value makes of it

pub negation_true : {t : Bool} → t ≡ false → not t ≡ true
negation_true e = rw e

pub negation_false : {t : Bool} → t ≡ true → not t ≡ false
negation_false e = rw e

-- ---- conjunction, to and from its parts

pub both_true : {s t : Bool} → s ≡ true → t ≡ true → (s && t) ≡ true
both_true e f = rw (e, f)

pub first_true : (s t : Bool) → (s && t) ≡ true → s ≡ true
first_true true t e = refl
first_true false t e = e

pub second_true : (s t : Bool) → (s && t) ≡ true → t ≡ true
second_true true t e = e
second_true false t e = absurd (false≢true e)

pub second_fails : (s : Bool) {t : Bool} → t ≡ false → (s && t) ≡ false
second_fails true e = e
second_fails false e = refl

pub one_fails : (s t : Bool) → (s && t) ≡ false → (s ≡ false) ⊎ (t ≡ false)
one_fails true t e = inr e
one_fails false t e = inl refl

-- of two tests one fails: what follows of either
pub either_fails : (s t : Bool) {A : Type 0} → (s ≡ false → A) → (t ≡ false → A) → (s && t) ≡ false → A
either_fails true t one other e = other e
either_fails false t one other e = one e

-- ---- two tests that hold of the same are equal

pub tests_agree : (s t : Bool) → (s ≡ true → t ≡ true) → (t ≡ true → s ≡ true) → s ≡ t
tests_agree true t there back = sym (there refl)
tests_agree false true there back = back refl
tests_agree false false there back = refl
