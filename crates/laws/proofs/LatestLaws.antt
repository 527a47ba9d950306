-- The sum of the latest m of n terms, all of them while n is below m: as a term comes, and as one goes with it.
use mathlib.Core.Path.{◌≡◌, ap, ◌∙◌}
use Prim.Native.Nat.{ℕ, ◌+◌, ◌-◌, ◌*◌, ◌≤◌, ◌<◌}
use native.Mathlib.Nat.{mul-le-mul_right, le_trans}
use native.Mathlib.Omega.{arith}
use lib.IntN.{ℤ, pos, nat_abs, ◌+ℤ◌, ◌-ℤ◌}
use Rattle.laws.specs.Sums.{sum_ℤ}
use Rattle.laws.proofs.Expressions.{$◌, ◌⊕◌, ◌⊖◌, equation}
use Rattle.laws.proofs.SumLaws.{sum_ℤ_zero, sum_ℤ_step, sum_ℤ_equal, sum_ℤ_split, sum_ℤ_within}

unfoldable pub latest_of : ℕ → ℕ → (ℕ → ℤ) → ℤ
latest_of m n f = sum_ℤ (n - (n - m)) (λ i. f (n - m + i))

module _ (m n : ℕ) (f : ℕ → ℤ) where
  -- all n terms, less those before the latest m
  pub latest_of_is : latest_of m n f ≡ sum_ℤ n f -ℤ sum_ℤ (n - m) f
  unfolding latest_of
  latest_of_is =
      let split : n - m + (n - (n - m)) ≡ n = omega arith in
      rw (← ap (λ (k : ℕ). sum_ℤ k f) split, sum_ℤ_split)
      (equation ($ latest_of m n f) ($ sum_ℤ (n - m) f ⊕ $ latest_of m n f ⊖ $ sum_ℤ (n - m) f) (omega arith))

  pub latest_of_none : n ≡ 0 → latest_of m n f ≡ pos 0
  unfolding latest_of
  latest_of_none empty = ap (λ (k : ℕ). sum_ℤ k (λ i. f (n - m + i))) (omega arith) ∙ sum_ℤ_zero _

  pub latest_of_equal : (g : ℕ → ℤ) → ((i : ℕ) → i < n → f i ≡ g i) → latest_of m n f ≡ latest_of m n g
  unfolding latest_of
  latest_of_equal g same = sum_ℤ_equal (n - (n - m)) _ _ (λ i below. same (n - m + i) (omega arith))

  pub latest_of_within : (b : ℕ) → ((i : ℕ) → nat_abs (f i) ≤ b) → nat_abs (latest_of m n f) ≤ m * b
  unfolding latest_of
  latest_of_within b within = le_trans (sum_ℤ_within (n - (n - m)) _ b (λ i below. within (n - m + i))) (mul-le-mul_right b (omega arith))

module _ (m n : ℕ) (f : ℕ → ℤ) where
  -- a term comes
  pub latest_of_grows : n < m → latest_of m (n + 1) f ≡ latest_of m n f +ℤ f n
  latest_of_grows few =
      let before = $ sum_ℤ (n - m) f in
      let same : n + 1 - m ≡ n - m = omega arith in
      rw (latest_of_is m (n + 1) f, latest_of_is m n f, same, sum_ℤ_step n f)
      (equation ($ sum_ℤ n f ⊕ $ f n ⊖ before) ($ sum_ℤ n f ⊖ before ⊕ $ f n) (omega arith))

  -- a term comes, and one goes
  pub latest_of_slides : m ≤ n → latest_of m (n + 1) f ≡ latest_of m n f +ℤ f n -ℤ f (n - m)
  latest_of_slides many =
      let before = $ sum_ℤ (n - m) f in
      let one_more : n + 1 - m ≡ n - m + 1 = omega arith in
      rw (latest_of_is m (n + 1) f, latest_of_is m n f, one_more, sum_ℤ_step n f, sum_ℤ_step (n - m) f)
      (equation ($ sum_ℤ n f ⊕ $ f n ⊖ (before ⊕ $ f (n - m))) ($ sum_ℤ n f ⊖ before ⊕ $ f n ⊖ $ f (n - m)) (omega arith))
