-- Laws of sums over a range: one term more, terms that agree, a range in two parts and in blocks, the first term apart, two sums, a factor, and
-- bounds; of signed numbers also neighbours that cancel and a window that slides.
use mathlib.Core.Path.{◌≡◌, refl, sym, ◌∙◌, ap, ap₂}
use Prim.Native.Nat.{ℕ, zero, suc, ◌+◌, ◌*◌, ◌<◌, ◌≤◌}
use native.Mathlib.Nat.{add-zero, add-suc, zero-mul, le_refl, le_trans}
use native.Mathlib.Numerals.{add-one}
use native.Mathlib.Omega.{arith}
use lib.IntN.{ℤ, pos, nat_abs, ◌+ℤ◌, ◌-ℤ◌, ◌*ℤ◌, +ℤ_idr, +ℤ_idl, +ℤ_assoc, +ℤ_invr, *ℤ-zero}
use Rattle.laws.specs.Sums.{sum, sum_ℤ}
use Rattle.laws.proofs.Parts.{+ℤ_size}
use Rattle.laws.proofs.Expressions.{$◌, #◌, ◌⊕◌, ◌⊖◌, ◌⊗◌, equation}

-- ---- naturals

pub sum_zero : (f : ℕ → ℕ) → sum 0 f ≡ 0
unfolding sum
sum_zero f = refl

pub sum_suc : (n : ℕ) (f : ℕ → ℕ) → sum (suc n) f ≡ sum n f + f n
unfolding sum
sum_suc n f = refl

-- one term more, counted as the code counts
pub sum_step : (n : ℕ) (f : ℕ → ℕ) → sum (n + 1) f ≡ sum n f + f n
sum_step n f = rw (add-one n) (sum_suc n f)

-- terms that agree
pub sum_equal : (n : ℕ) (f g : ℕ → ℕ) → ((i : ℕ) → i < n → f i ≡ g i) → sum n f ≡ sum n g
unfolding sum
sum_equal zero f g h = refl
sum_equal (suc n) f g h = ap₂ ◌+◌ (sum_equal n f g (λ i below. h i (omega arith))) (h n (le_refl _))

-- terms that are no greater
pub sum_monotone : (n : ℕ) (f g : ℕ → ℕ) → ((i : ℕ) → i < n → f i ≤ g i) → sum n f ≤ sum n g
unfolding sum
sum_monotone zero f g h = le_refl 0
sum_monotone (suc n) f g h = omega (arith, sum_monotone n f g (λ i below. h i (omega arith)), h n (le_refl _))

-- terms within b
pub sum_within : (n : ℕ) (f : ℕ → ℕ) (b : ℕ) → ((i : ℕ) → i < n → f i ≤ b) → sum n f ≤ n * b
unfolding sum
sum_within zero f b h = omega arith
sum_within (suc n) f b h = omega (arith, sum_within n f b (λ i below. h i (omega arith)), h n (le_refl _))

-- a range in two parts
pub sum_split : (m n : ℕ) (f : ℕ → ℕ) → sum (m + n) f ≡ sum m f + sum n (λ i. f (m + i))
unfolding sum
sum_split m zero f = rw (add-zero m) (omega arith)
sum_split m (suc n) f = rw (add-suc m n) (omega (arith, sum_split m n f))

-- a range in q blocks of b terms
pub sum_in_blocks : (b q : ℕ) (f : ℕ → ℕ) → sum (q * b) f ≡ sum q (λ k. sum b (λ i. f (k * b + i)))
unfolding sum
sum_in_blocks b zero f = rw (zero-mul b)
sum_in_blocks b (suc q) f =
    let more : suc q * b ≡ q * b + b = omega arith in
    rw more (omega (arith, sum_split (q * b) b f, sum_in_blocks b q f))

-- in blocks, and r terms more
pub sum_in_blocks_and_rest : (b q r : ℕ) (f : ℕ → ℕ) → sum (q * b + r) f ≡ sum q (λ k. sum b (λ i. f (k * b + i))) + sum r (λ i. f (q * b + i))
sum_in_blocks_and_rest b q r f = sum_split (q * b) r f ∙ ap (λ (t : ℕ). t + sum r (λ i. f (q * b + i))) (sum_in_blocks b q f)

-- the first term apart
pub sum_first : (n : ℕ) (f : ℕ → ℕ) → sum (n + 1) f ≡ f 0 + sum n (λ i. f (i + 1))
unfolding sum
sum_first zero f = omega arith
sum_first (suc n) f = omega (arith, sum_step (suc n) f, sum_step n f, sum_first n f, ap f (add-one n))

-- two sums in one
pub sum_add : (n : ℕ) (f g : ℕ → ℕ) → sum n (λ i. f i + g i) ≡ sum n f + sum n g
unfolding sum
sum_add zero f g = refl
sum_add (suc n) f g = omega (arith, sum_add n f g)

-- a factor that all terms have
pub sum_scale : (n c : ℕ) (f : ℕ → ℕ) → sum n (λ i. c * f i) ≡ c * sum n f
unfolding sum
sum_scale zero c f = omega arith
sum_scale (suc n) c f = omega (arith, sum_scale n c f)

-- ---- signed numbers

pub sum_ℤ_zero : (f : ℕ → ℤ) → sum_ℤ 0 f ≡ pos 0
unfolding sum_ℤ
sum_ℤ_zero f = refl

pub sum_ℤ_suc : (n : ℕ) (f : ℕ → ℤ) → sum_ℤ (suc n) f ≡ sum_ℤ n f +ℤ f n
unfolding sum_ℤ
sum_ℤ_suc n f = refl

-- one term more, counted as the code counts
pub sum_ℤ_step : (n : ℕ) (f : ℕ → ℤ) → sum_ℤ (n + 1) f ≡ sum_ℤ n f +ℤ f n
sum_ℤ_step n f = rw (add-one n) (sum_ℤ_suc n f)

-- terms that agree
pub sum_ℤ_equal : (n : ℕ) (f g : ℕ → ℤ) → ((i : ℕ) → i < n → f i ≡ g i) → sum_ℤ n f ≡ sum_ℤ n g
unfolding sum_ℤ
sum_ℤ_equal zero f g h = refl
sum_ℤ_equal (suc n) f g h = ap₂ ◌+ℤ◌ (sum_ℤ_equal n f g (λ i below. h i (omega arith))) (h n (le_refl _))

-- a range in two parts
pub sum_ℤ_split : (m n : ℕ) (f : ℕ → ℤ) → sum_ℤ (m + n) f ≡ sum_ℤ m f +ℤ sum_ℤ n (λ i. f (m + i))
unfolding sum_ℤ
sum_ℤ_split m zero f = simp (add-zero, +ℤ_idr)
sum_ℤ_split m (suc n) f = simp (add-suc, sum_ℤ_split m n f, +ℤ_assoc)

-- the first term apart
pub sum_ℤ_first : (n : ℕ) (f : ℕ → ℤ) → sum_ℤ (n + 1) f ≡ f 0 +ℤ sum_ℤ n (λ i. f (i + 1))
unfolding sum_ℤ
sum_ℤ_first zero f = +ℤ_idl (f 0) ∙ sym (+ℤ_idr (f 0))
sum_ℤ_first (suc n) f = rw (add-one (suc n), ← +ℤ_assoc, ← sum_ℤ_first n f, add-one n)

-- two sums in one
pub sum_ℤ_add : (n : ℕ) (f g : ℕ → ℤ) → sum_ℤ n (λ i. f i +ℤ g i) ≡ sum_ℤ n f +ℤ sum_ℤ n g
unfolding sum_ℤ
sum_ℤ_add zero f g = refl
sum_ℤ_add (suc n) f g =
    let a = $ sum_ℤ n f in
    let b = $ sum_ℤ n g in
    rw (sum_ℤ_add n f g) (equation (a ⊕ b ⊕ ($ f n ⊕ $ g n)) (a ⊕ $ f n ⊕ (b ⊕ $ g n)) (omega arith))

-- a factor that all terms have
pub sum_ℤ_scale : (n : ℕ) (c : ℤ) (f : ℕ → ℤ) → sum_ℤ n (λ i. c *ℤ f i) ≡ c *ℤ sum_ℤ n f
unfolding sum_ℤ
sum_ℤ_scale zero c f = sym (*ℤ-zero c)
sum_ℤ_scale (suc n) c f =
    let a = $ sum_ℤ n f in
    rw (sum_ℤ_scale n c f) (equation ($ c ⊗ a ⊕ $ c ⊗ $ f n) ($ c ⊗ (a ⊕ $ f n)) (omega arith))

-- the size of a sum is at most the sum of the sizes
pub sum_ℤ_size : (n : ℕ) (f : ℕ → ℤ) → nat_abs (sum_ℤ n f) ≤ sum n (λ i. nat_abs (f i))
unfolding sum sum_ℤ
sum_ℤ_size zero f = le_refl 0
sum_ℤ_size (suc n) f = omega (arith, sum_ℤ_size n f, +ℤ_size (sum_ℤ n f) (f n))

-- terms whose size is within b
pub sum_ℤ_within : (n : ℕ) (f : ℕ → ℤ) (b : ℕ) → ((i : ℕ) → i < n → nat_abs (f i) ≤ b) → nat_abs (sum_ℤ n f) ≤ n * b
sum_ℤ_within n f b h = le_trans (sum_ℤ_size n f) (sum_within n (λ i. nat_abs (f i)) b h)

-- neighbours cancel
pub sum_ℤ_telescopes : (n : ℕ) (f : ℕ → ℤ) → sum_ℤ n (λ i. f (i + 1) -ℤ f i) ≡ f n -ℤ f 0
unfolding sum_ℤ
sum_ℤ_telescopes zero f = sym (+ℤ_invr (f 0))
sum_ℤ_telescopes (suc n) f =
    rw (sum_ℤ_telescopes n f, add-one n) (equation ($ f n ⊖ $ f 0 ⊕ ($ f (suc n) ⊖ $ f n)) ($ f (suc n) ⊖ $ f 0) (omega arith))

-- the window of m terms that starts at j moves on by one: a term comes, a term goes
pub window_slides : (m : ℕ) (f : ℕ → ℤ) (j : ℕ) → sum_ℤ m (λ i. f (j + 1 + i)) ≡ sum_ℤ m (λ i. f (j + i)) +ℤ f (j + m) -ℤ f j
unfolding sum_ℤ
window_slides zero f j = rw (add-zero j) (equation (# 0) (# 0 ⊕ $ f j ⊖ $ f j) (omega arith))
window_slides (suc m) f j =
    let next : j + 1 + m ≡ j + suc m = omega arith in
    let before = $ sum_ℤ m (λ i. f (j + i)) ⊕ $ f (j + m) in
    let come = $ f (j + suc m) in
    rw (next, window_slides m f j) (equation (before ⊖ $ f j ⊕ come) (before ⊕ come ⊖ $ f j) (omega arith))
