-- A number and its halves give each other back, and a sum of halves that stays below the top is the halves of the sum.
use Rattle.std.proofs.Common.{◌≡◌, ℕ, ◌+◌, ◌-◌, ◌%◌, ◌^◌, ◌<◌, ◌≤◌, Bool, leb, ap, ◌∙◌, ap₂, lt_of_lt_of_le, mod-eq_of_lt, div-add-mod', lit≤}
use Rattle.laws.proofs.Halves.{high_half, low_half, difference_within}
use Rattle.wide.specs.Wide.{value, halves, wide_sum, wide_difference}
use Rattle.wide.specs.declared.Wide.{Wide}

pub value_of_halves : (n : ℕ) → value (halves n) ≡ n
value_of_halves n = div-add-mod' n (2 ^ 64)

pub halves_of_value : (w : Wide) → w.lo < 2 ^ 64 → halves (value w) ≡ w
halves_of_value w low = λ i. record { hi = high_half (2 ^ 64) w.hi w.lo low i; lo = low_half (2 ^ 64) w.hi w.lo low i }

pub sum_is_halves : (a b : Wide) → value a + value b < 2 ^ 128 → wide_sum a b ≡ halves (value a + value b)
unfolding wide_sum
sum_is_halves a b below = ap halves (mod-eq_of_lt below)

pub value_of_sum : (a b : Wide) → value a + value b < 2 ^ 128 → value (wide_sum a b) ≡ value a + value b
value_of_sum a b below = ap value (sum_is_halves a b below) ∙ value_of_halves (value a + value b)

-- ---- sums that stay below 2^126
pub below_top : {n : ℕ} → n < 2 ^ 126 → n < 2 ^ 128
below_top below = lt_of_lt_of_le below (lit≤ tt)

-- the sum of the halves of two numbers
pub sum_of_halves : (m n : ℕ) → m + n < 2 ^ 126 → wide_sum (halves m) (halves n) ≡ halves (m + n)
sum_of_halves m n below =
    let same : value (halves m) + value (halves n) ≡ m + n = ap₂ ◌+◌ (value_of_halves m) (value_of_halves n) in
    sum_is_halves (halves m) (halves n) (rw same (below_top below)) ∙ ap halves same

-- a running sum takes in one number more
pub sum_grows : {total more next : Wide} (m n : ℕ) → total ≡ halves m → more ≡ halves n → next ≡ wide_sum total more → m + n < 2 ^ 126 → next ≡ halves (m + n)
sum_grows m n total-is more-is next_is below = next_is ∙ ap₂ wide_sum total-is more-is ∙ sum_of_halves m n below

-- a test of a wide number is the test of the number whose halves it is
pub at_most_of_halves : (n limit : ℕ) {p : Wide} {t : Bool} → p ≡ halves n → t ≡ leb (value p) limit → t ≡ leb n limit
at_most_of_halves n limit p-is t-is = t-is ∙ ap (λ (m : ℕ). leb m limit) (ap value p-is ∙ value_of_halves n)

-- what is not greater is taken away whole
pub difference_of_halves : (m n : ℕ) → m < 2 ^ 128 → n ≤ m → wide_difference (halves m) (halves n) ≡ halves (m - n)
unfolding wide_difference
difference_of_halves m n below under =
    ap₂ (λ (s t : ℕ). halves ((s + 2 ^ 128 - t) % 2 ^ 128)) (value_of_halves m) (value_of_halves n) ∙ ap halves (difference_within (2 ^ 128) m n below under)
