-- What the code of squares in words asks: the parts of a number and their products are small, and the sums join to the sum of squares.
use mathlib.Core.Path.{◌≡◌, refl, sym, ap, ap₂, ◌∙◌}
use Prim.Native.Nat.{ℕ, ◌+◌, ◌-◌, ◌*◌, ◌/◌, ◌%◌, ◌^◌, ◌≤◌, ◌<◌}
use native.Mathlib.Nat.{mul-le-mul}
use native.Mathlib.Omega.{arith}
use lib.IntN.{ℤ, nat_abs}
use Rattle.laws.specs.Sums.{sum, square}
use Rattle.laws.proofs.SumLaws.{sum_step, sum_within}
use Rattle.laws.proofs.Squares.{raised, raised_within, squares_of_raised, squares_by_parts}
use Rattle.wide.specs.Wide.{value, halves, wide_sum, wide_difference}
use Rattle.wide.specs.declared.Wide.{Wide}
use Rattle.wide.proofs.WideLaws.{sum_of_halves, sum_is_halves, difference_of_halves, below_top}
use Rattle.sums.specs.declared.squares.Parts.{Parts}

-- ---- the sums by parts with a number u more, whose parts are h and l
abbrev pub number_taken : Parts → ℕ → ℕ → ℕ → Parts
number_taken p u h l = record { high = p.high + h * h; cross = p.cross + h * l; low = p.low + l * l; raised = p.raised + u }

-- ---- the parts of a number up to 2^43, above and below 2^22
module _ (u : ℕ) (small : u ≤ 2 ^ 43) where
  pub high_part_is : u / 2 ^ 22 % 2 ^ 32 ≡ u / 2 ^ 22
  high_part_is = omega arith

  high_part_small : u / 2 ^ 22 ≤ 2 ^ 22
  high_part_small = omega arith

  low_part_small : u % 2 ^ 22 ≤ 2 ^ 22
  low_part_small = omega arith

  pub high_square_small : u / 2 ^ 22 * (u / 2 ^ 22) ≤ 2 ^ 44
  high_square_small = mul-le-mul high_part_small high_part_small

  pub cross_small : u / 2 ^ 22 * (u % 2 ^ 22) ≤ 2 ^ 44
  cross_small = mul-le-mul high_part_small low_part_small

  pub low_square_small : u % 2 ^ 22 * (u % 2 ^ 22) ≤ 2 ^ 44
  low_square_small = mul-le-mul low_part_small low_part_small

-- ---- the sums by parts over the first n of the numbers that f gives
abbrev pub parts_of : (ℕ → ℕ) → ℕ → Parts
parts_of f n = record {
  high = sum n (λ i. f i / 2 ^ 22 * (f i / 2 ^ 22));
  cross = sum n (λ i. f i / 2 ^ 22 * (f i % 2 ^ 22));
  low = sum n (λ i. f i % 2 ^ 22 * (f i % 2 ^ 22));
  raised = sum n f;
}

pub no_parts : (f : ℕ → ℕ) → ◌≡◌ {A = Parts} (record { high = 0; cross = 0; low = 0; raised = 0 }) (parts_of f 0)
unfolding sum
no_parts f = refl

module _ (f : ℕ → ℕ) (n : ℕ) where
  pub parts_step : {p q : Parts} {u : ℕ} → p ≡ parts_of f n → u ≡ f n → q ≡ number_taken p u (u / 2 ^ 22) (u % 2 ^ 22) → q ≡ parts_of f (n + 1)
  parts_step p-is u-is q-is =
      q-is ∙ ap₂ (λ (p : Parts) (u : ℕ). number_taken p u (u / 2 ^ 22) (u % 2 ^ 22)) p-is u-is ∙ (λ i. record {
        high = sym (sum_step n (λ i. f i / 2 ^ 22 * (f i / 2 ^ 22))) i;
        cross = sym (sum_step n (λ i. f i / 2 ^ 22 * (f i % 2 ^ 22))) i;
        low = sym (sum_step n (λ i. f i % 2 ^ 22 * (f i % 2 ^ 22))) i;
        raised = sym (sum_step n f) i;
      })

  pub parts_of_squares : {p : Parts} → p ≡ parts_of f n → p.high * 2 ^ 44 + p.cross * 2 ^ 23 + p.low ≡ sum n (λ i. f i * f i)
  parts_of_squares p-is = ap (λ (p : Parts). p.high * 2 ^ 44 + p.cross * 2 ^ 23 + p.low) p-is ∙ sym (squares_by_parts (2 ^ 22) n f)

  module _ (few : n ≤ 32768) (small : (i : ℕ) → i < n → f i ≤ 2 ^ 43) where
    pub parts_small : {p : Parts} → p ≡ parts_of f n → (p.high ≤ 2 ^ 60) × (p.cross ≤ 2 ^ 60) × (p.low ≤ 2 ^ 60) × (p.raised ≤ 2 ^ 60)
    parts_small p-is = rw p-is (
      omega (arith, sum_within n _ (2 ^ 44) (λ i below. high_square_small (f i) (small i below))),
      omega (arith, sum_within n _ (2 ^ 44) (λ i below. cross_small (f i) (small i below))),
      omega (arith, sum_within n _ (2 ^ 44) (λ i below. low_square_small (f i) (small i below))),
      omega (arith, sum_within n f (2 ^ 43) small),
    )

-- ---- three sums joined
module _ (high cross low : ℕ) (high_fits : high < 2 ^ 64) (cross-fits : cross < 2 ^ 64) (low_fits : low < 2 ^ 64) where
  pub parts_joined :
      {first second upper last whole : Wide} → first ≡ halves (high * 2 ^ 44) → second ≡ halves (cross * 2 ^ 23) → upper ≡ wide_sum first second →
      last ≡ halves low → whole ≡ wide_sum upper last → whole ≡ halves (high * 2 ^ 44 + cross * 2 ^ 23 + low)
  parts_joined first_is second_is upper_is last_is whole_is =
      let upper-sum = upper_is ∙ ap₂ wide_sum first_is second_is ∙ sum_of_halves (high * 2 ^ 44) (cross * 2 ^ 23) (omega arith) in
      whole_is ∙ ap₂ wide_sum upper-sum last_is ∙ sum_of_halves (high * 2 ^ 44 + cross * 2 ^ 23) low (omega arith)

-- ---- raised squares lowered
module _ (squares : Wide) (raised-sum m count : ℕ) (below : value squares + count * (m * m * 2 ^ 84) < 2 ^ 126)
    (under : raised-sum * (m * 2 ^ 43) ≤ value squares + count * (m * m * 2 ^ 84)) where
  pub squares_lowered :
      {grown taken rest : Wide} → grown ≡ wide_sum squares (record { hi = count * (m * m) * 2 ^ 20; lo = 0 }) → taken ≡ halves (raised-sum * (m * 2 ^ 43)) →
      rest ≡ wide_difference grown taken → rest ≡ halves (value squares + count * (m * m * 2 ^ 84) - raised-sum * (m * 2 ^ 43))
  squares_lowered grown-is taken_is rest_is =
      let more : value (record { hi = count * (m * m) * 2 ^ 20; lo = 0 }) ≡ count * (m * m * 2 ^ 84) = omega arith in
      let sum_is_lem = ap (λ (t : ℕ). value squares + t) more in
      let grown-halves = grown-is ∙ sum_is_halves squares _ (rw sum_is_lem (below_top below)) ∙ ap halves sum_is_lem in
      rest_is ∙ ap₂ wide_difference grown-halves taken_is ∙ difference_of_halves _ _ (below_top below) under

-- the sum of squares of n numbers within m * 2^42, by the sums of the raised numbers and of their squares
module _ (m n : ℕ) (f : ℕ → ℤ) (within : (i : ℕ) → i < n → nat_abs (f i) ≤ m * 2 ^ 42) where
  abbrev raised_sum : ℕ
  raised_sum = sum n (λ i. raised (m * 2 ^ 42) (f i))

  abbrev raised_squares : ℕ
  raised_squares = sum n (λ i. raised (m * 2 ^ 42) (f i) * raised (m * 2 ^ 42) (f i))

  balance : sum n (λ i. square (f i)) + raised_sum * (m * 2 ^ 43) ≡ raised_squares + n * (m * m * 2 ^ 84)
  balance = omega (arith, squares_of_raised (m * 2 ^ 42) n f within)

  pub raised_square_within : (i : ℕ) → i < n → raised (m * 2 ^ 42) (f i) * raised (m * 2 ^ 42) (f i) ≤ m * m * 2 ^ 86
  raised_square_within i below =
      let once = raised_within (m * 2 ^ 42) (f i) (within i below) in
      omega (arith, mul-le-mul once once)

  -- v and s are these sums, as the code has them
  module _ (v s : ℕ) (v-is : v ≡ raised_squares) (s-is : s ≡ raised_sum) where
    sum_taken : s * (m * 2 ^ 43) ≡ raised_sum * (m * 2 ^ 43)
    sum_taken = ap (λ (t : ℕ). t * (m * 2 ^ 43)) s-is

    pub lowered_under : s * (m * 2 ^ 43) ≤ v + n * (m * m * 2 ^ 84)
    lowered_under = omega (arith, sum_taken, balance)

    pub lowered_below : n * (m * m) ≤ 2 ^ 38 → v + n * (m * m * 2 ^ 84) < 2 ^ 126
    lowered_below few = omega (arith, sum_within n _ (m * m * 2 ^ 86) raised_square_within)

    pub lowered_is : v + n * (m * m * 2 ^ 84) - s * (m * 2 ^ 43) ≡ sum n (λ i. square (f i))
    lowered_is = omega (arith, sum_taken, balance)
