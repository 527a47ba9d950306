-- The published sums of a record, one term more of each, and how large they become where no sample lies beyond 2^40.
use mathlib.Core.Path.{◌≡◌, refl, sym, ap, ◌∙◌}
use mathlib.Core.List.{List}
use Prim.Native.Nat.{ℕ, zero, suc, ◌+◌, ◌-◌, ◌*◌, ◌^◌, ◌≤◌, ◌<◌}
use native.Mathlib.Nat.{mul-le-mul, mul-le-mul_right, zero-add, add-zero, add-suc}
use native.Mathlib.Numerals.{add-one}
use native.Mathlib.Omega.{arith}
use lib.IntN.{ℤ, nat_abs, ◌+ℤ◌, ◌-ℤ◌, +ℤ_idr, +ℤ_assoc}
use lib.ListN.{length}
use Rattle.laws.specs.Sums.{sum, sum_ℤ, square}
use Rattle.laws.specs.Lists.{at}
use Rattle.laws.proofs.Parts.{size_is, square_within_lem}
use Rattle.laws.proofs.Expressions.{Expression, $◌, #◌, ◌⊕◌, ◌⊖◌, ◌⊗◌, ⟦◌⟧, equation, size_within}
use Rattle.laws.proofs.SumLaws.{sum_step, sum_within, sum_ℤ_zero, sum_ℤ_suc, sum_ℤ_step, sum_ℤ_equal, sum_ℤ_within, window_slides}
use Rattle.record.specs.Refusals.{none, record_refusal}
use Rattle.record.proofs.RefusalLaws.{none_sound}
use Rattle.sums.specs.Published.{difference, window_sum, allan_sum, allan_count, modified_sum, modified_count}
use Rattle.sums.specs.Answers.{allan_demand, modified_demand}

-- ---- the second difference, as an expression
abbrev pub difference_of : ℕ → List ℤ → ℕ → Expression
difference_of m xs i = $ at xs (i + 2 * m) ⊖ # 2 ⊗ $ at xs (i + m) ⊕ $ at xs i

pub difference_means : (m : ℕ) (xs : List ℤ) (i : ℕ) → ⟦ difference_of m xs i ⟧ ≡ difference m xs i
unfolding difference
difference_means m xs i = refl

-- ---- what the window gains as it moves on from j, a third difference
abbrev pub gain : ℕ → List ℤ → ℕ → ℤ
gain m xs j = difference m xs (j + m) -ℤ difference m xs j

abbrev pub gain_of : ℕ → List ℤ → ℕ → Expression
gain_of m xs j = $ at xs (j + 3 * m) ⊖ # 3 ⊗ $ at xs (j + 2 * m) ⊕ # 3 ⊗ $ at xs (j + m) ⊖ $ at xs j

pub gain_means : (m : ℕ) (xs : List ℤ) (j : ℕ) → ⟦ gain_of m xs j ⟧ ≡ gain m xs j
gain_means m xs j =
    let third : j + m + 2 * m ≡ j + 3 * m = omega arith in
    let second : j + m + m ≡ j + 2 * m = omega arith in
    rw (← difference_means m xs (j + m), ← difference_means m xs j, third, second)
    (equation (gain_of m xs j) ($ at xs (j + 3 * m) ⊖ # 2 ⊗ $ at xs (j + 2 * m) ⊕ $ at xs (j + m) ⊖ difference_of m xs j) (omega arith))

-- ---- the sums after n of their terms

abbrev pub allan_so_far : ℕ → List ℤ → ℕ → ℕ
allan_so_far m xs n = sum n (λ i. square (difference m xs i))

abbrev pub first_so_far : ℕ → List ℤ → ℕ → ℤ
first_so_far m xs n = sum_ℤ n (difference m xs)

abbrev pub modified_so_far : ℕ → List ℤ → ℕ → ℕ
modified_so_far m xs n = sum n (λ j. square (window_sum m xs j))

module _ (m : ℕ) (xs : List ℤ) where
  pub allan_step : (n : ℕ) → allan_so_far m xs (n + 1) ≡ allan_so_far m xs n + square (difference m xs n)
  allan_step n = sum_step n (λ i. square (difference m xs i))

  pub first_step : (n : ℕ) → first_so_far m xs (n + 1) ≡ first_so_far m xs n +ℤ difference m xs n
  first_step n = sum_ℤ_step n (difference m xs)

  pub modified_step : (n : ℕ) → modified_so_far m xs (n + 1) ≡ modified_so_far m xs n + square (window_sum m xs n)
  modified_step n = sum_step n (λ j. square (window_sum m xs j))

  -- the whole sums
  pub first_window_is : first_so_far m xs m ≡ window_sum m xs 0
  unfolding window_sum
  first_window_is = sum_ℤ_equal m _ _ (λ i below. ap (difference m xs) (sym (zero-add i)))

  pub allan_sum_is : (n : ℕ) → n ≡ length xs - 2 * m → allan_so_far m xs n ≡ allan_sum m xs
  unfolding allan_sum allan_count
  allan_sum_is n whole = ap (allan_so_far m xs) whole

  pub modified_sum_is : (n : ℕ) → n ≡ length xs + 1 - 3 * m → modified_so_far m xs n ≡ modified_sum m xs
  unfolding modified_sum modified_count
  modified_sum_is n whole = ap (modified_so_far m xs) whole

  -- the window moves on by one: a second difference comes, and one goes
  pub window_slides_on : (j : ℕ) → window_sum m xs (j + 1) ≡ window_sum m xs j +ℤ difference m xs (j + m) -ℤ difference m xs j
  unfolding window_sum
  window_slides_on j = window_slides m (difference m xs) j

  -- so it gains
  pub window_gains : (j : ℕ) → window_sum m xs (j + 1) ≡ window_sum m xs j +ℤ gain m xs j
  window_gains j =
      let w = $ window_sum m xs j in
      let come = $ difference m xs (j + m) in
      let go = $ difference m xs j in
      window_slides_on j ∙ equation (w ⊕ come ⊖ go) (w ⊕ (come ⊖ go)) (omega arith)

  pub window_after : (j k : ℕ) → window_sum m xs j +ℤ sum_ℤ k (λ i. gain m xs (j + i)) ≡ window_sum m xs (j + k)
  window_after j zero = rw (sum_ℤ_zero, +ℤ_idr, add-zero j)
  window_after j (suc k) =
      rw (sum_ℤ_suc, ← +ℤ_assoc, window_after j k, ← window_gains (j + k), add-suc j k, ← add-one (j + k))

-- ---- bounds

module _ (m : ℕ) (xs : List ℤ) (bounded : (k : ℕ) → nat_abs (at xs k) ≤ 2 ^ 40) where
  pub difference_within : (i : ℕ) → nat_abs (difference m xs i) ≤ 2 ^ 42
  difference_within i =
      rw (← difference_means m xs i) (size_within (difference_of m xs i) (2 ^ 42)
      (omega (arith, bounded i, bounded (i + m), bounded (i + 2 * m), size_is (at xs i), size_is (at xs (i + m)), size_is (at xs (i + 2 * m)))))

  pub gain_within : (j : ℕ) → nat_abs (gain m xs j) ≤ 2 ^ 43
  gain_within j =
      size_within ($ difference m xs (j + m) ⊖ $ difference m xs j) (2 ^ 43)
      (omega (arith, difference_within (j + m), difference_within j, size_is (difference m xs (j + m)), size_is (difference m xs j)))

  pub first_within : (n : ℕ) → nat_abs (first_so_far m xs n) ≤ n * 2 ^ 42
  first_within n = sum_ℤ_within n (difference m xs) (2 ^ 42) (λ i below. difference_within i)

  pub window_within : (j : ℕ) → nat_abs (window_sum m xs j) ≤ m * 2 ^ 42
  unfolding window_sum
  window_within j = sum_ℤ_within m (λ i. difference m xs (j + i)) (2 ^ 42) (λ i below. difference_within (j + i))

  pub difference_square_within : (i : ℕ) → square (difference m xs i) ≤ 2 ^ 84
  difference_square_within i = square_within_lem (difference m xs i) (difference_within i)

  pub window_square_within : (j : ℕ) → square (window_sum m xs j) ≤ m * m * 2 ^ 84
  window_square_within j = omega (arith, square_within_lem (window_sum m xs j) (window_within j))

  pub allan_within : (n : ℕ) → allan_so_far m xs n ≤ n * 2 ^ 84
  allan_within n = sum_within n (λ i. square (difference m xs i)) (2 ^ 84) (λ i below. difference_square_within i)

  pub modified_within : (n : ℕ) → modified_so_far m xs n ≤ n * (m * m * 2 ^ 84)
  modified_within n = sum_within n (λ j. square (window_sum m xs j)) (m * m * 2 ^ 84) (λ j below. window_square_within j)

  pub allan_so_far_below : (n : ℕ) → n ≤ 32768 → allan_so_far m xs n < 2 ^ 126
  allan_so_far_below n few = omega (arith, allan_within n)

  module _ (factor_most : m ≤ 10922) where
    pub window_fits_word : (j : ℕ) → nat_abs (window_sum m xs j) ≤ 2 ^ 62
    window_fits_word j = omega (arith, window_within j)

    pub modified_so_far_below : (n : ℕ) → n ≤ 32768 → modified_so_far m xs n < 2 ^ 126
    modified_so_far_below n few =
        omega (arith, modified_within n, mul-le-mul few (mul-le-mul_right (2 ^ 84) (mul-le-mul factor_most factor_most)))

-- ---- no sum of a record that is not refused reaches 2^126

pub allan_sum_below : (m : ℕ) (xs : List ℤ) → record_refusal allan_demand m xs ≡ none → allan_sum m xs < 2 ^ 126
unfolding allan_sum allan_count
allan_sum_below m xs unrefused =
    let s = none_sound allan_demand m xs unrefused in
    allan_so_far_below m xs s.bounded (length xs - 2 * m) (omega (arith, s.not_too_many))

pub modified_sum_below : (m : ℕ) (xs : List ℤ) → record_refusal modified_demand m xs ≡ none → modified_sum m xs < 2 ^ 126
unfolding modified_sum modified_count
modified_sum_below m xs unrefused =
    let s = none_sound modified_demand m xs unrefused in
    modified_so_far_below m xs s.bounded s.factor_most (length xs + 1 - 3 * m) (omega (arith, s.not_too_many, s.factor_least))
