-- Records that differ by a whole offset and a whole rate times the index have equal sums, at every factor.
use mathlib.Core.Path.{◌≡◌, ap, ◌∙◌}
use mathlib.Core.List.{List}
use Prim.Native.Nat.{ℕ, ◌+◌, ◌-◌, ◌*◌, ◌<◌, ◌≤◌}
use native.Mathlib.Omega.{arith}
use lib.IntN.{ℤ, pos, ◌+ℤ◌, ◌*ℤ◌}
use lib.ListN.{length}
use Rattle.laws.specs.Sums.{square}
use Rattle.laws.specs.Lists.{at}
use Rattle.laws.proofs.Expressions.{Expression, $◌, #◌, ◌⊕◌, ◌⊖◌, ◌⊗◌, equation}
use Rattle.laws.proofs.SumLaws.{sum_equal, sum_ℤ_equal}
use Rattle.sums.specs.Published.{difference, window_sum, allan_sum, allan_count, modified_sum, modified_count}
use Rattle.sums.proofs.PublishedLaws.{difference_of, difference_means, allan_so_far, modified_so_far}

-- ys has as many samples as xs, and sample i of ys is that of xs and offset + rate * i more
pub record Shifted (offset rate : ℤ) (xs ys : List ℤ) : Type 0 where
  pub same_length : length ys ≡ length xs
  pub moved : (i : ℕ) → i < length xs → at ys i ≡ at xs i +ℤ (offset +ℤ rate *ℤ pos i)

module _ {offset rate : ℤ} {xs ys : List ℤ} (shifted : Shifted offset rate xs ys) (m : ℕ) where
  -- sample i of ys, by sample i of xs
  abbrev moved_sample : ℕ → Expression
  moved_sample i = $ at xs i ⊕ ($ offset ⊕ $ rate ⊗ # i)

  pub shifted_difference : (i : ℕ) → i + 2 * m < length xs → difference m ys i ≡ difference m xs i
  shifted_difference i inside =
      rw (← difference_means m ys i, ← difference_means m xs i, shifted.moved (i + 2 * m) inside, shifted.moved (i + m) (omega arith), shifted.moved i (omega arith))
      (equation (moved_sample (i + 2 * m) ⊖ # 2 ⊗ moved_sample (i + m) ⊕ moved_sample i) (difference_of m xs i) (omega arith))

  -- every second difference of the window lies inside the record
  pub shifted_window : (j : ℕ) → j + 3 * m ≤ length xs → window_sum m ys j ≡ window_sum m xs j
  unfolding window_sum
  shifted_window j inside = sum_ℤ_equal m _ _ (λ i below. shifted_difference (j + i) (omega arith))

  pub shifted_allan_sum : allan_sum m ys ≡ allan_sum m xs
  unfolding allan_sum allan_count
  shifted_allan_sum =
      ap (λ (n : ℕ). allan_so_far m ys (n - 2 * m)) shifted.same_length
      ∙ sum_equal (length xs - 2 * m) _ _ (λ i below. ap square (shifted_difference i (omega arith)))

  pub shifted_modified_sum : modified_sum m ys ≡ modified_sum m xs
  unfolding modified_sum modified_count
  shifted_modified_sum =
      ap (λ (n : ℕ). modified_so_far m ys (n + 1 - 3 * m)) shifted.same_length
      ∙ sum_equal (length xs + 1 - 3 * m) _ _ (λ j below. ap square (shifted_window j (omega arith)))
