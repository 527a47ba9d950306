-- What one sample more at the end of a stream does to its published sums, and to the sum of its latest second differences.
use mathlib.Core.Path.{◌≡◌, refl, sym, ap, ap₂, ◌∙◌}
use mathlib.Core.List.{List, [], ◌∷◌, ◌++◌}
use Prim.Native.Nat.{ℕ, ◌+◌, ◌-◌, ◌*◌, ◌^◌, ◌≤◌, ◌<◌}
use native.Mathlib.Omega.{arith}
use lib.IntN.{ℤ, pos, nat_abs, ◌+ℤ◌, ◌-ℤ◌}
use lib.ListN.{length, length-append, get_or-append}
use lib.Seq.{get_or-append_seam}
use Rattle.laws.specs.Sums.{square}
use Rattle.laws.specs.Lists.{at}
use Rattle.laws.proofs.LatestLaws.{latest_of, latest_of_none, latest_of_equal, latest_of_within, latest_of_grows, latest_of_slides}
use Rattle.laws.proofs.SumLaws.{sum_zero, sum_equal, sum_ℤ_equal}
use Rattle.sums.specs.Published.{difference, window_sum, allan_sum, allan_count, modified_sum}
use Rattle.sums.proofs.PublishedLaws.{allan_step, modified_step, allan_sum_is, modified_sum_is, difference_within}

-- ---- the sum of the latest second differences of a stream, all of them up to m

unfoldable pub latest : ℕ → List ℤ → ℤ
latest m xs = latest_of m (allan_count m xs) (difference m xs)

module _ (m : ℕ) (xs : List ℤ) where
  -- once there are m of them it is the last window
  latest_is_window : 3 * m ≤ length xs → latest m xs ≡ window_sum m xs (length xs - 3 * m)
  unfolding latest latest_of window_sum allan_count
  latest_is_window many =
      let full : length xs - 2 * m - (length xs - 2 * m - m) ≡ m = omega arith in
      let first : length xs - 2 * m - m ≡ length xs - 3 * m = omega arith in
      rw (full, first)

  pub latest_within : ((k : ℕ) → nat_abs (at xs k) ≤ 2 ^ 40) → nat_abs (latest m xs) ≤ m * 2 ^ 42
  unfolding latest
  latest_within bounded = latest_of_within m (allan_count m xs) (difference m xs) (2 ^ 42) (difference_within m xs bounded)

-- ---- a stream of no samples

module _ (m : ℕ) where
  pub no_allan_sum : allan_sum m [] ≡ 0
  no_allan_sum = sym (allan_sum_is m [] 0 (omega arith)) ∙ sum_zero _

  pub no_modified_sum : 1 ≤ m → modified_sum m [] ≡ 0
  no_modified_sum some = sym (modified_sum_is m [] 0 (omega arith)) ∙ sum_zero _

  pub none_latest : latest m [] ≡ pos 0
  unfolding latest allan_count
  none_latest = latest_of_none m _ _ (omega arith)

-- ---- a stream with one sample more

module _ (xs : List ℤ) (x : ℤ) where
  abbrev longer : List ℤ
  longer = xs ++ x ∷ []

  pub one_longer : length longer ≡ length xs + 1
  one_longer = length-append xs (x ∷ [])

  pub old_sample : (i : ℕ) → i < length xs → at longer i ≡ at xs i
  old_sample i inside = get_or-append xs (x ∷ []) (pos 0) i inside

  pub new_sample : at longer (length xs) ≡ x
  new_sample = get_or-append_seam xs x [] (pos 0)

  module _ (m : ℕ) where
    old_difference_lem : (i : ℕ) → i + 2 * m < length xs → difference m longer i ≡ difference m xs i
    unfolding difference
    old_difference_lem i inside = rw (old_sample (i + 2 * m) inside, old_sample (i + m) (omega arith), old_sample i (omega arith))

    old_window : (j : ℕ) → j + 3 * m ≤ length xs → window_sum m longer j ≡ window_sum m xs j
    unfolding window_sum
    old_window j inside = sum_ℤ_equal m _ _ (λ i below. old_difference_lem (j + i) (omega arith))

    old_latest : latest_of m (length xs - 2 * m) (difference m longer) ≡ latest m xs
    unfolding latest allan_count
    old_latest = latest_of_equal m (length xs - 2 * m) _ _ (λ i below. old_difference_lem i (omega arith))

    -- a second difference comes once there are 2m samples
    pub allan_waits : length xs < 2 * m → allan_sum m longer ≡ allan_sum m xs
    allan_waits few =
        sym (allan_sum_is m longer 0 (omega (arith, one_longer))) ∙ sum_zero _ ∙ sym (sum_zero _) ∙ allan_sum_is m xs 0 (omega arith)

    pub allan_grows : 2 * m ≤ length xs → allan_sum m longer ≡ allan_sum m xs + square (difference m longer (length xs - 2 * m))
    allan_grows many =
        let n : ℕ = length xs - 2 * m in
        sym (allan_sum_is m longer (n + 1) (omega (arith, one_longer)))
        ∙ allan_step m longer n
        ∙ ap (λ (s : ℕ). s + square (difference m longer n))
        (sum_equal n _ _ (λ i below. ap square (old_difference_lem i (omega arith))) ∙ allan_sum_is m xs n refl)

    -- a window comes once the new sample makes 3m
    pub modified_waits : length xs + 1 < 3 * m → modified_sum m longer ≡ modified_sum m xs
    modified_waits few =
        sym (modified_sum_is m longer 0 (omega (arith, one_longer))) ∙ sum_zero _ ∙ sym (sum_zero _) ∙ modified_sum_is m xs 0 (omega arith)

    pub modified_grows : 3 * m ≤ length xs + 1 → modified_sum m longer ≡ modified_sum m xs + square (latest m longer)
    modified_grows many =
        let n : ℕ = length xs + 1 - 3 * m in
        let last : n ≡ length longer - 3 * m = omega (arith, one_longer) in
        sym (modified_sum_is m longer (n + 1) (omega (arith, one_longer)))
        ∙ modified_step m longer n
        ∙ ap₂ (λ (s : ℕ) (w : ℤ). s + square w)
        (sum_equal n _ _ (λ j below. ap square (old_window j (omega arith))) ∙ modified_sum_is m xs n refl)
        (ap (window_sum m longer) last ∙ sym (latest_is_window m longer (omega (arith, one_longer))))

    -- the latest second differences: none before there are 2m samples, one more up to 3m, from then on one comes and one goes
    pub latest_waits : length xs < 2 * m → latest m longer ≡ latest m xs
    unfolding latest allan_count
    latest_waits few = latest_of_none m _ _ (omega (arith, one_longer)) ∙ sym (latest_of_none m _ _ (omega arith))

    pub latest_grows : 2 * m ≤ length xs → length xs < 3 * m → latest m longer ≡ latest m xs +ℤ difference m longer (length xs - 2 * m)
    unfolding latest allan_count
    latest_grows many few =
        let one_more : length longer - 2 * m ≡ length xs - 2 * m + 1 = omega (arith, one_longer) in
        rw (one_more, ← old_latest) (latest_of_grows m (length xs - 2 * m) (difference m longer) (omega arith))

    pub latest_slides : 3 * m ≤ length xs →
        latest m longer ≡ latest m xs +ℤ difference m longer (length xs - 2 * m) -ℤ difference m longer (length xs - 3 * m)
    unfolding latest allan_count
    latest_slides many =
        let one_more : length longer - 2 * m ≡ length xs - 2 * m + 1 = omega (arith, one_longer) in
        let first : length xs - 2 * m - m ≡ length xs - 3 * m = omega arith in
        rw (one_more, ← first, ← old_latest) (latest_of_slides m (length xs - 2 * m) (difference m longer) (omega arith))
