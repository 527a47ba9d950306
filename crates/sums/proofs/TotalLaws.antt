-- What the code of the sums asks of a record that was checked: each signed result fits a word, and one turn of each loop adds one term.
use mathlib.Core.Path.{◌≡◌, sym, ap, ◌∙◌}
use mathlib.Core.List.{List}
use Prim.Native.Nat.{ℕ, ◌+◌, ◌-◌, ◌*◌, ◌^◌, ◌≤◌, ◌<◌}
use native.Mathlib.Omega.{arith}
use lib.IntN.{ℤ, pos, nat_abs}
use lib.ListN.{length}
use mir.Syntax.{w64}
use mir.Val.{SFits, of_z, to_z}
use Rattle.laws.specs.Sums.{sum, square}
use Rattle.laws.specs.Lists.{at, tabulate}
use Rattle.laws.proofs.ListLaws.{tabulate_length, tabulate_entry}
use Rattle.laws.proofs.SumLaws.{sum_step, sum_equal, sum_split, sum_ℤ_equal}
use Rattle.laws.proofs.Parts.{size_is, small_fits}
use Rattle.laws.proofs.Expressions.{Expression, ◌∋◌, ◌⊕◌}
use Rattle.laws.proofs.Squares.{raised, raised_within}
use Rattle.laws.proofs.Machine.{Fit, machine, result, read_back, machine_is, result_is}
use Rattle.wide.specs.Wide.{halves, wide_sum}
use Rattle.wide.specs.declared.Wide.{Wide}
use Rattle.wide.proofs.WideLaws.{sum_grows}
use Rattle.record.specs.Refusals.{none, range_refusal, record_refusal}
use Rattle.record.proofs.RefusalLaws.{none_sound, Sound, range_bounded}
use Rattle.sums.specs.Published.{difference, allan_count, window_sum}
use Rattle.sums.specs.Answers.{allan_demand}
use Rattle.sums.proofs.BlockLaws.{window_at}
use Rattle.sums.proofs.PublishedLaws.{difference_of, difference_means, first_so_far, modified_so_far, first_step, first_within, first_window_is, gain, gain_of, gain_means, gain_within, window_gains, window_after, difference_within, window_within, window_fits_word, modified_so_far_below}

-- ---- a second difference
module _ (m : ℕ) (xs : List ℤ) (i : ℕ) (unrefused : range_refusal xs ≡ none) where
  pub difference_fits : Fit w64 (difference_of m xs i)
  difference_fits =
      let bounded = range_bounded xs unrefused in
      omega (arith, bounded i, bounded (i + m), bounded (i + 2 * m), size_is (at xs i), size_is (at xs (i + m)), size_is (at xs (i + 2 * m)))

  pub difference_is : machine w64 (difference_of m xs i) ≡ difference m xs i
  difference_is = machine_is w64 (difference_of m xs i) difference_fits ∙ difference_means m xs i

-- ---- what the window gains
module _ (m : ℕ) (xs : List ℤ) (j : ℕ) (unrefused : record_refusal allan_demand m xs ≡ none) where
  pub gain_fits : Fit w64 (gain_of m xs j)
  gain_fits =
      let bounded = (none_sound allan_demand m xs unrefused).bounded in
      omega (
        arith,
        bounded j,
        bounded (j + m),
        bounded (j + 2 * m),
        bounded (j + 3 * m),
        size_is (at xs j),
        size_is (at xs (j + m)),
        size_is (at xs (j + 2 * m)),
        size_is (at xs (j + 3 * m)),
      )

  pub gain_fits_word : SFits w64 (gain m xs j)
  gain_fits_word = small_fits (gain m xs j) (omega (arith, gain_within m xs (none_sound allan_demand m xs unrefused).bounded j))

  pub gain_is : machine w64 (gain_of m xs j) ≡ gain m xs j
  gain_is = machine_is w64 (gain_of m xs j) gain_fits ∙ gain_means m xs j

-- the gains of a block
abbrev pub gains_from : ℕ → List ℤ → ℕ → List ℤ
gains_from m xs j = tabulate 128 (λ k. gain m xs (j + k))

module _ (m : ℕ) (xs : List ℤ) (j : ℕ) where
  pub gains_length : length (gains_from m xs j) ≡ 128
  gains_length = tabulate_length 128 (λ k. gain m xs (j + k))

  pub gains_entry : (k : ℕ) → k < 128 → at (gains_from m xs j) k ≡ gain m xs (j + k)
  gains_entry k below = tabulate_entry 128 (λ k. gain m xs (j + k)) (pos 0) k below

-- ---- second differences raised by 2^42
abbrev pub raised_difference : ℕ → List ℤ → ℕ → ℕ
raised_difference m xs i = raised (2 ^ 42) (difference m xs i)

pub allan_count_is : (m : ℕ) (xs : List ℤ) (n : ℕ) → n ≡ length xs - 2 * m → n ≡ allan_count m xs
unfolding allan_count
allan_count_is m xs n whole = whole

module _ (m : ℕ) (xs : List ℤ) (unrefused : record_refusal allan_demand m xs ≡ none) where
  pub allan_difference_within : (i : ℕ) → nat_abs (difference m xs i) ≤ 2 ^ 42
  allan_difference_within i = difference_within m xs (none_sound allan_demand m xs unrefused).bounded i

  pub raised_difference_small : (i : ℕ) → raised_difference m xs i ≤ 2 ^ 43
  raised_difference_small i = raised_within (2 ^ 42) (difference m xs i) (allan_difference_within i)

-- ---- squares in two halves

-- what a call reads of a number that another gave
abbrev pub read : ℤ → ℤ
read y = to_z w64 (of_z w64 y)

-- a running sum of squares takes in one more
pub square_taken_in :
    (f : ℕ → ℤ) (n : ℕ) → nat_abs (f n) ≤ 2 ^ 62 → sum (n + 1) (λ i. square (f i)) < 2 ^ 126 → {total next : Wide} {y : ℤ} →
    total ≡ halves (sum n (λ i. square (f i))) → y ≡ f n → next ≡ wide_sum total (halves (square (read y))) → next ≡ halves (sum (n + 1) (λ i. square (f i)))
square_taken_in f n small below {y = y} total-is y-is next_is =
    let more : sum (n + 1) (λ i. square (f i)) ≡ sum n (λ i. square (f i)) + square (f n) = sum_step n (λ i. square (f i)) in
    let read_is : read y ≡ f n = read_back {w = w64} y-is (small_fits (f n) (omega arith)) in
    sum_grows (sum n (λ i. square (f i))) (square (f n)) total-is (ap (λ (t : ℤ). halves (square t)) read_is) next_is (rw more at below)
    ∙ ap halves (sym more)

-- ---- one window more

module _ (m : ℕ) (xs : List ℤ) (unrefused : record_refusal allan_demand m xs ≡ none) (j : ℕ) (j-below : j + 3 * m ≤ length xs)
    {total : Wide} {y : ℤ} (total-is : total ≡ halves (modified_so_far m xs j)) (y-is : y ≡ window_sum m xs j) where
  sound : Sound allan_demand m xs
  sound = none_sound allan_demand m xs unrefused

  window_small : nat_abs (window_sum m xs j) ≤ 2 ^ 62
  window_small = window_fits_word m xs sound.bounded sound.factor_most j

  modified_below : modified_so_far m xs (j + 1) < 2 ^ 126
  modified_below = modified_so_far_below m xs sound.bounded sound.factor_most (j + 1) (omega (arith, sound.not_too_many, sound.factor_least))

  pub modified_grows : {next : Wide} → next ≡ wide_sum total (halves (square (read y))) → next ≡ halves (modified_so_far m xs (j + 1))
  modified_grows = square_taken_in (window_sum m xs) j window_small modified_below total-is y-is

-- ---- the window: s is its bits, or w itself, and y is what a call gave, a second difference or a gain
abbrev pub grown : ℕ → List ℤ → ℕ → ℕ → ℤ → Expression
grown m xs i s y = s ∋ first_so_far m xs i ⊕ of_z w64 y ∋ difference m xs i

abbrev pub moved : ℕ → List ℤ → ℕ → ℤ → ℤ → Expression
moved m xs j w y = of_z w64 w ∋ window_sum m xs j ⊕ of_z w64 y ∋ gain m xs j

module _ (m : ℕ) (xs : List ℤ) (unrefused : record_refusal allan_demand m xs ≡ none) where
  abbrev record_sound : Sound allan_demand m xs
  record_sound = none_sound allan_demand m xs unrefused

  module _ (i s : ℕ) (i-below : i ≤ m) (s-is : s ≡ of_z w64 (first_so_far m xs i)) where
    small : nat_abs (first_so_far m xs i) ≤ 2 ^ 56
    small = omega (arith, record_sound.factor_most, first_within m xs record_sound.bounded i)

    pub first_grows_fits : {y : ℤ} → y ≡ difference m xs i → Fit w64 (grown m xs i s y)
    first_grows_fits y-is =
        omega (
          arith,
          ap (of_z w64) y-is,
          small,
          difference_within m xs record_sound.bounded i,
          size_is (first_so_far m xs i),
          size_is (difference m xs i),
        )

    pub first_grows : {y : ℤ} → y ≡ difference m xs i → read (result w64 (grown m xs i s y)) ≡ first_so_far m xs (i + 1)
    first_grows {y} y-is =
        read_back {w = w64} (result_is w64 (grown m xs i s y) (first_grows_fits y-is) ∙ sym (first_step m xs i))
        (small_fits (first_so_far m xs (i + 1)) (omega (arith, record_sound.factor_most, first_within m xs record_sound.bounded (i + 1))))

    pub first_grown : i ≡ m → to_z w64 s ≡ window_sum m xs 0
    first_grown whole =
        machine_is w64 (s ∋ first_so_far m xs i) (s-is, small_fits (first_so_far m xs i) (omega (arith, small)))
        ∙ ap (first_so_far m xs) whole
        ∙ first_window_is m xs

  -- a window that a call gave is read as it is
  pub window_read : (j : ℕ) {w : ℤ} → w ≡ window_sum m xs j → read w ≡ window_sum m xs j
  window_read j w-is =
      read_back {w = w64} w-is (small_fits (window_sum m xs j) (omega (arith, window_fits_word m xs record_sound.bounded record_sound.factor_most j)))

  module _ (j : ℕ) {w y : ℤ} (w-is : w ≡ window_sum m xs j) (y-is : y ≡ gain m xs j) where
    pub window_moves_fits : Fit w64 (moved m xs j w y)
    window_moves_fits =
        omega (
          arith,
          ap (of_z w64) w-is,
          ap (of_z w64) y-is,
          record_sound.factor_most,
          window_within m xs record_sound.bounded j,
          gain_within m xs record_sound.bounded j,
          size_is (window_sum m xs j),
          size_is (gain m xs j),
        )

    pub window_moves : machine w64 (moved m xs j w y) ≡ window_sum m xs (j + 1)
    window_moves = machine_is w64 (moved m xs j w y) window_moves_fits ∙ sym (window_gains m xs j)

  -- ---- a block: gs are its gains, w the window before it
  module _ (j : ℕ) (inside : j + 128 + 3 * m ≤ length xs) {w : ℤ} {gs : List ℤ} (w-is : w ≡ window_sum m xs j) (gs-are : gs ≡ gains_from m xs j) where
    pub block_window : (k : ℕ) → k ≤ 128 → window_at w gs k ≡ window_sum m xs (j + k)
    block_window k few =
        rw (w-is, gs-are, sum_ℤ_equal k (at (gains_from m xs j)) (λ i. gain m xs (j + i)) (λ i below. gains_entry m xs j i (omega arith))) (window_after m xs j k)

    pub block_within : (k : ℕ) → k ≤ 128 → nat_abs (window_at w gs k) ≤ m * 2 ^ 42
    block_within k few = rw (block_window k few) (window_within m xs record_sound.bounded (j + k))

    block_squares : sum 128 (λ k. square (window_at w gs (k + 1))) ≡ sum 128 (λ k. square (window_sum m xs (j + 1 + k)))
    block_squares = sum_equal 128 _ _ (λ k below.
        let next : j + (k + 1) ≡ j + 1 + k = omega arith in
        ap square (block_window (k + 1) (omega arith) ∙ ap (window_sum m xs) next))

    blocks_below : modified_so_far m xs (j + 1 + 128) < 2 ^ 126
    blocks_below = modified_so_far_below m xs record_sound.bounded record_sound.factor_most (j + 1 + 128) (omega (arith, record_sound.not_too_many, record_sound.factor_least))

    pub block_grows : {total squares next : Wide} → total ≡ halves (modified_so_far m xs (j + 1)) → squares ≡ halves (sum 128 (λ k. square (window_at w gs (k + 1)))) →
        next ≡ wide_sum total squares → next ≡ halves (modified_so_far m xs (j + 128 + 1))
    block_grows total-is squares-are next_is =
        let more : modified_so_far m xs (j + 1 + 128) ≡ modified_so_far m xs (j + 1) + sum 128 (λ k. square (window_sum m xs (j + 1 + k))) =
        sum_split (j + 1) 128 (λ i. square (window_sum m xs i)) in
        let after : j + 1 + 128 ≡ j + 128 + 1 = omega arith in
        sum_grows _ _ total-is (squares-are ∙ ap halves block_squares) next_is (rw more at blocks_below) ∙ ap halves (sym more ∙ ap (modified_so_far m xs) after)
