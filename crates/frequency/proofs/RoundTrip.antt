-- What phases from a start and frequency from phase make of each other's output.
use mathlib.Core.Path.{◌≡◌, sym, ap, ◌∙◌}
use mathlib.Core.Bool.{true, false}
use mathlib.Core.List.{List}
use Prim.Native.Nat.{ℕ, ◌+◌, ◌-◌, ◌≤◌, ◌<◌}
use native.Mathlib.Omega.{arith}
use lib.IntN.{ℤ, pos, ◌+ℤ◌, ◌-ℤ◌, +ℤ_idl}
use lib.ListN.{length}
use Rattle.laws.specs.Lists.{at, tabulate}
use Rattle.laws.proofs.ListLaws.{tabulate_equal, tabulate_of, first_failing_is, none_fails}
use Rattle.laws.proofs.SumLaws.{sum_ℤ_equal, sum_ℤ_telescopes}
use Rattle.laws.proofs.Expressions.{$◌, ◌⊕◌, ◌⊖◌, equation}
use Rattle.record.specs.Refusals.{none, refused, in_range, range_refusal}
use Rattle.frequency.specs.Frequency.{phases_from, phases, first_leaving, phase_refusal, phase_refusal_from, differences, frequency_refusal}
use Rattle.record.proofs.RangeLaws.{bounded_sample}
use Rattle.record.proofs.RefusalLaws.{all_in_range, range_bounded}
use Rattle.frequency.proofs.FrequencyLaws.{running, later, running_step, phases_from_length, phase_from_is, later_length, later_is, differences_length, difference_is, phase_in_range, reading_leaves, phases_unrefused, unrefused_stays, refusal_from_nought, range_decides}

-- ---- phase to frequency to phase, from a start

module _ (xs : List ℤ) (some : 0 < length xs) where
  count_is : length (differences xs) + 1 ≡ length xs
  count_is = omega (arith, differences_length xs)

  -- zs is as far from the start as the record is from its first sample
  module _ (start : ℤ) (zs : ℕ → ℤ) (as-far : (i : ℕ) → i < length xs → start +ℤ (at xs i -ℤ at xs 0) ≡ zs i) where
    reaches : (i : ℕ) → i < length xs → running start (differences xs) i ≡ zs i
    reaches i h =
        let steps : (k : ℕ) → k < i → at (differences xs) k ≡ at xs (k + 1) -ℤ at xs k = λ k below. difference_is xs k (omega arith) in
        ap (λ (t : ℤ). start +ℤ t) (sum_ℤ_equal i (at (differences xs)) (λ k. at xs (k + 1) -ℤ at xs k) steps ∙ sum_ℤ_telescopes i (at xs)) ∙ as-far i h

    phases_reach : phases_from start (differences xs) ≡ tabulate (length xs) zs
    unfolding phases_from
    phases_reach =
        ap (λ (n : ℕ). tabulate n (running start (differences xs))) count_is
        ∙ tabulate_equal (length xs) (running start (differences xs)) zs reaches

    later_reaches : (i : ℕ) → i + 1 < length xs → at (later start (differences xs)) i ≡ zs (i + 1)
    later_reaches i h = later_is start (differences xs) i (omega (arith, differences_length xs)) ∙ reaches (i + 1) h

    module _ (room : ℕ) (few : length xs ≤ 32768) (enough : length xs ≤ room) (inside : in_range start ≡ true) where
      -- the differences are refused exactly at the first i whose z_(i+1) leaves the range
      refused_at_first : (i : ℕ) → i + 1 < length xs → ((k : ℕ) → k < i → in_range (zs (k + 1)) ≡ true) → in_range (zs (i + 1)) ≡ false →
          phase_refusal_from start (differences xs) room ≡ refused 3 i
      unfolding first_leaving
      refused_at_first i h before here =
          let count = count_is in
          let many = later_length start (differences xs) in
          let first = first_failing_is in_range (pos 0) (later start (differences xs)) i (omega arith) stays (rw (later_reaches i h) here) in
          reading_leaves start (differences xs) room (omega arith) (omega arith) inside i (omega arith) (sym first)
        where
          stays : (k : ℕ) → k < i → in_range (at (later start (differences xs)) k) ≡ true
          stays k below = rw (later_reaches k (omega arith)) (before k below)

      unrefused_in_reach : ((k : ℕ) → k + 1 < length xs → in_range (zs (k + 1)) ≡ true) → phase_refusal_from start (differences xs) room ≡ none
      unfolding first_leaving
      unrefused_in_reach all =
          let count = count_is in
          let many = later_length start (differences xs) in
          let whole = none_fails in_range (pos 0) (later start (differences xs)) stays in
          phases_unrefused start (differences xs) room (omega arith) (omega arith) inside (whole ∙ many)
        where
          stays : (k : ℕ) → k < length (later start (differences xs)) → in_range (at (later start (differences xs)) k) ≡ true
          stays k h =
              let here : k + 1 < length xs = omega (arith, later_length start (differences xs), count_is) in
              rw (later_reaches k here) (all k here)

  -- ---- from 0: x_i - x_0

  -- how far a sample lies from the first
  abbrev pub offset : ℕ → ℤ
  offset i = at xs i -ℤ at xs 0

  pub phases_of_differences : phases (differences xs) ≡ tabulate (length xs) offset
  unfolding phases
  phases_of_differences = phases_reach (pos 0) offset (λ i h. +ℤ_idl (offset i))

  module _ (room : ℕ) (few : length xs ≤ 32768) (enough : length xs ≤ room) where
    pub refused_at_first_offset : (i : ℕ) → i + 1 < length xs → ((k : ℕ) → k < i → in_range (offset (k + 1)) ≡ true) →
        in_range (offset (i + 1)) ≡ false → phase_refusal (differences xs) room ≡ refused 3 i
    refused_at_first_offset i h before here =
        sym (refusal_from_nought (differences xs) room)
        ∙ refused_at_first (pos 0) offset (λ k inside. +ℤ_idl (offset k)) room few enough (bounded_sample (pos 0) (omega arith)) i h before here

    pub offsets_unrefused : ((k : ℕ) → k + 1 < length xs → in_range (offset (k + 1)) ≡ true) → phase_refusal (differences xs) room ≡ none
    offsets_unrefused all =
        sym (refusal_from_nought (differences xs) room)
        ∙ unrefused_in_reach (pos 0) offset (λ k inside. +ℤ_idl (offset k)) room few enough (bounded_sample (pos 0) (omega arith)) all

  -- ---- from the first sample: the record again

  sample_again : (i : ℕ) → i < length xs → at xs 0 +ℤ offset i ≡ at xs i
  sample_again i h = equation ($ at xs 0 ⊕ ($ at xs i ⊖ $ at xs 0)) ($ at xs i) (omega arith)

  pub record_again : phases_from (at xs 0) (differences xs) ≡ xs
  record_again = phases_reach (at xs 0) (at xs) sample_again ∙ tabulate_of xs (pos 0)

  -- a record in range is never refused on the way back
  pub record_unrefused : (room : ℕ) → length xs ≤ 32768 → length xs ≤ room → range_refusal xs ≡ none → phase_refusal_from (at xs 0) (differences xs) room ≡ none
  record_unrefused room few enough in_range_lem =
      let sample : (k : ℕ) → in_range (at xs k) ≡ true = λ k. bounded_sample (at xs k) (range_bounded xs in_range_lem k) in
      unrefused_in_reach (at xs 0) (at xs) sample_again room few enough (sample 0) (λ k h. sample (k + 1))

-- ---- frequency to phase to frequency: the readings again, from every start

module _ (start : ℤ) (ys : List ℤ) where
  pub differences_of_phases : differences (phases_from start ys) ≡ ys
  unfolding differences
  differences_of_phases =
      let ps = phases_from start ys in
      let count : length ps - 1 ≡ length ys = omega (arith, phases_from_length start ys) in
      let step : ℕ → ℤ = λ i. at ps (i + 1) -ℤ at ps i in
      ap (λ (n : ℕ). tabulate n step) count ∙ tabulate_equal (length ys) step (at ys) reading_is ∙ tabulate_of ys (pos 0)
    where
      reading_is : (i : ℕ) → i < length ys → at (phases_from start ys) (i + 1) -ℤ at (phases_from start ys) i ≡ at ys i
      reading_is i h =
          let x = $ running start ys i in
          rw (phase_from_is start ys (i + 1) (omega arith), phase_from_is start ys i (omega arith), running_step start ys i)
          (equation (x ⊕ $ at ys i ⊖ x) ($ at ys i) (omega arith))

  -- phases that were not refused are not refused on the way back
  pub phases_go_back : (before : ℕ) → phase_refusal_from start ys before ≡ none → (room : ℕ) → length ys ≤ room → frequency_refusal (phases_from start ys) room ≡ none
  phases_go_back before nothing room enough =
      let ps = phases_from start ys in
      let count = phases_from_length start ys in
      let known = unrefused_stays start ys before nothing in
      range_decides ps room (omega arith) (λ e. omega arith) (omega arith) ∙ all_in_range ps (none_fails in_range (pos 0) ps stays)
    where
      stays : (k : ℕ) → k < length (phases_from start ys) → in_range (at (phases_from start ys) k) ≡ true
      stays k h =
          let inside : k ≤ length ys = omega (arith, phases_from_length start ys) in
          let known = unrefused_stays start ys before nothing in
          bounded_sample _ (rw (phase_from_is start ys k inside) (phase_in_range start ys known.stay known.in_range_lem k inside))
