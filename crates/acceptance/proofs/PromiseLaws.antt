-- What the definitions behind the contracts give where nothing is refused, as condition 2 promises it.
use mathlib.Core.Path.{◌≡◌, refl, sym, ap, ◌∙◌, subst}
use mathlib.Core.Bool.{Bool, true, false, cond}
use mathlib.Core.List.{List, [], ◌∷◌}
use mathlib.Core.Logic.{◌⊎◌, inl, inr}
use Prim.Native.Nat.{ℕ, zero, suc, ◌+◌, ◌-◌, ◌*◌, ◌/◌, ◌%◌, ◌^◌, ◌≤◌, ◌<◌, ◌∣◌}
use native.Mathlib.Nat.{zero-add, add-zero, mul-one, mul-le-mul}
use native.Mathlib.Numerals.{one-add}
use native.Mathlib.Omega.{arith}
use borrow.Author.Tests.{le-leb, lt-leb, ltb-false}
use lib.Dec.{T, leb, eqb}
use lib.Ieee.{Float, nan}
use lib.Ieee.Exact.{HasValue}
use lib.Ieee.Nearest.{closest}
use lib.Ieee.Positive.{positive}
use lib.IntN.{ℤ, pos, nat_abs, ◌+ℤ◌, ◌-ℤ◌, ◌*ℤ◌, +ℤ_idl}
use lib.ListN.{length, get_or, take}
use lib.Seq.{take_at}
use lib.Signed.{◌≤ℤ◌, ◌<ℤ◌}
use Rattle.laws.specs.Greatest.{Greatest}
use Rattle.laws.specs.Lists.{at, how_many, written}
use Rattle.laws.specs.Nearest.{with_sign}
use Rattle.laws.specs.Sums.{sum_ℤ, total_over}
use Rattle.laws.proofs.Expressions.{Expression, $◌, #◌, ◌⊕◌, ◌⊖◌, ◌⊗◌, sound, equation, at_most, less_than}
use Rattle.laws.proofs.ListLaws.{tabulate_entry, written_front}
use Rattle.laws.proofs.Parts.{equal_by_parts, parts_of_equal}
use Rattle.laws.proofs.Rounding.{closest_whole}
use Rattle.wide.specs.Wide.{value, halves}
use Rattle.wide.proofs.WideLaws.{value_of_halves}
use Rattle.record.specs.Answers.{count_answer, buffer_left}
use Rattle.record.specs.Refusals.{none, refused, ◌then◌, range_refusal, record_refusal}
use Rattle.record.specs.declared.Refusal.{Refusal}
use Rattle.record.specs.declared.CountAnswer.{CountAnswer}
use Rattle.record.proofs.RangeLaws.{bounded_sample}
use Rattle.record.proofs.RefusalLaws.{first_refuses_nothing, rest_refuses_nothing, test_fails, none_sound, unrefused_sound}
use Rattle.frequency.specs.Frequency.{phases_from, phases, phase_refusal, phase_refusal_from, differences, frequency_refusal}
use Rattle.frequency.proofs.FrequencyLaws.{phases_from_length, phase_from_is, refusal_from_nought, differences_length, difference_is}
use Rattle.frequency.proofs.RoundTrip.{phases_of_differences, refused_at_first_offset, offsets_unrefused, record_again, record_unrefused, differences_of_phases, phases_go_back}
use Rattle.drift.specs.Drift.{drift_h, drift_p, drift_r, drift_refusal, drift_answer, floored, without_drift, removal_refusal}
use Rattle.drift.proofs.DriftLaws.{written_out, triangle_is, triangle_double, without_drift_length}
use Rattle.drift.proofs.Floors.{floored_at_most, one_more_above, floored_only}
use Rattle.sums.specs.Published.{difference, allan_sum, allan_count, allan_denominator, modified_sum, modified_count, time_denominator}
use Rattle.sums.specs.Answers.{allan_demand, modified_demand, part_of, allan_sum_answer, modified_sum_answer}
use Rattle.sums.specs.declared.SumAnswer.{SumAnswer}
use Rattle.sums.specs.declared.Part.{Part}
use Rattle.sums.proofs.AnswerLaws.{allan_sum_given, modified_sum_given}
use Rattle.variances.specs.Deviations.{within, deviation}
use Rattle.variances.specs.Answers.{figure_refusal, allan_fraction_answer, time_fraction_answer, deviation_answer, allan_deviation_answer, time_deviation_answer}
use Rattle.variances.specs.declared.DeviationAnswer.{DeviationAnswer}
use Rattle.variances.proofs.FigureLaws.{Allowed, unrefused_allowed, denominator_above_nought}
use Rattle.variances.proofs.FractionLaws.{lowest_terms, lowest_same_value, lowest_no_common, lowest_of_nought}
use Rattle.variances.proofs.DeviationLaws.{deviation_is_greatest}
use Rattle.variances.proofs.AnswerLaws.{deviation_refusal, given_deviation, large_refusal, allan_fraction_given, time_fraction_given, allan_deviation_given, time_deviation_given}
use Rattle.variances.proofs.Bounds.{allan_allowed, allan_deviation_within, modified_allowed, time_deviation_within}
use Rattle.readings.specs.Readings.{reading_number, sample_of, has_fraction, Nearest, Exactly}
use Rattle.readings.specs.Answers.{float_refusal, float_answer}
use Rattle.readings.proofs.AnswerLaws.{float_buffer}
use Rattle.readings.proofs.ReadingLaws.{sample_by_value, sample_nearest, nearest_is_sample, fraction_not_exact, sample_exact}
use Rattle.readings.proofs.RefusalLaws.{samples_of, samples_length, sample_at, samples_taken, unrefused_sample, unrefused_readings, unrefused_size}
use Rattle.meter.proofs.Running.{published_report}
use Rattle.phr.specs.File.{file_of, file_from, most_values, value_in_range, Proper, IsFile, ProperStart, IsFileFrom, AreBytes}
use Rattle.phr.specs.Reading.{kind_of, count_of, read_refusal, read_answer, values_of, version_of, record_values, read_record_refusal, read_record_answer}
use Rattle.phr.proofs.AnswerCases.{read_buffer, record_buffer}
use Rattle.phr.specs.Writing.{write_refusal, write_record_refusal}
use Rattle.phr.specs.declared.ReadAnswer.{ReadAnswer}
use Rattle.phr.specs.declared.RecordAnswer.{RecordAnswer}
use Rattle.phr.proofs.WriteCases.{Writable, writable_none, unrefused_writable}
use Rattle.phr.proofs.RoundTrip.{accepted_exactly, buffer_has_file, file_is_read, file_answer, values_come_back}
use Rattle.phr.proofs.RecordRoundTrip.{accepted_either, buffer_has_file_from, file_from_is_read, file_from_answer, values_come_back_from, as_first_version, first_values, first_version}
use Rattle.phr.proofs.ReadCases.{first_start, unrefused_record}
use Rattle.plot.specs.Drawn.{GreatestDouble, drawn_answer}
use Rattle.plot.specs.Dots.{dot_number, dot_value, dot_answer}
use Rattle.plot.specs.declared.dots.Dot.{Dot}
use Rattle.plot.specs.declared.dots.Dot.TheVariants.{Drawn, Nought, TooFew}
use Rattle.plot.specs.declared.dots.DotAnswer.{DotAnswer}
use Rattle.plot.proofs.DrawnLaws.{drawn_is_greatest, drawn_above_nought, greatest_is_drawn, drawn_given}
use Rattle.plot.proofs.DotLaws.{nought_dot, drawn_dot}
use Rattle.noise.specs.Noise.{alpha_of, kappa_of, noise_of, noise_refusal, told_alpha, type_answer, time_deviation, record_type_answer}
use Rattle.noise.specs.Bars.{bar_width, bar_half, bars_refusal, bar_of, bars_answer}
use Rattle.noise.specs.declared.Noise.{Noise}
use Rattle.noise.specs.declared.Noise.TheVariants.{WhitePhase, FlickerPhase, WhiteFrequency, FlickerFrequency, RandomWalkFrequency}
use Rattle.noise.specs.declared.bars.BarsAnswer.{BarsAnswer}
use Rattle.noise.proofs.NoiseLaws.{noise_demand, noise_given, sound_at_factor, sound_at_double}
use Rattle.noise.proofs.BarLaws.{unrefused_barred, half_is_greatest, below_deviation, half_below}
use Rattle.ploegelster.specs.Boundary.{dot_kind, told_dot}
use Rattle.acceptance.specs.Grounds
use Rattle.acceptance.specs.Grounds.{NoRow, OfDrawn, OfBars}
use Rattle.acceptance.specs.Promises
use Rattle.acceptance.specs.Promises.{SumOf, PartsOf, StretchesOf, Changed, FractionOf, BackAndForth, GivenBack, DotOf, ToldAs, TypeByTable, NoiseOf, Kappa, HalfOf, BarsOf, DriftRemoved, ConstantDrift, ReadsBack, RecordReadsBack, ReadAlike}
use Rattle.acceptance.proofs.RecordGrounds.{outside_fails}

-- ---- sums, of a record that is not refused

module _ (m : ℕ) (xs : List ℤ) where
  pub allan_sum_of : record_refusal allan_demand m xs ≡ none →
      SumOf (allan_sum m xs) (length xs - 2 * m) (allan_sum_answer m xs).sum (allan_sum_answer m xs).count
  unfolding allan_count
  allan_sum_of nothing = rw (allan_sum_given m xs (none_sound allan_demand m xs nothing)) (value_of_halves _, refl)

  pub modified_sum_of : record_refusal modified_demand m xs ≡ none →
      SumOf (modified_sum m xs) (length xs - 3 * m + 1) (modified_sum_answer m xs).sum (modified_sum_answer m xs).count
  unfolding modified_count
  modified_sum_of nothing =
      let sound = none_sound modified_demand m xs nothing in
      rw (modified_sum_given m xs sound) (value_of_halves _, omega (arith, sound.enough))

  -- both sums as parts of an answer, each where it is due
  pub parts_of_lem : PartsOf m xs (part_of (leb (2 * m + 1) (length xs)) (allan_sum m xs) (allan_count m xs))
      (part_of (leb (3 * m) (length xs)) (modified_sum m xs) (modified_count m xs))
  unfolding part_of allan_count modified_count
  parts_of_lem = record {
    allan_due = λ due. rw (le-leb (2 * m + 1) (length xs) due) (refl, (value_of_halves _, refl));
    allan_not_due = λ short. rw (lt-leb (2 * m + 1) (length xs) short) refl;
    modified_due = λ due. rw (le-leb (3 * m) (length xs) due) (refl, (value_of_halves _, omega arith));
    modified_not_due = λ short. rw (lt-leb (3 * m) (length xs) short) refl;
  }

-- ---- a call that fills a buffer and is not refused

module _ {A : Type 0} {r : Refusal} (nothing : r ≡ none) (n : ℕ) (out buffer : List A) where
  pub count_given : count_answer r n ≡ record { number = 0; place = 0; count = n }
  unfolding count_answer
  count_given = rw nothing

  pub count_of_lem : (count_answer r n).count ≡ n
  count_of_lem = ap (λ (z : CountAnswer). z.count) count_given

  pub output_left : buffer_left r out buffer ≡ written out buffer
  unfolding buffer_left
  output_left = rw nothing

  -- an entry of the output
  pub output_entry : (i : ℕ) (e : A) → i < length out → get_or (buffer_left r out buffer) i e ≡ get_or out i e
  output_entry i e inside = rw output_left (written_front out buffer i e inside)

  -- the output itself
  output_taken : length out ≡ n → take (count_answer r n).count (buffer_left r out buffer) ≡ out
  output_taken whole = rw (count_given, output_left) (take_at out _ n whole)

-- one that is refused 3
count_three : {r : Refusal} (n : ℕ) {i : ℕ} → r ≡ refused 3 i → count_answer r n ≡ record { number = 3; place = i; count = 0 }
unfolding count_answer
count_three n three = rw three

-- ---- phase and frequency

module _ (start : ℤ) (ys buffer : List ℤ) (nothing : phase_refusal_from start ys (length buffer) ≡ none) where
  pub phases_from_of : ((count_answer (phase_refusal_from start ys (length buffer)) (length ys + 1)).count ≡ length ys + 1)
      × ((i : ℕ) → i ≤ length ys → at (buffer_left (phase_refusal_from start ys (length buffer)) (phases_from start ys) buffer) i ≡ start +ℤ sum_ℤ i (at ys))
  phases_from_of = (
    count_of_lem nothing (length ys + 1) (phases_from start ys) buffer,
    λ i inside.
        output_entry nothing (length ys + 1) (phases_from start ys) buffer i (pos 0) (omega (arith, phases_from_length start ys))
        ∙ phase_from_is start ys i inside,
  )

  -- the output itself
  pub phases_left : take (count_answer (phase_refusal_from start ys (length buffer)) (length ys + 1)).count
      (buffer_left (phase_refusal_from start ys (length buffer)) (phases_from start ys) buffer) ≡ phases_from start ys
  phases_left = output_taken nothing (length ys + 1) (phases_from start ys) buffer (phases_from_length start ys)

module _ (ys buffer : List ℤ) (nothing : phase_refusal ys (length buffer) ≡ none) where
  pub phases_of_lem : ((count_answer (phase_refusal ys (length buffer)) (length ys + 1)).count ≡ length ys + 1)
      × ((i : ℕ) → i ≤ length ys → at (buffer_left (phase_refusal ys (length buffer)) (phases ys) buffer) i ≡ sum_ℤ i (at ys))
  unfolding phases
  phases_of_lem =
      let from = rw refusal_from_nought at (phases_from_of (pos 0) ys buffer (refusal_from_nought ys (length buffer) ∙ nothing)) in
      (from.0, λ i inside. from.1 i inside ∙ +ℤ_idl (sum_ℤ i (at ys)))

module _ (xs buffer : List ℤ) (nothing : frequency_refusal xs (length buffer) ≡ none) where
  abbrev left : List ℤ
  left = buffer_left (frequency_refusal xs (length buffer)) (differences xs) buffer

  pub differences_of : ((count_answer (frequency_refusal xs (length buffer)) (length xs - 1)).count ≡ length xs - 1)
      × ((i : ℕ) → i + 1 < length xs → at left i ≡ at xs (i + 1) -ℤ at xs i)
  differences_of = (
    count_of_lem nothing (length xs - 1) (differences xs) buffer,
    λ i inside. output_entry nothing (length xs - 1) (differences xs) buffer i (pos 0) (omega (arith, differences_length xs)) ∙ difference_is xs i inside,
  )

  -- the output itself
  pub differences_left : take (count_answer (frequency_refusal xs (length buffer)) (length xs - 1)).count left ≡ differences xs
  differences_left = output_taken nothing (length xs - 1) (differences xs) buffer (differences_length xs)

-- a call that is not refused and writes what there was
given_back : {r : Refusal} (nothing : r ≡ none) (n : ℕ) (out buffer : List ℤ) {xs : List ℤ} → out ≡ xs → n ≡ length xs →
    GivenBack xs (buffer_left r out buffer) (count_answer r n)
given_back nothing n out buffer {xs} same many = (
  ap (λ (z : CountAnswer). z.number) (count_given nothing n out buffer),
  count_of_lem nothing n out buffer ∙ many,
  rw (output_left nothing n out buffer, same) (take_at xs _ (length xs) refl),
)

module _ (xs : List ℤ) (some : 0 < length xs) (few : length xs ≤ 32768) where
  pub back_and_forth : (other : List ℤ) → length xs ≤ length other →
      BackAndForth xs (buffer_left (phase_refusal (differences xs) (length other)) (phases (differences xs)) other)
      (count_answer (phase_refusal (differences xs) (length other)) (length (differences xs) + 1))
  unfolding phases
  back_and_forth other room =
      let many : length (differences xs) + 1 ≡ length xs = omega (arith, differences_length xs) in record {
        given = λ all.
            let nothing = offsets_unrefused xs some (length other) few room (λ k inside. bounded_sample _ (all k inside)) in
            let given = count_given nothing (length (differences xs) + 1) (phases (differences xs)) other in (
              ap (λ (z : CountAnswer). z.number) given,
              ap (λ (z : CountAnswer). z.count) given ∙ many,
              λ i inside.
                  output_entry nothing (length (differences xs) + 1) (phases (differences xs)) other i (pos 0) (omega (arith, phases_from_length (pos 0) (differences xs)))
                  ∙ ap (λ (ps : List ℤ). at ps i) (phases_of_differences xs some)
                  ∙ tabulate_entry (length xs) (λ k. at xs k -ℤ at xs 0) (pos 0) i inside,
            );
        refused_first = λ i inside before here.
            let three = refused_at_first_offset xs some (length other) few room i inside (λ k earlier. bounded_sample _ (before k earlier)) (outside_fails _ here) in
            (ap (λ (z : CountAnswer). z.number) (count_three _ three), ap (λ (z : CountAnswer). z.place) (count_three _ three));
      }

  pub record_given_back : (other : List ℤ) → length xs ≤ length other → range_refusal xs ≡ none →
      GivenBack xs (buffer_left (phase_refusal_from (at xs 0) (differences xs) (length other)) (phases_from (at xs 0) (differences xs)) other)
      (count_answer (phase_refusal_from (at xs 0) (differences xs) (length other)) (length (differences xs) + 1))
  record_given_back other room in_range =
      given_back (record_unrefused xs some (length other) few room in_range) (length (differences xs) + 1) (phases_from (at xs 0) (differences xs)) other
      (record_again xs some) (omega (arith, differences_length xs))

module _ (start : ℤ) (ys : List ℤ) where
  pub readings_given_back : (before : ℕ) → phase_refusal_from start ys before ≡ none → (other : List ℤ) → length ys ≤ length other →
      let xs = phases_from start ys in
      GivenBack ys (buffer_left (frequency_refusal xs (length other)) (differences xs) other) (count_answer (frequency_refusal xs (length other)) (length xs - 1))
  readings_given_back before nothing other room =
      given_back (phases_go_back start ys before nothing (length other) room) (length (phases_from start ys) - 1) (differences (phases_from start ys)) other
      (differences_of_phases start ys) (omega (arith, phases_from_length start ys))

-- ---- drift

module _ (xs : List ℤ) where
  -- h, P and R
  abbrev pub half : ℕ
  half = (length xs - 1) / 2

  abbrev pub slope : ℤ
  slope = difference half xs 0

  abbrev pub square_of_half : ℕ
  square_of_half = half * half

  pub drift_of : drift_refusal xs ≡ none →
      ((drift_answer xs).p ≡ slope) × ((drift_answer xs).p ≡ at xs (2 * half) -ℤ pos 2 *ℤ at xs half +ℤ at xs 0) × ((drift_answer xs).r ≡ square_of_half)
  unfolding drift_answer drift_h drift_p drift_r
  drift_of nothing = rw nothing (refl, sym (written_out half xs), refl)

  module _ (enough : 3 ≤ length xs) where
    -- what is taken off sample i
    taken_off : (i : ℕ) → i < length xs → at xs i -ℤ at (without_drift xs) i ≡ floored (slope *ℤ pos (i * (i - 1))) (2 * square_of_half)
    unfolding without_drift drift_h drift_p drift_r
    taken_off i inside =
        let off = floored (slope *ℤ pos (i * (i - 1))) (2 * square_of_half) in
        ap (λ (y : ℤ). at xs i -ℤ y) (tabulate_entry (length xs) (λ k. at xs k -ℤ floored (slope *ℤ pos (k * (k - 1))) (2 * square_of_half)) (pos 0) i inside)
        ∙ equation ($ at xs i ⊖ ($ at xs i ⊖ $ off)) ($ off) (omega arith)

    pub divisor_some : 0 < 2 * square_of_half
    divisor_some =
        let some : 1 ≤ half = omega arith in
        omega (arith, mul-le-mul some some)

    pub result_of_lem : (i : ℕ) → i < length xs → DriftRemoved slope square_of_half i (at xs i) (at (without_drift xs) i)
    result_of_lem i inside = record {
      not_above = rw (taken_off i inside) (floored_at_most _ divisor_some _);
      next_above = rw (taken_off i inside) (one_more_above _ divisor_some _);
    }

    pub drift_removed : (buffer : List ℤ) → removal_refusal xs (length buffer) ≡ none →
        ((count_answer (removal_refusal xs (length buffer)) (length xs)).count ≡ length xs)
        × ((i : ℕ) → i < length xs → DriftRemoved slope square_of_half i (at xs i) (at (buffer_left (removal_refusal xs (length buffer)) (without_drift xs) buffer) i))
    drift_removed buffer nothing = (
      count_of_lem nothing (length xs) (without_drift xs) buffer,
      λ i inside. rw (output_entry nothing (length xs) (without_drift xs) buffer i (pos 0) (omega (arith, without_drift_length xs))) (result_of_lem i inside),
    )

-- a sample without a drift is one number
pub one_result : {P : ℤ} {R i : ℕ} {x y y' : ℤ} → 0 < 2 * R → DriftRemoved P R i x y → DriftRemoved P R i x y' → y' ≡ y
one_result {x = x} {y = y} {y' = y'} some one other =
    let off : x -ℤ y' ≡ x -ℤ y = sym (floored_only _ some _ _ other.not_above other.next_above) ∙ floored_only _ some _ _ one.not_above one.next_above in
    equal_by_parts y' y (omega (arith, parts_of_equal off, sound ($ x ⊖ $ y'), sound ($ x ⊖ $ y)))

-- where N is even, records that are the same but for the last sample have one P
pub same_slope : (xs ys : List ℤ) → 3 ≤ length xs → length xs % 2 ≡ 0 → ((k : ℕ) → k + 1 < length xs → at ys k ≡ at xs k) →
    difference (half xs) ys 0 ≡ slope xs
same_slope xs ys enough even same =
    let middle : half xs + 1 < length xs = omega arith in
    let last : 2 * half xs + 1 < length xs = omega arith in
    rw (← written_out (half xs) ys, ← written_out (half xs) xs, same 0 (omega arith), same _ middle, same _ last) refl

-- a line and a constant drift
module _ (a b c : ℤ) where
  abbrev pub line : ℕ → ℤ
  line i = a +ℤ b *ℤ pos i

  abbrev pub bent : ℕ → ℤ
  bent i = line i +ℤ c *ℤ pos (i * (i - 1) / 2)

  bent_difference : (h : ℕ) → bent (2 * h) -ℤ pos 2 *ℤ bent h +ℤ bent 0 ≡ c *ℤ pos (h * h)
  bent_difference h =
      let t = h * (h - 1) / 2 in
      let along : ℕ → Expression = λ i. $ a ⊕ $ b ⊗ # i in
      rw (triangle_double h)
      (equation (along (2 * h) ⊕ $ c ⊗ # (2 * t + h * h) ⊖ # 2 ⊗ (along h ⊕ $ c ⊗ # t) ⊕ (along 0 ⊕ $ c ⊗ # 0)) ($ c ⊗ # (h * h)) (omega arith))

  pub constant_slope : (xs : List ℤ) → 3 ≤ length xs → ConstantDrift a b c xs → slope xs ≡ c *ℤ pos (square_of_half xs)
  constant_slope xs enough constant =
      let middle : half xs < length xs = omega arith in
      let last : 2 * half xs < length xs = omega arith in
      sym (written_out (half xs) xs) ∙ rw (constant _ last, constant _ middle, constant 0 (omega arith)) (bent_difference (half xs))

  -- what is left of it is the line
  pub line_left : (R i : ℕ) → 0 < 2 * R → DriftRemoved (c *ℤ pos R) R i (bent i) (line i)
  line_left R i some =
      let t = i * (i - 1) / 2 in
      let off = ($ line i ⊕ $ c ⊗ # t) ⊖ $ line i in
      record {
        not_above =
            subst (λ (n : ℕ). ((bent i -ℤ line i) *ℤ pos (2 * R)) ≤ℤ ((c *ℤ pos R) *ℤ pos n)) (triangle_is i)
            (at_most (off ⊗ # (2 * R)) ($ c ⊗ # R ⊗ # (2 * t)) (omega arith));
        next_above =
            subst (λ (n : ℕ). ((c *ℤ pos R) *ℤ pos n) <ℤ (((bent i -ℤ line i) +ℤ pos 1) *ℤ pos (2 * R))) (triangle_is i)
            (less_than ($ c ⊗ # R ⊗ # (2 * t)) ((off ⊕ # 1) ⊗ # (2 * R)) (omega arith));
      }

-- ---- float readings

-- the samples of readings in range: as many are changed as have a fraction
changed_of : (xs : List Float) → ((k : ℕ) → k < length xs → reading_number (get_or xs k nan) ≡ 0) → Changed xs (samples_of xs) (how_many has_fraction xs)
unfolding how_many
changed_of [] sound = Promises.no_reading
changed_of (x ∷ xs) sound = by_fraction (has_fraction x) refl (changed_of xs (λ k inside. sound (suc k) (omega arith)))
  where
    by_fraction : (t : Bool) → has_fraction x ≡ t → Changed xs (samples_of xs) (how_many has_fraction xs) →
        Changed (x ∷ xs) (samples_of (x ∷ xs)) (cond t 1 0 + how_many has_fraction xs)
    by_fraction true t rest = rw (one-add (how_many has_fraction xs)) (Promises.changed (fraction_not_exact x t (sample_of x)) rest)
    by_fraction false t rest = rw (zero-add (how_many has_fraction xs)) (Promises.kept (sample_exact x (sound 0 (omega arith)) t) rest)

-- where none was changed, each reading is its sample exactly
none_changed : {xs : List Float} {zs : List ℤ} {n : ℕ} → Changed xs zs n → n ≡ 0 → (k : ℕ) → k < length xs → Exactly (get_or xs k nan) (at zs k)
none_changed Promises.no_reading none k inside = absurd (omega arith)
none_changed (Promises.kept exact rest) none zero inside = exact
none_changed (Promises.kept exact rest) none (suc k) inside = none_changed rest none k (omega arith)
none_changed (Promises.changed other rest) none k inside = absurd (omega arith)

module _ (m : ℕ) (xs : List Float) (buffer : List ℤ) (nothing : float_refusal m xs (length buffer) ≡ none) where
  abbrev samples : List ℤ
  samples = float_buffer m xs buffer

  readings_unrefused : (float_refusal m xs (length buffer)).number ≡ 0
  readings_unrefused = rw nothing

  taken : take (length xs) samples ≡ samples_of xs
  taken = samples_taken xs buffer (output_left nothing (length xs) (samples_of xs) buffer)

  float_parts : PartsOf m (samples_of xs) (float_answer m xs (length buffer)).allan (float_answer m xs (length buffer)).modified
  unfolding float_answer
  float_parts =
      let due : leb (2 * m + 1) (length (samples_of xs)) ≡ true =
      le-leb (2 * m + 1) (length (samples_of xs)) (omega (arith, samples_length xs, (unrefused_size m xs (length buffer) readings_unrefused).enough)) in
      rw (nothing, ← due, ← samples_length xs) (parts_of_lem m (samples_of xs))

  all_in_range : (k : ℕ) → k < length xs → reading_number (get_or xs k nan) ≡ 0
  all_in_range = unrefused_sample xs (unrefused_readings m xs (length buffer) readings_unrefused)

  float_changed : Changed xs (samples_of xs) (float_answer m xs (length buffer)).changed
  unfolding float_answer
  float_changed = rw nothing (changed_of xs all_in_range)

  sample_left : (k : ℕ) → k < length xs → at samples k ≡ sample_of (get_or xs k nan)
  sample_left k inside = output_entry nothing (length xs) (samples_of xs) buffer k (pos 0) (omega (arith, samples_length xs)) ∙ sample_at xs k

  pub float_sums_of : ((k : ℕ) → k < length xs → Nearest (get_or xs k nan) (at samples k))
      × Changed xs (take (length xs) samples) (float_answer m xs (length buffer)).changed
      × PartsOf m (take (length xs) samples) (float_answer m xs (length buffer)).allan (float_answer m xs (length buffer)).modified
  float_sums_of = (λ k inside. rw (sample_left k inside) (sample_nearest _ (all_in_range k inside)), rw taken float_changed, rw taken float_parts)

  pub one_nearest : (k : ℕ) → k < length xs → (y : ℤ) → Nearest (get_or xs k nan) y → y ≡ at samples k
  one_nearest k inside y nearest = nearest_is_sample _ y nearest ∙ sym (sample_left k inside)

  pub unchanged_samples_of : (float_answer m xs (length buffer)).changed ≡ 0 → (k : ℕ) → k < length xs → Exactly (get_or xs k nan) (at samples k)
  unchanged_samples_of none k inside = rw (sample_left k inside, ← sample_at xs k) (none_changed float_changed none k inside)

  -- a whole reading is its own nearest number
  pub whole_samples_of : (k : ℕ) → k < length xs → (s : Bool) (n : ℕ) → HasValue (get_or xs k nan) s n 1 → at samples k ≡ with_sign s n
  whole_samples_of k inside s n value =
      sample_left k inside ∙ sample_by_value s n 1 (omega arith) (get_or xs k nan) value
      ∙ ap (with_sign s) (sym (mul-one (closest n 1)) ∙ closest_whole n 1 (omega arith) (omega arith))

-- ---- the running meter

pub report_of : (m : ℕ) (stretches : List (List ℤ)) → StretchesOf m stretches (published_report m stretches).allan (published_report m stretches).modified
unfolding published_report part_of
report_of m stretches =
    let K : ℕ = total_over (allan_count m) stretches in
    let C : ℕ = total_over (modified_count m) stretches in record {
      allan_due = λ due. rw (le-leb 1 K due) (refl, (value_of_halves _, refl));
      allan_not_due = λ nothing. rw (lt-leb 1 K (omega arith)) refl;
      modified_due = λ due. rw (le-leb 1 C due) (refl, (value_of_halves _, refl));
      modified_not_due = λ nothing. rw (lt-leb 1 C (omega arith)) refl;
    }

-- the totals over one stretch are its own sums and counts
pub one_stretch : {m : ℕ} {xs : List ℤ} {allan modified : Part} → StretchesOf m (xs ∷ []) allan modified → PartsOf m xs allan modified
unfolding total_over allan_count modified_count
one_stretch {m} {xs} {allan} {modified} totals = record {
  allan_due = λ due. let t = totals.allan_due (omega arith) in (t.0, (t.1.0 ∙ add-zero _, t.1.1 ∙ add-zero _));
  allan_not_due = λ short. totals.allan_not_due (omega arith);
  modified_due = λ due. let t = totals.modified_due (omega arith) in (t.0, (t.1.0 ∙ add-zero _, t.1.1 ∙ omega arith));
  modified_not_due = λ short. totals.modified_not_due (omega arith);
}

-- ---- the record file

-- reading accepts files and nothing else
module _ (bytes : List ℕ) (room : ℕ) (all : AreBytes bytes) where
  pub reads_files_alone : read_refusal bytes room ≡ none → IsFile bytes room
  reads_files_alone = (accepted_exactly bytes room all).0

  pub reads_every_file : IsFile bytes room → (read_answer bytes room).number ≡ 0
  unfolding read_answer
  reads_every_file file = rw ((accepted_exactly bytes room all).1 file) refl

-- what a file may hold is not refused where there is room for the file
pub proper_writable : {kind : ℕ} {values : List ℤ} {room : ℕ} → Proper kind values → 8 + 8 * length values ≤ room → Writable 8 kind values room
proper_writable proper enough = record { known = proper.known; few = proper.few; enough = enough; in_range = proper.in_range }

module _ (kind : ℕ) (values : List ℤ) where
  -- what writing leaves at the front of the buffer is the file
  pub file_left : (buffer : List ℕ) → write_refusal kind values (length buffer) ≡ none →
      let r : Refusal = write_refusal kind values (length buffer) in
      take (count_answer r (8 + 8 * length values)).count (buffer_left r (file_of kind values) buffer) ≡ file_of kind values
  file_left buffer nothing =
      ap (λ (z : CountAnswer). take z.count (buffer_left (write_refusal kind values (length buffer)) (file_of kind values) buffer))
      (count_given nothing (8 + 8 * length values) (file_of kind values) buffer)
      ∙ buffer_has_file kind values buffer nothing

  -- and what was written is what a file may hold
  pub written_proper : (room : ℕ) → write_refusal kind values room ≡ none → Proper kind values
  written_proper room nothing =
      let writable = unrefused_writable kind values room (rw nothing) in
      record { known = writable.known; few = writable.few; in_range = writable.in_range }

  -- reading it gives the kind and the values
  pub reads_back : (buffer : List ℤ) → Proper kind values → length values ≤ length buffer →
      ReadsBack kind values (read_buffer (file_of kind values) buffer) (read_answer (file_of kind values) (length buffer))
  reads_back buffer proper room =
      let nothing = file_is_read kind values proper (length buffer) room in
      let answer = file_answer kind values proper (length buffer) room in
      let left = output_left nothing (length values) (values_of (file_of kind values)) buffer in
      let front : read_buffer (file_of kind values) buffer ≡ written values buffer = left ∙ ap (λ (vs : List ℤ). written vs buffer) (values_come_back kind values proper) in (
        ap (λ (z : ReadAnswer). z.number) answer,
        ap (λ (z : ReadAnswer). z.kind) answer,
        ap (λ (z : ReadAnswer). z.count) answer,
        ap (take (length values)) front ∙ take_at values _ (length values) refl,
      )

-- ---- the record file of either version

-- reading accepts files of both versions and nothing else
module _ (bytes : List ℕ) (room : ℕ) (all : AreBytes bytes) where
  pub reads_records_alone : read_record_refusal bytes room ≡ none → IsFile bytes room ⊎ IsFileFrom bytes room
  reads_records_alone = (accepted_either bytes room all).0

  pub reads_every_record : IsFile bytes room ⊎ IsFileFrom bytes room → (read_record_answer bytes room).number ≡ 0
  unfolding read_record_answer
  reads_every_record file = rw ((accepted_either bytes room all).1 file) refl

module _ (kind : ℕ) (start : ℤ) (values : List ℤ) where
  -- what writing leaves at the front of the buffer is the file
  pub file_from_left : (buffer : List ℕ) → write_record_refusal kind start values (length buffer) ≡ none →
      let r : Refusal = write_record_refusal kind start values (length buffer) in
      take (count_answer r (16 + 8 * length values)).count (buffer_left r (file_from kind start values) buffer) ≡ file_from kind start values
  file_from_left buffer nothing =
      ap (λ (z : CountAnswer). take z.count (buffer_left (write_record_refusal kind start values (length buffer)) (file_from kind start values) buffer))
      (count_given nothing (16 + 8 * length values) (file_from kind start values) buffer)
      ∙ buffer_has_file_from kind start values buffer nothing

  -- reading it gives version 2, the kind, the start and the values
  pub record_reads_back : (buffer : List ℤ) → Proper kind values → ProperStart kind start → length values ≤ length buffer →
      RecordReadsBack 2 kind start values (record_buffer (file_from kind start values) buffer) (read_record_answer (file_from kind start values) (length buffer))
  record_reads_back buffer proper proper_start room =
      let nothing = file_from_is_read kind start values proper proper_start (length buffer) room in
      let answer = file_from_answer kind start values proper proper_start (length buffer) room in
      let left = output_left nothing (length values) (record_values (file_from kind start values)) buffer in
      let front : record_buffer (file_from kind start values) buffer ≡ written values buffer =
      left ∙ ap (λ (vs : List ℤ). written vs buffer) (values_come_back_from kind start values proper proper_start) in (
        ap (λ (z : RecordAnswer). z.number) answer,
        ap (λ (z : RecordAnswer). z.version) answer,
        ap (λ (z : RecordAnswer). z.kind) answer,
        ap (λ (z : RecordAnswer). z.start) answer,
        ap (λ (z : RecordAnswer). z.count) answer,
        ap (take (length values)) front ∙ take_at values _ (length values) refl,
      )

-- bytes whose byte 3 is not 2 are read, or refused, by both readers alike
module _ (bytes : List ℕ) (first : get_or bytes 3 0 ≡ 2 → ⊥) where
  pub reads_alike : (buffer : List ℤ) → ReadAlike (read_answer bytes (length buffer)) (read_buffer bytes buffer) (read_record_answer bytes (length buffer)) (record_buffer bytes buffer)
  unfolding version_of read_answer read_record_answer buffer_left
  reads_alike buffer =
      rw (as_first_version bytes first (length buffer), first_start bytes first, first_values bytes first) (by_number (read_refusal bytes (length buffer)) (eqb (read_refusal bytes (length buffer)).number 0))
    where
      by_number : (r : Refusal) (t : Bool) → ReadAlike
          (cond t (record { number = 0; place = 0; kind = kind_of bytes; count = count_of bytes }) (record { number = r.number; place = r.place; kind = 0; count = 0 }))
          (cond t (written (values_of bytes) buffer) buffer)
          (cond t (record { number = 0; place = 0; version = get_or bytes 3 0; kind = kind_of bytes; start = pos 0; count = count_of bytes })
          (record { number = r.number; place = r.place; version = 0; kind = 0; start = pos 0; count = 0 }))
          (cond t (written (values_of bytes) buffer) buffer)
      by_number r true = record { number = refl; place = refl; kind = refl; count = refl; start = refl; buffer = refl }
      by_number r false = record { number = refl; place = refl; kind = refl; count = refl; start = refl; buffer = refl }

  pub version_is_1 : (room : ℕ) → read_record_refusal bytes room ≡ none → (read_record_answer bytes room).version ≡ 1
  unfolding version_of read_record_answer
  version_is_1 room nothing = rw nothing (first_version bytes first (unrefused_record bytes room (ap (λ (r : Refusal). r.number) nothing)).header)

-- ---- a file of one value

-- the file of one value that takes six bytes and is beyond a sample's range
one_value_proper : Proper 1 (pos 0x10203040506 ∷ [])
unfolding most_values value_in_range
one_value_proper = record { known = omega arith; few = omega arith; in_range = λ i inside. let first : i ≡ 0 = omega arith in rw first refl }

pub one_value_unrefused : (room : ℕ) → 16 ≤ room → write_refusal 1 (pos 0x10203040506 ∷ []) room ≡ none
one_value_unrefused room enough = writable_none 1 _ room (proper_writable one_value_proper enough)

-- ---- fractions and deviations

module _ (a d : ℕ) (some : 0 < d) where
  fraction_of : FractionOf a d (value (halves (lowest_terms a d).numerator)) (lowest_terms a d).denominator
  fraction_of =
      let n : ℕ = (lowest_terms a d).numerator in
      let whole : value (halves n) ≡ n = value_of_halves n in record {
        same_value = ap (λ (k : ℕ). k * d) whole ∙ lowest_same_value a d some;
        lowest = λ c p q. lowest_no_common a d some c (subst (λ (k : ℕ). c ∣ k) whole p) q;
        nought = λ e. (
          whole ∙ ap (λ (k : ℕ). (lowest_terms k d).numerator) e ∙ (lowest_of_nought d some).0,
          ap (λ (k : ℕ). (lowest_terms k d).denominator) e ∙ (lowest_of_nought d some).1,
        );
      }

  -- the deviation where it is given, and the dot of it
  module _ (below : a < 2 ^ 126) {refusal : Refusal} (nothing : refusal ≡ none) where
    deviation_of : Greatest (within a d) (deviation_answer refusal (deviation a d)).deviation
    unfolding deviation_answer
    deviation_of = rw nothing (deviation_is_greatest a d some below)

    dot_of : deviation a d ≤ 2 ^ 62 → DotOf a d (dot_answer (deviation_answer refusal (deviation a d))).dot
    unfolding deviation_answer dot_number dot_value
    dot_of most = rw nothing (record {
      r = deviation a d;
      greatest = deviation_is_greatest a d some below;
      nought = λ e. rw (nought_dot (given_deviation (deviation a d)) refl e) (refl, refl, refl);
      drawn = λ least. rw (drawn_dot (given_deviation (deviation a d)) refl (λ e. omega arith)) (refl, refl, drawn_is_greatest least (omega arith));
    })

-- a dot as C has it
pub dot_told : (d : DotAnswer) → ToldAs d.dot (told_dot d).kind (told_dot d).value
unfolding told_dot dot_kind dot_value
dot_told d = by_dot d.dot
  where
    by_dot : (dot : Dot) → ToldAs dot (dot_kind dot) (dot_value dot)
    by_dot (Drawn v) = Promises.drawn
    by_dot Nought = Promises.nought
    by_dot TooFew = Promises.too_few

-- where a deviation is given, its sum, factor and count are allowed, and it is not above 2^62
module _ (s m count r : ℕ) (nothing : deviation_refusal s m count r ≡ none) where
  given_allowed : Allowed s m count
  given_allowed = unrefused_allowed s m count (first_refuses_nothing (figure_refusal s m count) (large_refusal r) (ap (λ (t : Refusal). t.number) nothing))

  given_within : r ≤ 2 ^ 62
  given_within =
      ltb-false (2 ^ 62) r
      (test_fails _ 3 0 (omega arith) (rest_refuses_nothing (figure_refusal s m count) (large_refusal r) (ap (λ (t : Refusal). t.number) nothing)))

module _ (s m count : ℕ) where
  module _ (nothing : figure_refusal s m count ≡ none) where
    allowed : Allowed s m count
    allowed = unrefused_allowed s m count (rw nothing)

    pub allan_fraction_of : FractionOf s (2 * (m * m) * count) (value (allan_fraction_answer s m count).numerator) (allan_fraction_answer s m count).denominator
    unfolding allan_denominator
    allan_fraction_of = rw (allan_fraction_given s m count allowed) (fraction_of s _ (denominator_above_nought allowed 2 (omega arith)))

    pub time_fraction_of : FractionOf s (6 * (m * m) * count) (value (time_fraction_answer s m count).numerator) (time_fraction_answer s m count).denominator
    unfolding time_denominator
    time_fraction_of = rw (time_fraction_given s m count allowed) (fraction_of s _ (denominator_above_nought allowed 6 (omega arith)))

  module _ (nothing : deviation_refusal s m count (deviation s (2 * (m * m) * count)) ≡ none) where
    allan_known : Allowed s m count
    allan_known = given_allowed s m count (deviation s (2 * (m * m) * count)) nothing

    pub allan_deviation_of : Greatest (within s (2 * (m * m) * count)) (allan_deviation_answer s m count).deviation
    unfolding allan_deviation_answer allan_denominator
    allan_deviation_of = deviation_of s _ (denominator_above_nought allan_known 2 (omega arith)) allan_known.sum_below nothing

    pub allan_dot_of : DotOf s (2 * (m * m) * count) (dot_answer (allan_deviation_answer s m count)).dot
    unfolding allan_deviation_answer allan_denominator
    allan_dot_of = dot_of s _ (denominator_above_nought allan_known 2 (omega arith)) allan_known.sum_below nothing (given_within s m count (deviation s (2 * (m * m) * count)) nothing)

  module _ (nothing : deviation_refusal s m count (deviation s (6 * (m * m) * count)) ≡ none) where
    time_known : Allowed s m count
    time_known = given_allowed s m count (deviation s (6 * (m * m) * count)) nothing

    pub time_deviation_of : Greatest (within s (6 * (m * m) * count)) (time_deviation_answer s m count).deviation
    unfolding time_deviation_answer time_denominator
    time_deviation_of = deviation_of s _ (denominator_above_nought time_known 6 (omega arith)) time_known.sum_below nothing

    pub time_dot_of : DotOf s (6 * (m * m) * count) (dot_answer (time_deviation_answer s m count)).dot
    unfolding time_deviation_answer time_denominator
    time_dot_of = dot_of s _ (denominator_above_nought time_known 6 (omega arith)) time_known.sum_below nothing (given_within s m count (deviation s (6 * (m * m) * count)) nothing)

-- with the sum and the count of a record that is not refused, the deviation is given
module _ (m : ℕ) (xs : List ℤ) where
  pub allan_deviation_of_record : record_refusal allan_demand m xs ≡ none → {sum : SumAnswer} → sum ≡ allan_sum_answer m xs →
      (allan_deviation_answer (value sum.sum) m sum.count).number ≡ 0
  allan_deviation_of_record nothing is =
      rw (is, allan_sum_given m xs (none_sound allan_demand m xs nothing), value_of_halves (allan_sum m xs))
      (ap (λ (z : DeviationAnswer). z.number) (allan_deviation_given _ _ _ (allan_allowed m xs nothing) (allan_deviation_within m xs nothing)))

  pub time_deviation_of_record : record_refusal modified_demand m xs ≡ none → {sum : SumAnswer} → sum ≡ modified_sum_answer m xs →
      (time_deviation_answer (value sum.sum) m sum.count).number ≡ 0
  time_deviation_of_record nothing is =
      rw (is, modified_sum_given m xs (none_sound modified_demand m xs nothing), value_of_halves (modified_sum m xs))
      (ap (λ (z : DeviationAnswer). z.number) (time_deviation_given _ _ _ (modified_allowed m xs nothing) (time_deviation_within m xs nothing)))

-- ---- drawn numbers

pub drawn_of : (r : ℕ) → NoRow (OfDrawn r) → GreatestDouble r (drawn_answer r).value
drawn_of r rowless =
    let not_below : r < 1 → ⊥ = λ below. rowless 3 0 (Grounds.range (inl below)) in
    let not_above : 2 ^ 63 < r → ⊥ = λ above. rowless 3 0 (Grounds.range (inr above)) in
    let least : 1 ≤ r = omega arith in
    let most : r ≤ 2 ^ 63 = omega arith in
    rw (drawn_given r least most) (drawn_is_greatest least most)

-- ---- noise types

pub type_by_table : (r1 r2 : ℕ) → TypeByTable r1 r2 (alpha_of (noise_of r1 r2))
unfolding noise_of alpha_of
type_by_table r1 r2 = record {
  white_phase = λ h. rw (le-leb (4096 * r2) (r1 * 3444) h) refl;
  flicker_phase = λ above h. rw (lt-leb (4096 * r2) (r1 * 3444) above, le-leb (4096 * r2) (r1 * 4871) h) refl;
  white_frequency = λ above h.
      rw (lt-leb (4096 * r2) (r1 * 3444) (omega arith), lt-leb (4096 * r2) (r1 * 4871) above, le-leb (4096 * r2) (r1 * 6889) h) refl;
  flicker_frequency = λ above h.
      rw (
        lt-leb (4096 * r2) (r1 * 3444) (omega arith),
        lt-leb (4096 * r2) (r1 * 4871) (omega arith),
        lt-leb (4096 * r2) (r1 * 6889) above,
        le-leb (4096 * r2) (r1 * 9742) h,
      ) refl;
  random_walk_frequency = λ above.
      rw (
        lt-leb (4096 * r2) (r1 * 3444) (omega arith),
        lt-leb (4096 * r2) (r1 * 4871) (omega arith),
        lt-leb (4096 * r2) (r1 * 6889) (omega arith),
        lt-leb (4096 * r2) (r1 * 9742) above,
      ) refl;
}

pub type_of : (r1 r2 : ℕ) → noise_refusal r1 r2 ≡ none → TypeByTable r1 r2 (told_alpha (type_answer r1 r2))
unfolding type_answer told_alpha
type_of r1 r2 nothing = rw (noise_given (noise_refusal r1 r2) (noise_of r1 r2) (rw nothing)) (type_by_table r1 r2)

-- of a record, r1 and r2 its time deviations at m and 2m
module _ (m : ℕ) (xs : List ℤ) where
  deviation_at : (k : ℕ) → record_refusal modified_demand k xs ≡ none →
      (time_deviation k xs ≤ 2 ^ 62) × Greatest (within (modified_sum k xs) (6 * (k * k) * (length xs - 3 * k + 1))) (time_deviation k xs)
  unfolding time_deviation modified_count time_denominator
  deviation_at k unrefused =
      let allowed = modified_allowed k xs unrefused in
      let count : length xs - 3 * k + 1 ≡ length xs + 1 - 3 * k = omega (arith, (none_sound modified_demand k xs unrefused).enough) in (
        time_deviation_within k xs unrefused,
        rw count (deviation_is_greatest _ _ (denominator_above_nought allowed 6 (omega arith)) allowed.sum_below),
      )

  pub noise_of_lem : (record_refusal noise_demand m xs then noise_refusal (time_deviation m xs) (time_deviation (2 * m) xs)) ≡ none →
      NoiseOf m xs (told_alpha (record_type_answer m xs))
  unfolding record_type_answer told_alpha
  noise_of_lem nothing =
      let rest = noise_refusal (time_deviation m xs) (time_deviation (2 * m) xs) in
      let sound = unrefused_sound noise_demand m xs (first_refuses_nothing (record_refusal noise_demand m xs) rest (ap (λ (r : Refusal). r.number) nothing)) in record {
        r1 = time_deviation m xs;
        r2 = time_deviation (2 * m) xs;
        first = (deviation_at m (sound_at_factor m xs sound)).1;
        second = (deviation_at (2 * m) (sound_at_double m xs sound)).1;
        type = rw (noise_given (record_refusal noise_demand m xs then rest) (noise_of (time_deviation m xs) (time_deviation (2 * m) xs)) (ap (λ (r : Refusal). r.number) nothing)) (type_by_table _ _);
      }

-- ---- bars

kappa_by_alpha : (t : Noise) → Kappa (alpha_of t) (kappa_of t)
unfolding alpha_of kappa_of
kappa_by_alpha WhitePhase = Promises.white_phase
kappa_by_alpha FlickerPhase = Promises.flicker_phase
kappa_by_alpha WhiteFrequency = Promises.white_frequency
kappa_by_alpha FlickerFrequency = Promises.flicker_frequency
kappa_by_alpha RandomWalkFrequency = Promises.random_walk_frequency

kappa_below : {alpha : ℤ} {kappa : ℕ} → Kappa alpha kappa → kappa < 100
kappa_below Promises.white_phase = omega arith
kappa_below Promises.flicker_phase = omega arith
kappa_below Promises.white_frequency = omega arith
kappa_below Promises.flicker_frequency = omega arith
kappa_below Promises.random_walk_frequency = omega arith

-- where no row of the table holds, r is at least 1 and M at least 10, and every kappa is below 100: so h is below r
pub half_below_deviation : (r : ℕ) (alpha : ℤ) (m : ℕ) → NoRow (OfBars r alpha m) → {h : ℕ} → HalfOf r alpha m h → h < r
half_below_deviation r alpha m no_row half =
    let typed : 2 < nat_abs alpha → ⊥ = λ beyond. no_row _ _ (Grounds.no_type beyond) in
    let some : r ≡ 0 → ⊥ = λ nought. no_row _ _ (Grounds.nought (omega arith) nought) in
    let most : 2 ^ 62 < r → ⊥ = λ large. no_row _ _ (Grounds.above (omega arith) large) in
    let enough : m < 10 → ⊥ = λ few. no_row _ _ (Grounds.few (omega arith) (omega arith, omega arith) few) in
    below_deviation r half.kappa m (kappa_below half.by_alpha) (omega arith) (omega arith) half.greatest

pub bars_of : (r : ℕ) (t : Noise) (m : ℕ) → bars_refusal r m ≡ none → BarsOf r (alpha_of t) m (bars_answer r t m)
unfolding bars_answer bar_of bar_width
bars_of r t m nothing =
    let barred = unrefused_barred r m (rw nothing) in
    let some : 1 ≤ m = omega (arith, barred.enough) in
    let below = half_below t barred in
    rw nothing (record {
      h = bar_half r t m;
      half = record { kappa = kappa_of t; by_alpha = kappa_by_alpha t; greatest = half_is_greatest r t m barred.most some };
      below = below;
      low = drawn_is_greatest (omega arith) (omega (arith, barred.most));
      mid = drawn_is_greatest barred.some (omega (arith, barred.most));
      high = drawn_is_greatest (omega (arith, barred.some)) (omega (arith, barred.most));
    })

-- so the lower end is above nought
pub low_above_nought : {r : ℕ} {alpha : ℤ} {m : ℕ} {z : BarsAnswer} → r ≤ 2 ^ 62 → BarsOf r alpha m z → T (positive z.bar.low)
low_above_nought most bars =
    let least = bars.below in
    subst (λ (x : Float). T (positive x)) (sym (greatest_is_drawn (omega arith) (omega arith) bars.low)) (drawn_above_nought (omega arith) (omega arith))
