-- Condition 2: the published figure, exactly. Each theorem speaks of every result that the function's own contract allows (Always,
-- crates/laws/specs/Single.antt) where the call is answered, which Grounds.antt tells exactly; what is promised of a result stands in
-- specs/Promises.antt. The exported functions have the same contracts (Condition1.antt, NAME-is), or tell the same answers in numbers (NAME-tells).
use mathlib.Core.Path.{◌≡◌, refl, sym, ap, ◌∙◌}
use mathlib.Core.Bool.{Bool}
use mathlib.Core.List.{List, [], ◌∷◌, ◌++◌, map}
use mathlib.Core.Logic.{◌⊎◌}
use Prim.Native.Nat.{ℕ, ◌+◌, ◌-◌, ◌*◌, ◌/◌, ◌%◌, ◌^◌, ◌≤◌, ◌<◌}
use native.Mathlib.Omega.{arith}
use lib.Dec.{T}
use lib.Ieee.{nan}
use lib.Ieee.Exact.{HasValue}
use lib.Ieee.Positive.{positive}
use lib.IntN.{ℤ, pos, negsuc, ◌+ℤ◌, ◌-ℤ◌, ◌*ℤ◌}
use lib.ListN.{length, get_or, take, drop}
use lib.Seq.{length-take-le, drop_at}
use Rattle.laws.specs.Greatest.{Greatest}
use Rattle.laws.specs.Lists.{at}
use Rattle.laws.specs.Nearest.{with_sign}
use Rattle.laws.specs.Sums.{sum_ℤ}
use Rattle.laws.specs.Single.{Always}
use Rattle.wide.specs.Wide.{value}
use Rattle.sums.specs.Published.{difference, allan_sum, modified_sum}
use Rattle.sums.specs.Answers.{allan_demand}
use Rattle.compare.proofs.quieter.Reads as quieter
use Rattle.compare.proofs.quieter.Kinds as quieter-kinds
use Rattle.compare.proofs.which_quieter.Reads as which-quieter
use Rattle.compare.proofs.which_quieter.Kinds as which-quieter-kinds
use Rattle.compare.specs.declared.QuieterAnswer.{QuieterAnswer}
use Rattle.sums.proofs.allan_sum.Reads as allan-sum
use Rattle.sums.proofs.allan_sum.Kinds as allan-sum-kinds
use Rattle.sums.proofs.modified_sum.Reads as modified-sum
use Rattle.sums.proofs.modified_sum.Kinds as modified-sum-kinds
use Rattle.variances.specs.Deviations.{within}
use Rattle.variances.proofs.allan_fraction.Reads as allan-fraction
use Rattle.variances.proofs.allan_fraction.Kinds as allan-fraction-kinds
use Rattle.variances.proofs.time_fraction.Reads as time-fraction
use Rattle.variances.proofs.time_fraction.Kinds as time-fraction-kinds
use Rattle.variances.proofs.allan_deviation.Reads as allan-deviation
use Rattle.variances.proofs.allan_deviation.Kinds as allan-deviation-kinds
use Rattle.variances.proofs.time_deviation.Reads as time-deviation
use Rattle.variances.proofs.time_deviation.Kinds as time-deviation-kinds
use Rattle.frequency.specs.Frequency.{phases_from, phases, differences}
use Rattle.frequency.proofs.FrequencyLaws.{refusal_from_nought, range_decides}
use Rattle.frequency.proofs.phase_from_frequency.Reads as phase-from-frequency
use Rattle.frequency.proofs.phase_from_frequency.Kinds as phase-from-frequency-kinds
use Rattle.frequency.proofs.phase_from_start.Reads as phase-from-start
use Rattle.frequency.proofs.phase_from_start.Kinds as phase-from-start-kinds
use Rattle.frequency.proofs.frequency_from_phase.Reads as frequency-from-phase
use Rattle.frequency.proofs.frequency_from_phase.Kinds as frequency-from-phase-kinds
use Rattle.drift.specs.Drift.{without_drift}
use Rattle.drift.proofs.drift_figure.Reads as drift-figure
use Rattle.drift.proofs.drift_figure.Kinds as drift-figure-kinds
use Rattle.drift.proofs.remove_drift.Reads as remove-drift
use Rattle.drift.proofs.remove_drift.Kinds as remove-drift-kinds
use Rattle.readings.specs.Readings.{Nearest, Exactly}
use Rattle.readings.proofs.float_sums.Reads as float-sums
use Rattle.readings.proofs.float_sums.Kinds as float-sums-kinds
use Rattle.plot.specs.Drawn.{plus_zero, GreatestDouble}
use Rattle.plot.specs.Dots.{dot_number, dot_value}
use Rattle.plot.proofs.DotLaws.{allan_too_few, time_too_few}
use Rattle.plot.specs.declared.dots.Dot.TheVariants.{TooFew}
use Rattle.plot.proofs.drawn.drawn_number.Reads as drawn-number
use Rattle.plot.proofs.drawn.drawn_number.Kinds as drawn-number-kinds
use Rattle.plot.proofs.dots.allan_dot.Reads as allan-dot
use Rattle.plot.proofs.dots.allan_dot.Kinds as allan-dot-kinds
use Rattle.plot.proofs.dots.time_dot.Reads as time-dot
use Rattle.plot.proofs.dots.time_dot.Kinds as time-dot-kinds
use Rattle.ploegelster.proofs.drawing.plg_allan_dot.Reads as plg-allan-dot
use Rattle.ploegelster.proofs.drawing.plg_allan_dot.Kinds as plg-allan-dot-kinds
use Rattle.ploegelster.proofs.drawing.plg_time_dot.Reads as plg-time-dot
use Rattle.ploegelster.proofs.drawing.plg_time_dot.Kinds as plg-time-dot-kinds
use Rattle.ploegelster.specs.Boundary.{told_noise}
use Rattle.ploegelster.proofs.drawing.plg_noise_type.Reads as plg-noise-type
use Rattle.ploegelster.proofs.drawing.plg_noise_type.Kinds as plg-noise-type-kinds
use Rattle.ploegelster.proofs.drawing.plg_noise_of_record.Reads as plg-noise-of-record
use Rattle.ploegelster.proofs.drawing.plg_noise_of_record.Kinds as plg-noise-of-record-kinds
use Rattle.ploegelster.proofs.drawing.plg_bars.Reads as plg-bars
use Rattle.ploegelster.proofs.drawing.plg_bars.Kinds as plg-bars-kinds
use Rattle.noise.specs.Noise.{alpha_of, told_alpha}
use Rattle.noise.specs.declared.Noise.TheVariants.{WhitePhase, FlickerPhase, WhiteFrequency, FlickerFrequency, RandomWalkFrequency}
use Rattle.noise.proofs.noise_type.Reads as noise-type
use Rattle.noise.proofs.noise_type.Kinds as noise-type-kinds
use Rattle.noise.proofs.noise_of_record.Reads as noise-of-record
use Rattle.noise.proofs.noise_of_record.Kinds as noise-of-record-kinds
use Rattle.noise.proofs.bars.bars.Reads as bars
use Rattle.noise.proofs.bars.bars.Kinds as bars-kinds
use Rattle.phr.specs.Bytes.{low_first, twos_complement, values_bytes}
use Rattle.phr.specs.File.{first_eight, header, file_of, file_from, IsFile, IsFileFrom, AreBytes}
use Rattle.phr.specs.Reading.{read_answer, read_record_answer}
use Rattle.phr.proofs.RecordRoundTrip.{second_version_refused, unrefused_proper_from}
use Rattle.phr.proofs.read_file.Reads as read-file
use Rattle.phr.proofs.read_file.Kinds as read-file-kinds
use Rattle.phr.proofs.write_file.Reads as write-file
use Rattle.phr.proofs.write_file.Kinds as write-file-kinds
use Rattle.phr.proofs.read_record.Reads as read-record
use Rattle.phr.proofs.read_record.Kinds as read-record-kinds
use Rattle.phr.proofs.write_record.Reads as write-record
use Rattle.phr.proofs.write_record.Kinds as write-record-kinds
use Rattle.mending.specs.Salvage.{kept_values, salvaged_file}
use Rattle.mending.proofs.salvage.Reads as salvage
use Rattle.mending.proofs.salvage.Kinds as salvage-kinds
use Rattle.decimal.specs.Decimal.{decimal, Decimal, numbers_in}
use Rattle.decimal.proofs.DigitLaws.{wide_below, decimal_within}
use Rattle.decimal.proofs.Meaning.{decimal_is}
use Rattle.decimal.proofs.spelled.Reads as spelled
use Rattle.decimal.proofs.spelled.Kinds as spelled-kinds
use Rattle.record.specs.declared.CountAnswer.{CountAnswer}
use Rattle.listing.specs.Columns.{line}
use Rattle.listing.specs.Sheet.{sheet, text_refusal, text_answer}
use Rattle.listing.specs.declared.SheetAnswer.{SheetAnswer}
use Rattle.listing.proofs.LongerLaws.{text_stays, totals_stay}
use Rattle.listing.proofs.RoomLaws.{text_within, total_within}
use Rattle.listing.proofs.sheet_record.Reads as sheet-record
use Rattle.listing.proofs.sheet_record.Kinds as sheet-record-kinds
use Rattle.listing.proofs.sheet_total.Reads as sheet-total
use Rattle.listing.proofs.sheet_total.Kinds as sheet-total-kinds
use Rattle.acceptance.specs.Figures.{sum_is, fraction_is, squares}
use Rattle.acceptance.specs.Noughts.{Refused}
use Rattle.acceptance.specs.Calls.{Printed, Compares}
use Rattle.acceptance.specs.Grounds
use Rattle.acceptance.specs.Grounds.{OfText, OfTotal}
use Rattle.acceptance.specs.Promises.{SumOf, PartsOf, Changed, FractionOf, BackAndForth, GivenBack, DotOf, ToldAs, TypeByTable, NoiseOf, HalfOf, BarsOf, DriftRemoved, ConstantDrift, ReadsBack, RecordReadsBack, ReadAlike, ReadsSalvaged, AddsUp, MetBy, ComesBack, LeavesMore, TextOf, TotalsOf, QuieterOf}
use Rattle.acceptance.proofs.Grounding.{answered_none}
use Rattle.acceptance.proofs.RecordGrounds.{record_agrees, multiple_agrees}
use Rattle.acceptance.proofs.FigureGrounds.{fraction_agrees, deviation_agrees, dotted_none}
use Rattle.acceptance.proofs.BufferGrounds.{phases_from_agree, phases_agree, differences_agree, drift_agrees, removal_agrees}
use Rattle.acceptance.proofs.ReadingGrounds.{readings_agree}
use Rattle.acceptance.proofs.TypeGrounds.{type_agrees, bars_agree, alpha_within}
use Rattle.acceptance.proofs.RecordTypeGrounds.{record_type_agrees}
use Rattle.acceptance.proofs.FileGrounds.{writing_agrees, reading_agrees}
use Rattle.acceptance.proofs.VersionGrounds.{record_writing_agrees, record_reading_agrees}
use Rattle.acceptance.proofs.SalvageGrounds.{salvage_agrees}
use Rattle.acceptance.proofs.Grounds.{which_quieter_grounds, allan_sum_grounds, modified_sum_grounds, allan_fraction_grounds, time_fraction_grounds, allan_deviation_grounds, time_deviation_grounds, phase_from_frequency_grounds, phase_from_start_grounds, frequency_from_phase_grounds, drift_figure_grounds, remove_drift_grounds, float_sums_grounds, drawn_number_grounds, allan_dot_grounds, time_dot_grounds, noise_type_grounds, noise_of_record_grounds, plg_noise_type_grounds, plg_noise_of_record_grounds, bars_grounds, plg_bars_grounds, read_file_grounds, write_file_grounds, read_record_grounds, write_record_grounds, salvage_grounds, sheet_record_grounds, sheet_total_grounds}
use Rattle.acceptance.proofs.QuieterPromises.{quieter_of, by_fractions, records_due, handed_as_told}
use Rattle.acceptance.proofs.PromiseLaws.{allan_sum_of, modified_sum_of, phases_from_of, phases_left, phases_of_lem, differences_of, differences_left, back_and_forth, record_given_back, readings_given_back, square_of_half, drift_of, divisor_some, result_of_lem, drift_removed, one_result, same_slope, constant_slope, line_left, float_sums_of, one_nearest, unchanged_samples_of, whole_samples_of, reads_files_alone, reads_every_file, count_of_lem, output_left, file_left, one_value_unrefused, written_proper, reads_back, reads_records_alone, reads_every_record, file_from_left, record_reads_back, reads_alike, version_is_1, drawn_of, dot_told, allan_dot_of, time_dot_of, allan_fraction_of, time_fraction_of, allan_deviation_of, time_deviation_of, allan_deviation_of_record, time_deviation_of_record, type_of, noise_of_lem, bars_of, half_below_deviation, low_above_nought}
use Rattle.acceptance.proofs.SalvageLaws.{new_count_is, salvaged_left, adds_up, met_by, reads_salvaged, comes_back, salvaged_comes_back, leaves_more}
use Rattle.acceptance.proofs.SheetLaws.{text_of, totals_of, text_written, totals_handed_on, total_written, line_read_back, total_read_back, printed_is}
use Rattle.acceptance.proofs.Figures.{starred_figures}

-- ---- the published sums: x the record, N its length, m the factor

-- A is the sum of d_i squared, and K = N-2m.
pub allan_sum_published : Always 1 allan-sum-kinds.ps allan-sum-kinds.r allan-sum.Post
    (λ κs args z w. let xs = args.0.now in let m = args.1.0 in z.number ≡ 0 → SumOf (allan_sum m xs) (length xs - 2 * m) z.sum z.count)
allan_sum_published κs args z w is answered =
    rw is (allan_sum_of _ _ (answered_none (record_agrees allan_demand _ _) (allan_sum_grounds κs args z w is) answered))

-- B is the sum of S_j squared, and C = N-3m+1.
pub modified_sum_published : Always 1 modified-sum-kinds.ps modified-sum-kinds.r modified-sum.Post
    (λ κs args z w. let xs = args.0.now in let m = args.1.0 in z.number ≡ 0 → SumOf (modified_sum m xs) (length xs - 3 * m + 1) z.sum z.count)
modified_sum_published κs args z w is answered =
    rw is (modified_sum_of _ _ (answered_none (multiple_agrees 10922 3 _ _) (modified_sum_grounds κs args z w is) answered))

-- ---- the quieter of two records

-- It is the first where its Allan variance is not above the second's, else the second; the variances are the published ones.
pub which_quieter_published : Always 2 which-quieter-kinds.ps which-quieter-kinds.r which-quieter.Post
    (λ κs args z w. let first = args.0.now in let second = args.1.0.now in let m = args.1.1.0 in z.number ≡ 0 → QuieterOf m first second z.which)
which_quieter_published κs args z w is answered = rw is (quieter_of _ _ _ (rw is at answered))

-- So it is by any fractions p/q in lowest terms that the two variances are, those that allan_fraction answers: p1 q2 against p2 q1.
pub quieter_by_fractions : Always 2 which-quieter-kinds.ps which-quieter-kinds.r which-quieter.Post
    (λ κs args z w. let first = args.0.now in let second = args.1.0.now in let m = args.1.1.0 in z.number ≡ 0 →
    (p1 q1 p2 q2 : ℕ) → FractionOf (allan_sum m first) (2 * (m * m) * (length first - 2 * m)) p1 q1 → FractionOf (allan_sum m second) (2 * (m * m) * (length second - 2 * m)) p2 q2 →
    (p1 * q2 ≤ p2 * q1 → z.which ≡ 1) × (p2 * q1 < p1 * q2 → z.which ≡ 2))
quieter_by_fractions κs args z w is answered p1 q1 p2 q2 one two =
    let due = records_due _ _ _ ((which_quieter_grounds κs args z w is).answered answered).1 in
    by_fractions _ _ _ due.0 due.1 (which_quieter_published κs args z w is answered) one two

-- The record itself is handed back, the first or the second of the two that were lent, as which_quieter says; where it refuses, the empty part of the first.
pub quieter_handed_back : Always 1 quieter-kinds.ps quieter-kinds.r quieter.Post
    (λ κs args z w. let first = args.0 in let second = args.1.0 in let m = args.1.1.0 in (y : QuieterAnswer) → Compares first.now second.now m y →
    (y.which ≡ 1 → z ≡ first) × (y.which ≡ 2 → z ≡ second) × (Refused y.number → (z.ref_ptr ≡ first.ref_ptr) × (z.now ≡ [])))
quieter_handed_back κs args z w is y call = rw is (handed_as_told _ _ _ y call)

-- ---- fractions and deviations, by the sum, the factor m and the count

-- The Allan variance A / (2 m^2 K) in lowest terms.
pub allan_fraction_published : Always 0 allan-fraction-kinds.ps allan-fraction-kinds.r allan-fraction.Post
    (λ κs args z w. let A = value args.0 in let m = args.1.0 in let K = args.1.1.0 in
    z.number ≡ 0 → FractionOf A (2 * (m * m) * K) (value z.numerator) z.denominator)
allan_fraction_published κs args z w is answered =
    rw is (allan_fraction_of _ _ _ (answered_none (fraction_agrees _ _ _) (allan_fraction_grounds κs args z w is) answered))

-- The time variance B / (6 m^2 C) in lowest terms.
pub time_fraction_published : Always 0 time-fraction-kinds.ps time-fraction-kinds.r time-fraction.Post
    (λ κs args z w. let B = value args.0 in let m = args.1.0 in let C = args.1.1.0 in
    z.number ≡ 0 → FractionOf B (6 * (m * m) * C) (value z.numerator) z.denominator)
time_fraction_published κs args z w is answered =
    rw is (time_fraction_of _ _ _ (answered_none (fraction_agrees _ _ _) (time_fraction_grounds κs args z w is) answered))

-- The deviation of A / (2 m^2 K): the greatest r with r^2 times 2 m^2 K not above A times 2^40.
pub allan_deviation_published : Always 0 allan-deviation-kinds.ps allan-deviation-kinds.r allan-deviation.Post
    (λ κs args z w. let A = value args.0 in let m = args.1.0 in let K = args.1.1.0 in
    z.number ≡ 0 → Greatest (within A (2 * (m * m) * K)) z.deviation)
allan_deviation_published κs args z w is answered =
    rw is (allan_deviation_of _ _ _ (answered_none (deviation_agrees _ _ _ 2 (omega arith)) (allan_deviation_grounds κs args z w is) answered))

-- The deviation of B / (6 m^2 C).
pub time_deviation_published : Always 0 time-deviation-kinds.ps time-deviation-kinds.r time-deviation.Post
    (λ κs args z w. let B = value args.0 in let m = args.1.0 in let C = args.1.1.0 in
    z.number ≡ 0 → Greatest (within B (6 * (m * m) * C)) z.deviation)
time_deviation_published κs args z w is answered =
    rw is (time_deviation_of _ _ _ (answered_none (deviation_agrees _ _ _ 6 (omega arith)) (time_deviation_grounds κs args z w is) answered))

-- No record brings about that r is above 2^62: with the sum and the count that a record has been answered with, its deviation is given.
pub allan_deviation_of_every_record : Always 1 allan-sum-kinds.ps allan-sum-kinds.r allan-sum.Post
    (λ κs args z w. let m = args.1.0 in z.number ≡ 0 → Always 0 allan-deviation-kinds.ps allan-deviation-kinds.r allan-deviation.Post
    (λ κs' args' z' w'. args'.0 ≡ z.sum → args'.1.0 ≡ m → args'.1.1.0 ≡ z.count → z'.number ≡ 0))
allan_deviation_of_every_record κs args z w is answered κs' args' z' w' is' total factor count =
    let nothing = answered_none (record_agrees allan_demand _ _) (allan_sum_grounds κs args z w is) answered in
    rw (is', total, factor, count) (allan_deviation_of_record args.1.0 args.0.now nothing is)

pub time_deviation_of_every_record : Always 1 modified-sum-kinds.ps modified-sum-kinds.r modified-sum.Post
    (λ κs args z w. let m = args.1.0 in z.number ≡ 0 → Always 0 time-deviation-kinds.ps time-deviation-kinds.r time-deviation.Post
    (λ κs' args' z' w'. args'.0 ≡ z.sum → args'.1.0 ≡ m → args'.1.1.0 ≡ z.count → z'.number ≡ 0))
time_deviation_of_every_record κs args z w is answered κs' args' z' w' is' total factor count =
    let nothing = answered_none (multiple_agrees 10922 3 _ _) (modified_sum_grounds κs args z w is) answered in
    rw (is', total, factor, count) (time_deviation_of_record args.1.0 args.0.now nothing is)

-- ---- phase and frequency

-- Phases start at 0 and each reading is added; M readings give M+1 phases.
pub phases_published : Always 2 phase-from-frequency-kinds.ps phase-from-frequency-kinds.r phase-from-frequency.Post
    (λ κs args z w. let ys = args.0.now in let left = w.1.0 in
    z.number ≡ 0 → (z.count ≡ length ys + 1) × ((i : ℕ) → i ≤ length ys → at left i ≡ sum_ℤ i (at ys)))
phases_published κs args z w is answered =
    let nothing = answered_none (phases_agree _ _) (phase_from_frequency_grounds κs args z w is) answered in
    rw (is.0, is.1) (phases_of_lem args.0.now args.1.0.now nothing)

-- From a start the same, of which the first is the start.
pub phases_from_start_published : Always 2 phase-from-start-kinds.ps phase-from-start-kinds.r phase-from-start.Post
    (λ κs args z w. let start = args.0 in let ys = args.1.0.now in let left = w.1.1.0 in
    z.number ≡ 0 → (z.count ≡ length ys + 1) × ((i : ℕ) → i ≤ length ys → at left i ≡ start +ℤ sum_ℤ i (at ys)))
phases_from_start_published κs args z w is answered =
    let nothing = answered_none (phases_from_agree _ _ _) (phase_from_start_grounds κs args z w is) answered in
    rw (is.0, is.1) (phases_from_of args.0 args.1.0.now args.1.1.0.now nothing)

-- From the start 0 the two entries answer alike and leave equal buffers alike, refused or not.
pub phase_from_frequency_is_from_nought : Always 2 phase-from-frequency-kinds.ps phase-from-frequency-kinds.r phase-from-frequency.Post
    (λ κs args z w. let ys = args.0.now in let buffer = args.1.0.now in
    Always 2 phase-from-start-kinds.ps phase-from-start-kinds.r phase-from-start.Post (λ κs' args' z' w'.
    args'.0 ≡ pos 0 → args'.1.0.now ≡ ys → args'.1.1.0.now ≡ buffer → (z' ≡ z) × (w'.1.1.0 ≡ w.1.0)))
unfolding phases
phase_from_frequency_is_from_nought κs args z w is κs' args' z' w' is' nought same-readings same-buffer =
    rw (is.0, is.1, is'.0, is'.1, nought, same-readings, same-buffer, refusal_from_nought) (refl, refl)

-- N samples give N-1 differences.
pub differences_published : Always 2 frequency-from-phase-kinds.ps frequency-from-phase-kinds.r frequency-from-phase.Post
    (λ κs args z w. let xs = args.0.now in let left = w.1.0 in
    z.number ≡ 0 → (z.count ≡ length xs - 1) × ((i : ℕ) → i + 1 < length xs → at left i ≡ at xs (i + 1) -ℤ at xs i))
differences_published κs args z w is answered =
    let nothing = answered_none (differences_agree _ _) (frequency_from_phase_grounds κs args z w is) answered in
    rw (is.0, is.1) (differences_of args.0.now args.1.0.now nothing)

-- Phase, to frequency, to phase: what the first call wrote is read by the second, and gives x_i - x_0 where all of these are in range; else 3.
pub phase_to_frequency_to_phase : Always 2 frequency-from-phase-kinds.ps frequency-from-phase-kinds.r frequency-from-phase.Post
    (λ κs args z w. let xs = args.0.now in let left = w.1.0 in z.number ≡ 0 → Always 2 phase-from-frequency-kinds.ps phase-from-frequency-kinds.r phase-from-frequency.Post
    (λ κs' args' z' w'. let ys = args'.0.now in let buffer = args'.1.0.now in
    ys ≡ take z.count left → length xs ≤ length buffer → BackAndForth xs w'.1.0 z'))
phase_to_frequency_to_phase κs args z w is answered κs' args' z' w' is' read room =
    let grounds = frequency_from_phase_grounds κs args z w is in
    let nothing = answered_none (differences_agree _ _) grounds answered in
    let some : length args.0.now ≡ 0 → ⊥ = λ e. (grounds.answered answered).1 1 0 (Grounds.no_sample e) in
    let few : 32768 < length args.0.now → ⊥ = λ h. (grounds.answered answered).1 2 0 (Grounds.many h) in
    let written : args'.0.now ≡ differences args.0.now = read ∙ rw (is.0, is.1) (differences_left args.0.now args.1.0.now nothing) in
    rw (is'.0, is'.1, written) (back_and_forth args.0.now (omega arith) (omega arith) args'.1.0.now room)

-- With the first sample as the start the second call is answered, and gives the record back whole, whatever record it is (K4).
pub phase_to_frequency_to_record : Always 2 frequency-from-phase-kinds.ps frequency-from-phase-kinds.r frequency-from-phase.Post
    (λ κs args z w. let xs = args.0.now in let left = w.1.0 in z.number ≡ 0 → Always 2 phase-from-start-kinds.ps phase-from-start-kinds.r phase-from-start.Post
    (λ κs' args' z' w'. let start = args'.0 in let ys = args'.1.0.now in let buffer = args'.1.1.0.now in
    start ≡ at xs 0 → ys ≡ take z.count left → length xs ≤ length buffer → GivenBack xs w'.1.1.0 z'))
phase_to_frequency_to_record κs args z w is answered κs' args' z' w' is' first read room =
    let xs = args.0.now in
    let rowless = ((frequency_from_phase_grounds κs args z w is).answered answered).1 in
    let nothing = answered_none (differences_agree _ _) (frequency_from_phase_grounds κs args z w is) answered in
    let some : length xs ≡ 0 → ⊥ = λ e. rowless 1 0 (Grounds.no_sample e) in
    let few : 32768 < length xs → ⊥ = λ h. rowless 2 0 (Grounds.many h) in
    let enough : length args.1.0.now < length xs - 1 → ⊥ = λ h. rowless 6 0 (Grounds.no_room (omega arith, omega arith) h) in
    let in_range = sym (range_decides xs _ (omega arith) some (omega arith)) ∙ nothing in
    let written : args'.1.0.now ≡ differences xs = read ∙ rw (is.0, is.1) (differences_left xs args.1.0.now nothing) in
    rw (is'.0, is'.1, first, written) (record_given_back xs (omega arith) (omega arith) args'.1.1.0.now room in_range)

-- Frequency, to phase from any start, to frequency: what the first call wrote is read by the second, which is answered and gives the readings back.
pub frequency_to_phase_to_frequency_from_start : Always 2 phase-from-start-kinds.ps phase-from-start-kinds.r phase-from-start.Post
    (λ κs args z w. let ys = args.1.0.now in let left = w.1.1.0 in z.number ≡ 0 → Always 2 frequency-from-phase-kinds.ps frequency-from-phase-kinds.r frequency-from-phase.Post
    (λ κs' args' z' w'. let xs = args'.0.now in let buffer = args'.1.0.now in
    xs ≡ take z.count left → length ys ≤ length buffer → GivenBack ys w'.1.0 z'))
frequency_to_phase_to_frequency_from_start κs args z w is answered κs' args' z' w' is' read room =
    let start = args.0 in
    let ys = args.1.0.now in
    let nothing = answered_none (phases_from_agree _ _ _) (phase_from_start_grounds κs args z w is) answered in
    let written : args'.0.now ≡ phases_from start ys = read ∙ rw (is.0, is.1) (phases_left start ys args.1.1.0.now nothing) in
    rw (is'.0, is'.1, written) (readings_given_back start ys _ nothing args'.1.0.now room)

-- ---- float readings

-- Each sample is nearest to its reading, those are counted that are not their readings exactly, and both sums are the published ones of the samples
-- that were written.
pub float_sums_published : Always 2 float-sums-kinds.ps float-sums-kinds.r float-sums.Post
    (λ κs args z w. let xs = args.0.now in let m = args.1.0 in let left = w.1.1.0 in
    z.number ≡ 0 → ((k : ℕ) → k < length xs → Nearest (get_or xs k nan) (at left k)) × Changed xs (take (length xs) left) z.changed
    × PartsOf m (take (length xs) left) z.allan z.modified)
float_sums_published κs args z w is answered =
    let nothing = answered_none (readings_agree _ _ _) (float_sums_grounds κs args z w is) answered in
    rw (is.0, is.1) (float_sums_of args.1.0 args.0.now args.1.1.0.now nothing)

-- One number is nearest to a reading.
pub float_samples_alone : Always 2 float-sums-kinds.ps float-sums-kinds.r float-sums.Post
    (λ κs args z w. let xs = args.0.now in let left = w.1.1.0 in
    z.number ≡ 0 → (k : ℕ) → k < length xs → (y : ℤ) → Nearest (get_or xs k nan) y → y ≡ at left k)
float_samples_alone κs args z w is answered =
    let nothing = answered_none (readings_agree _ _ _) (float_sums_grounds κs args z w is) answered in
    rw is.1 (one_nearest args.1.0 args.0.now args.1.1.0.now nothing)

-- Where no reading was changed, each is its sample exactly.
pub float_samples_unchanged : Always 2 float-sums-kinds.ps float-sums-kinds.r float-sums.Post
    (λ κs args z w. let xs = args.0.now in let left = w.1.1.0 in
    z.number ≡ 0 → z.changed ≡ 0 → (k : ℕ) → k < length xs → Exactly (get_or xs k nan) (at left k))
float_samples_unchanged κs args z w is answered none =
    let nothing = answered_none (readings_agree _ _ _) (float_sums_grounds κs args z w is) answered in
    rw is.1 (unchanged_samples_of args.1.0 args.0.now args.1.1.0.now nothing (rw is.0 at none))

-- By its sign and its size: a whole reading of size n becomes n, or -n.
pub float_samples_published : Always 2 float-sums-kinds.ps float-sums-kinds.r float-sums.Post
    (λ κs args z w. let xs = args.0.now in let left = w.1.1.0 in
    z.number ≡ 0 → (k : ℕ) → k < length xs → (s : Bool) (n : ℕ) → HasValue (get_or xs k nan) s n 1 → at left k ≡ with_sign s n)
float_samples_published κs args z w is answered =
    let nothing = answered_none (readings_agree _ _ _) (float_sums_grounds κs args z w is) answered in
    rw is.1 (whole_samples_of args.1.0 args.0.now args.1.1.0.now nothing)

-- ---- drawn numbers and dots

-- The greatest double not above r / 2^20.
pub drawn_published : Always 0 drawn-number-kinds.ps drawn-number-kinds.r drawn-number.Post
    (λ κs args z w. let r = args.0 in z.number ≡ 0 → GreatestDouble r z.value)
drawn_published κs args z w is answered = rw is (drawn_of _ ((drawn_number_grounds κs args z w is).answered answered).1)

-- A dot is drawn from the deviation, or nought.
pub allan_dot_published : Always 0 allan-dot-kinds.ps allan-dot-kinds.r allan-dot.Post
    (λ κs args z w. let A = value args.0 in let m = args.1.0 in let K = args.1.1.0 in
    z.number ≡ 0 → 1 ≤ K → DotOf A (2 * (m * m) * K) z.dot)
allan_dot_published κs args z w is answered some =
    rw is (allan_dot_of _ _ _ (dotted_none _ _ _ _ (deviation_agrees _ _ _ 2 (omega arith)) some ((allan_dot_grounds κs args z w is).answered answered).1))

pub time_dot_published : Always 0 time-dot-kinds.ps time-dot-kinds.r time-dot.Post
    (λ κs args z w. let B = value args.0 in let m = args.1.0 in let C = args.1.1.0 in
    z.number ≡ 0 → 1 ≤ C → DotOf B (6 * (m * m) * C) z.dot)
time_dot_published κs args z w is answered some =
    rw is (time_dot_of _ _ _ (dotted_none _ _ _ _ (deviation_agrees _ _ _ 6 (omega arith)) some ((time_dot_grounds κs args z w is).answered answered).1))

-- A count of 0 gives too few, whose number is 1.
pub allan_dot_too_few : Always 0 allan-dot-kinds.ps allan-dot-kinds.r allan-dot.Post
    (λ κs args z w. let m = args.1.0 in let K = args.1.1.0 in 1 ≤ m → m ≤ 10922 → K ≡ 0 →
    (z.number ≡ 0) × (z.dot ≡ TooFew) × (dot_number z.dot ≡ 1) × (dot_value z.dot ≡ plus_zero))
unfolding dot_number dot_value
allan_dot_too_few κs args z w is least most none = rw (is, none) (rw (allan_too_few _ _ least most) (refl, refl, refl, refl))

pub time_dot_too_few : Always 0 time-dot-kinds.ps time-dot-kinds.r time-dot.Post
    (λ κs args z w. let m = args.1.0 in let C = args.1.1.0 in 1 ≤ m → m ≤ 10922 → C ≡ 0 →
    (z.number ≡ 0) × (z.dot ≡ TooFew) × (dot_number z.dot ≡ 1) × (dot_value z.dot ≡ plus_zero))
unfolding dot_number dot_value
time_dot_too_few κs args z w is least most none = rw (is, none) (rw (time_too_few _ _ least most) (refl, refl, refl, refl))

-- In C a dot is told as its kind, 0 nought, 1 drawn, 2 too few, and the value that it stands for.
pub allan_dot_told : Always 0 allan-dot-kinds.ps allan-dot-kinds.r allan-dot.Post
    (λ κs args z w. Always 0 plg-allan-dot-kinds.ps plg-allan-dot-kinds.r plg-allan-dot.Post
    (λ κs' args' z' w'. args' ≡ args → ToldAs z.dot z'.kind z'.value))
allan_dot_told κs args z w is κs' args' z' w' is' same = rw (is', same, ← is) (dot_told z)

pub time_dot_told : Always 0 time-dot-kinds.ps time-dot-kinds.r time-dot.Post
    (λ κs args z w. Always 0 plg-time-dot-kinds.ps plg-time-dot-kinds.r plg-time-dot.Post
    (λ κs' args' z' w'. args' ≡ args → ToldAs z.dot z'.kind z'.value))
time_dot_told κs args z w is κs' args' z' w' is' same = rw (is', same, ← is) (dot_told z)

-- ---- noise types and bars

-- The type by the table of bounds.
pub noise_type_published : Always 0 noise-type-kinds.ps noise-type-kinds.r noise-type.Post
    (λ κs args z w. let r1 = args.0 in let r2 = args.1.0 in z.number ≡ 0 → TypeByTable r1 r2 (told_alpha z))
noise_type_published κs args z w is answered =
    rw is (type_of _ _ (answered_none (type_agrees _ _) (noise_type_grounds κs args z w is) answered))

-- From a record: r1 and r2 are its time deviations at m and 2m.
pub noise_of_record_published : Always 1 noise-of-record-kinds.ps noise-of-record-kinds.r noise-of-record.Post
    (λ κs args z w. let xs = args.0.now in let m = args.1.0 in z.number ≡ 0 → NoiseOf m xs (told_alpha z))
noise_of_record_published κs args z w is answered =
    rw is (noise_of_lem _ _ (answered_none (record_type_agrees _ _) (noise_of_record_grounds κs args z w is) answered))

-- In C the type is told as its alpha.
pub plg_noise_type_published : Always 0 plg-noise-type-kinds.ps plg-noise-type-kinds.r plg-noise-type.Post
    (λ κs args z w. let r1 = args.0 in let r2 = args.1.0 in z.number ≡ 0 → TypeByTable r1 r2 z.alpha)
unfolding told_noise
plg_noise_type_published κs args z w is answered =
    rw is (type_of _ _ (answered_none (type_agrees _ _) (plg_noise_type_grounds κs args z w is) answered))

pub plg_noise_of_record_published : Always 1 plg-noise-of-record-kinds.ps plg-noise-of-record-kinds.r plg-noise-of-record.Post
    (λ κs args z w. let xs = args.0.now in let m = args.1.0 in z.number ≡ 0 → NoiseOf m xs z.alpha)
unfolding told_noise
plg_noise_of_record_published κs args z w is answered =
    rw is (noise_of_lem _ _ (answered_none (record_type_agrees _ _) (plg_noise_of_record_grounds κs args z w is) answered))

-- The five types by alpha.
pub types_by_alpha : (alpha_of WhitePhase ≡ pos 2) × (alpha_of FlickerPhase ≡ pos 1) × (alpha_of WhiteFrequency ≡ pos 0) × (alpha_of FlickerFrequency ≡ negsuc 0)
    × (alpha_of RandomWalkFrequency ≡ negsuc 1)
unfolding alpha_of
types_by_alpha = (refl, refl, refl, refl, refl)

-- w, h and the row.
pub bars_published : Always 0 bars-kinds.ps bars-kinds.r bars.Post
    (λ κs args z w. let r = args.0 in let type = args.1.0 in let M = args.1.1.0 in z.number ≡ 0 → BarsOf r (alpha_of type) M z)
bars_published κs args z w is answered =
    rw is (bars_of _ _ _ (answered_none (bars_agree _ _ _ (alpha_within _)) (bars_grounds κs args z w is) answered))

-- Whatever is answered has h below r, so that r-h is at least 1 (K10); in C too.
pub bars_half_below : Always 0 bars-kinds.ps bars-kinds.r bars.Post
    (λ κs args z w. let r = args.0 in let type = args.1.0 in let M = args.1.1.0 in z.number ≡ 0 → (h : ℕ) → HalfOf r (alpha_of type) M h → h < r)
bars_half_below κs args z w is answered h = half_below_deviation _ _ _ ((bars_grounds κs args z w is).answered answered).1

pub plg_bars_half_below : Always 0 plg-bars-kinds.ps plg-bars-kinds.r plg-bars.Post
    (λ κs args z w. let r = args.0 in let alpha = args.1.0 in let M = args.1.1.0 in z.number ≡ 0 → (h : ℕ) → HalfOf r alpha M h → h < r)
plg_bars_half_below κs args z w is answered h = half_below_deviation _ _ _ ((plg_bars_grounds κs args z w is).answered answered).1

-- So its lower end, drawn from r-h, is above nought.
pub bars_low_above_nought : Always 0 bars-kinds.ps bars-kinds.r bars.Post (λ κs args z w. z.number ≡ 0 → T (positive z.bar.low))
bars_low_above_nought κs args z w is answered =
    let most : 2 ^ 62 < args.0 → ⊥ = λ large. ((bars_grounds κs args z w is).answered answered).1 _ _ (Grounds.above (alpha_within _) large) in
    low_above_nought (omega arith) (bars_published κs args z w is answered)

-- ---- drift

-- P is the published second difference at factor h and place 0, x_(2h) - 2 x_h + x_0, and R = h^2, with h the whole part of (N-1)/2.
pub drift_published : Always 1 drift-figure-kinds.ps drift-figure-kinds.r drift-figure.Post
    (λ κs args z w. let xs = args.0.now in let h = (length xs - 1) / 2 in
    z.number ≡ 0 → (z.p ≡ difference h xs 0) × (z.p ≡ at xs (2 * h) -ℤ pos 2 *ℤ at xs h +ℤ at xs 0) × (z.r ≡ h * h))
drift_published κs args z w is answered = rw is (drift_of _ (answered_none (drift_agrees _) (drift_figure_grounds κs args z w is) answered))

-- Removal, floored once, toward minus infinity.
pub removal_published : Always 2 remove-drift-kinds.ps remove-drift-kinds.r remove-drift.Post
    (λ κs args z w. let xs = args.0.now in let left = w.1.0 in let h = (length xs - 1) / 2 in
    z.number ≡ 0 → (z.count ≡ length xs) × ((i : ℕ) → i < length xs → DriftRemoved (difference h xs 0) (h * h) i (at xs i) (at left i)))
removal_published κs args z w is answered =
    let grounds = remove_drift_grounds κs args z w is in
    let enough : length args.0.now < 3 → ⊥ = λ h. (grounds.answered answered).1 1 0 (Grounds.few h) in
    rw (is.0, is.1) (drift_removed args.0.now (omega arith) args.1.0.now (answered_none (removal_agrees _ _) grounds answered))

-- What its table of grounds calls a result, refused or not, is that.
pub results_published : (xs : List ℤ) → 3 ≤ length xs → let h = (length xs - 1) / 2 in
    (i : ℕ) → i < length xs → DriftRemoved (difference h xs 0) (h * h) i (at xs i) (at (without_drift xs) i)
results_published = result_of_lem

-- Three samples decide P and R: records as long as each other with the same samples at 0, h and 2h have the same.
pub three_samples_decide : Always 1 drift-figure-kinds.ps drift-figure-kinds.r drift-figure.Post
    (λ κs args z w. let xs = args.0.now in let h = (length xs - 1) / 2 in
    Always 1 drift-figure-kinds.ps drift-figure-kinds.r drift-figure.Post (λ κs' args' z' w'. let ys = args'.0.now in
    z.number ≡ 0 → z'.number ≡ 0 → length ys ≡ length xs → at ys 0 ≡ at xs 0 → at ys h ≡ at xs h → at ys (2 * h) ≡ at xs (2 * h) →
    (z'.p ≡ z.p) × (z'.r ≡ z.r)))
three_samples_decide κs args z w is κs' args' z' w' is' answered answered' as_long first middle last =
    let one = drift_published κs args z w is answered in
    let other = drift_published κs' args' z' w' is' answered' in
    rw (one.1, one.2, other.1, other.2, as_long, first, middle, last) (refl, refl)

-- So where N is even the last sample has no part in P and R.
pub last_sample_has_no_part : Always 1 drift-figure-kinds.ps drift-figure-kinds.r drift-figure.Post
    (λ κs args z w. let xs = args.0.now in
    Always 1 drift-figure-kinds.ps drift-figure-kinds.r drift-figure.Post (λ κs' args' z' w'. let ys = args'.0.now in
    z.number ≡ 0 → z'.number ≡ 0 → length xs % 2 ≡ 0 → length ys ≡ length xs → ((k : ℕ) → k + 1 < length xs → at ys k ≡ at xs k) →
    (z'.p ≡ z.p) × (z'.r ≡ z.r)))
last_sample_has_no_part κs args z w is κs' args' z' w' is' answered answered' even as_long same =
    let grounds = drift_figure_grounds κs args z w is in
    let enough : length args.0.now < 3 → ⊥ = λ few. (grounds.answered answered).1 1 0 (Grounds.few few) in
    let one = drift_published κs args z w is answered in
    let other = drift_published κs' args' z' w' is' answered' in
    rw (one.0, one.2, other.0, other.2, as_long) (same_slope args.0.now args'.0.now (omega arith) even same, refl)

-- Nor in any result but its own.
pub last_sample_changes_its_own_result : Always 2 remove-drift-kinds.ps remove-drift-kinds.r remove-drift.Post
    (λ κs args z w. let xs = args.0.now in let left = w.1.0 in
    Always 2 remove-drift-kinds.ps remove-drift-kinds.r remove-drift.Post (λ κs' args' z' w'. let ys = args'.0.now in let left' = w'.1.0 in
    z.number ≡ 0 → z'.number ≡ 0 → length xs % 2 ≡ 0 → length ys ≡ length xs → ((k : ℕ) → k + 1 < length xs → at ys k ≡ at xs k) →
    (k : ℕ) → k + 1 < length xs → at left' k ≡ at left k))
last_sample_changes_its_own_result κs args z w is κs' args' z' w' is' answered answered' even as_long same k inside =
    let xs = args.0.now in
    let grounds = remove_drift_grounds κs args z w is in
    let enough : length xs < 3 → ⊥ = λ few. (grounds.answered answered).1 1 0 (Grounds.few few) in
    let one = (removal_published κs args z w is answered).1 k (omega arith) in
    let other = (removal_published κs' args' z' w' is' answered').1 k (omega (arith, as_long)) in
    one_result (divisor_some xs (omega arith)) one (rw (as_long, same_slope xs args'.0.now (omega arith) even same, same k inside) at other)

-- A constant drift is found, P over R being what it is, and is taken out: what is left is the line.
pub constant_drift_found : Always 1 drift-figure-kinds.ps drift-figure-kinds.r drift-figure.Post
    (λ κs args z w. let xs = args.0.now in z.number ≡ 0 → (a b c : ℤ) → ConstantDrift a b c xs → z.p ≡ c *ℤ pos z.r)
constant_drift_found κs args z w is answered a b c constant =
    let grounds = drift_figure_grounds κs args z w is in
    let enough : length args.0.now < 3 → ⊥ = λ few. (grounds.answered answered).1 1 0 (Grounds.few few) in
    let published = drift_published κs args z w is answered in
    rw (published.0, published.2) (constant_slope a b c args.0.now (omega arith) constant)

pub constant_drift_removed : Always 2 remove-drift-kinds.ps remove-drift-kinds.r remove-drift.Post
    (λ κs args z w. let xs = args.0.now in let left = w.1.0 in
    z.number ≡ 0 → (a b c : ℤ) → ConstantDrift a b c xs → (i : ℕ) → i < length xs → at left i ≡ a +ℤ b *ℤ pos i)
constant_drift_removed κs args z w is answered a b c constant i inside =
    let xs = args.0.now in
    let grounds = remove_drift_grounds κs args z w is in
    let enough : length xs < 3 → ⊥ = λ few. (grounds.answered answered).1 1 0 (Grounds.few few) in
    let some = divisor_some xs (omega arith) in
    let removed = (removal_published κs args z w is answered).1 i inside in
    one_result some (line_left a b c (square_of_half xs) i some) (rw (constant_slope a b c xs (omega arith) constant, constant i inside) at removed)

-- ---- the record file

-- What is written is read: reading what an answered call wrote gives the kind and the values back.
pub file_read_of_written : Always 2 write-file-kinds.ps write-file-kinds.r write-file.Post
    (λ κs args z w. let kind = args.0 in let values = args.1.0.now in let written = w.1.1.0 in
    z.number ≡ 0 → Always 2 read-file-kinds.ps read-file-kinds.r read-file.Post
    (λ κs' args' z' w'. let bytes = args'.0.now in let buffer = args'.1.0.now in
    bytes ≡ take z.count written → length values ≤ length buffer → ReadsBack kind values w'.1.0 z'))
file_read_of_written κs args z w is answered κs' args' z' w' is' read room =
    let nothing = answered_none (writing_agrees _ _ _) (write_file_grounds κs args z w is) answered in
    let written : args'.0.now ≡ file_of args.0 args.1.0.now = read ∙ rw (is.0, is.1) (file_left args.0 args.1.0.now args.1.1.0.now nothing) in
    rw (is'.0, is'.1, written) (reads_back args.0 args.1.0.now args'.1.0.now (written_proper _ _ _ nothing) room)

-- The file of one frequency value, 0x10203040506, byte for byte: the low byte first.
pub file_by_bytes : Always 2 write-file-kinds.ps write-file-kinds.r write-file.Post
    (λ κs args z w. let kind = args.0 in let values = args.1.0.now in let left = w.1.1.0 in
    kind ≡ 1 → values ≡ pos 0x10203040506 ∷ [] → 16 ≤ length args.1.1.0.now → (z.count ≡ 16) × (take 16 left
    ≡ 0x50 ∷ 0x48 ∷ 0x52 ∷ 0x01 ∷ 0x00 ∷ 0x01 ∷ 0x01 ∷ 0x00 ∷ 0x06 ∷ 0x05 ∷ 0x04 ∷ 0x03 ∷ 0x02 ∷ 0x01 ∷ 0x00 ∷ 0x00 ∷ []))
unfolding first_eight header low_first file_of twos_complement values_bytes
file_by_bytes κs args z w is frequency one room =
    let buffer = args.1.1.0.now in
    let nothing = one_value_unrefused (length buffer) room in
    let count = count_of_lem nothing 16 (file_of 1 (pos 0x10203040506 ∷ [])) buffer in
    rw (is.0, is.1, frequency, one) (count, rw (output_left nothing 16 (file_of 1 (pos 0x10203040506 ∷ [])) buffer) refl)

-- Bytes are read exactly where they are the file of a kind and of values in range, with room for these.
pub files_alone_are_read : Always 2 read-file-kinds.ps read-file-kinds.r read-file.Post
    (λ κs args z w. let bytes = args.0.now in let buffer = args.1.0.now in
    AreBytes bytes →
    (z.number ≡ 0 → IsFile bytes (length buffer)) × (IsFile bytes (length buffer) → z.number ≡ 0))
files_alone_are_read κs args z w is all = (
  λ answered. reads_files_alone args.0.now _ all (answered_none (reading_agrees _ _) (read_file_grounds κs args z w is) answered),
  λ file. rw is.0 (reads_every_file _ _ all file),
)

-- ---- the record file of either version

-- What is written is read: reading what an answered call wrote gives version 2, the kind, the start and the values back.
pub record_read_of_written : Always 2 write-record-kinds.ps write-record-kinds.r write-record.Post
    (λ κs args z w. let kind = args.0 in let start = args.1.0 in let values = args.1.1.0.now in let written = w.1.1.1.0 in
    z.number ≡ 0 → Always 2 read-record-kinds.ps read-record-kinds.r read-record.Post
    (λ κs' args' z' w'. let bytes = args'.0.now in let buffer = args'.1.0.now in
    bytes ≡ take z.count written → length values ≤ length buffer → RecordReadsBack 2 kind start values w'.1.0 z'))
record_read_of_written κs args z w is answered κs' args' z' w' is' read room =
    let kind = args.0 in
    let start = args.1.0 in
    let values = args.1.1.0.now in
    let nothing = answered_none (record_writing_agrees _ _ _ _) (write_record_grounds κs args z w is) answered in
    let proper = unrefused_proper_from kind start values _ nothing in
    let written : args'.0.now ≡ file_from kind start values = read ∙ rw (is.0, is.1) (file_from_left kind start values args.1.1.1.0.now nothing) in
    rw (is'.0, is'.1, written) (record_reads_back kind start values args'.1.0.now proper.0 proper.1 room)

-- Bytes are read exactly where they are a file of version 1 or a file of version 2, of a kind, a start and values in range, with room for these.
pub records_alone_are_read : Always 2 read-record-kinds.ps read-record-kinds.r read-record.Post
    (λ κs args z w. let bytes = args.0.now in let buffer = args.1.0.now in
    AreBytes bytes →
    (z.number ≡ 0 → IsFile bytes (length buffer) ⊎ IsFileFrom bytes (length buffer)) × (IsFile bytes (length buffer) ⊎ IsFileFrom bytes (length buffer) → z.number ≡ 0))
records_alone_are_read κs args z w is all = (
  λ answered. reads_records_alone args.0.now _ all (answered_none (record_reading_agrees _ _) (read_record_grounds κs args z w is) answered),
  λ file. rw is.0 (reads_every_record _ _ all file),
)

-- Bytes whose byte 3 is not 2, or that have none, are read or refused by both readers alike: the start is 0, and the version 1 where they are read.
pub first_version_read_alike : Always 2 read-file-kinds.ps read-file-kinds.r read-file.Post
    (λ κs args z w. let bytes = args.0.now in let buffer = args.1.0.now in (get_or bytes 3 0 ≡ 2 → ⊥) →
    Always 2 read-record-kinds.ps read-record-kinds.r read-record.Post
    (λ κs' args' z' w'. args'.0.now ≡ bytes → args'.1.0.now ≡ buffer → ReadAlike z w.1.0 z' w'.1.0 × (z'.number ≡ 0 → z'.version ≡ 1)))
first_version_read_alike κs args z w is first κs' args' z' w' is' same_bytes same-buffer = (
  rw (is.0, is.1, is'.0, is'.1, same_bytes, same-buffer) (reads_alike args.0.now first args.1.0.now),
  λ answered. let nothing = answered_none (record_reading_agrees _ _) (read_record_grounds κs' args' z' w' is') answered in
      rw is'.0 (version_is_1 args'.0.now (rw same_bytes first) _ nothing),
)

-- The reader of version 1 refuses version 2 at byte 3: bytes that begin with the mark and 02, whatever follows and however much.
pub second_version_refused_at_3 : Always 2 read-file-kinds.ps read-file-kinds.r read-file.Post
    (λ κs args z w. let bytes = args.0.now in (rest : List ℕ) → bytes ≡ 0x50 ∷ 0x48 ∷ 0x52 ∷ 0x02 ∷ rest → (z.number ≡ 9) × (z.place ≡ 3))
unfolding read_answer
second_version_refused_at_3 κs args z w is rest begins =
    let refusal = second_version_refused (0x50 ∷ 0x48 ∷ 0x52 ∷ 0x02 ∷ rest) (length args.1.0.now) (omega arith) refl refl refl refl in
    rw (is.0, begins, refusal) (refl, refl)

-- ---- salvage of a damaged file

-- What comes out is read: with the version, kind and start of the input, and its values are the longest good beginning of those present.
pub salvaged_is_read : Always 2 salvage-kinds.ps salvage-kinds.r salvage.Post
    (λ κs args z w. let bytes = args.0.now in let salvaged = w.1.0 in
    z.number ≡ 0 → Always 2 read-record-kinds.ps read-record-kinds.r read-record.Post
    (λ κs' args' z' w'. let again = args'.0.now in let buffer = args'.1.0.now in
    again ≡ take (length bytes - z.left_over) salvaged → z.new_count ≤ length buffer → ReadsSalvaged bytes z.new_count w'.1.0 z'))
salvaged_is_read κs args z w is answered κs' args' z' w' is' read room =
    let bytes = args.0.now in
    let nothing = answered_none (salvage_agrees _ _) (salvage_grounds κs args z w is) answered in
    let count : z.new_count ≡ length (kept_values bytes) = rw is.0 (new_count_is bytes args.1.0.now nothing) in
    let written : args'.0.now ≡ salvaged_file bytes = read ∙ rw (is.0, is.1) (salvaged_left bytes args.1.0.now nothing) in
    rw (count, is'.0, is'.1, written) (reads_salvaged bytes args.1.0.now nothing args'.1.0.now (rw count at room))

-- Old count, new count and bytes left over add up with the lengths.
pub salvage_adds_up : Always 2 salvage-kinds.ps salvage-kinds.r salvage.Post (λ κs args z w. z.number ≡ 0 → AddsUp args.0.now z)
salvage_adds_up κs args z w is answered =
    rw is.0 (adds_up args.0.now args.1.0.now (answered_none (salvage_agrees _ _) (salvage_grounds κs args z w is) answered))

-- Met is 1 where a value present is outside its range, and 0 where none is.
pub salvage_met : Always 2 salvage-kinds.ps salvage-kinds.r salvage.Post (λ κs args z w. z.number ≡ 0 → MetBy args.0.now z.met)
salvage_met κs args z w is answered =
    rw is.0 (met_by args.0.now args.1.0.now (answered_none (salvage_agrees _ _) (salvage_grounds κs args z w is) answered))

-- A file that is read comes back byte for byte, with nothing left over.
pub sound_file_comes_back : Always 2 read-record-kinds.ps read-record-kinds.r read-record.Post
    (λ κs args z w. let bytes = args.0.now in
    z.number ≡ 0 → AreBytes bytes → Always 2 salvage-kinds.ps salvage-kinds.r salvage.Post
    (λ κs' args' z' w'. args'.0.now ≡ bytes → length bytes ≤ length args'.1.0.now → ComesBack bytes z.count w'.1.0 z'))
unfolding read_record_answer
sound_file_comes_back κs args z w is answered all κs' args' z' w' is' same room =
    let nothing = answered_none (record_reading_agrees _ _) (read_record_grounds κs args z w is) answered in
    rw (is'.0, is'.1, same, is.0, nothing) (comes_back args.0.now all _ nothing args'.1.0.now room)

-- Salvage of what was salvaged changes nothing.
pub salvage_of_salvaged : Always 2 salvage-kinds.ps salvage-kinds.r salvage.Post
    (λ κs args z w. let bytes = args.0.now in let salvaged = w.1.0 in
    z.number ≡ 0 → Always 2 salvage-kinds.ps salvage-kinds.r salvage.Post
    (λ κs' args' z' w'. let again = args'.0.now in
    again ≡ take (length bytes - z.left_over) salvaged → length again ≤ length args'.1.0.now → ComesBack again z.new_count w'.1.0 z'))
salvage_of_salvaged κs args z w is answered κs' args' z' w' is' read room =
    let bytes = args.0.now in
    let nothing = answered_none (salvage_agrees _ _) (salvage_grounds κs args z w is) answered in
    let count : z.new_count ≡ length (kept_values bytes) = rw is.0 (new_count_is bytes args.1.0.now nothing) in
    let written : args'.0.now ≡ salvaged_file bytes = read ∙ rw (is.0, is.1) (salvaged_left bytes args.1.0.now nothing) in
    rw (count, is'.0, is'.1, written) (salvaged_comes_back bytes args.1.0.now nothing args'.1.0.now (rw written at room))

-- What stands behind as many bytes as the longest file has is left over, and has no other say: so a reader may keep that many and count the rest.
pub longer_file_leaves_more : Always 2 salvage-kinds.ps salvage-kinds.r salvage.Post
    (λ κs args z w. let bytes = args.0.now in let buffer = args.1.0.now in
    262160 ≤ length bytes → Always 2 salvage-kinds.ps salvage-kinds.r salvage.Post
    (λ κs' args' z' w'. (rest : List ℕ) → args'.0.now ≡ bytes ++ rest → args'.1.0.now ≡ buffer → LeavesMore (length rest) z z' w.1.0 w'.1.0))
longer_file_leaves_more κs args z w is long κs' args' z' w' is' rest same room =
    rw (is.0, is.1, is'.0, is'.1, same, room) (leaves_more args.0.now rest long args.1.0.now)

-- ---- the sheet of all factors

-- The text is the line of the record's refusal where it is refused as a whole, else the lines of all its factors.
pub sheet_text : Always 2 sheet-record-kinds.ps sheet-record-kinds.r sheet-record.Post
    (λ κs args z w. z.number ≡ 0 → TextOf args.0.now (take z.length w.1.1.0))
sheet_text κs args z w is answered =
    let here = sym (ap (λ (a : SheetAnswer). a.number) is.0) ∙ answered in
    rw (is.0, is.1, text_written args.0.now args.1.0 args.1.1.0.now here) (text_of args.0.now)

-- The totals have K and C of all these lines more; a record that is refused as a whole is not in them.
pub sheet_totals : Always 2 sheet-record-kinds.ps sheet-record-kinds.r sheet-record.Post (λ κs args z w. z.number ≡ 0 → TotalsOf args.0.now args.1.0 z.totals)
sheet_totals κs args z w is answered =
    let here = sym (ap (λ (a : SheetAnswer). a.number) is.0) ∙ answered in
    rw (is.0, totals_handed_on args.0.now args.1.0 args.1.1.0.now here) (totals_of args.0.now args.1.0)

-- Whatever files the calls are made for, one after the other with the totals handed on, and then the closing line: what they write is the whole sheet.
pub whole_sheet : {files : List (List ℕ)} {text : List ℕ} → Printed (record { k = 0; c = 0 }) files text → text ≡ sheet files
unfolding sheet
whole_sheet printed = printed_is printed

-- Room for 4,608 bytes is always enough, for the lines of a record and for the closing line.
pub sheet_room : Always 2 sheet-record-kinds.ps sheet-record-kinds.r sheet-record.Post (λ κs args z w. 4608 ≤ length args.1.1.0.now → z.number ≡ 6 → ⊥)
sheet_room κs args z w is room six =
    no_room_row ((sheet_record_grounds κs args z w is).refused (λ zero. omega (arith, zero, six))) six
  where
    no_room_row : {n p : ℕ} → OfText args.0.now args.1.0 (length args.1.1.0.now) n p → n ≡ 6 → ⊥
    no_room_row (Grounds.large over) e = omega arith
    no_room_row (Grounds.no_room k c h) e = omega (arith, text_within args.0.now)

pub total_room : Always 1 sheet-total-kinds.ps sheet-total-kinds.r sheet-total.Post (λ κs args z w. 4608 ≤ length args.1.0.now → z.number ≡ 0)
total_room κs args z w is room =
    ((sheet_total_grounds κs args z w is).no_row (λ n p row. no_room_row row)).0
  where
    no_room_row : {n p : ℕ} → OfTotal args.0 (length args.1.0.now) n p → ⊥
    no_room_row (Grounds.no_room h) = omega (arith, total_within args.0)

-- What stands behind 32,785 bytes of a file changes nothing: so a reader may keep that many.
pub longer_file_same_text : Always 2 sheet-record-kinds.ps sheet-record-kinds.r sheet-record.Post
    (λ κs args z w. let bytes = args.0.now in
    32785 ≤ length bytes → Always 2 sheet-record-kinds.ps sheet-record-kinds.r sheet-record.Post
    (λ κs' args' z' w'. (rest : List ℕ) → args'.0.now ≡ bytes ++ rest → args'.1.0 ≡ args.1.0 → args'.1.1.0.now ≡ args.1.1.0.now → (z' ≡ z) × (w'.1.1.0 ≡ w.1.1.0)))
unfolding text_answer text_refusal
longer_file_same_text κs args z w is long κs' args' z' w' is' rest more totals buffer =
    rw (is.0, is.1, is'.0, is'.1, more, totals, buffer, text_stays args.0.now rest long, totals_stay args.0.now rest long args.1.0) (refl, refl)

-- ---- decimal has one meaning

-- What is spelled is some digits and nothing else, with no nought in front of others, that make the number.
pub spelled_is_decimal : Always 1 spelled-kinds.ps spelled-kinds.r spelled.Post
    (λ κs args z w. let n = args.0 in n.hi < 2 ^ 64 → n.lo < 2 ^ 64 → length args.1.0.now ≡ 39 → Decimal (value n) (drop z w.1.0))
spelled_is_decimal κs args z w is high low long =
    let n = args.0 in
    let before = args.1.0.now in
    let within = decimal_within (value n) in
    let front : length (take z before) ≡ z = length-take-le z before (omega (arith, is.0)) in
    rw (is.1, drop_at (take z before) (decimal (value n)) z front) (decimal_is (value n) (wide_below n high low))

-- A line of numbers below 2^128 read back gives the numbers, and the closing line gives its totals.
pub numbers_come_back : (ns : List ℕ) → ((i : ℕ) → i < length ns → get_or ns i 0 < 2 ^ 128) → numbers_in (line (map decimal ns)) ≡ ns
numbers_come_back = line_read_back

pub totals_come_back : Always 1 sheet-total-kinds.ps sheet-total-kinds.r sheet-total.Post
    (λ κs args z w. let t = args.0 in t.k < 2 ^ 128 → t.c < 2 ^ 128 → z.number ≡ 0 → numbers_in (take z.count w.1.0) ≡ t.k ∷ t.c ∷ [])
totals_come_back κs args z w is k c answered =
    let here = sym (ap (λ (a : CountAnswer). a.number) is.0) ∙ answered in
    rw (is.0, is.1, total_written args.0 args.1.0.now here) (total_read_back args.0 k c)

-- ---- the starred record 0 1 4 9 16 25 at m = 1: refusing everything, or giving 0/1 always, is shut out

-- A = 16 and K = 4.
pub squares_have_sixteen : Always 1 allan-sum-kinds.ps allan-sum-kinds.r allan-sum.Post
    (λ κs args z w. let xs = args.0.now in let m = args.1.0 in xs ≡ squares → m ≡ 1 → z ≡ sum_is 16 4)
squares_have_sixteen κs args z w is record_is factor = rw (is, record_is, factor) starred_figures.squares_at_1.0

-- Whatever the Allan sum answers of this record, the fraction of that answer, its sum passed on as it came, is 2/1.
pub squares_have_two : Always 1 allan-sum-kinds.ps allan-sum-kinds.r allan-sum.Post
    (λ κs args z w. args.0.now ≡ squares → args.1.0 ≡ 1 → Always 0 allan-fraction-kinds.ps allan-fraction-kinds.r allan-fraction.Post
    (λ κs' args' z' w'. args'.0 ≡ z.sum → args'.1.0 ≡ 1 → args'.1.1.0 ≡ z.count → z' ≡ fraction_is 2 1))
squares_have_two κs args z w is record_is factor κs' args' z' w' is' total factor' count =
    let known = squares_have_sixteen κs args z w is record_is factor in
    rw (is', total, factor', count, known) starred_figures.squares_at_1.1
