-- Every starred figure of the rules holds, over what each entry's own contract allows.
use mathlib.Core.Path.{◌≡◌, refl}
use Prim.Native.Nat.{◌+◌, ◌*◌}
use lib.Ieee.{round}
use lib.ListN.{length}
use Rattle.laws.specs.Single.{Always}
use Rattle.laws.specs.Sums.{sum, sum_ℤ}
use Rattle.laws.specs.Lists.{tabulate, first_failing}
use Rattle.laws.specs.Greatest.{bit_by_bit}
use Rattle.wide.specs.Wide.{value}
use Rattle.record.specs.Refusals.{in_range, range_refusal, size_refusal, record_refusal}
use Rattle.record.specs.Answers.{count_answer, buffer_left}
use Rattle.frequency.specs.Frequency.{phases_from, phases, first_leaving, phase_refusal, phase_refusal_from}
use Rattle.drift.specs.Drift.{drift_h, drift_p, drift_r, drift_refusal, drift_answer, floored, without_drift, removal_refusal}
use Rattle.sums.specs.Published.{difference, allan_count, allan_sum, allan_denominator, window_sum, modified_count, modified_sum, time_denominator}
use Rattle.variances.specs.Fractions.{euclid, gcd}
use Rattle.variances.specs.Deviations.{deviation}
use Rattle.sums.specs.Answers.{sum_answer, allan_sum_answer, modified_sum_answer}
use Rattle.variances.specs.Answers.{figure_refusal, fraction_answer, allan_fraction_answer, time_fraction_answer, deviation_answer, allan_deviation_answer, time_deviation_answer}
use Rattle.plot.specs.Drawn.{drawn_number}
use Rattle.noise.specs.Noise.{alpha_of, kappa_of, noise_of, noise_refusal, noise_answer, told_alpha, type_answer, time_deviation, record_type_answer}
use Rattle.noise.specs.Bars.{bar_width, bar_half, bars_refusal, bar_of, bars_answer}
use Rattle.phr.specs.Bytes.{low_first, from_low_first, twos_complement, signed, values_bytes, value_at}
use Rattle.phr.specs.File.{first_eight, header, file_of, header_from, file_from, most_values, value_in_range, start_fits, values_refusal}
use Rattle.phr.specs.Reading.{tests_of, either_tests, sound_up_to, kind_of, count_of, version_of, head_length, start_of, record_values, count_refusal, header_refusal, read_record_refusal}
use Rattle.phr.specs.Writing.{room_refusal, write_refusal, write_record_refusal}
use Rattle.decimal.specs.Decimal.{digits_within, decimal}
use Rattle.listing.specs.Columns.{line, signed_decimal, told_or, fraction_column, count_column, deviation_column, alpha_column, factor_line}
use Rattle.listing.specs.Sheet.{factors_from, factors, lines_of, allan_counts, modified_counts, sheet_most, samples_of, reader_refusal, phases_refusal, sheet_refusal, refused_line, factors_of, record_text, totals_with, total_line, sheet_from, sheet}
use Rattle.sums.proofs.allan_sum.Reads as allan-sum
use Rattle.sums.proofs.allan_sum.Kinds as allan-sum-kinds
use Rattle.sums.proofs.modified_sum.Reads as modified-sum
use Rattle.sums.proofs.modified_sum.Kinds as modified-sum-kinds
use Rattle.variances.proofs.allan_fraction.Reads as allan-fraction
use Rattle.variances.proofs.allan_fraction.Kinds as allan-fraction-kinds
use Rattle.variances.proofs.time_fraction.Reads as time-fraction
use Rattle.variances.proofs.time_fraction.Kinds as time-fraction-kinds
use Rattle.variances.proofs.allan_deviation.Reads as allan-deviation
use Rattle.variances.proofs.allan_deviation.Kinds as allan-deviation-kinds
use Rattle.frequency.proofs.phase_from_frequency.Reads as phase-from-frequency
use Rattle.frequency.proofs.phase_from_frequency.Kinds as phase-from-frequency-kinds
use Rattle.frequency.proofs.phase_from_start.Reads as phase-from-start
use Rattle.frequency.proofs.phase_from_start.Kinds as phase-from-start-kinds
use Rattle.drift.proofs.drift_figure.Reads as drift-figure
use Rattle.drift.proofs.drift_figure.Kinds as drift-figure-kinds
use Rattle.drift.proofs.remove_drift.Reads as remove-drift
use Rattle.drift.proofs.remove_drift.Kinds as remove-drift-kinds
use Rattle.noise.proofs.noise_type.Reads as noise-type
use Rattle.noise.proofs.noise_type.Kinds as noise-type-kinds
use Rattle.noise.proofs.bars.bars.Reads as bars
use Rattle.noise.proofs.bars.bars.Kinds as bars-kinds
use Rattle.phr.proofs.write_file.Reads as write-file
use Rattle.phr.proofs.write_file.Kinds as write-file-kinds
use Rattle.phr.proofs.write_record.Reads as write-record
use Rattle.phr.proofs.write_record.Kinds as write-record-kinds
use Rattle.acceptance.specs.Figures.{Starred}

pub starred_figures : Starred
unfolding sum sum_ℤ tabulate first_failing bit_by_bit in_range range_refusal size_refusal record_refusal count_answer buffer_left phases_from phases first_leaving phase_refusal phase_refusal_from drift_h drift_p drift_r drift_refusal drift_answer floored without_drift removal_refusal difference allan_count allan_sum allan_denominator window_sum modified_count modified_sum time_denominator euclid gcd deviation sum_answer allan_sum_answer modified_sum_answer figure_refusal fraction_answer allan_fraction_answer time_fraction_answer deviation_answer allan_deviation_answer alpha_of kappa_of noise_of noise_refusal noise_answer told_alpha type_answer bar_width bar_half bars_refusal bar_of bars_answer drawn_number round low_first twos_complement values_bytes first_eight header file_of header_from file_from most_values value_in_range start_fits values_refusal room_refusal write_refusal write_record_refusal from_low_first signed value_at tests_of either_tests sound_up_to kind_of count_of version_of head_length start_of record_values count_refusal header_refusal read_record_refusal time_deviation_answer time_deviation record_type_answer digits_within decimal line signed_decimal told_or fraction_column count_column deviation_column alpha_column factor_line factors_from factors lines_of allan_counts modified_counts sheet_most samples_of reader_refusal phases_refusal sheet_refusal refused_line factors_of record_text totals_with total_line sheet_from sheet
starred_figures = record {
  squares_at_1 = (refl, refl);
  squares_deviation = refl;
  squares_at_2 = (refl, refl);
  squares_modified = (refl, refl);
  line_at_1 = (refl, refl);
  by_turns_at_1 = (refl, refl);
  by_turns_at_2 = (refl, refl);
  by_turns_modified = refl;
  spike_at_1 = (refl, refl);
  spike_at_2 = (refl, refl);
  spike_modified = (refl, refl);
  ends = refl;
  phased = (refl, refl);
  phased_from = (refl, refl);
  squares_drift = (refl, (refl, refl));
  last_fallen_drift = (refl, (refl, refl));
  falling_drift = (refl, (refl, refl));
  bar = refl;
  flicker_phase = (refl, refl);
  at_the_bound = (refl, refl);
  past_the_bound = (refl, refl);
  file = (refl, refl);
  file_from_start = (refl, refl);
  squares_sheet = refl;
}

-- ---- whatever an entry's contract allows is what the rows compute

pub allan_sum_computes : Always 1 allan-sum-kinds.ps allan-sum-kinds.r allan-sum.Post
    (λ κs args z w. z ≡ allan_sum_answer args.1.0 args.0.now)
allan_sum_computes κs args z w is = is

pub modified_sum_computes : Always 1 modified-sum-kinds.ps modified-sum-kinds.r modified-sum.Post
    (λ κs args z w. z ≡ modified_sum_answer args.1.0 args.0.now)
modified_sum_computes κs args z w is = is

pub allan_fraction_computes : Always 0 allan-fraction-kinds.ps allan-fraction-kinds.r allan-fraction.Post
    (λ κs args z w. z ≡ allan_fraction_answer (value args.0) args.1.0 args.1.1.0)
allan_fraction_computes κs args z w is = is

pub time_fraction_computes : Always 0 time-fraction-kinds.ps time-fraction-kinds.r time-fraction.Post
    (λ κs args z w. z ≡ time_fraction_answer (value args.0) args.1.0 args.1.1.0)
time_fraction_computes κs args z w is = is

pub allan_deviation_computes : Always 0 allan-deviation-kinds.ps allan-deviation-kinds.r allan-deviation.Post
    (λ κs args z w. z ≡ allan_deviation_answer (value args.0) args.1.0 args.1.1.0)
allan_deviation_computes κs args z w is = is

pub phase_from_frequency_computes : Always 2 phase-from-frequency-kinds.ps phase-from-frequency-kinds.r phase-from-frequency.Post
    (λ κs args z w. let ys = args.0.now in let buffer = args.1.0.now in let r = phase_refusal ys (length buffer) in
    (z ≡ count_answer r (length ys + 1)) × (w.1.0 ≡ buffer_left r (phases ys) buffer))
phase_from_frequency_computes κs args z w is = is

pub phase_from_start_computes : Always 2 phase-from-start-kinds.ps phase-from-start-kinds.r phase-from-start.Post
    (λ κs args z w. let start = args.0 in let ys = args.1.0.now in let buffer = args.1.1.0.now in let r = phase_refusal_from start ys (length buffer) in
    (z ≡ count_answer r (length ys + 1)) × (w.1.1.0 ≡ buffer_left r (phases_from start ys) buffer))
phase_from_start_computes κs args z w is = is

pub drift_figure_computes : Always 1 drift-figure-kinds.ps drift-figure-kinds.r drift-figure.Post
    (λ κs args z w. z ≡ drift_answer args.0.now)
drift_figure_computes κs args z w is = is

pub remove_drift_computes : Always 2 remove-drift-kinds.ps remove-drift-kinds.r remove-drift.Post
    (λ κs args z w. let xs = args.0.now in let buffer = args.1.0.now in let r = removal_refusal xs (length buffer) in
    (z ≡ count_answer r (length xs)) × (w.1.0 ≡ buffer_left r (without_drift xs) buffer))
remove_drift_computes κs args z w is = is

pub noise_type_computes : Always 0 noise-type-kinds.ps noise-type-kinds.r noise-type.Post
    (λ κs args z w. z ≡ type_answer args.0 args.1.0)
noise_type_computes κs args z w is = is

pub bars_computes : Always 0 bars-kinds.ps bars-kinds.r bars.Post
    (λ κs args z w. z ≡ bars_answer args.0 args.1.0 args.1.1.0)
bars_computes κs args z w is = is

pub write_file_computes : Always 2 write-file-kinds.ps write-file-kinds.r write-file.Post
    (λ κs args z w. let kind = args.0 in let values = args.1.0.now in let buffer = args.1.1.0.now in
    let r = write_refusal kind values (length buffer) in (z ≡ count_answer r (8 + 8 * length values)) × (w.1.1.0 ≡ buffer_left r (file_of kind values) buffer))
write_file_computes κs args z w is = is

pub write_record_computes : Always 2 write-record-kinds.ps write-record-kinds.r write-record.Post
    (λ κs args z w. let kind = args.0 in let start = args.1.0 in let values = args.1.1.0.now in let buffer = args.1.1.1.0.now in
    let r = write_record_refusal kind start values (length buffer) in
    (z ≡ count_answer r (16 + 8 * length values)) × (w.1.1.1.0 ≡ buffer_left r (file_from kind start values) buffer))
write_record_computes κs args z w is = is
