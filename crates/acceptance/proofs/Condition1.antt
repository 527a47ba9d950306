-- Condition 1: every input is answered or refused by number. For each public function of each crate: any two results that its own contract allows of
-- the same arguments are equal, and so is what is left of each lent buffer (Single); beside a refusal every other value is nought, a lent buffer and a
-- meter are as they came (NAME-settled); the entries of a buffer past the output are never changed, refused or not (NAME-past). Single and Always
-- stand in crates/laws/specs/Single.antt, the noughts in specs/Noughts.antt. When exactly a call is refused, by which number at which place, is told by
-- Grounds.antt. No public function has a `requires`, and none is an exception.
use mathlib.Core.Path.{◌≡◌, refl, sym, ap, ◌∙◌}
use Prim.Native.Nat.{ℕ, ◌+◌, ◌-◌, ◌*◌, ◌/◌, ◌%◌, ◌≤◌, ◌<◌}
use native.Mathlib.Omega.{arith}
use borrow.Fn.Kinds.{ended_of}
use denote.Triple.Clauses.{at_exit}
use lib.IntN.{ℤ, pos}
use lib.ListN.{length, get_or, take, get_or-append}
use lib.Seq.{length-take-le, get_or-take}
use Rattle.laws.specs.Lists.{at}
use Rattle.laws.specs.Single.{Single, Always, Settled}
use Rattle.wide.proofs.Unique.{sum_single, difference_single, at_most_single, product_low_single, product_single, size_single, with_square_single, divided_single, root_single, square_at_most_single}
use Rattle.wide.proofs.sum.Reads as wide-sum
use Rattle.wide.proofs.sum.Kinds as wide-sum-kinds
use Rattle.wide.proofs.difference.Reads as wide-difference
use Rattle.wide.proofs.difference.Kinds as wide-difference-kinds
use Rattle.wide.proofs.at_most.Reads as wide-at-most
use Rattle.wide.proofs.at_most.Kinds as wide-at-most-kinds
use Rattle.wide.proofs.product_low.Reads as wide-product-low
use Rattle.wide.proofs.product_low.Kinds as wide-product-low-kinds
use Rattle.wide.proofs.product.Reads as wide-product
use Rattle.wide.proofs.product.Kinds as wide-product-kinds
use Rattle.wide.proofs.size.Reads as wide-size
use Rattle.wide.proofs.size.Kinds as wide-size-kinds
use Rattle.wide.proofs.with_square.Reads as wide-with-square
use Rattle.wide.proofs.with_square.Kinds as wide-with-square-kinds
use Rattle.wide.proofs.divided.Reads as wide-divided
use Rattle.wide.proofs.divided.Kinds as wide-divided-kinds
use Rattle.wide.proofs.root.Reads as wide-root
use Rattle.wide.proofs.root.Kinds as wide-root-kinds
use Rattle.wide.proofs.square_at_most.Reads as wide-square-at-most
use Rattle.wide.proofs.square_at_most.Kinds as wide-square-at-most-kinds
use Rattle.record.proofs.Unique.{in_range_single, range_refusal_single, size_refusal_single, record_refusal_single, refused_count_single}
use Rattle.record.proofs.in_range.Reads as in-range
use Rattle.record.proofs.in_range.Kinds as in-range-kinds
use Rattle.record.proofs.range_refusal.Reads as range-refusal
use Rattle.record.proofs.range_refusal.Kinds as range-refusal-kinds
use Rattle.record.proofs.size_refusal.Reads as size-refusal
use Rattle.record.proofs.size_refusal.Kinds as size-refusal-kinds
use Rattle.record.proofs.record_refusal.Reads as record-refusal
use Rattle.record.proofs.record_refusal.Kinds as record-refusal-kinds
use Rattle.record.proofs.refused_count.Reads as refused-count
use Rattle.record.proofs.refused_count.Kinds as refused-count-kinds
use Rattle.sums.proofs.Unique.{allan_sum_single, modified_sum_single}
use Rattle.sums.specs.Answers.{allan_sum_answer, modified_sum_answer}
use Rattle.sums.proofs.allan_sum.Reads as allan-sum
use Rattle.sums.proofs.allan_sum.Kinds as allan-sum-kinds
use Rattle.sums.proofs.modified_sum.Reads as modified-sum
use Rattle.sums.proofs.modified_sum.Kinds as modified-sum-kinds
use Rattle.variances.proofs.Unique.{allan_fraction_single, time_fraction_single, allan_deviation_single, time_deviation_single}
use Rattle.variances.specs.Answers.{allan_fraction_answer, time_fraction_answer, allan_deviation_answer, time_deviation_answer}
use Rattle.variances.proofs.allan_fraction.Reads as allan-fraction
use Rattle.variances.proofs.allan_fraction.Kinds as allan-fraction-kinds
use Rattle.variances.proofs.time_fraction.Reads as time-fraction
use Rattle.variances.proofs.time_fraction.Kinds as time-fraction-kinds
use Rattle.variances.proofs.allan_deviation.Reads as allan-deviation
use Rattle.variances.proofs.allan_deviation.Kinds as allan-deviation-kinds
use Rattle.variances.proofs.time_deviation.Reads as time-deviation
use Rattle.variances.proofs.time_deviation.Kinds as time-deviation-kinds
use Rattle.frequency.specs.Frequency.{phases}
use Rattle.frequency.proofs.Unique.{phase_from_frequency_single, phase_from_start_single, frequency_from_phase_single}
use Rattle.frequency.proofs.FrequencyLaws.{phases_from_length, differences_length}
use Rattle.frequency.proofs.phase_from_frequency.Reads as phase-from-frequency
use Rattle.frequency.proofs.phase_from_frequency.Kinds as phase-from-frequency-kinds
use Rattle.frequency.proofs.phase_from_start.Reads as phase-from-start
use Rattle.frequency.proofs.phase_from_start.Kinds as phase-from-start-kinds
use Rattle.frequency.proofs.frequency_from_phase.Reads as frequency-from-phase
use Rattle.frequency.proofs.frequency_from_phase.Kinds as frequency-from-phase-kinds
use Rattle.drift.proofs.Unique.{drift_figure_single, remove_drift_single}
use Rattle.drift.proofs.DriftLaws.{without_drift_length}
use Rattle.drift.proofs.drift_figure.Reads as drift-figure
use Rattle.drift.proofs.drift_figure.Kinds as drift-figure-kinds
use Rattle.drift.proofs.remove_drift.Reads as remove-drift
use Rattle.drift.proofs.remove_drift.Kinds as remove-drift-kinds
use Rattle.readings.proofs.Unique.{float_sums_single}
use Rattle.readings.proofs.float_sums.Reads as float-sums
use Rattle.readings.proofs.float_sums.Kinds as float-sums-kinds
use Rattle.plot.proofs.Unique.{drawn_number_single, allan_dot_single, time_dot_single}
use Rattle.plot.specs.Drawn.{plus_zero}
use Rattle.plot.specs.declared.dots.DotAnswer.{DotAnswer}
use Rattle.plot.proofs.drawn.drawn_number.Reads as drawn-number
use Rattle.plot.proofs.drawn.drawn_number.Kinds as drawn-number-kinds
use Rattle.plot.proofs.dots.allan_dot.Reads as allan-dot
use Rattle.plot.proofs.dots.allan_dot.Kinds as allan-dot-kinds
use Rattle.plot.proofs.dots.time_dot.Reads as time-dot
use Rattle.plot.proofs.dots.time_dot.Kinds as time-dot-kinds
use Rattle.noise.proofs.Unique.{noise_type_single, noise_of_record_single, bars_single}
use Rattle.noise.specs.Noise.{alpha_of, told_alpha}
use Rattle.noise.specs.declared.NoiseAnswer.{NoiseAnswer}
use Rattle.noise.specs.declared.Noise.{Noise}
use Rattle.noise.proofs.noise_type.Reads as noise-type
use Rattle.noise.proofs.noise_type.Kinds as noise-type-kinds
use Rattle.noise.proofs.noise_of_record.Reads as noise-of-record
use Rattle.noise.proofs.noise_of_record.Kinds as noise-of-record-kinds
use Rattle.noise.proofs.bars.bars.Reads as bars
use Rattle.noise.proofs.bars.bars.Kinds as bars-kinds
use Rattle.meter.proofs.Unique.{start_single, sample_single, gap_single, report_single}
use Rattle.meter.specs.Answers.{start_answer, sample_answer, gap_answer}
use Rattle.compare.proofs.quieter.Reads as quieter
use Rattle.compare.proofs.quieter.Kinds as quieter-kinds
use Rattle.compare.proofs.which_quieter.Reads as which-quieter
use Rattle.compare.proofs.which_quieter.Kinds as which-quieter-kinds
use Rattle.channels.proofs.channel_start.Reads as channel-start
use Rattle.channels.proofs.channel_start.Kinds as channel-start-kinds
use Rattle.channels.proofs.channel_sample.Reads as channel-sample
use Rattle.channels.proofs.channel_sample.Kinds as channel-sample-kinds
use Rattle.channels.proofs.channel_gap.Reads as channel-gap
use Rattle.channels.proofs.channel_gap.Kinds as channel-gap-kinds
use Rattle.channels.proofs.channel_report.Reads as channel-report
use Rattle.channels.proofs.channel_report.Kinds as channel-report-kinds
use Rattle.channels.proofs.Bank.start.Reads as bank-start
use Rattle.channels.proofs.Bank.start.Kinds as bank-start-kinds
use Rattle.channels.proofs.Bank.sample.Reads as bank-sample
use Rattle.channels.proofs.Bank.sample.Kinds as bank-sample-kinds
use Rattle.channels.proofs.Bank.gap.Reads as bank-gap
use Rattle.channels.proofs.Bank.gap.Kinds as bank-gap-kinds
use Rattle.channels.proofs.Bank.report.Reads as bank-report
use Rattle.channels.proofs.Bank.report.Kinds as bank-report-kinds
use Rattle.compare.proofs.Unique.{quieter_single, which_quieter_single}
use Rattle.channels.proofs.Unique.{channel_start_single, channel_sample_single, channel_gap_single, channel_report_single}
use Rattle.channels.proofs.Unique as bank
use Rattle.channels.specs.Shares.{meter_of}
use Rattle.channels.specs.Answers.{bank_start_answer, bank_sample_answer, bank_ring_left, bank_gap_answer, bank_report_answer}
use Rattle.meter.proofs.Meter.start.Reads as meter-start
use Rattle.meter.proofs.Meter.start.Kinds as meter-start-kinds
use Rattle.meter.proofs.Meter.sample.Reads as meter-sample
use Rattle.meter.proofs.Meter.sample.Kinds as meter-sample-kinds
use Rattle.meter.proofs.Meter.gap.Reads as meter-gap
use Rattle.meter.proofs.Meter.gap.Kinds as meter-gap-kinds
use Rattle.meter.proofs.Meter.report.Reads as meter-report
use Rattle.meter.proofs.Meter.report.Kinds as meter-report-kinds
use Rattle.phr.proofs.Unique.{read_file_single, write_file_single, read_record_single, write_record_single, read_header_single, good_values_single}
use Rattle.phr.proofs.RoundTrip.{file_length}
use Rattle.phr.proofs.RecordRoundTrip.{file_from_length}
use Rattle.phr.proofs.read_file.Reads as read-file
use Rattle.phr.proofs.read_file.Kinds as read-file-kinds
use Rattle.phr.proofs.write_file.Reads as write-file
use Rattle.phr.proofs.write_file.Kinds as write-file-kinds
use Rattle.phr.proofs.read_record.Reads as read-record
use Rattle.phr.proofs.read_record.Kinds as read-record-kinds
use Rattle.phr.proofs.write_record.Reads as write-record
use Rattle.phr.proofs.write_record.Kinds as write-record-kinds
use Rattle.phr.proofs.read_header.Reads as read-header
use Rattle.phr.proofs.read_header.Kinds as read-header-kinds
use Rattle.phr.proofs.good_values.Reads as good-values
use Rattle.phr.proofs.good_values.Kinds as good-values-kinds
use Rattle.mending.proofs.Unique.{salvage_single}
use Rattle.mending.proofs.salvage.Reads as salvage
use Rattle.mending.proofs.salvage.Kinds as salvage-kinds
use Rattle.decimal.proofs.Unique.{spelled_single}
use Rattle.decimal.proofs.spelled.Reads as spelled
use Rattle.decimal.proofs.spelled.Kinds as spelled-kinds
use Rattle.listing.proofs.Unique.{sheet_record_single, sheet_total_single}
use Rattle.listing.proofs.sheet_record.Reads as sheet-record
use Rattle.listing.proofs.sheet_record.Kinds as sheet-record-kinds
use Rattle.listing.proofs.sheet_total.Reads as sheet-total
use Rattle.listing.proofs.sheet_total.Kinds as sheet-total-kinds
use Rattle.ploegelster.proofs.Unique.{plg_allan_dot_single, plg_time_dot_single, plg_noise_type_single, plg_noise_of_record_single, plg_bars_single}
use Rattle.ploegelster.specs.Boundary.{told_dot, told_noise, bars_by_alpha}
use Rattle.ploegelster.proofs.Told.{type_by_alpha, alpha_of_none}
use Rattle.ploegelster.proofs.published.plg_allan_sum.Reads as plg-allan-sum
use Rattle.ploegelster.proofs.published.plg_modified_sum.Reads as plg-modified-sum
use Rattle.ploegelster.proofs.phases.plg_phase_from_frequency.Reads as plg-phase-from-frequency
use Rattle.ploegelster.proofs.phases.plg_phase_from_start.Reads as plg-phase-from-start
use Rattle.ploegelster.proofs.phases.plg_frequency_from_phase.Reads as plg-frequency-from-phase
use Rattle.ploegelster.proofs.phases.plg_drift_figure.Reads as plg-drift-figure
use Rattle.ploegelster.proofs.phases.plg_remove_drift.Reads as plg-remove-drift
use Rattle.ploegelster.proofs.floats.plg_float_sums.Reads as plg-float-sums
use Rattle.ploegelster.proofs.meters.plg_meter_start.Reads as plg-meter-start
use Rattle.ploegelster.proofs.meters.plg_meter_sample.Reads as plg-meter-sample
use Rattle.ploegelster.proofs.meters.plg_meter_gap.Reads as plg-meter-gap
use Rattle.ploegelster.proofs.meters.plg_meter_report.Reads as plg-meter-report
use Rattle.ploegelster.proofs.meters.plg_channel_start.Reads as plg-channel-start
use Rattle.ploegelster.proofs.meters.plg_channel_sample.Reads as plg-channel-sample
use Rattle.ploegelster.proofs.meters.plg_channel_gap.Reads as plg-channel-gap
use Rattle.ploegelster.proofs.meters.plg_channel_report.Reads as plg-channel-report
use Rattle.ploegelster.proofs.published.plg_quieter.Reads as plg-quieter
use Rattle.ploegelster.proofs.files.plg_read_file.Reads as plg-read-file
use Rattle.ploegelster.proofs.files.plg_write_file.Reads as plg-write-file
use Rattle.ploegelster.proofs.files.plg_read_record.Reads as plg-read-record
use Rattle.ploegelster.proofs.files.plg_write_record.Reads as plg-write-record
use Rattle.ploegelster.proofs.files.plg_salvage.Reads as plg-salvage
use Rattle.ploegelster.proofs.sheets.plg_sheet_record.Reads as plg-sheet-record
use Rattle.ploegelster.proofs.sheets.plg_sheet_total.Reads as plg-sheet-total
use Rattle.ploegelster.proofs.drawing.plg_drawn_number.Reads as plg-drawn-number
use Rattle.ploegelster.proofs.drawing.plg_allan_dot.Reads as plg-allan-dot
use Rattle.ploegelster.proofs.drawing.plg_allan_dot.Kinds as plg-allan-dot-kinds
use Rattle.ploegelster.proofs.drawing.plg_time_dot.Reads as plg-time-dot
use Rattle.ploegelster.proofs.drawing.plg_time_dot.Kinds as plg-time-dot-kinds
use Rattle.ploegelster.proofs.published.plg_allan_fraction.Reads as plg-allan-fraction
use Rattle.ploegelster.proofs.published.plg_time_fraction.Reads as plg-time-fraction
use Rattle.ploegelster.proofs.published.plg_allan_deviation.Reads as plg-allan-deviation
use Rattle.ploegelster.proofs.published.plg_time_deviation.Reads as plg-time-deviation
use Rattle.ploegelster.proofs.drawing.plg_noise_type.Reads as plg-noise-type
use Rattle.ploegelster.proofs.drawing.plg_noise_type.Kinds as plg-noise-type-kinds
use Rattle.ploegelster.proofs.drawing.plg_noise_of_record.Reads as plg-noise-of-record
use Rattle.ploegelster.proofs.drawing.plg_noise_of_record.Kinds as plg-noise-of-record-kinds
use Rattle.ploegelster.proofs.drawing.plg_bars.Reads as plg-bars
use Rattle.ploegelster.proofs.drawing.plg_bars.Kinds as plg-bars-kinds
use Rattle.acceptance.specs.Noughts.{Refused, SumNought, PartsNought, PartsApart, DotNought, BarsNought, OneOf}
use Rattle.acceptance.proofs.NoughtLaws.{count_noughts, past_the_count, read_noughts, past_the_values, record_noughts, past_the_record, sum_noughts, float_noughts, float_part_noughts, past_the_samples, report_noughts, report_part_noughts, drift_noughts, meter_as_it_came, ring_as_it_came, other_slots_unchanged, own_slot_written, drawn_noughts, dot_noughts, told_dot_noughts, fraction_noughts, deviation_noughts, alpha_nought, bars_noughts, alpha_bars_noughts, header_noughts, salvage_noughts, past_the_salvaged, text_noughts, past_the_text, which_nought, one_is_handed}
use Rattle.acceptance.proofs.ChannelCalls.{refused_start_on, refused_sample_on, refused_gap_on, refused_report_on, other_entries_unchanged, own_entry_written, bank_number, refused_bank}
use Rattle.record.proofs.grounds.Ground.at.Reads as result-record-at
use Rattle.record.proofs.grounds.Ground.at.Kinds as result-record-at-kinds
use Rattle.record.proofs.check_range.Reads as result-record-check-range
use Rattle.record.proofs.check_range.Kinds as result-record-check-range-kinds
use Rattle.record.proofs.check_record.Reads as result-record-check-record
use Rattle.record.proofs.check_record.Kinds as result-record-check-record-kinds
use Rattle.record.proofs.check_size.Reads as result-record-check-size
use Rattle.record.proofs.check_size.Kinds as result-record-check-size-kinds
use Rattle.compare.proofs.compared.Reads as result-compare-compared
use Rattle.compare.proofs.compared.Kinds as result-compare-compared-kinds
use Rattle.frequency.proofs.differences.Reads as result-frequency-differences
use Rattle.frequency.proofs.differences.Kinds as result-frequency-differences-kinds
use Rattle.frequency.proofs.phases.Reads as result-frequency-phases
use Rattle.frequency.proofs.phases.Kinds as result-frequency-phases-kinds
use Rattle.drift.proofs.figure.Reads as result-drift-figure
use Rattle.drift.proofs.figure.Kinds as result-drift-figure-kinds
use Rattle.drift.proofs.removed.Reads as result-drift-removed
use Rattle.drift.proofs.removed.Kinds as result-drift-removed-kinds
use Rattle.sums.proofs.allan.Reads as result-sums-allan
use Rattle.sums.proofs.allan.Kinds as result-sums-allan-kinds
use Rattle.sums.proofs.modified.Reads as result-sums-modified
use Rattle.sums.proofs.modified.Kinds as result-sums-modified-kinds
use Rattle.variances.proofs.deviations.allan_root.Reads as result-variances-allan-root
use Rattle.variances.proofs.deviations.allan_root.Kinds as result-variances-allan-root-kinds
use Rattle.variances.proofs.deviations.time_root.Reads as result-variances-time-root
use Rattle.variances.proofs.deviations.time_root.Kinds as result-variances-time-root-kinds
use Rattle.variances.proofs.fractions.allan_variance.Reads as result-variances-allan-variance
use Rattle.variances.proofs.fractions.allan_variance.Kinds as result-variances-allan-variance-kinds
use Rattle.variances.proofs.fractions.time_variance.Reads as result-variances-time-variance
use Rattle.variances.proofs.fractions.time_variance.Kinds as result-variances-time-variance-kinds
use Rattle.readings.proofs.sums_of.Reads as result-readings-sums-of
use Rattle.readings.proofs.sums_of.Kinds as result-readings-sums-of-kinds
use Rattle.plot.proofs.dots.dot_of_allan.Reads as result-plot-dot-of-allan
use Rattle.plot.proofs.dots.dot_of_allan.Kinds as result-plot-dot-of-allan-kinds
use Rattle.plot.proofs.dots.dot_of_time.Reads as result-plot-dot-of-time
use Rattle.plot.proofs.dots.dot_of_time.Kinds as result-plot-dot-of-time-kinds
use Rattle.plot.proofs.drawn.number.Reads as result-plot-number
use Rattle.plot.proofs.drawn.number.Kinds as result-plot-number-kinds
use Rattle.noise.proofs.bars.row.Reads as result-noise-row
use Rattle.noise.proofs.bars.row.Kinds as result-noise-row-kinds
use Rattle.noise.proofs.by_deviations.Reads as result-noise-by-deviations
use Rattle.noise.proofs.by_deviations.Kinds as result-noise-by-deviations-kinds
use Rattle.noise.proofs.of_record.Reads as result-noise-of-record
use Rattle.noise.proofs.of_record.Kinds as result-noise-of-record-kinds
use Rattle.meter.proofs.Meter.after_gap.Reads as result-meter-after-gap
use Rattle.meter.proofs.Meter.after_gap.Kinds as result-meter-after-gap-kinds
use Rattle.meter.proofs.Meter.new.Reads as result-meter-new
use Rattle.meter.proofs.Meter.new.Kinds as result-meter-new-kinds
use Rattle.meter.proofs.Meter.sums.Reads as result-meter-sums
use Rattle.meter.proofs.Meter.sums.Kinds as result-meter-sums-kinds
use Rattle.meter.proofs.Meter.with_sample.Reads as result-meter-with-sample
use Rattle.meter.proofs.Meter.with_sample.Kinds as result-meter-with-sample-kinds
use Rattle.channels.proofs.Bank.after_gap.Reads as result-channels-bank-after-gap
use Rattle.channels.proofs.Bank.after_gap.Kinds as result-channels-bank-after-gap-kinds
use Rattle.channels.proofs.Bank.sums.Reads as result-channels-bank-sums
use Rattle.channels.proofs.Bank.sums.Kinds as result-channels-bank-sums-kinds
use Rattle.channels.proofs.Bank.with_fresh.Reads as result-channels-bank-with-fresh
use Rattle.channels.proofs.Bank.with_fresh.Kinds as result-channels-bank-with-fresh-kinds
use Rattle.channels.proofs.Bank.with_sample.Reads as result-channels-bank-with-sample
use Rattle.channels.proofs.Bank.with_sample.Kinds as result-channels-bank-with-sample-kinds
use Rattle.channels.proofs.after_gap_on.Reads as result-channels-after-gap-on
use Rattle.channels.proofs.after_gap_on.Kinds as result-channels-after-gap-on-kinds
use Rattle.channels.proofs.fresh_on.Reads as result-channels-fresh-on
use Rattle.channels.proofs.fresh_on.Kinds as result-channels-fresh-on-kinds
use Rattle.channels.proofs.sums_on.Reads as result-channels-sums-on
use Rattle.channels.proofs.sums_on.Kinds as result-channels-sums-on-kinds
use Rattle.channels.proofs.with_sample_on.Reads as result-channels-with-sample-on
use Rattle.channels.proofs.with_sample_on.Kinds as result-channels-with-sample-on-kinds
use Rattle.phr.proofs.good.Reads as result-phr-good
use Rattle.phr.proofs.good.Kinds as result-phr-good-kinds
use Rattle.phr.proofs.read.Reads as result-phr-read
use Rattle.phr.proofs.read.Kinds as result-phr-read-kinds
use Rattle.phr.proofs.read_contents.Reads as result-phr-read-contents
use Rattle.phr.proofs.read_contents.Kinds as result-phr-read-contents-kinds
use Rattle.phr.proofs.read_either.Reads as result-phr-read-either
use Rattle.phr.proofs.read_either.Kinds as result-phr-read-either-kinds
use Rattle.phr.proofs.write.Reads as result-phr-write
use Rattle.phr.proofs.write.Kinds as result-phr-write-kinds
use Rattle.phr.proofs.write_from.Reads as result-phr-write-from
use Rattle.phr.proofs.write_from.Kinds as result-phr-write-from-kinds
use Rattle.mending.proofs.mended.Reads as result-mending-mended
use Rattle.mending.proofs.mended.Kinds as result-mending-mended-kinds
use Rattle.listing.proofs.record.Reads as result-listing-record
use Rattle.listing.proofs.record.Kinds as result-listing-record-kinds
use Rattle.listing.proofs.total.Reads as result-listing-total
use Rattle.listing.proofs.total.Kinds as result-listing-total-kinds
use Rattle.record.proofs.Unique.{at_single as result_record_at_single, check_range_single as result_record_check_range_single, check_record_single as result_record_check_record_single, check_size_single as result_record_check_size_single}
use Rattle.compare.proofs.Unique.{compared_single as result_compare_compared_single}
use Rattle.frequency.proofs.Unique.{differences_single as result_frequency_differences_single, phases_single as result_frequency_phases_single}
use Rattle.drift.proofs.Unique.{figure_single as result_drift_figure_single, removed_single as result_drift_removed_single}
use Rattle.sums.proofs.Unique.{allan_single as result_sums_allan_single, modified_single as result_sums_modified_single}
use Rattle.variances.proofs.Unique.{allan_root_single as result_variances_allan_root_single, time_root_single as result_variances_time_root_single, allan_variance_single as result_variances_allan_variance_single, time_variance_single as result_variances_time_variance_single}
use Rattle.readings.proofs.Unique.{sums_of_single as result_readings_sums_of_single}
use Rattle.plot.proofs.Unique.{dot_of_allan_single as result_plot_dot_of_allan_single, dot_of_time_single as result_plot_dot_of_time_single, number_single as result_plot_number_single}
use Rattle.noise.proofs.Unique.{row_single as result_noise_row_single, by_deviations_single as result_noise_by_deviations_single, of_record_single as result_noise_of_record_single}
use Rattle.meter.proofs.Unique.{after_gap_single as result_meter_after_gap_single, new_single as result_meter_new_single, sums_single as result_meter_sums_single, with_sample_single as result_meter_with_sample_single}
use Rattle.channels.proofs.Unique.{after_gap_single as result_channels_after_gap_single, sums_single as result_channels_sums_single, with_fresh_single as result_channels_with_fresh_single, with_sample_single as result_channels_with_sample_single, after_gap_on_single as result_channels_after_gap_on_single, fresh_on_single as result_channels_fresh_on_single, sums_on_single as result_channels_sums_on_single, with_sample_on_single as result_channels_with_sample_on_single}
use Rattle.phr.proofs.Unique.{good_single as result_phr_good_single, read_single as result_phr_read_single, read_contents_single as result_phr_read_contents_single, read_either_single as result_phr_read_either_single, write_single as result_phr_write_single, write_from_single as result_phr_write_from_single}
use Rattle.mending.proofs.Unique.{mended_single as result_mending_mended_single}
use Rattle.listing.proofs.Unique.{record_single as result_listing_record_single, total_single as result_listing_total_single}
use Rattle.record.specs.Told.{count_told}
use Rattle.phr.specs.Told.{read_told, record_told}
use Rattle.mending.specs.Told.{salvage_told}
use Rattle.listing.specs.Told.{text_told}

-- ---- wide: whole numbers of 128 bits; nothing is refused

pub wide_sum_one_answer : Single 0 wide-sum-kinds.ps wide-sum-kinds.r wide-sum.Post
wide_sum_one_answer = sum_single

pub wide_difference_one_answer : Single 0 wide-difference-kinds.ps wide-difference-kinds.r wide-difference.Post
wide_difference_one_answer = difference_single

pub wide_at_most_one_answer : Single 0 wide-at-most-kinds.ps wide-at-most-kinds.r wide-at-most.Post
wide_at_most_one_answer = at_most_single

pub wide_product_low_one_answer : Single 0 wide-product-low-kinds.ps wide-product-low-kinds.r wide-product-low.Post
wide_product_low_one_answer = product_low_single

pub wide_product_one_answer : Single 0 wide-product-kinds.ps wide-product-kinds.r wide-product.Post
wide_product_one_answer = product_single

pub wide_size_one_answer : Single 0 wide-size-kinds.ps wide-size-kinds.r wide-size.Post
wide_size_one_answer = size_single

pub wide_with_square_one_answer : Single 0 wide-with-square-kinds.ps wide-with-square-kinds.r wide-with-square.Post
wide_with_square_one_answer = with_square_single

pub wide_divided_one_answer : Single 0 wide-divided-kinds.ps wide-divided-kinds.r wide-divided.Post
wide_divided_one_answer = divided_single

pub wide_root_one_answer : Single 0 wide-root-kinds.ps wide-root-kinds.r wide-root.Post
wide_root_one_answer = root_single

pub wide_square_at_most_one_answer : Single 0 wide-square-at-most-kinds.ps wide-square-at-most-kinds.r wide-square-at-most.Post
wide_square_at_most_one_answer = square_at_most_single

-- ---- record: the checks; what they answer is a test, a refusal, or a refusal beside nought

pub in_range_one_answer : Single 0 in-range-kinds.ps in-range-kinds.r in-range.Post
in_range_one_answer = in_range_single

pub range_refusal_one_answer : Single 1 range-refusal-kinds.ps range-refusal-kinds.r range-refusal.Post
range_refusal_one_answer = range_refusal_single

pub size_refusal_one_answer : Single 0 size-refusal-kinds.ps size-refusal-kinds.r size-refusal.Post
size_refusal_one_answer = size_refusal_single

pub record_refusal_one_answer : Single 1 record-refusal-kinds.ps record-refusal-kinds.r record-refusal.Post
record_refusal_one_answer = record_refusal_single

pub refused_count_one_answer : Single 0 refused-count-kinds.ps refused-count-kinds.r refused-count.Post
refused_count_one_answer = refused_count_single

-- ---- sums

pub allan_sum_settled : Settled 1 allan-sum-kinds.ps allan-sum-kinds.r allan-sum.Post
    (λ κs args z w. Refused z.number → SumNought z.sum z.count)
unfolding allan_sum_answer
allan_sum_settled = (allan_sum_single, λ κs args z w is. rw is (sum_noughts _ _ _))

pub modified_sum_settled : Settled 1 modified-sum-kinds.ps modified-sum-kinds.r modified-sum.Post
    (λ κs args z w. Refused z.number → SumNought z.sum z.count)
unfolding modified_sum_answer
modified_sum_settled = (modified_sum_single, λ κs args z w is. rw is (sum_noughts _ _ _))

-- ---- compare

pub which_quieter_settled : Settled 2 which-quieter-kinds.ps which-quieter-kinds.r which-quieter.Post (λ κs args z w. Refused z.number → z.which ≡ 0)
which_quieter_settled = (which_quieter_single, λ κs args z w is. rw is (which_nought _ _ _))

-- the record that is handed back is one of the two that were lent, or the empty part of the first
pub quieter_settled : Settled 1 quieter-kinds.ps quieter-kinds.r quieter.Post (λ κs args z w. let first = args.0 in let second = args.1.0 in OneOf first second z)
quieter_settled = (quieter_single, λ κs args z w is. rw is (one_is_handed _ _ _))

-- ---- variances

pub allan_fraction_settled : Settled 0 allan-fraction-kinds.ps allan-fraction-kinds.r allan-fraction.Post
    (λ κs args z w. Refused z.number → SumNought z.numerator z.denominator)
unfolding allan_fraction_answer
allan_fraction_settled = (allan_fraction_single, λ κs args z w is. rw is (fraction_noughts _ _ _))

pub time_fraction_settled : Settled 0 time-fraction-kinds.ps time-fraction-kinds.r time-fraction.Post
    (λ κs args z w. Refused z.number → SumNought z.numerator z.denominator)
unfolding time_fraction_answer
time_fraction_settled = (time_fraction_single, λ κs args z w is. rw is (fraction_noughts _ _ _))

pub allan_deviation_settled : Settled 0 allan-deviation-kinds.ps allan-deviation-kinds.r allan-deviation.Post
    (λ κs args z w. Refused z.number → z.deviation ≡ 0)
unfolding allan_deviation_answer
allan_deviation_settled = (allan_deviation_single, λ κs args z w is. rw is (deviation_noughts _ _))

pub time_deviation_settled : Settled 0 time-deviation-kinds.ps time-deviation-kinds.r time-deviation.Post
    (λ κs args z w. Refused z.number → z.deviation ≡ 0)
unfolding time_deviation_answer
time_deviation_settled = (time_deviation_single, λ κs args z w is. rw is (deviation_noughts _ _))

-- ---- frequency

pub phase_from_frequency_settled : Settled 2 phase-from-frequency-kinds.ps phase-from-frequency-kinds.r phase-from-frequency.Post
    (λ κs args z w. let buffer = args.1.0.now in let left = w.1.0 in Refused z.number → (z.count ≡ 0) × (left ≡ buffer))
phase_from_frequency_settled = (phase_from_frequency_single, λ κs args z w is. rw (is.0, is.1) (count_noughts _ _ _ _))

-- the answer's count is the length of the output, nought where the call is refused
pub phase_from_frequency_past : Always 2 phase-from-frequency-kinds.ps phase-from-frequency-kinds.r phase-from-frequency.Post
    (λ κs args z w. let buffer = args.1.0.now in let left = w.1.0 in (i : ℕ) (e : ℤ) → z.count ≤ i → get_or left i e ≡ get_or buffer i e)
unfolding phases
phase_from_frequency_past κs args z w is = rw (is.0, is.1) (past_the_count _ _ _ _ (phases_from_length _ _))

pub phase_from_start_settled : Settled 2 phase-from-start-kinds.ps phase-from-start-kinds.r phase-from-start.Post
    (λ κs args z w. let buffer = args.1.1.0.now in let left = w.1.1.0 in Refused z.number → (z.count ≡ 0) × (left ≡ buffer))
phase_from_start_settled = (phase_from_start_single, λ κs args z w is. rw (is.0, is.1) (count_noughts _ _ _ _))

pub phase_from_start_past : Always 2 phase-from-start-kinds.ps phase-from-start-kinds.r phase-from-start.Post
    (λ κs args z w. let buffer = args.1.1.0.now in let left = w.1.1.0 in (i : ℕ) (e : ℤ) → z.count ≤ i → get_or left i e ≡ get_or buffer i e)
phase_from_start_past κs args z w is = rw (is.0, is.1) (past_the_count _ _ _ _ (phases_from_length _ _))

pub frequency_from_phase_settled : Settled 2 frequency-from-phase-kinds.ps frequency-from-phase-kinds.r frequency-from-phase.Post
    (λ κs args z w. let buffer = args.1.0.now in let left = w.1.0 in Refused z.number → (z.count ≡ 0) × (left ≡ buffer))
frequency_from_phase_settled = (frequency_from_phase_single, λ κs args z w is. rw (is.0, is.1) (count_noughts _ _ _ _))

pub frequency_from_phase_past : Always 2 frequency-from-phase-kinds.ps frequency-from-phase-kinds.r frequency-from-phase.Post
    (λ κs args z w. let buffer = args.1.0.now in let left = w.1.0 in (i : ℕ) (e : ℤ) → z.count ≤ i → get_or left i e ≡ get_or buffer i e)
frequency_from_phase_past κs args z w is = rw (is.0, is.1) (past_the_count _ _ _ _ (differences_length _))

-- ---- drift

pub drift_figure_settled : Settled 1 drift-figure-kinds.ps drift-figure-kinds.r drift-figure.Post
    (λ κs args z w. Refused z.number → (z.p ≡ pos 0) × (z.r ≡ 0))
drift_figure_settled = (drift_figure_single, λ κs args z w is. rw is (drift_noughts _))

pub remove_drift_settled : Settled 2 remove-drift-kinds.ps remove-drift-kinds.r remove-drift.Post
    (λ κs args z w. let buffer = args.1.0.now in let left = w.1.0 in Refused z.number → (z.count ≡ 0) × (left ≡ buffer))
remove_drift_settled = (remove_drift_single, λ κs args z w is. rw (is.0, is.1) (count_noughts _ _ _ _))

pub remove_drift_past : Always 2 remove-drift-kinds.ps remove-drift-kinds.r remove-drift.Post
    (λ κs args z w. let buffer = args.1.0.now in let left = w.1.0 in (i : ℕ) (e : ℤ) → z.count ≤ i → get_or left i e ≡ get_or buffer i e)
remove_drift_past κs args z w is = rw (is.0, is.1) (past_the_count _ _ _ _ (without_drift_length _))

-- ---- readings

pub float_sums_settled : Settled 2 float-sums-kinds.ps float-sums-kinds.r float-sums.Post
    (λ κs args z w. let buffer = args.1.1.0.now in let left = w.1.1.0 in
    (Refused z.number → PartsNought z.allan z.modified × (z.changed ≡ 0) × (left ≡ buffer))
    × PartsApart z.allan z.modified)
float_sums_settled = (
  float_sums_single,
  λ κs args z w is.
      rw (is.0, is.1) (float_noughts _ _ _, float_part_noughts args.1.0 args.0.now args.1.1.0.now),
)

pub float_sums_past : Always 2 float-sums-kinds.ps float-sums-kinds.r float-sums.Post
    (λ κs args z w. let xs = args.0.now in let buffer = args.1.1.0.now in let left = w.1.1.0 in
    (i : ℕ) (e : ℤ) → length xs ≤ i → get_or left i e ≡ get_or buffer i e)
float_sums_past κs args z w is = rw is.1 (past_the_samples args.1.0 args.0.now args.1.1.0.now)

-- ---- plot: what is drawn

pub drawn_number_settled : Settled 0 drawn-number-kinds.ps drawn-number-kinds.r drawn-number.Post
    (λ κs args z w. Refused z.number → z.value ≡ plus_zero)
drawn_number_settled = (drawn_number_single, λ κs args z w is. rw is (drawn_noughts _))

pub allan_dot_settled : Settled 0 allan-dot-kinds.ps allan-dot-kinds.r allan-dot.Post
    (λ κs args z w. Refused z.number → DotNought z.dot)
allan_dot_settled = (allan_dot_single, λ κs args z w is. rw is (dot_noughts _))

pub time_dot_settled : Settled 0 time-dot-kinds.ps time-dot-kinds.r time-dot.Post
    (λ κs args z w. Refused z.number → DotNought z.dot)
time_dot_settled = (time_dot_single, λ κs args z w is. rw is (dot_noughts _))

-- ---- noise: a type is one of five cases and none of them is nought; what an answer tells of it is nought beside a refusal, here as in C

pub noise_type_settled : Settled 0 noise-type-kinds.ps noise-type-kinds.r noise-type.Post
    (λ κs args z w. Refused z.number → told_alpha z ≡ pos 0)
noise_type_settled = (noise_type_single, λ κs args z w is. alpha_nought z)

pub noise_of_record_settled : Settled 1 noise-of-record-kinds.ps noise-of-record-kinds.r noise-of-record.Post
    (λ κs args z w. Refused z.number → told_alpha z ≡ pos 0)
noise_of_record_settled = (noise_of_record_single, λ κs args z w is. alpha_nought z)

pub bars_settled : Settled 0 bars-kinds.ps bars-kinds.r bars.Post
    (λ κs args z w. Refused z.number → BarsNought z)
bars_settled = (bars_single, λ κs args z w is. rw is (bars_noughts _ _ _))

-- ---- meter: a ring that is lent for a start is read alone

pub meter_start_settled : Settled 1 meter-start-kinds.ps meter-start-kinds.r meter-start.Post
    (λ κs args z w. let old = args.0 in Refused z.number → z.meter ≡ old)
unfolding start_answer
meter_start_settled = (start_single, λ κs args z w is. rw is (meter_as_it_came _ _ _))

pub meter_sample_settled : Settled 1 meter-sample-kinds.ps meter-sample-kinds.r meter-sample.Post
    (λ κs args z w. let x = args.0 in let ring = args.1.0.now in let left = w.1.0 in Refused z.number → (z.meter ≡ x) × (left ≡ ring))
unfolding sample_answer
meter_sample_settled = (sample_single, λ κs args z w is. rw (is.0, is.1) (λ some. (meter_as_it_came _ _ _ some, ring_as_it_came _ _ _ some)))

-- a sample call changes no slot of the ring but its own, s mod 3m
pub meter_sample_past : Always 1 meter-sample-kinds.ps meter-sample-kinds.r meter-sample.Post
    (λ κs args z w. let x = args.0 in let ring = args.1.0.now in let left = w.1.0 in
    (i : ℕ) (e : ℤ) → (i ≡ x.stretch % (3 * x.m) → ⊥) → get_or left i e ≡ get_or ring i e)
meter_sample_past κs args z w is = rw is.1 (other_slots_unchanged _ _ _)

-- an accepted sample stands in that slot
pub meter_sample_slot : Always 1 meter-sample-kinds.ps meter-sample-kinds.r meter-sample.Post
    (λ κs args z w. let x = args.0 in let v = args.1.1.0 in let left = w.1.0 in z.number ≡ 0 → at left (x.stretch % (3 * x.m)) ≡ v)
meter_sample_slot κs args z w is = rw (is.0, is.1) (own_slot_written _ _ _)

pub meter_gap_settled : Settled 0 meter-gap-kinds.ps meter-gap-kinds.r meter-gap.Post (λ κs args z w. let x = args.0 in Refused z.number → z.meter ≡ x)
unfolding gap_answer
meter_gap_settled = (gap_single, λ κs args z w is. rw is (meter_as_it_came _ _ _))

-- a 1 for one part is no refusal of the call: the values of that part are noughts
pub meter_report_settled : Settled 0 meter-report-kinds.ps meter-report-kinds.r meter-report.Post
    (λ κs args z w. (Refused z.number → PartsNought z.allan z.modified)
    × PartsApart z.allan z.modified)
meter_report_settled = (report_single, λ κs args z w is. rw is (report_noughts _, report_part_noughts _))

-- ---- channels

pub channel_start_settled : Settled 1 channel-start-kinds.ps channel-start-kinds.r channel-start.Post
    (λ κs args z w. let old = args.0 in Refused z.number → z.meter ≡ old)
channel_start_settled = (channel_start_single, λ κs args z w is. rw is (refused_start_on _ _ _ _))

pub channel_sample_settled : Settled 1 channel-sample-kinds.ps channel-sample-kinds.r channel-sample.Post
    (λ κs args z w. let x = args.0 in let ring = args.1.1.0.now in let left = w.1.1.0 in Refused z.number → (z.meter ≡ x) × (left ≡ ring))
channel_sample_settled = (channel_sample_single, λ κs args z w is. rw (is.0, is.1) (refused_sample_on _ _ _ _))

-- a sample call on channel c changes no entry of the ring but slot s mod 3m of the channel's part, which begins at c times the share
pub channel_sample_past : Always 1 channel-sample-kinds.ps channel-sample-kinds.r channel-sample.Post
    (λ κs args z w. let x = args.0 in let c = args.1.0 in let ring = args.1.1.0.now in let left = w.1.1.0 in
    (i : ℕ) (e : ℤ) → (i ≡ c * (length ring / 16) + x.stretch % (3 * x.m) → ⊥) → get_or left i e ≡ get_or ring i e)
channel_sample_past κs args z w is = rw is.1 (other_entries_unchanged _ _ _ _)

-- an accepted sample stands in that slot
pub channel_sample_slot : Always 1 channel-sample-kinds.ps channel-sample-kinds.r channel-sample.Post
    (λ κs args z w. let x = args.0 in let c = args.1.0 in let ring = args.1.1.0.now in let v = args.1.1.1.0 in let left = w.1.1.0 in
    z.number ≡ 0 → at left (c * (length ring / 16) + x.stretch % (3 * x.m)) ≡ v)
channel_sample_slot κs args z w is = rw (is.0, is.1) (own_entry_written _ _ _ _)

pub channel_gap_settled : Settled 0 channel-gap-kinds.ps channel-gap-kinds.r channel-gap.Post (λ κs args z w. let x = args.0 in Refused z.number → z.meter ≡ x)
channel_gap_settled = (channel_gap_single, λ κs args z w is. rw is (refused_gap_on _ _))

pub channel_report_settled : Settled 0 channel-report-kinds.ps channel-report-kinds.r channel-report.Post
    (λ κs args z w. (Refused z.number → PartsNought z.allan z.modified) × PartsApart z.allan z.modified)
channel_report_settled = (channel_report_single, λ κs args z w is. rw is (refused_report_on _ _))

-- a bank comes back as it came
pub bank_start_settled : Settled 1 bank-start-kinds.ps bank-start-kinds.r bank-start.Post
    (λ κs args z w. let b = args.0 in Refused z.number → z.bank ≡ b)
unfolding bank_start_answer
bank_start_settled = (bank.start_single, λ κs args z w is. refused_bank _ _ _ is)

pub bank_sample_settled : Settled 1 bank-sample-kinds.ps bank-sample-kinds.r bank-sample.Post
    (λ κs args z w. let b = args.0 in let ring = args.1.1.0.now in let left = w.1.1.0 in Refused z.number → (z.bank ≡ b) × (left ≡ ring))
unfolding bank_sample_answer bank_ring_left
bank_sample_settled = (
  bank.sample_single,
  λ κs args z w is some. (refused_bank _ _ _ is.0 some, is.1 ∙ (refused_sample_on _ _ _ _ (λ zero. some (bank_number _ _ _ is.0 ∙ zero))).1),
)

pub bank_sample_past : Always 1 bank-sample-kinds.ps bank-sample-kinds.r bank-sample.Post
    (λ κs args z w. let x = meter_of args.0 args.1.0 in let c = args.1.0 in let ring = args.1.1.0.now in let left = w.1.1.0 in
    (i : ℕ) (e : ℤ) → (i ≡ c * (length ring / 16) + x.stretch % (3 * x.m) → ⊥) → get_or left i e ≡ get_or ring i e)
unfolding bank_ring_left
bank_sample_past κs args z w is = rw is.1 (other_entries_unchanged _ _ _ _)

pub bank_gap_settled : Settled 0 bank-gap-kinds.ps bank-gap-kinds.r bank-gap.Post (λ κs args z w. let b = args.0 in Refused z.number → z.bank ≡ b)
unfolding bank_gap_answer
bank_gap_settled = (bank.gap_single, λ κs args z w is. refused_bank _ _ _ is)

pub bank_report_settled : Settled 0 bank-report-kinds.ps bank-report-kinds.r bank-report.Post
    (λ κs args z w. (Refused z.number → PartsNought z.allan z.modified) × PartsApart z.allan z.modified)
unfolding bank_report_answer
bank_report_settled = (bank.report_single, λ κs args z w is. rw is (refused_report_on _ _))

-- ---- phr

pub read_file_settled : Settled 2 read-file-kinds.ps read-file-kinds.r read-file.Post
    (λ κs args z w. let buffer = args.1.0.now in let left = w.1.0 in Refused z.number → (z.kind ≡ 0) × (z.count ≡ 0) × (left ≡ buffer))
read_file_settled = (read_file_single, λ κs args z w is. rw (is.0, is.1) (read_noughts _ _))

pub read_file_past : Always 2 read-file-kinds.ps read-file-kinds.r read-file.Post
    (λ κs args z w. let buffer = args.1.0.now in let left = w.1.0 in (i : ℕ) (e : ℤ) → z.count ≤ i → get_or left i e ≡ get_or buffer i e)
read_file_past κs args z w is = rw (is.0, is.1) (past_the_values args.0.now args.1.0.now)

pub write_file_settled : Settled 2 write-file-kinds.ps write-file-kinds.r write-file.Post
    (λ κs args z w. let buffer = args.1.1.0.now in let left = w.1.1.0 in Refused z.number → (z.count ≡ 0) × (left ≡ buffer))
write_file_settled = (write_file_single, λ κs args z w is. rw (is.0, is.1) (count_noughts _ _ _ _))

pub write_file_past : Always 2 write-file-kinds.ps write-file-kinds.r write-file.Post
    (λ κs args z w. let buffer = args.1.1.0.now in let left = w.1.1.0 in (i : ℕ) (e : ℕ) → z.count ≤ i → get_or left i e ≡ get_or buffer i e)
write_file_past κs args z w is = rw (is.0, is.1) (past_the_count _ _ _ _ (file_length _ _))

pub read_record_settled : Settled 2 read-record-kinds.ps read-record-kinds.r read-record.Post
    (λ κs args z w. let buffer = args.1.0.now in let left = w.1.0 in
    Refused z.number → (z.version ≡ 0) × (z.kind ≡ 0) × (z.start ≡ pos 0) × (z.count ≡ 0) × (left ≡ buffer))
read_record_settled = (read_record_single, λ κs args z w is. rw (is.0, is.1) (record_noughts _ _))

pub read_record_past : Always 2 read-record-kinds.ps read-record-kinds.r read-record.Post
    (λ κs args z w. let buffer = args.1.0.now in let left = w.1.0 in (i : ℕ) (e : ℤ) → z.count ≤ i → get_or left i e ≡ get_or buffer i e)
read_record_past κs args z w is = rw (is.0, is.1) (past_the_record args.0.now args.1.0.now)

pub write_record_settled : Settled 2 write-record-kinds.ps write-record-kinds.r write-record.Post
    (λ κs args z w. let buffer = args.1.1.1.0.now in let left = w.1.1.1.0 in Refused z.number → (z.count ≡ 0) × (left ≡ buffer))
write_record_settled = (write_record_single, λ κs args z w is. rw (is.0, is.1) (count_noughts _ _ _ _))

pub write_record_past : Always 2 write-record-kinds.ps write-record-kinds.r write-record.Post
    (λ κs args z w. let buffer = args.1.1.1.0.now in let left = w.1.1.1.0 in (i : ℕ) (e : ℕ) → z.count ≤ i → get_or left i e ≡ get_or buffer i e)
write_record_past κs args z w is = rw (is.0, is.1) (past_the_count _ _ _ _ (file_from_length _ _ _))

pub read_header_settled : Settled 1 read-header-kinds.ps read-header-kinds.r read-header.Post
    (λ κs args z w. Refused z.number → (z.version ≡ 0) × (z.kind ≡ 0) × (z.start ≡ pos 0) × (z.count ≡ 0))
read_header_settled = (read_header_single, λ κs args z w is. rw is (header_noughts _))

-- it refuses nothing
pub good_values_one_answer : Single 1 good-values-kinds.ps good-values-kinds.r good-values.Post
good_values_one_answer = good_values_single

-- ---- mending

pub salvage_settled : Settled 2 salvage-kinds.ps salvage-kinds.r salvage.Post
    (λ κs args z w. let buffer = args.1.0.now in let left = w.1.0 in
    Refused z.number → (z.old_count ≡ 0) × (z.new_count ≡ 0) × (z.left_over ≡ 0) × (z.met ≡ 0) × (left ≡ buffer))
salvage_settled = (salvage_single, λ κs args z w is. rw (is.0, is.1) (salvage_noughts _ _))

-- the new file has the input's length less what is left over
pub salvage_past : Always 2 salvage-kinds.ps salvage-kinds.r salvage.Post
    (λ κs args z w. let bytes = args.0.now in let buffer = args.1.0.now in let left = w.1.0 in
    (i e : ℕ) → length bytes - z.left_over ≤ i → get_or left i e ≡ get_or buffer i e)
salvage_past κs args z w is = rw (is.0, is.1) (past_the_salvaged args.0.now args.1.0.now)

-- ---- decimal, listing

-- it refuses nothing
pub spelled_one_answer : Single 1 spelled-kinds.ps spelled-kinds.r spelled.Post
spelled_one_answer = spelled_single

-- the digits stand at the end of the array, which has 39 bytes; what stands before them is as it was
pub spelled_past : Always 1 spelled-kinds.ps spelled-kinds.r spelled.Post
    (λ κs args z w. let digits = args.1.0.now in length digits ≡ 39 → (i e : ℕ) → i < z → get_or w.1.0 i e ≡ get_or digits i e)
spelled_past κs args z w is long i e h =
    let digits = args.1.0.now in
    let front = length-take-le z digits (omega (arith, is.0)) in
    rw is.1 (get_or-append (take z digits) _ e i (omega (arith, front)) ∙ get_or-take z digits i e h)

-- the totals come back as they were handed in
pub sheet_record_settled : Settled 2 sheet-record-kinds.ps sheet-record-kinds.r sheet-record.Post
    (λ κs args z w. let totals = args.1.0 in let buffer = args.1.1.0.now in let left = w.1.1.0 in
    Refused z.number → (z.length ≡ 0) × (z.totals ≡ totals) × (left ≡ buffer))
sheet_record_settled = (sheet_record_single, λ κs args z w is. rw (is.0, is.1) (text_noughts _ _ _))

pub sheet_record_past : Always 2 sheet-record-kinds.ps sheet-record-kinds.r sheet-record.Post
    (λ κs args z w. let buffer = args.1.1.0.now in let left = w.1.1.0 in (i e : ℕ) → z.length ≤ i → get_or left i e ≡ get_or buffer i e)
sheet_record_past κs args z w is = rw (is.0, is.1) (past_the_text args.0.now args.1.0 args.1.1.0.now)

pub sheet_total_settled : Settled 1 sheet-total-kinds.ps sheet-total-kinds.r sheet-total.Post
    (λ κs args z w. let buffer = args.1.0.now in let left = w.1.0 in Refused z.number → (z.count ≡ 0) × (left ≡ buffer))
sheet_total_settled = (sheet_total_single, λ κs args z w is. rw (is.0, is.1) (count_noughts _ _ _ _))

pub sheet_total_past : Always 1 sheet-total-kinds.ps sheet-total-kinds.r sheet-total.Post
    (λ κs args z w. let buffer = args.1.0.now in let left = w.1.0 in (i e : ℕ) → z.count ≤ i → get_or left i e ≡ get_or buffer i e)
sheet_total_past κs args z w is = rw (is.0, is.1) (past_the_count _ _ _ _ refl)

-- ---- ploegelster, the library that an app links: each contract is the entry's own (NAME-is), so that all that is said of the entry holds of it

pub plg_allan_sum_is : plg-allan-sum.Post ≡ allan-sum.Post
plg_allan_sum_is = refl

pub plg_modified_sum_is : plg-modified-sum.Post ≡ modified-sum.Post
plg_modified_sum_is = refl

pub plg_quieter_is : plg-quieter.Post ≡ which-quieter.Post
plg_quieter_is = refl

pub plg_allan_fraction_is : plg-allan-fraction.Post ≡ allan-fraction.Post
plg_allan_fraction_is = refl

pub plg_time_fraction_is : plg-time-fraction.Post ≡ time-fraction.Post
plg_time_fraction_is = refl

pub plg_allan_deviation_is : plg-allan-deviation.Post ≡ allan-deviation.Post
plg_allan_deviation_is = refl

pub plg_time_deviation_is : plg-time-deviation.Post ≡ time-deviation.Post
plg_time_deviation_is = refl

pub plg_phase_from_frequency_is : plg-phase-from-frequency.Post ≡ phase-from-frequency.Post
plg_phase_from_frequency_is = refl

pub plg_phase_from_start_is : plg-phase-from-start.Post ≡ phase-from-start.Post
plg_phase_from_start_is = refl

pub plg_frequency_from_phase_is : plg-frequency-from-phase.Post ≡ frequency-from-phase.Post
plg_frequency_from_phase_is = refl

pub plg_drift_figure_is : plg-drift-figure.Post ≡ drift-figure.Post
plg_drift_figure_is = refl

pub plg_remove_drift_is : plg-remove-drift.Post ≡ remove-drift.Post
plg_remove_drift_is = refl

pub plg_float_sums_is : plg-float-sums.Post ≡ float-sums.Post
plg_float_sums_is = refl

pub plg_drawn_number_is : plg-drawn-number.Post ≡ drawn-number.Post
plg_drawn_number_is = refl

-- in C a dot is told as a kind and a double, whatever dot the entry's contract allows
pub plg_allan_dot_tells : Always 0 plg-allan-dot-kinds.ps plg-allan-dot-kinds.r plg-allan-dot.Post
    (λ κs args z w. (own : DotAnswer) → allan-dot.Post κs args own (at_exit (ended_of 0 allan-dot-kinds.ps allan-dot-kinds.r) κs args w) → z ≡ told_dot own)
plg_allan_dot_tells κs args z w is own other = is ∙ sym (ap told_dot other)

pub plg_allan_dot_settled : Settled 0 plg-allan-dot-kinds.ps plg-allan-dot-kinds.r plg-allan-dot.Post
    (λ κs args z w. Refused z.number → (z.kind ≡ 0) × (z.value ≡ plus_zero))
plg_allan_dot_settled = (plg_allan_dot_single, λ κs args z w is. rw is (told_dot_noughts _))

pub plg_time_dot_tells : Always 0 plg-time-dot-kinds.ps plg-time-dot-kinds.r plg-time-dot.Post
    (λ κs args z w. (own : DotAnswer) → time-dot.Post κs args own (at_exit (ended_of 0 time-dot-kinds.ps time-dot-kinds.r) κs args w) → z ≡ told_dot own)
plg_time_dot_tells κs args z w is own other = is ∙ sym (ap told_dot other)

pub plg_time_dot_settled : Settled 0 plg-time-dot-kinds.ps plg-time-dot-kinds.r plg-time-dot.Post
    (λ κs args z w. Refused z.number → (z.kind ≡ 0) × (z.value ≡ plus_zero))
plg_time_dot_settled = (plg_time_dot_single, λ κs args z w is. rw is (told_dot_noughts _))

-- in C a noise type is told as its alpha, and bars take an alpha
pub plg_noise_type_tells : Always 0 plg-noise-type-kinds.ps plg-noise-type-kinds.r plg-noise-type.Post
    (λ κs args z w. (own : NoiseAnswer) → noise-type.Post κs args own (at_exit (ended_of 0 noise-type-kinds.ps noise-type-kinds.r) κs args w) → z ≡ told_noise own)
plg_noise_type_tells κs args z w is own other = is ∙ sym (ap told_noise other)

pub plg_noise_type_settled : Settled 0 plg-noise-type-kinds.ps plg-noise-type-kinds.r plg-noise-type.Post
    (λ κs args z w. Refused z.number → z.alpha ≡ pos 0)
unfolding told_noise
plg_noise_type_settled = (plg_noise_type_single, λ κs args z w is. rw is (alpha_nought _))

pub plg_noise_of_record_tells : Always 1 plg-noise-of-record-kinds.ps plg-noise-of-record-kinds.r plg-noise-of-record.Post
    (λ κs args z w. (own : NoiseAnswer) → noise-of-record.Post κs args own (at_exit (ended_of 1 noise-of-record-kinds.ps noise-of-record-kinds.r) κs args w) → z ≡ told_noise own)
plg_noise_of_record_tells κs args z w is own other = is ∙ sym (ap told_noise other)

pub plg_noise_of_record_settled : Settled 1 plg-noise-of-record-kinds.ps plg-noise-of-record-kinds.r plg-noise-of-record.Post
    (λ κs args z w. Refused z.number → z.alpha ≡ pos 0)
unfolding told_noise
plg_noise_of_record_settled = (plg_noise_of_record_single, λ κs args z w is. rw is (alpha_nought _))

-- an alpha stands for the type that has it
pub plg_bars_tells : Always 0 plg-bars-kinds.ps plg-bars-kinds.r plg-bars.Post
    (λ κs args z w. let r = args.0 in let alpha = args.1.0 in let M = args.1.1.0 in
    (t : Noise) → alpha ≡ alpha_of t → Always 0 bars-kinds.ps bars-kinds.r bars.Post
    (λ κs' args' own w'. args'.0 ≡ r → args'.1.0 ≡ t → args'.1.1.0 ≡ M → z ≡ own))
plg_bars_tells κs args z w is t known κs' args' own w' other first type intervals =
    is
    ∙ ap (λ (a : ℤ). bars_by_alpha args.0 a args.1.1.0) known
    ∙ type_by_alpha args.0 t args.1.1.0
    ∙ sym (other ∙ rw (first, type, intervals))

-- any other is refused 3 at place 0, before all else
pub plg_bars_no_type : Always 0 plg-bars-kinds.ps plg-bars-kinds.r plg-bars.Post
    (λ κs args z w. let alpha = args.1.0 in ((t : Noise) → alpha ≡ alpha_of t → ⊥) → (z.number ≡ 3) × (z.place ≡ 0))
plg_bars_no_type κs args z w is none = rw is (alpha_of_none _ _ _ none)

pub plg_bars_settled : Settled 0 plg-bars-kinds.ps plg-bars-kinds.r plg-bars.Post
    (λ κs args z w. Refused z.number → BarsNought z)
plg_bars_settled = (plg_bars_single, λ κs args z w is. rw is (alpha_bars_noughts _ _ _))

pub plg_meter_start_is : plg-meter-start.Post ≡ meter-start.Post
plg_meter_start_is = refl

pub plg_meter_sample_is : plg-meter-sample.Post ≡ meter-sample.Post
plg_meter_sample_is = refl

pub plg_meter_gap_is : plg-meter-gap.Post ≡ meter-gap.Post
plg_meter_gap_is = refl

pub plg_meter_report_is : plg-meter-report.Post ≡ meter-report.Post
plg_meter_report_is = refl

pub plg_channel_start_is : plg-channel-start.Post ≡ channel-start.Post
plg_channel_start_is = refl

pub plg_channel_sample_is : plg-channel-sample.Post ≡ channel-sample.Post
plg_channel_sample_is = refl

pub plg_channel_gap_is : plg-channel-gap.Post ≡ channel-gap.Post
plg_channel_gap_is = refl

pub plg_channel_report_is : plg-channel-report.Post ≡ channel-report.Post
plg_channel_report_is = refl

pub plg_read_file_is : plg-read-file.Post ≡ read-file.Post
plg_read_file_is = refl

pub plg_write_file_is : plg-write-file.Post ≡ write-file.Post
plg_write_file_is = refl

pub plg_read_record_is : plg-read-record.Post ≡ read-record.Post
plg_read_record_is = refl

pub plg_write_record_is : plg-write-record.Post ≡ write-record.Post
plg_write_record_is = refl

pub plg_salvage_is : plg-salvage.Post ≡ salvage.Post
plg_salvage_is = refl

pub plg_sheet_record_is : plg-sheet-record.Post ≡ sheet-record.Post
plg_sheet_record_is = refl

pub plg_sheet_total_is : plg-sheet-total.Post ≡ sheet-total.Post
plg_sheet_total_is = refl

-- ---- as a Result, for callers in Rattle: one answer, and what stands past the output is unchanged; what an entry tells C is said of the entry above

pub result_record_at_one_answer : Single 0 result-record-at-kinds.ps result-record-at-kinds.r result-record-at.Post
result_record_at_one_answer = result_record_at_single

pub result_record_check_range_one_answer : Single 1 result-record-check-range-kinds.ps result-record-check-range-kinds.r result-record-check-range.Post
result_record_check_range_one_answer = result_record_check_range_single

pub result_record_check_record_one_answer : Single 1 result-record-check-record-kinds.ps result-record-check-record-kinds.r result-record-check-record.Post
result_record_check_record_one_answer = result_record_check_record_single

pub result_record_check_size_one_answer : Single 0 result-record-check-size-kinds.ps result-record-check-size-kinds.r result-record-check-size.Post
result_record_check_size_one_answer = result_record_check_size_single

pub result_compare_compared_one_answer : Single 2 result-compare-compared-kinds.ps result-compare-compared-kinds.r result-compare-compared.Post
result_compare_compared_one_answer = result_compare_compared_single

pub result_frequency_differences_one_answer : Single 2 result-frequency-differences-kinds.ps result-frequency-differences-kinds.r result-frequency-differences.Post
result_frequency_differences_one_answer = result_frequency_differences_single

pub result_frequency_differences_past : Always 2 result-frequency-differences-kinds.ps result-frequency-differences-kinds.r result-frequency-differences.Post
    (λ κs args z w. let buffer = args.1.0.now in let left = w.1.0 in (i : ℕ) (e : ℤ) → (count_told z).count ≤ i → get_or left i e ≡ get_or buffer i e)
result_frequency_differences_past κs args z w is = rw (is.0, is.1) (past_the_count _ _ _ _ (differences_length _))

pub result_frequency_phases_one_answer : Single 2 result-frequency-phases-kinds.ps result-frequency-phases-kinds.r result-frequency-phases.Post
result_frequency_phases_one_answer = result_frequency_phases_single

pub result_frequency_phases_past : Always 2 result-frequency-phases-kinds.ps result-frequency-phases-kinds.r result-frequency-phases.Post
    (λ κs args z w. let buffer = args.1.1.0.now in let left = w.1.1.0 in (i : ℕ) (e : ℤ) → (count_told z).count ≤ i → get_or left i e ≡ get_or buffer i e)
result_frequency_phases_past κs args z w is = rw (is.0, is.1) (past_the_count _ _ _ _ (phases_from_length _ _))

pub result_drift_figure_one_answer : Single 1 result-drift-figure-kinds.ps result-drift-figure-kinds.r result-drift-figure.Post
result_drift_figure_one_answer = result_drift_figure_single

pub result_drift_removed_one_answer : Single 2 result-drift-removed-kinds.ps result-drift-removed-kinds.r result-drift-removed.Post
result_drift_removed_one_answer = result_drift_removed_single

pub result_drift_removed_past : Always 2 result-drift-removed-kinds.ps result-drift-removed-kinds.r result-drift-removed.Post
    (λ κs args z w. let buffer = args.1.0.now in let left = w.1.0 in (i : ℕ) (e : ℤ) → (count_told z).count ≤ i → get_or left i e ≡ get_or buffer i e)
result_drift_removed_past κs args z w is = rw (is.0, is.1) (past_the_count _ _ _ _ (without_drift_length _))

pub result_sums_allan_one_answer : Single 1 result-sums-allan-kinds.ps result-sums-allan-kinds.r result-sums-allan.Post
result_sums_allan_one_answer = result_sums_allan_single

pub result_sums_modified_one_answer : Single 1 result-sums-modified-kinds.ps result-sums-modified-kinds.r result-sums-modified.Post
result_sums_modified_one_answer = result_sums_modified_single

pub result_variances_allan_root_one_answer : Single 0 result-variances-allan-root-kinds.ps result-variances-allan-root-kinds.r result-variances-allan-root.Post
result_variances_allan_root_one_answer = result_variances_allan_root_single

pub result_variances_time_root_one_answer : Single 0 result-variances-time-root-kinds.ps result-variances-time-root-kinds.r result-variances-time-root.Post
result_variances_time_root_one_answer = result_variances_time_root_single

pub result_variances_allan_variance_one_answer : Single 0 result-variances-allan-variance-kinds.ps result-variances-allan-variance-kinds.r result-variances-allan-variance.Post
result_variances_allan_variance_one_answer = result_variances_allan_variance_single

pub result_variances_time_variance_one_answer : Single 0 result-variances-time-variance-kinds.ps result-variances-time-variance-kinds.r result-variances-time-variance.Post
result_variances_time_variance_one_answer = result_variances_time_variance_single

pub result_readings_sums_of_one_answer : Single 2 result-readings-sums-of-kinds.ps result-readings-sums-of-kinds.r result-readings-sums-of.Post
result_readings_sums_of_one_answer = result_readings_sums_of_single

pub result_readings_sums_of_past : Always 2 result-readings-sums-of-kinds.ps result-readings-sums-of-kinds.r result-readings-sums-of.Post
    (λ κs args z w. let xs = args.0.now in let buffer = args.1.1.0.now in let left = w.1.1.0 in
    (i : ℕ) (e : ℤ) → length xs ≤ i → get_or left i e ≡ get_or buffer i e)
result_readings_sums_of_past κs args z w is = rw is.1 (past_the_samples args.1.0 args.0.now args.1.1.0.now)

pub result_plot_dot_of_allan_one_answer : Single 0 result-plot-dot-of-allan-kinds.ps result-plot-dot-of-allan-kinds.r result-plot-dot-of-allan.Post
result_plot_dot_of_allan_one_answer = result_plot_dot_of_allan_single

pub result_plot_dot_of_time_one_answer : Single 0 result-plot-dot-of-time-kinds.ps result-plot-dot-of-time-kinds.r result-plot-dot-of-time.Post
result_plot_dot_of_time_one_answer = result_plot_dot_of_time_single

pub result_plot_number_one_answer : Single 0 result-plot-number-kinds.ps result-plot-number-kinds.r result-plot-number.Post
result_plot_number_one_answer = result_plot_number_single

pub result_noise_row_one_answer : Single 0 result-noise-row-kinds.ps result-noise-row-kinds.r result-noise-row.Post
result_noise_row_one_answer = result_noise_row_single

pub result_noise_by_deviations_one_answer : Single 0 result-noise-by-deviations-kinds.ps result-noise-by-deviations-kinds.r result-noise-by-deviations.Post
result_noise_by_deviations_one_answer = result_noise_by_deviations_single

pub result_noise_of_record_one_answer : Single 1 result-noise-of-record-kinds.ps result-noise-of-record-kinds.r result-noise-of-record.Post
result_noise_of_record_one_answer = result_noise_of_record_single

pub result_meter_after_gap_one_answer : Single 0 result-meter-after-gap-kinds.ps result-meter-after-gap-kinds.r result-meter-after-gap.Post
result_meter_after_gap_one_answer = result_meter_after_gap_single

pub result_meter_new_one_answer : Single 1 result-meter-new-kinds.ps result-meter-new-kinds.r result-meter-new.Post
result_meter_new_one_answer = result_meter_new_single

pub result_meter_sums_one_answer : Single 0 result-meter-sums-kinds.ps result-meter-sums-kinds.r result-meter-sums.Post
result_meter_sums_one_answer = result_meter_sums_single

pub result_meter_with_sample_one_answer : Single 1 result-meter-with-sample-kinds.ps result-meter-with-sample-kinds.r result-meter-with-sample.Post
result_meter_with_sample_one_answer = result_meter_with_sample_single

pub result_meter_with_sample_past : Always 1 result-meter-with-sample-kinds.ps result-meter-with-sample-kinds.r result-meter-with-sample.Post
    (λ κs args z w. let x = args.0 in let ring = args.1.0.now in let left = w.1.0 in
    (i : ℕ) (e : ℤ) → (i ≡ x.stretch % (3 * x.m) → ⊥) → get_or left i e ≡ get_or ring i e)
result_meter_with_sample_past κs args z w is = rw is.1 (other_slots_unchanged _ _ _)

pub result_channels_bank_after_gap_one_answer : Single 0 result-channels-bank-after-gap-kinds.ps result-channels-bank-after-gap-kinds.r result-channels-bank-after-gap.Post
result_channels_bank_after_gap_one_answer = result_channels_after_gap_single

pub result_channels_bank_sums_one_answer : Single 0 result-channels-bank-sums-kinds.ps result-channels-bank-sums-kinds.r result-channels-bank-sums.Post
result_channels_bank_sums_one_answer = result_channels_sums_single

pub result_channels_bank_with_fresh_one_answer : Single 1 result-channels-bank-with-fresh-kinds.ps result-channels-bank-with-fresh-kinds.r result-channels-bank-with-fresh.Post
result_channels_bank_with_fresh_one_answer = result_channels_with_fresh_single

pub result_channels_bank_with_sample_one_answer : Single 1 result-channels-bank-with-sample-kinds.ps result-channels-bank-with-sample-kinds.r result-channels-bank-with-sample.Post
result_channels_bank_with_sample_one_answer = result_channels_with_sample_single

pub result_channels_bank_with_sample_past : Always 1 result-channels-bank-with-sample-kinds.ps result-channels-bank-with-sample-kinds.r result-channels-bank-with-sample.Post
    (λ κs args z w. let x = meter_of args.0 args.1.0 in let c = args.1.0 in let ring = args.1.1.0.now in let left = w.1.1.0 in
    (i : ℕ) (e : ℤ) → (i ≡ c * (length ring / 16) + x.stretch % (3 * x.m) → ⊥) → get_or left i e ≡ get_or ring i e)
unfolding bank_ring_left
result_channels_bank_with_sample_past κs args z w is = rw is.1 (other_entries_unchanged _ _ _ _)

pub result_channels_after_gap_on_one_answer : Single 0 result-channels-after-gap-on-kinds.ps result-channels-after-gap-on-kinds.r result-channels-after-gap-on.Post
result_channels_after_gap_on_one_answer = result_channels_after_gap_on_single

pub result_channels_fresh_on_one_answer : Single 1 result-channels-fresh-on-kinds.ps result-channels-fresh-on-kinds.r result-channels-fresh-on.Post
result_channels_fresh_on_one_answer = result_channels_fresh_on_single

pub result_channels_sums_on_one_answer : Single 0 result-channels-sums-on-kinds.ps result-channels-sums-on-kinds.r result-channels-sums-on.Post
result_channels_sums_on_one_answer = result_channels_sums_on_single

pub result_channels_with_sample_on_one_answer : Single 1 result-channels-with-sample-on-kinds.ps result-channels-with-sample-on-kinds.r result-channels-with-sample-on.Post
result_channels_with_sample_on_one_answer = result_channels_with_sample_on_single

pub result_channels_with_sample_on_past : Always 1 result-channels-with-sample-on-kinds.ps result-channels-with-sample-on-kinds.r result-channels-with-sample-on.Post
    (λ κs args z w. let x = args.0 in let c = args.1.0 in let ring = args.1.1.0.now in let left = w.1.1.0 in
    (i : ℕ) (e : ℤ) → (i ≡ c * (length ring / 16) + x.stretch % (3 * x.m) → ⊥) → get_or left i e ≡ get_or ring i e)
result_channels_with_sample_on_past κs args z w is = rw is.1 (other_entries_unchanged _ _ _ _)

pub result_phr_good_one_answer : Single 1 result-phr-good-kinds.ps result-phr-good-kinds.r result-phr-good.Post
result_phr_good_one_answer = result_phr_good_single

pub result_phr_read_one_answer : Single 2 result-phr-read-kinds.ps result-phr-read-kinds.r result-phr-read.Post
result_phr_read_one_answer = result_phr_read_single

pub result_phr_read_past : Always 2 result-phr-read-kinds.ps result-phr-read-kinds.r result-phr-read.Post
    (λ κs args z w. let buffer = args.1.0.now in let left = w.1.0 in (i : ℕ) (e : ℤ) → (read_told z).count ≤ i → get_or left i e ≡ get_or buffer i e)
result_phr_read_past κs args z w is = rw (is.0, is.1) (past_the_values args.0.now args.1.0.now)

pub result_phr_read_contents_one_answer : Single 1 result-phr-read-contents-kinds.ps result-phr-read-contents-kinds.r result-phr-read-contents.Post
result_phr_read_contents_one_answer = result_phr_read_contents_single

pub result_phr_read_either_one_answer : Single 2 result-phr-read-either-kinds.ps result-phr-read-either-kinds.r result-phr-read-either.Post
result_phr_read_either_one_answer = result_phr_read_either_single

pub result_phr_read_either_past : Always 2 result-phr-read-either-kinds.ps result-phr-read-either-kinds.r result-phr-read-either.Post
    (λ κs args z w. let buffer = args.1.0.now in let left = w.1.0 in (i : ℕ) (e : ℤ) → (record_told z).count ≤ i → get_or left i e ≡ get_or buffer i e)
result_phr_read_either_past κs args z w is = rw (is.0, is.1) (past_the_record args.0.now args.1.0.now)

pub result_phr_write_one_answer : Single 2 result-phr-write-kinds.ps result-phr-write-kinds.r result-phr-write.Post
result_phr_write_one_answer = result_phr_write_single

pub result_phr_write_past : Always 2 result-phr-write-kinds.ps result-phr-write-kinds.r result-phr-write.Post
    (λ κs args z w. let buffer = args.1.1.0.now in let left = w.1.1.0 in (i e : ℕ) → (count_told z).count ≤ i → get_or left i e ≡ get_or buffer i e)
result_phr_write_past κs args z w is = rw (is.0, is.1) (past_the_count _ _ _ _ (file_length _ _))

pub result_phr_write_from_one_answer : Single 2 result-phr-write-from-kinds.ps result-phr-write-from-kinds.r result-phr-write-from.Post
result_phr_write_from_one_answer = result_phr_write_from_single

pub result_phr_write_from_past : Always 2 result-phr-write-from-kinds.ps result-phr-write-from-kinds.r result-phr-write-from.Post
    (λ κs args z w. let buffer = args.1.1.1.0.now in let left = w.1.1.1.0 in (i e : ℕ) → (count_told z).count ≤ i → get_or left i e ≡ get_or buffer i e)
result_phr_write_from_past κs args z w is = rw (is.0, is.1) (past_the_count _ _ _ _ (file_from_length _ _ _))

pub result_mending_mended_one_answer : Single 2 result-mending-mended-kinds.ps result-mending-mended-kinds.r result-mending-mended.Post
result_mending_mended_one_answer = result_mending_mended_single

pub result_mending_mended_past : Always 2 result-mending-mended-kinds.ps result-mending-mended-kinds.r result-mending-mended.Post
    (λ κs args z w. let bytes = args.0.now in let buffer = args.1.0.now in let left = w.1.0 in
    (i e : ℕ) → length bytes - (salvage_told z).left_over ≤ i → get_or left i e ≡ get_or buffer i e)
result_mending_mended_past κs args z w is = rw (is.0, is.1) (past_the_salvaged args.0.now args.1.0.now)

pub result_listing_record_one_answer : Single 2 result-listing-record-kinds.ps result-listing-record-kinds.r result-listing-record.Post
result_listing_record_one_answer = result_listing_record_single

pub result_listing_record_past : Always 2 result-listing-record-kinds.ps result-listing-record-kinds.r result-listing-record.Post
    (λ κs args z w. let buffer = args.1.1.0.now in let left = w.1.1.0 in
    (i e : ℕ) → (text_told args.1.0 z).length ≤ i → get_or left i e ≡ get_or buffer i e)
result_listing_record_past κs args z w is = rw (is.0, is.1) (past_the_text args.0.now args.1.0 args.1.1.0.now)

pub result_listing_total_one_answer : Single 1 result-listing-total-kinds.ps result-listing-total-kinds.r result-listing-total.Post
result_listing_total_one_answer = result_listing_total_single

pub result_listing_total_past : Always 1 result-listing-total-kinds.ps result-listing-total-kinds.r result-listing-total.Post
    (λ κs args z w. let buffer = args.1.0.now in let left = w.1.0 in (i e : ℕ) → (count_told z).count ≤ i → get_or left i e ≡ get_or buffer i e)
result_listing_total_past κs args z w is = rw (is.0, is.1) (past_the_count _ _ _ _ refl)
