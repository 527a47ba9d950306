-- What the programs call. A function that gives a Result ends, as its result is told, as the contract of its entry allows of the same arguments, with the
-- same content left in each lent buffer. So whatever Condition1 to Condition3, Grounds and Figures prove of every answer of an entry holds of these too.
use Rattle.laws.specs.Single.{Allows, Always}
use Rattle.record.proofs.check_range.Reads as record-check-range
use Rattle.record.proofs.check_range.Kinds as record-check-range-kinds
use Rattle.record.proofs.range_refusal.Reads as record-range-refusal
use Rattle.record.proofs.range_refusal.Kinds as record-range-refusal-kinds
use Rattle.record.proofs.check_size.Reads as record-check-size
use Rattle.record.proofs.check_size.Kinds as record-check-size-kinds
use Rattle.record.proofs.size_refusal.Reads as record-size-refusal
use Rattle.record.proofs.size_refusal.Kinds as record-size-refusal-kinds
use Rattle.record.proofs.check_record.Reads as record-check-record
use Rattle.record.proofs.check_record.Kinds as record-check-record-kinds
use Rattle.record.proofs.record_refusal.Reads as record-record-refusal
use Rattle.record.proofs.record_refusal.Kinds as record-record-refusal-kinds
use Rattle.frequency.proofs.differences.Reads as frequency-differences
use Rattle.frequency.proofs.differences.Kinds as frequency-differences-kinds
use Rattle.frequency.proofs.frequency_from_phase.Reads as frequency-frequency-from-phase
use Rattle.frequency.proofs.frequency_from_phase.Kinds as frequency-frequency-from-phase-kinds
use Rattle.frequency.proofs.phases.Reads as frequency-phases
use Rattle.frequency.proofs.phases.Kinds as frequency-phases-kinds
use Rattle.frequency.proofs.phase_from_start.Reads as frequency-phase-from-start
use Rattle.frequency.proofs.phase_from_start.Kinds as frequency-phase-from-start-kinds
use Rattle.sums.proofs.allan.Reads as sums-allan
use Rattle.sums.proofs.allan.Kinds as sums-allan-kinds
use Rattle.sums.proofs.allan_sum.Reads as sums-allan-sum
use Rattle.sums.proofs.allan_sum.Kinds as sums-allan-sum-kinds
use Rattle.sums.proofs.modified.Reads as sums-modified
use Rattle.sums.proofs.modified.Kinds as sums-modified-kinds
use Rattle.sums.proofs.modified_sum.Reads as sums-modified-sum
use Rattle.sums.proofs.modified_sum.Kinds as sums-modified-sum-kinds
use Rattle.variances.proofs.fractions.allan_variance.Reads as variances-fractions-allan-variance
use Rattle.variances.proofs.fractions.allan_variance.Kinds as variances-fractions-allan-variance-kinds
use Rattle.variances.proofs.allan_fraction.Reads as variances-allan-fraction
use Rattle.variances.proofs.allan_fraction.Kinds as variances-allan-fraction-kinds
use Rattle.variances.proofs.fractions.time_variance.Reads as variances-fractions-time-variance
use Rattle.variances.proofs.fractions.time_variance.Kinds as variances-fractions-time-variance-kinds
use Rattle.variances.proofs.time_fraction.Reads as variances-time-fraction
use Rattle.variances.proofs.time_fraction.Kinds as variances-time-fraction-kinds
use Rattle.variances.proofs.deviations.allan_root.Reads as variances-deviations-allan-root
use Rattle.variances.proofs.deviations.allan_root.Kinds as variances-deviations-allan-root-kinds
use Rattle.variances.proofs.allan_deviation.Reads as variances-allan-deviation
use Rattle.variances.proofs.allan_deviation.Kinds as variances-allan-deviation-kinds
use Rattle.variances.proofs.deviations.time_root.Reads as variances-deviations-time-root
use Rattle.variances.proofs.deviations.time_root.Kinds as variances-deviations-time-root-kinds
use Rattle.variances.proofs.time_deviation.Reads as variances-time-deviation
use Rattle.variances.proofs.time_deviation.Kinds as variances-time-deviation-kinds
use Rattle.compare.proofs.compared.Reads as compare-compared
use Rattle.compare.proofs.compared.Kinds as compare-compared-kinds
use Rattle.compare.proofs.which_quieter.Reads as compare-which-quieter
use Rattle.compare.proofs.which_quieter.Kinds as compare-which-quieter-kinds
use Rattle.drift.proofs.figure.Reads as drift-figure
use Rattle.drift.proofs.figure.Kinds as drift-figure-kinds
use Rattle.drift.proofs.drift_figure.Reads as drift-drift-figure
use Rattle.drift.proofs.drift_figure.Kinds as drift-drift-figure-kinds
use Rattle.drift.proofs.removed.Reads as drift-removed
use Rattle.drift.proofs.removed.Kinds as drift-removed-kinds
use Rattle.drift.proofs.remove_drift.Reads as drift-remove-drift
use Rattle.drift.proofs.remove_drift.Kinds as drift-remove-drift-kinds
use Rattle.meter.proofs.Meter.new.Reads as meter-meter-new
use Rattle.meter.proofs.Meter.new.Kinds as meter-meter-new-kinds
use Rattle.meter.proofs.Meter.start.Reads as meter-meter-start
use Rattle.meter.proofs.Meter.start.Kinds as meter-meter-start-kinds
use Rattle.meter.proofs.Meter.with_sample.Reads as meter-meter-with-sample
use Rattle.meter.proofs.Meter.with_sample.Kinds as meter-meter-with-sample-kinds
use Rattle.meter.proofs.Meter.sample.Reads as meter-meter-sample
use Rattle.meter.proofs.Meter.sample.Kinds as meter-meter-sample-kinds
use Rattle.meter.proofs.Meter.after_gap.Reads as meter-meter-after-gap
use Rattle.meter.proofs.Meter.after_gap.Kinds as meter-meter-after-gap-kinds
use Rattle.meter.proofs.Meter.gap.Reads as meter-meter-gap
use Rattle.meter.proofs.Meter.gap.Kinds as meter-meter-gap-kinds
use Rattle.meter.proofs.Meter.sums.Reads as meter-meter-sums
use Rattle.meter.proofs.Meter.sums.Kinds as meter-meter-sums-kinds
use Rattle.meter.proofs.Meter.report.Reads as meter-meter-report
use Rattle.meter.proofs.Meter.report.Kinds as meter-meter-report-kinds
use Rattle.channels.proofs.fresh_on.Reads as channels-fresh-on
use Rattle.channels.proofs.fresh_on.Kinds as channels-fresh-on-kinds
use Rattle.channels.proofs.channel_start.Reads as channels-channel-start
use Rattle.channels.proofs.channel_start.Kinds as channels-channel-start-kinds
use Rattle.channels.proofs.with_sample_on.Reads as channels-with-sample-on
use Rattle.channels.proofs.with_sample_on.Kinds as channels-with-sample-on-kinds
use Rattle.channels.proofs.channel_sample.Reads as channels-channel-sample
use Rattle.channels.proofs.channel_sample.Kinds as channels-channel-sample-kinds
use Rattle.channels.proofs.after_gap_on.Reads as channels-after-gap-on
use Rattle.channels.proofs.after_gap_on.Kinds as channels-after-gap-on-kinds
use Rattle.channels.proofs.channel_gap.Reads as channels-channel-gap
use Rattle.channels.proofs.channel_gap.Kinds as channels-channel-gap-kinds
use Rattle.channels.proofs.sums_on.Reads as channels-sums-on
use Rattle.channels.proofs.sums_on.Kinds as channels-sums-on-kinds
use Rattle.channels.proofs.channel_report.Reads as channels-channel-report
use Rattle.channels.proofs.channel_report.Kinds as channels-channel-report-kinds
use Rattle.channels.proofs.Bank.with_fresh.Reads as channels-bank-with-fresh
use Rattle.channels.proofs.Bank.with_fresh.Kinds as channels-bank-with-fresh-kinds
use Rattle.channels.proofs.Bank.start.Reads as channels-bank-start
use Rattle.channels.proofs.Bank.start.Kinds as channels-bank-start-kinds
use Rattle.channels.proofs.Bank.with_sample.Reads as channels-bank-with-sample
use Rattle.channels.proofs.Bank.with_sample.Kinds as channels-bank-with-sample-kinds
use Rattle.channels.proofs.Bank.sample.Reads as channels-bank-sample
use Rattle.channels.proofs.Bank.sample.Kinds as channels-bank-sample-kinds
use Rattle.channels.proofs.Bank.after_gap.Reads as channels-bank-after-gap
use Rattle.channels.proofs.Bank.after_gap.Kinds as channels-bank-after-gap-kinds
use Rattle.channels.proofs.Bank.gap.Reads as channels-bank-gap
use Rattle.channels.proofs.Bank.gap.Kinds as channels-bank-gap-kinds
use Rattle.channels.proofs.Bank.sums.Reads as channels-bank-sums
use Rattle.channels.proofs.Bank.sums.Kinds as channels-bank-sums-kinds
use Rattle.channels.proofs.Bank.report.Reads as channels-bank-report
use Rattle.channels.proofs.Bank.report.Kinds as channels-bank-report-kinds
use Rattle.readings.proofs.sums_of.Reads as readings-sums-of
use Rattle.readings.proofs.sums_of.Kinds as readings-sums-of-kinds
use Rattle.readings.proofs.float_sums.Reads as readings-float-sums
use Rattle.readings.proofs.float_sums.Kinds as readings-float-sums-kinds
use Rattle.plot.proofs.dots.dot_of_allan.Reads as plot-dots-dot-of-allan
use Rattle.plot.proofs.dots.dot_of_allan.Kinds as plot-dots-dot-of-allan-kinds
use Rattle.plot.proofs.dots.allan_dot.Reads as plot-dots-allan-dot
use Rattle.plot.proofs.dots.allan_dot.Kinds as plot-dots-allan-dot-kinds
use Rattle.plot.proofs.dots.dot_of_time.Reads as plot-dots-dot-of-time
use Rattle.plot.proofs.dots.dot_of_time.Kinds as plot-dots-dot-of-time-kinds
use Rattle.plot.proofs.dots.time_dot.Reads as plot-dots-time-dot
use Rattle.plot.proofs.dots.time_dot.Kinds as plot-dots-time-dot-kinds
use Rattle.plot.proofs.drawn.number.Reads as plot-drawn-number
use Rattle.plot.proofs.drawn.number.Kinds as plot-drawn-number-kinds
use Rattle.plot.proofs.drawn.drawn_number.Reads as plot-drawn-drawn-number
use Rattle.plot.proofs.drawn.drawn_number.Kinds as plot-drawn-drawn-number-kinds
use Rattle.noise.proofs.by_deviations.Reads as noise-by-deviations
use Rattle.noise.proofs.by_deviations.Kinds as noise-by-deviations-kinds
use Rattle.noise.proofs.noise_type.Reads as noise-noise-type
use Rattle.noise.proofs.noise_type.Kinds as noise-noise-type-kinds
use Rattle.noise.proofs.of_record.Reads as noise-of-record
use Rattle.noise.proofs.of_record.Kinds as noise-of-record-kinds
use Rattle.noise.proofs.noise_of_record.Reads as noise-noise-of-record
use Rattle.noise.proofs.noise_of_record.Kinds as noise-noise-of-record-kinds
use Rattle.noise.proofs.bars.row.Reads as noise-bars-row
use Rattle.noise.proofs.bars.row.Kinds as noise-bars-row-kinds
use Rattle.noise.proofs.bars.bars.Reads as noise-bars-bars
use Rattle.noise.proofs.bars.bars.Kinds as noise-bars-bars-kinds
use Rattle.phr.proofs.read.Reads as phr-read
use Rattle.phr.proofs.read.Kinds as phr-read-kinds
use Rattle.phr.proofs.read_file.Reads as phr-read-file
use Rattle.phr.proofs.read_file.Kinds as phr-read-file-kinds
use Rattle.phr.proofs.write.Reads as phr-write
use Rattle.phr.proofs.write.Kinds as phr-write-kinds
use Rattle.phr.proofs.write_file.Reads as phr-write-file
use Rattle.phr.proofs.write_file.Kinds as phr-write-file-kinds
use Rattle.phr.proofs.read_either.Reads as phr-read-either
use Rattle.phr.proofs.read_either.Kinds as phr-read-either-kinds
use Rattle.phr.proofs.read_record.Reads as phr-read-record
use Rattle.phr.proofs.read_record.Kinds as phr-read-record-kinds
use Rattle.phr.proofs.write_from.Reads as phr-write-from
use Rattle.phr.proofs.write_from.Kinds as phr-write-from-kinds
use Rattle.phr.proofs.write_record.Reads as phr-write-record
use Rattle.phr.proofs.write_record.Kinds as phr-write-record-kinds
use Rattle.phr.proofs.read_contents.Reads as phr-read-contents
use Rattle.phr.proofs.read_contents.Kinds as phr-read-contents-kinds
use Rattle.phr.proofs.read_header.Reads as phr-read-header
use Rattle.phr.proofs.read_header.Kinds as phr-read-header-kinds
use Rattle.phr.proofs.good.Reads as phr-good
use Rattle.phr.proofs.good.Kinds as phr-good-kinds
use Rattle.phr.proofs.good_values.Reads as phr-good-values
use Rattle.phr.proofs.good_values.Kinds as phr-good-values-kinds
use Rattle.mending.proofs.mended.Reads as mending-mended
use Rattle.mending.proofs.mended.Kinds as mending-mended-kinds
use Rattle.mending.proofs.salvage.Reads as mending-salvage
use Rattle.mending.proofs.salvage.Kinds as mending-salvage-kinds
use Rattle.listing.proofs.record.Reads as listing-record
use Rattle.listing.proofs.record.Kinds as listing-record-kinds
use Rattle.listing.proofs.sheet_record.Reads as listing-sheet-record
use Rattle.listing.proofs.sheet_record.Kinds as listing-sheet-record-kinds
use Rattle.listing.proofs.total.Reads as listing-total
use Rattle.listing.proofs.total.Kinds as listing-total-kinds
use Rattle.listing.proofs.sheet_total.Reads as listing-sheet-total
use Rattle.listing.proofs.sheet_total.Kinds as listing-sheet-total-kinds
use Rattle.record.specs.Told.{count_told, told}
use Rattle.sums.specs.Told.{sum_told}
use Rattle.variances.specs.Told.{deviation_told, fraction_told}
use Rattle.compare.specs.Told.{which_told}
use Rattle.drift.specs.Told.{drift_told}
use Rattle.meter.specs.Told.{meter_told, report_told}
use Rattle.channels.specs.Told.{bank_told}
use Rattle.readings.specs.Told.{sums_told}
use Rattle.plot.specs.Told.{dot_told, drawn_told}
use Rattle.noise.specs.Told.{bars_told, noise_told}
use Rattle.phr.specs.Told.{read_told, record_told}
use Rattle.mending.specs.Told.{salvage_told}
use Rattle.listing.specs.Told.{text_told}
use Rattle.phr.specs.Kinds.{number_of_kind}
use Rattle.meter.specs.declared.Meter.{Meter}

-- ---- record

pub record_check_range_as_entry : Always 1 record-check-range-kinds.ps record-check-range-kinds.r record-check-range.Post
    (λ κs args z w. Allows 1 record-range-refusal-kinds.ps record-range-refusal-kinds.r record-range-refusal.Post κs args (told z) w)
record_check_range_as_entry κs args z w is = is

pub record_check_size_as_entry : Always 0 record-check-size-kinds.ps record-check-size-kinds.r record-check-size.Post
    (λ κs args z w. Allows 0 record-size-refusal-kinds.ps record-size-refusal-kinds.r record-size-refusal.Post κs args (told z) w)
record_check_size_as_entry κs args z w is = is

pub record_check_record_as_entry : Always 1 record-check-record-kinds.ps record-check-record-kinds.r record-check-record.Post
    (λ κs args z w. Allows 1 record-record-refusal-kinds.ps record-record-refusal-kinds.r record-record-refusal.Post κs args (told z) w)
record_check_record_as_entry κs args z w is = is

-- ---- frequency

pub frequency_differences_as_entry : Always 2 frequency-differences-kinds.ps frequency-differences-kinds.r frequency-differences.Post
    (λ κs args z w. Allows 2 frequency-frequency-from-phase-kinds.ps frequency-frequency-from-phase-kinds.r frequency-frequency-from-phase.Post κs args (count_told z) w)
frequency_differences_as_entry κs args z w is = is

pub frequency_phases_as_entry : Always 2 frequency-phases-kinds.ps frequency-phases-kinds.r frequency-phases.Post
    (λ κs args z w. Allows 2 frequency-phase-from-start-kinds.ps frequency-phase-from-start-kinds.r frequency-phase-from-start.Post κs args (count_told z) w)
frequency_phases_as_entry κs args z w is = is

-- ---- sums

pub sums_allan_as_entry : Always 1 sums-allan-kinds.ps sums-allan-kinds.r sums-allan.Post
    (λ κs args z w. Allows 1 sums-allan-sum-kinds.ps sums-allan-sum-kinds.r sums-allan-sum.Post κs args (sum_told z) w)
sums_allan_as_entry κs args z w is = is

pub sums_modified_as_entry : Always 1 sums-modified-kinds.ps sums-modified-kinds.r sums-modified.Post
    (λ κs args z w. Allows 1 sums-modified-sum-kinds.ps sums-modified-sum-kinds.r sums-modified-sum.Post κs args (sum_told z) w)
sums_modified_as_entry κs args z w is = is

-- ---- variances

pub variances_fractions_allan_variance_as_entry : Always 0 variances-fractions-allan-variance-kinds.ps variances-fractions-allan-variance-kinds.r variances-fractions-allan-variance.Post
    (λ κs args z w. Allows 0 variances-allan-fraction-kinds.ps variances-allan-fraction-kinds.r variances-allan-fraction.Post κs (args.0.total, (args.1.0, (args.0.count, tt))) (fraction_told z) (tt, (tt, (tt, tt))))
variances_fractions_allan_variance_as_entry κs args z w is = is

pub variances_fractions_time_variance_as_entry : Always 0 variances-fractions-time-variance-kinds.ps variances-fractions-time-variance-kinds.r variances-fractions-time-variance.Post
    (λ κs args z w. Allows 0 variances-time-fraction-kinds.ps variances-time-fraction-kinds.r variances-time-fraction.Post κs (args.0.total, (args.1.0, (args.0.count, tt))) (fraction_told z) (tt, (tt, (tt, tt))))
variances_fractions_time_variance_as_entry κs args z w is = is

pub variances_deviations_allan_root_as_entry : Always 0 variances-deviations-allan-root-kinds.ps variances-deviations-allan-root-kinds.r variances-deviations-allan-root.Post
    (λ κs args z w. Allows 0 variances-allan-deviation-kinds.ps variances-allan-deviation-kinds.r variances-allan-deviation.Post κs (args.0.total, (args.1.0, (args.0.count, tt))) (deviation_told z) (tt, (tt, (tt, tt))))
variances_deviations_allan_root_as_entry κs args z w is = is

pub variances_deviations_time_root_as_entry : Always 0 variances-deviations-time-root-kinds.ps variances-deviations-time-root-kinds.r variances-deviations-time-root.Post
    (λ κs args z w. Allows 0 variances-time-deviation-kinds.ps variances-time-deviation-kinds.r variances-time-deviation.Post κs (args.0.total, (args.1.0, (args.0.count, tt))) (deviation_told z) (tt, (tt, (tt, tt))))
variances_deviations_time_root_as_entry κs args z w is = is

-- ---- compare

pub compare_compared_as_entry : Always 2 compare-compared-kinds.ps compare-compared-kinds.r compare-compared.Post
    (λ κs args z w. Allows 2 compare-which-quieter-kinds.ps compare-which-quieter-kinds.r compare-which-quieter.Post κs args (which_told z) w)
compare_compared_as_entry κs args z w is = is

-- ---- drift

pub drift_figure_as_entry : Always 1 drift-figure-kinds.ps drift-figure-kinds.r drift-figure.Post
    (λ κs args z w. Allows 1 drift-drift-figure-kinds.ps drift-drift-figure-kinds.r drift-drift-figure.Post κs args (drift_told z) w)
drift_figure_as_entry κs args z w is = is

pub drift_removed_as_entry : Always 2 drift-removed-kinds.ps drift-removed-kinds.r drift-removed.Post
    (λ κs args z w. Allows 2 drift-remove-drift-kinds.ps drift-remove-drift-kinds.r drift-remove-drift.Post κs args (count_told z) w)
drift_removed_as_entry κs args z w is = is

-- ---- meter

pub meter_meter_new_as_entry : Always 1 meter-meter-new-kinds.ps meter-meter-new-kinds.r meter-meter-new.Post
    (λ κs args z w. (old : Meter) → Allows 1 meter-meter-start-kinds.ps meter-meter-start-kinds.r meter-meter-start.Post κs (old, args) (meter_told old z) (tt, w))
meter_meter_new_as_entry κs args z w is old = is old

pub meter_meter_with_sample_as_entry : Always 1 meter-meter-with-sample-kinds.ps meter-meter-with-sample-kinds.r meter-meter-with-sample.Post
    (λ κs args z w. Allows 1 meter-meter-sample-kinds.ps meter-meter-sample-kinds.r meter-meter-sample.Post κs args (meter_told args.0 z) w)
meter_meter_with_sample_as_entry κs args z w is = is

pub meter_meter_after_gap_as_entry : Always 0 meter-meter-after-gap-kinds.ps meter-meter-after-gap-kinds.r meter-meter-after-gap.Post
    (λ κs args z w. Allows 0 meter-meter-gap-kinds.ps meter-meter-gap-kinds.r meter-meter-gap.Post κs args (meter_told args.0 z) w)
meter_meter_after_gap_as_entry κs args z w is = is

pub meter_meter_sums_as_entry : Always 0 meter-meter-sums-kinds.ps meter-meter-sums-kinds.r meter-meter-sums.Post
    (λ κs args z w. Allows 0 meter-meter-report-kinds.ps meter-meter-report-kinds.r meter-meter-report.Post κs args (report_told z) w)
meter_meter_sums_as_entry κs args z w is = is

-- ---- channels

pub channels_fresh_on_as_entry : Always 1 channels-fresh-on-kinds.ps channels-fresh-on-kinds.r channels-fresh-on.Post
    (λ κs args z w. (old : Meter) → Allows 1 channels-channel-start-kinds.ps channels-channel-start-kinds.r channels-channel-start.Post κs (old, args) (meter_told old z) (tt, w))
channels_fresh_on_as_entry κs args z w is old = is old

pub channels_with_sample_on_as_entry : Always 1 channels-with-sample-on-kinds.ps channels-with-sample-on-kinds.r channels-with-sample-on.Post
    (λ κs args z w. Allows 1 channels-channel-sample-kinds.ps channels-channel-sample-kinds.r channels-channel-sample.Post κs args (meter_told args.0 z) w)
channels_with_sample_on_as_entry κs args z w is = is

pub channels_after_gap_on_as_entry : Always 0 channels-after-gap-on-kinds.ps channels-after-gap-on-kinds.r channels-after-gap-on.Post
    (λ κs args z w. Allows 0 channels-channel-gap-kinds.ps channels-channel-gap-kinds.r channels-channel-gap.Post κs args (meter_told args.0 z) w)
channels_after_gap_on_as_entry κs args z w is = is

pub channels_sums_on_as_entry : Always 0 channels-sums-on-kinds.ps channels-sums-on-kinds.r channels-sums-on.Post
    (λ κs args z w. Allows 0 channels-channel-report-kinds.ps channels-channel-report-kinds.r channels-channel-report.Post κs args (report_told z) w)
channels_sums_on_as_entry κs args z w is = is

pub channels_bank_with_fresh_as_entry : Always 1 channels-bank-with-fresh-kinds.ps channels-bank-with-fresh-kinds.r channels-bank-with-fresh.Post
    (λ κs args z w. Allows 1 channels-bank-start-kinds.ps channels-bank-start-kinds.r channels-bank-start.Post κs args (bank_told args.0 z) w)
channels_bank_with_fresh_as_entry κs args z w is = is

pub channels_bank_with_sample_as_entry : Always 1 channels-bank-with-sample-kinds.ps channels-bank-with-sample-kinds.r channels-bank-with-sample.Post
    (λ κs args z w. Allows 1 channels-bank-sample-kinds.ps channels-bank-sample-kinds.r channels-bank-sample.Post κs args (bank_told args.0 z) w)
channels_bank_with_sample_as_entry κs args z w is = is

pub channels_bank_after_gap_as_entry : Always 0 channels-bank-after-gap-kinds.ps channels-bank-after-gap-kinds.r channels-bank-after-gap.Post
    (λ κs args z w. Allows 0 channels-bank-gap-kinds.ps channels-bank-gap-kinds.r channels-bank-gap.Post κs args (bank_told args.0 z) w)
channels_bank_after_gap_as_entry κs args z w is = is

pub channels_bank_sums_as_entry : Always 0 channels-bank-sums-kinds.ps channels-bank-sums-kinds.r channels-bank-sums.Post
    (λ κs args z w. Allows 0 channels-bank-report-kinds.ps channels-bank-report-kinds.r channels-bank-report.Post κs args (report_told z) w)
channels_bank_sums_as_entry κs args z w is = is

-- ---- readings

pub readings_sums_of_as_entry : Always 2 readings-sums-of-kinds.ps readings-sums-of-kinds.r readings-sums-of.Post
    (λ κs args z w. Allows 2 readings-float-sums-kinds.ps readings-float-sums-kinds.r readings-float-sums.Post κs args (sums_told z) w)
readings_sums_of_as_entry κs args z w is = is

-- ---- plot

pub plot_dots_dot_of_allan_as_entry : Always 0 plot-dots-dot-of-allan-kinds.ps plot-dots-dot-of-allan-kinds.r plot-dots-dot-of-allan.Post
    (λ κs args z w. Allows 0 plot-dots-allan-dot-kinds.ps plot-dots-allan-dot-kinds.r plot-dots-allan-dot.Post κs (args.0.total, (args.1.0, (args.0.count, tt))) (dot_told z) (tt, (tt, (tt, tt))))
plot_dots_dot_of_allan_as_entry κs args z w is = is

pub plot_dots_dot_of_time_as_entry : Always 0 plot-dots-dot-of-time-kinds.ps plot-dots-dot-of-time-kinds.r plot-dots-dot-of-time.Post
    (λ κs args z w. Allows 0 plot-dots-time-dot-kinds.ps plot-dots-time-dot-kinds.r plot-dots-time-dot.Post κs (args.0.total, (args.1.0, (args.0.count, tt))) (dot_told z) (tt, (tt, (tt, tt))))
plot_dots_dot_of_time_as_entry κs args z w is = is

pub plot_drawn_number_as_entry : Always 0 plot-drawn-number-kinds.ps plot-drawn-number-kinds.r plot-drawn-number.Post
    (λ κs args z w. Allows 0 plot-drawn-drawn-number-kinds.ps plot-drawn-drawn-number-kinds.r plot-drawn-drawn-number.Post κs args (drawn_told z) w)
plot_drawn_number_as_entry κs args z w is = is

-- ---- noise

pub noise_by_deviations_as_entry : Always 0 noise-by-deviations-kinds.ps noise-by-deviations-kinds.r noise-by-deviations.Post
    (λ κs args z w. Allows 0 noise-noise-type-kinds.ps noise-noise-type-kinds.r noise-noise-type.Post κs args (noise_told z) w)
noise_by_deviations_as_entry κs args z w is = is

pub noise_of_record_as_entry : Always 1 noise-of-record-kinds.ps noise-of-record-kinds.r noise-of-record.Post
    (λ κs args z w. Allows 1 noise-noise-of-record-kinds.ps noise-noise-of-record-kinds.r noise-noise-of-record.Post κs args (noise_told z) w)
noise_of_record_as_entry κs args z w is = is

pub noise_bars_row_as_entry : Always 0 noise-bars-row-kinds.ps noise-bars-row-kinds.r noise-bars-row.Post
    (λ κs args z w. Allows 0 noise-bars-bars-kinds.ps noise-bars-bars-kinds.r noise-bars-bars.Post κs args (bars_told z) w)
noise_bars_row_as_entry κs args z w is = is

-- ---- phr

pub phr_read_as_entry : Always 2 phr-read-kinds.ps phr-read-kinds.r phr-read.Post
    (λ κs args z w. Allows 2 phr-read-file-kinds.ps phr-read-file-kinds.r phr-read-file.Post κs args (read_told z) w)
phr_read_as_entry κs args z w is = is

pub phr_write_as_entry : Always 2 phr-write-kinds.ps phr-write-kinds.r phr-write.Post
    (λ κs args z w. Allows 2 phr-write-file-kinds.ps phr-write-file-kinds.r phr-write-file.Post κs (number_of_kind args.0, args.1) (count_told z) w)
phr_write_as_entry κs args z w is = is

pub phr_read_either_as_entry : Always 2 phr-read-either-kinds.ps phr-read-either-kinds.r phr-read-either.Post
    (λ κs args z w. Allows 2 phr-read-record-kinds.ps phr-read-record-kinds.r phr-read-record.Post κs args (record_told z) w)
phr_read_either_as_entry κs args z w is = is

pub phr_write_from_as_entry : Always 2 phr-write-from-kinds.ps phr-write-from-kinds.r phr-write-from.Post
    (λ κs args z w. Allows 2 phr-write-record-kinds.ps phr-write-record-kinds.r phr-write-record.Post κs (number_of_kind args.0, args.1) (count_told z) w)
phr_write_from_as_entry κs args z w is = is

pub phr_read_contents_as_entry : Always 1 phr-read-contents-kinds.ps phr-read-contents-kinds.r phr-read-contents.Post
    (λ κs args z w. Allows 1 phr-read-header-kinds.ps phr-read-header-kinds.r phr-read-header.Post κs args (record_told z) w)
phr_read_contents_as_entry κs args z w is = is

pub phr_good_as_entry : Always 1 phr-good-kinds.ps phr-good-kinds.r phr-good.Post
    (λ κs args z w. Allows 1 phr-good-values-kinds.ps phr-good-values-kinds.r phr-good-values.Post κs (args.0, (number_of_kind args.1.0, tt)) z w)
phr_good_as_entry κs args z w is = is

-- ---- mending

pub mending_mended_as_entry : Always 2 mending-mended-kinds.ps mending-mended-kinds.r mending-mended.Post
    (λ κs args z w. Allows 2 mending-salvage-kinds.ps mending-salvage-kinds.r mending-salvage.Post κs args (salvage_told z) w)
mending_mended_as_entry κs args z w is = is

-- ---- listing

pub listing_record_as_entry : Always 2 listing-record-kinds.ps listing-record-kinds.r listing-record.Post
    (λ κs args z w. Allows 2 listing-sheet-record-kinds.ps listing-sheet-record-kinds.r listing-sheet-record.Post κs args (text_told args.1.0 z) w)
listing_record_as_entry κs args z w is = is

pub listing_total_as_entry : Always 1 listing-total-kinds.ps listing-total-kinds.r listing-total.Post
    (λ κs args z w. Allows 1 listing-sheet-total-kinds.ps listing-sheet-total-kinds.r listing-sheet-total.Post κs args (count_told z) w)
listing_total_as_entry κs args z w is = is
