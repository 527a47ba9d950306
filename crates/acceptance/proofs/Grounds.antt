-- Condition 1, the ground of every refusal: for each public function that refuses, whatever its own contract allows is grounded in its table
-- (specs/Grounds.antt). An exported function whose contract is the entry's own (Condition1.antt, NAME-is) has the entry's table.
use Prim.Native.Nat.{◌+◌, ◌*◌}
use native.Mathlib.Omega.{arith}
use lib.ListN.{length}
use Rattle.laws.specs.Single.{Always}
use Rattle.wide.specs.Wide.{value}
use Rattle.record.proofs.range_refusal.Reads as range-refusal
use Rattle.record.proofs.range_refusal.Kinds as range-refusal-kinds
use Rattle.record.proofs.size_refusal.Reads as size-refusal
use Rattle.record.proofs.size_refusal.Kinds as size-refusal-kinds
use Rattle.record.proofs.record_refusal.Reads as record-refusal
use Rattle.record.proofs.record_refusal.Kinds as record-refusal-kinds
use Rattle.sums.specs.Answers.{allan_demand, allan_sum_answer, modified_sum_answer}
use Rattle.sums.proofs.allan_sum.Reads as allan-sum
use Rattle.sums.proofs.allan_sum.Kinds as allan-sum-kinds
use Rattle.sums.proofs.modified_sum.Reads as modified-sum
use Rattle.sums.proofs.modified_sum.Kinds as modified-sum-kinds
use Rattle.sums.specs.Published.{allan_denominator, time_denominator}
use Rattle.variances.specs.Answers.{allan_fraction_answer, time_fraction_answer, allan_deviation_answer, time_deviation_answer}
use Rattle.variances.proofs.allan_fraction.Reads as allan-fraction
use Rattle.variances.proofs.allan_fraction.Kinds as allan-fraction-kinds
use Rattle.variances.proofs.time_fraction.Reads as time-fraction
use Rattle.variances.proofs.time_fraction.Kinds as time-fraction-kinds
use Rattle.variances.proofs.allan_deviation.Reads as allan-deviation
use Rattle.variances.proofs.allan_deviation.Kinds as allan-deviation-kinds
use Rattle.variances.proofs.time_deviation.Reads as time-deviation
use Rattle.variances.proofs.time_deviation.Kinds as time-deviation-kinds
use Rattle.plot.proofs.dots.allan_dot.Reads as allan-dot
use Rattle.plot.proofs.dots.allan_dot.Kinds as allan-dot-kinds
use Rattle.plot.proofs.dots.time_dot.Reads as time-dot
use Rattle.plot.proofs.dots.time_dot.Kinds as time-dot-kinds
use Rattle.frequency.proofs.phase_from_frequency.Reads as phase-from-frequency
use Rattle.frequency.proofs.phase_from_frequency.Kinds as phase-from-frequency-kinds
use Rattle.frequency.proofs.phase_from_start.Reads as phase-from-start
use Rattle.frequency.proofs.phase_from_start.Kinds as phase-from-start-kinds
use Rattle.frequency.proofs.frequency_from_phase.Reads as frequency-from-phase
use Rattle.frequency.proofs.frequency_from_phase.Kinds as frequency-from-phase-kinds
use Rattle.drift.proofs.drift_figure.Reads as drift-figure
use Rattle.drift.proofs.drift_figure.Kinds as drift-figure-kinds
use Rattle.drift.proofs.remove_drift.Reads as remove-drift
use Rattle.drift.proofs.remove_drift.Kinds as remove-drift-kinds
use Rattle.readings.proofs.float_sums.Reads as float-sums
use Rattle.readings.proofs.float_sums.Kinds as float-sums-kinds
use Rattle.noise.specs.Noise.{alpha_of, type_answer, record_type_answer}
use Rattle.noise.proofs.noise_of_record.Reads as noise-of-record
use Rattle.noise.proofs.noise_of_record.Kinds as noise-of-record-kinds
use Rattle.plot.proofs.drawn.drawn_number.Reads as drawn-number
use Rattle.plot.proofs.drawn.drawn_number.Kinds as drawn-number-kinds
use Rattle.noise.proofs.noise_type.Reads as noise-type
use Rattle.noise.proofs.noise_type.Kinds as noise-type-kinds
use Rattle.noise.proofs.bars.bars.Reads as bars
use Rattle.noise.proofs.bars.bars.Kinds as bars-kinds
use Rattle.compare.proofs.which_quieter.Reads as which-quieter
use Rattle.compare.proofs.which_quieter.Kinds as which-quieter-kinds
use Rattle.channels.proofs.channel_start.Reads as channel-start
use Rattle.channels.proofs.channel_start.Kinds as channel-start-kinds
use Rattle.channels.proofs.channel_sample.Reads as channel-sample
use Rattle.channels.proofs.channel_sample.Kinds as channel-sample-kinds
use Rattle.channels.proofs.channel_gap.Reads as channel-gap
use Rattle.channels.proofs.channel_gap.Kinds as channel-gap-kinds
use Rattle.channels.proofs.channel_report.Reads as channel-report
use Rattle.channels.proofs.channel_report.Kinds as channel-report-kinds
use Rattle.channels.proofs.Bank.start.Reads as bank-start
use Rattle.channels.proofs.Bank.start.Kinds as bank-start-kinds
use Rattle.channels.proofs.Bank.sample.Reads as bank-sample
use Rattle.channels.proofs.Bank.sample.Kinds as bank-sample-kinds
use Rattle.channels.proofs.Bank.gap.Reads as bank-gap
use Rattle.channels.proofs.Bank.gap.Kinds as bank-gap-kinds
use Rattle.channels.proofs.Bank.report.Reads as bank-report
use Rattle.channels.proofs.Bank.report.Kinds as bank-report-kinds
use Rattle.channels.specs.Shares.{channel_part, meter_of}
use Rattle.channels.specs.Answers.{bank_start_answer, bank_sample_answer, bank_gap_answer, bank_report_answer}
use Rattle.meter.proofs.Meter.start.Reads as meter-start
use Rattle.meter.proofs.Meter.start.Kinds as meter-start-kinds
use Rattle.meter.proofs.Meter.sample.Reads as meter-sample
use Rattle.meter.proofs.Meter.sample.Kinds as meter-sample-kinds
use Rattle.meter.proofs.Meter.gap.Reads as meter-gap
use Rattle.meter.proofs.Meter.gap.Kinds as meter-gap-kinds
use Rattle.meter.proofs.Meter.report.Reads as meter-report
use Rattle.meter.proofs.Meter.report.Kinds as meter-report-kinds
use Rattle.phr.proofs.read_file.Reads as read-file
use Rattle.phr.proofs.read_file.Kinds as read-file-kinds
use Rattle.phr.proofs.write_file.Reads as write-file
use Rattle.phr.proofs.write_file.Kinds as write-file-kinds
use Rattle.phr.proofs.read_record.Reads as read-record
use Rattle.phr.proofs.read_record.Kinds as read-record-kinds
use Rattle.phr.proofs.write_record.Reads as write-record
use Rattle.phr.proofs.write_record.Kinds as write-record-kinds
use Rattle.phr.proofs.read_header.Reads as read-header
use Rattle.phr.proofs.read_header.Kinds as read-header-kinds
use Rattle.mending.proofs.salvage.Reads as salvage
use Rattle.mending.proofs.salvage.Kinds as salvage-kinds
use Rattle.listing.proofs.sheet_record.Reads as sheet-record
use Rattle.listing.proofs.sheet_record.Kinds as sheet-record-kinds
use Rattle.listing.proofs.sheet_total.Reads as sheet-total
use Rattle.listing.proofs.sheet_total.Kinds as sheet-total-kinds
use Rattle.ploegelster.specs.Boundary.{told_dot, told_noise}
use Rattle.ploegelster.proofs.drawing.plg_noise_type.Reads as plg-noise-type
use Rattle.ploegelster.proofs.drawing.plg_noise_type.Kinds as plg-noise-type-kinds
use Rattle.ploegelster.proofs.drawing.plg_noise_of_record.Reads as plg-noise-of-record
use Rattle.ploegelster.proofs.drawing.plg_noise_of_record.Kinds as plg-noise-of-record-kinds
use Rattle.ploegelster.proofs.drawing.plg_allan_dot.Reads as plg-allan-dot
use Rattle.ploegelster.proofs.drawing.plg_allan_dot.Kinds as plg-allan-dot-kinds
use Rattle.ploegelster.proofs.drawing.plg_time_dot.Reads as plg-time-dot
use Rattle.ploegelster.proofs.drawing.plg_time_dot.Kinds as plg-time-dot-kinds
use Rattle.ploegelster.proofs.drawing.plg_bars.Reads as plg-bars
use Rattle.ploegelster.proofs.drawing.plg_bars.Kinds as plg-bars-kinds
use Rattle.acceptance.specs.Grounds.{Grounded, OfRange, OfSize, OfRecord, OfFraction, OfDeviation, OfDot, OfPhases, OfPhasesFrom, OfDifferences, OfDrift, OfRemoval, OfReadings, OfRecordType, OfDrawn, OfType, OfBars, OfStart, OfSample, OfGap, OfReport, OfFile, OfRecordHeader, OfRecordFile, OfSalvage, OfWriting, OfWritingFrom, OfText, OfTotal, OfQuieter, OfChannel}
use Rattle.acceptance.proofs.Grounding.{refusal_grounded}
use Rattle.acceptance.proofs.RecordGrounds.{size_agrees, range_agrees, record_agrees, multiple_agrees, sum_grounded}
use Rattle.acceptance.proofs.FigureGrounds.{fraction_agrees, deviation_agrees, fraction_grounded, deviation_grounded, dot_grounded}
use Rattle.acceptance.proofs.BufferGrounds.{phases_from_agree, phases_agree, differences_agree, removal_agrees, count_grounded, drift_grounded}
use Rattle.acceptance.proofs.ReadingGrounds.{readings_grounded}
use Rattle.acceptance.proofs.RecordTypeGrounds.{record_type_agrees}
use Rattle.acceptance.proofs.TypeGrounds.{drawn_grounded, type_agrees, type_grounded, bars_grounded, alpha_bars_grounded}
use Rattle.acceptance.proofs.MeterGrounds.{start_grounded, sample_grounded, gap_grounded, report_grounded}
use Rattle.acceptance.proofs.ChannelGrounds.{quieter_grounded, channel_start_grounded, channel_sample_grounded, channel_gap_grounded, channel_report_grounded, bank_grounded}
use Rattle.acceptance.proofs.FileGrounds.{reading_grounded, writing_agrees}
use Rattle.acceptance.proofs.VersionGrounds.{header_grounded, record_reading_grounded, record_writing_agrees}
use Rattle.acceptance.proofs.SalvageGrounds.{salvage_grounded}
use Rattle.acceptance.proofs.SheetGrounds.{text_grounded, total_grounded}

-- ---- record

pub range_refusal_grounds : Always 1 range-refusal-kinds.ps range-refusal-kinds.r range-refusal.Post
    (λ κs args z w. let xs = args.0.now in Grounded (OfRange xs) z.number z.place)
range_refusal_grounds κs args z w is = refusal_grounded (range_agrees _) is

pub size_refusal_grounds : Always 0 size-refusal-kinds.ps size-refusal-kinds.r size-refusal.Post
    (λ κs args z w. let d = args.0 in let m = args.1.0 in let n = args.1.1.0 in
    Grounded (OfSize d.largest (d.each * m + d.besides) m n) z.number z.place)
size_refusal_grounds κs args z w is = refusal_grounded (size_agrees _ _ _) is

pub record_refusal_grounds : Always 1 record-refusal-kinds.ps record-refusal-kinds.r record-refusal.Post
    (λ κs args z w. let d = args.0 in let m = args.1.0 in let xs = args.1.1.0.now in
    Grounded (OfRecord d.largest (d.each * m + d.besides) m xs) z.number z.place)
record_refusal_grounds κs args z w is = refusal_grounded (record_agrees _ _ _) is

-- ---- sums

pub allan_sum_grounds : Always 1 allan-sum-kinds.ps allan-sum-kinds.r allan-sum.Post
    (λ κs args z w. let xs = args.0.now in let m = args.1.0 in Grounded (OfRecord 10922 (2 * m + 1) m xs) z.number z.place)
unfolding allan_sum_answer
allan_sum_grounds κs args z w is = rw is (sum_grounded (record_agrees allan_demand _ _) _ _)

pub modified_sum_grounds : Always 1 modified-sum-kinds.ps modified-sum-kinds.r modified-sum.Post
    (λ κs args z w. let xs = args.0.now in let m = args.1.0 in Grounded (OfRecord 10922 (3 * m) m xs) z.number z.place)
unfolding modified_sum_answer
modified_sum_grounds κs args z w is = rw is (sum_grounded (multiple_agrees 10922 3 _ _) _ _)

-- ---- compare

pub which_quieter_grounds : Always 2 which-quieter-kinds.ps which-quieter-kinds.r which-quieter.Post
    (λ κs args z w. let first = args.0.now in let second = args.1.0.now in let m = args.1.1.0 in Grounded (OfQuieter m first second) z.number z.place)
which_quieter_grounds κs args z w is = rw is (quieter_grounded _ _ _)

-- ---- variances

pub allan_fraction_grounds : Always 0 allan-fraction-kinds.ps allan-fraction-kinds.r allan-fraction.Post
    (λ κs args z w. let sum = value args.0 in let m = args.1.0 in let count = args.1.1.0 in Grounded (OfFraction sum m count) z.number z.place)
unfolding allan_fraction_answer
allan_fraction_grounds κs args z w is = rw is (fraction_grounded (fraction_agrees _ _ _) _ _)

pub time_fraction_grounds : Always 0 time-fraction-kinds.ps time-fraction-kinds.r time-fraction.Post
    (λ κs args z w. let sum = value args.0 in let m = args.1.0 in let count = args.1.1.0 in Grounded (OfFraction sum m count) z.number z.place)
unfolding time_fraction_answer
time_fraction_grounds κs args z w is = rw is (fraction_grounded (fraction_agrees _ _ _) _ _)

pub allan_deviation_grounds : Always 0 allan-deviation-kinds.ps allan-deviation-kinds.r allan-deviation.Post
    (λ κs args z w. let sum = value args.0 in let m = args.1.0 in let count = args.1.1.0 in
    Grounded (OfDeviation sum m count (2 * (m * m) * count)) z.number z.place)
unfolding allan_deviation_answer allan_denominator
allan_deviation_grounds κs args z w is = rw is (deviation_grounded (deviation_agrees _ _ _ 2 (omega arith)) _)

pub time_deviation_grounds : Always 0 time-deviation-kinds.ps time-deviation-kinds.r time-deviation.Post
    (λ κs args z w. let sum = value args.0 in let m = args.1.0 in let count = args.1.1.0 in
    Grounded (OfDeviation sum m count (6 * (m * m) * count)) z.number z.place)
unfolding time_deviation_answer time_denominator
time_deviation_grounds κs args z w is = rw is (deviation_grounded (deviation_agrees _ _ _ 6 (omega arith)) _)

-- ---- frequency

pub phase_from_frequency_grounds : Always 2 phase-from-frequency-kinds.ps phase-from-frequency-kinds.r phase-from-frequency.Post
    (λ κs args z w. let ys = args.0.now in let buffer = args.1.0.now in Grounded (OfPhases ys (length buffer)) z.number z.place)
phase_from_frequency_grounds κs args z w is = rw is.0 (count_grounded (phases_agree _ _) _)

pub phase_from_start_grounds : Always 2 phase-from-start-kinds.ps phase-from-start-kinds.r phase-from-start.Post
    (λ κs args z w. let start = args.0 in let ys = args.1.0.now in let buffer = args.1.1.0.now in
    Grounded (OfPhasesFrom start ys (length buffer)) z.number z.place)
phase_from_start_grounds κs args z w is = rw is.0 (count_grounded (phases_from_agree _ _ _) _)

pub frequency_from_phase_grounds : Always 2 frequency-from-phase-kinds.ps frequency-from-phase-kinds.r frequency-from-phase.Post
    (λ κs args z w. let xs = args.0.now in let buffer = args.1.0.now in Grounded (OfDifferences xs (length buffer)) z.number z.place)
frequency_from_phase_grounds κs args z w is = rw is.0 (count_grounded (differences_agree _ _) _)

-- ---- drift

pub drift_figure_grounds : Always 1 drift-figure-kinds.ps drift-figure-kinds.r drift-figure.Post
    (λ κs args z w. let xs = args.0.now in Grounded (OfDrift xs) z.number z.place)
drift_figure_grounds κs args z w is = rw is (drift_grounded _)

pub remove_drift_grounds : Always 2 remove-drift-kinds.ps remove-drift-kinds.r remove-drift.Post
    (λ κs args z w. let xs = args.0.now in let buffer = args.1.0.now in Grounded (OfRemoval xs (length buffer)) z.number z.place)
remove_drift_grounds κs args z w is = rw is.0 (count_grounded (removal_agrees _ _) _)

-- ---- readings

pub float_sums_grounds : Always 2 float-sums-kinds.ps float-sums-kinds.r float-sums.Post
    (λ κs args z w. let xs = args.0.now in let m = args.1.0 in let buffer = args.1.1.0.now in
    Grounded (OfReadings m xs (length buffer)) z.number z.place)
float_sums_grounds κs args z w is = rw is.0 (readings_grounded _ _ _)

-- ---- plot

pub allan_dot_grounds : Always 0 allan-dot-kinds.ps allan-dot-kinds.r allan-dot.Post
    (λ κs args z w. let sum = value args.0 in let m = args.1.0 in let count = args.1.1.0 in
    Grounded (OfDot sum m count (2 * (m * m) * count)) z.number z.place)
unfolding allan_deviation_answer allan_denominator
allan_dot_grounds κs args z w is = rw is (dot_grounded _ _ _ _ (deviation_agrees _ _ _ 2 (omega arith)) _)

pub time_dot_grounds : Always 0 time-dot-kinds.ps time-dot-kinds.r time-dot.Post
    (λ κs args z w. let sum = value args.0 in let m = args.1.0 in let count = args.1.1.0 in
    Grounded (OfDot sum m count (6 * (m * m) * count)) z.number z.place)
unfolding time_deviation_answer time_denominator
time_dot_grounds κs args z w is = rw is (dot_grounded _ _ _ _ (deviation_agrees _ _ _ 6 (omega arith)) _)

pub drawn_number_grounds : Always 0 drawn-number-kinds.ps drawn-number-kinds.r drawn-number.Post
    (λ κs args z w. let r = args.0 in Grounded (OfDrawn r) z.number z.place)
drawn_number_grounds κs args z w is = rw is (drawn_grounded _)

-- ---- noise

pub noise_of_record_grounds : Always 1 noise-of-record-kinds.ps noise-of-record-kinds.r noise-of-record.Post
    (λ κs args z w. let xs = args.0.now in let m = args.1.0 in Grounded (OfRecordType m xs) z.number z.place)
unfolding record_type_answer
noise_of_record_grounds κs args z w is = rw is (type_grounded (record_type_agrees _ _) _)

pub noise_type_grounds : Always 0 noise-type-kinds.ps noise-type-kinds.r noise-type.Post
    (λ κs args z w. let r1 = args.0 in let r2 = args.1.0 in Grounded (OfType r1 r2) z.number z.place)
unfolding type_answer
noise_type_grounds κs args z w is = rw is (type_grounded (type_agrees _ _) _)

pub bars_grounds : Always 0 bars-kinds.ps bars-kinds.r bars.Post
    (λ κs args z w. let r = args.0 in let type = args.1.0 in let M = args.1.1.0 in Grounded (OfBars r (alpha_of type) M) z.number z.place)
bars_grounds κs args z w is = rw is (bars_grounded _ _ _)

-- ---- meter

pub meter_start_grounds : Always 1 meter-start-kinds.ps meter-start-kinds.r meter-start.Post
    (λ κs args z w. let m = args.1.0 in let ring = args.1.1.0.now in Grounded (OfStart m ring) z.number z.place)
meter_start_grounds κs args z w is = rw is (start_grounded _ _ _)

pub meter_sample_grounds : Always 1 meter-sample-kinds.ps meter-sample-kinds.r meter-sample.Post
    (λ κs args z w. let x = args.0 in let ring = args.1.0.now in let v = args.1.1.0 in Grounded (OfSample x ring v) z.number z.place)
meter_sample_grounds κs args z w is = rw is.0 (sample_grounded _ _ _)

pub meter_gap_grounds : Always 0 meter-gap-kinds.ps meter-gap-kinds.r meter-gap.Post
    (λ κs args z w. let x = args.0 in Grounded (OfGap x) z.number z.place)
meter_gap_grounds κs args z w is = rw is (gap_grounded _)

pub meter_report_grounds : Always 0 meter-report-kinds.ps meter-report-kinds.r meter-report.Post
    (λ κs args z w. let x = args.0 in Grounded (OfReport x) z.number z.place)
meter_report_grounds κs args z w is = rw is (report_grounded _)

-- ---- channels

pub channel_start_grounds : Always 1 channel-start-kinds.ps channel-start-kinds.r channel-start.Post
    (λ κs args z w. let c = args.1.0 in let m = args.1.1.0 in let ring = args.1.1.1.0.now in
    Grounded (OfChannel c (OfStart m (channel_part c ring))) z.number z.place)
channel_start_grounds κs args z w is = rw is (channel_start_grounded _ _ _ _)

pub channel_sample_grounds : Always 1 channel-sample-kinds.ps channel-sample-kinds.r channel-sample.Post
    (λ κs args z w. let x = args.0 in let c = args.1.0 in let ring = args.1.1.0.now in let v = args.1.1.1.0 in
    Grounded (OfChannel c (OfSample x (channel_part c ring) v)) z.number z.place)
channel_sample_grounds κs args z w is = rw is.0 (channel_sample_grounded _ _ _ _)

pub channel_gap_grounds : Always 0 channel-gap-kinds.ps channel-gap-kinds.r channel-gap.Post
    (λ κs args z w. let x = args.0 in let c = args.1.0 in Grounded (OfChannel c (OfGap x)) z.number z.place)
channel_gap_grounds κs args z w is = rw is (channel_gap_grounded _ _)

pub channel_report_grounds : Always 0 channel-report-kinds.ps channel-report-kinds.r channel-report.Post
    (λ κs args z w. let x = args.0 in let c = args.1.0 in Grounded (OfChannel c (OfReport x)) z.number z.place)
channel_report_grounds κs args z w is = rw is (channel_report_grounded _ _)

-- a bank's calls have the rows of the meter that it holds for the channel
pub bank_start_grounds : Always 1 bank-start-kinds.ps bank-start-kinds.r bank-start.Post
    (λ κs args z w. let c = args.1.0 in let m = args.1.1.0 in let ring = args.1.1.1.0.now in
    Grounded (OfChannel c (OfStart m (channel_part c ring))) z.number z.place)
unfolding bank_start_answer
bank_start_grounds κs args z w is = rw is (bank_grounded _ _ _ (channel_start_grounded _ _ _ _))

pub bank_sample_grounds : Always 1 bank-sample-kinds.ps bank-sample-kinds.r bank-sample.Post
    (λ κs args z w. let b = args.0 in let c = args.1.0 in let ring = args.1.1.0.now in let v = args.1.1.1.0 in
    Grounded (OfChannel c (OfSample (meter_of b c) (channel_part c ring) v)) z.number z.place)
unfolding bank_sample_answer
bank_sample_grounds κs args z w is = rw is.0 (bank_grounded _ _ _ (channel_sample_grounded _ _ _ _))

pub bank_gap_grounds : Always 0 bank-gap-kinds.ps bank-gap-kinds.r bank-gap.Post
    (λ κs args z w. let b = args.0 in let c = args.1.0 in Grounded (OfChannel c (OfGap (meter_of b c))) z.number z.place)
unfolding bank_gap_answer
bank_gap_grounds κs args z w is = rw is (bank_grounded _ _ _ (channel_gap_grounded _ _))

pub bank_report_grounds : Always 0 bank-report-kinds.ps bank-report-kinds.r bank-report.Post
    (λ κs args z w. let b = args.0 in let c = args.1.0 in Grounded (OfChannel c (OfReport (meter_of b c))) z.number z.place)
unfolding bank_report_answer
bank_report_grounds κs args z w is = rw is (channel_report_grounded _ _)

-- ---- phr

pub read_file_grounds : Always 2 read-file-kinds.ps read-file-kinds.r read-file.Post
    (λ κs args z w. let bytes = args.0.now in let buffer = args.1.0.now in Grounded (OfFile bytes (length buffer)) z.number z.place)
read_file_grounds κs args z w is = rw is.0 (reading_grounded _ _)

pub write_file_grounds : Always 2 write-file-kinds.ps write-file-kinds.r write-file.Post
    (λ κs args z w. let kind = args.0 in let values = args.1.0.now in let buffer = args.1.1.0.now in
    Grounded (OfWriting kind values (length buffer)) z.number z.place)
write_file_grounds κs args z w is = rw is.0 (count_grounded (writing_agrees _ _ _) _)

pub read_record_grounds : Always 2 read-record-kinds.ps read-record-kinds.r read-record.Post
    (λ κs args z w. let bytes = args.0.now in let buffer = args.1.0.now in Grounded (OfRecordFile bytes (length buffer)) z.number z.place)
read_record_grounds κs args z w is = rw is.0 (record_reading_grounded _ _)

pub write_record_grounds : Always 2 write-record-kinds.ps write-record-kinds.r write-record.Post
    (λ κs args z w. let kind = args.0 in let start = args.1.0 in let values = args.1.1.0.now in let buffer = args.1.1.1.0.now in
    Grounded (OfWritingFrom kind start values (length buffer)) z.number z.place)
write_record_grounds κs args z w is = rw is.0 (count_grounded (record_writing_agrees _ _ _ _) _)

pub read_header_grounds : Always 1 read-header-kinds.ps read-header-kinds.r read-header.Post
    (λ κs args z w. let bytes = args.0.now in Grounded (OfRecordHeader bytes) z.number z.place)
read_header_grounds κs args z w is = rw is (header_grounded _ 0)

-- ---- mending

pub salvage_grounds : Always 2 salvage-kinds.ps salvage-kinds.r salvage.Post
    (λ κs args z w. let bytes = args.0.now in let buffer = args.1.0.now in Grounded (OfSalvage bytes (length buffer)) z.number z.place)
salvage_grounds κs args z w is = rw is.0 (salvage_grounded _ _)

-- ---- listing

pub sheet_record_grounds : Always 2 sheet-record-kinds.ps sheet-record-kinds.r sheet-record.Post
    (λ κs args z w. let bytes = args.0.now in let totals = args.1.0 in let buffer = args.1.1.0.now in Grounded (OfText bytes totals (length buffer)) z.number z.place)
sheet_record_grounds κs args z w is = rw is.0 (text_grounded _ _ _)

pub sheet_total_grounds : Always 1 sheet-total-kinds.ps sheet-total-kinds.r sheet-total.Post
    (λ κs args z w. let totals = args.0 in let buffer = args.1.0.now in Grounded (OfTotal totals (length buffer)) z.number z.place)
sheet_total_grounds κs args z w is = rw is.0 (total_grounded _ _ _)

-- ---- ploegelster: the functions whose contract is not the entry's own

pub plg_noise_type_grounds : Always 0 plg-noise-type-kinds.ps plg-noise-type-kinds.r plg-noise-type.Post
    (λ κs args z w. let r1 = args.0 in let r2 = args.1.0 in Grounded (OfType r1 r2) z.number z.place)
unfolding told_noise type_answer
plg_noise_type_grounds κs args z w is = rw is (type_grounded (type_agrees _ _) _)

-- alpha is any whole number
pub plg_bars_grounds : Always 0 plg-bars-kinds.ps plg-bars-kinds.r plg-bars.Post
    (λ κs args z w. let r = args.0 in let alpha = args.1.0 in let M = args.1.1.0 in Grounded (OfBars r alpha M) z.number z.place)
plg_bars_grounds κs args z w is = rw is (alpha_bars_grounded _ _ _)

pub plg_noise_of_record_grounds : Always 1 plg-noise-of-record-kinds.ps plg-noise-of-record-kinds.r plg-noise-of-record.Post
    (λ κs args z w. let xs = args.0.now in let m = args.1.0 in Grounded (OfRecordType m xs) z.number z.place)
unfolding told_noise record_type_answer
plg_noise_of_record_grounds κs args z w is = rw is (type_grounded (record_type_agrees _ _) _)

pub plg_allan_dot_grounds : Always 0 plg-allan-dot-kinds.ps plg-allan-dot-kinds.r plg-allan-dot.Post
    (λ κs args z w. let sum = value args.0 in let m = args.1.0 in let count = args.1.1.0 in
    Grounded (OfDot sum m count (2 * (m * m) * count)) z.number z.place)
unfolding told_dot allan_deviation_answer allan_denominator
plg_allan_dot_grounds κs args z w is = rw is (dot_grounded _ _ _ _ (deviation_agrees _ _ _ 2 (omega arith)) _)

pub plg_time_dot_grounds : Always 0 plg-time-dot-kinds.ps plg-time-dot-kinds.r plg-time-dot.Post
    (λ κs args z w. let sum = value args.0 in let m = args.1.0 in let count = args.1.1.0 in
    Grounded (OfDot sum m count (6 * (m * m) * count)) z.number z.place)
unfolding told_dot time_deviation_answer time_denominator
plg_time_dot_grounds κs args z w is = rw is (dot_grounded _ _ _ _ (deviation_agrees _ _ _ 6 (omega arith)) _)
