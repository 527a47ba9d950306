-- Each exported function's contract leaves one answer, and one content of each buffer that it may write.
use mathlib.Core.Path.{refl, sym, ◌∙◌}
use Rattle.laws.specs.Single.{Single}
use Rattle.ploegelster.proofs.published.plg_allan_sum.Reads as plg-allan-sum
use Rattle.ploegelster.proofs.published.plg_allan_sum.Kinds as plg-allan-sum-kinds
use Rattle.ploegelster.proofs.published.plg_modified_sum.Reads as plg-modified-sum
use Rattle.ploegelster.proofs.published.plg_modified_sum.Kinds as plg-modified-sum-kinds
use Rattle.ploegelster.proofs.published.plg_allan_fraction.Reads as plg-allan-fraction
use Rattle.ploegelster.proofs.published.plg_allan_fraction.Kinds as plg-allan-fraction-kinds
use Rattle.ploegelster.proofs.published.plg_time_fraction.Reads as plg-time-fraction
use Rattle.ploegelster.proofs.published.plg_time_fraction.Kinds as plg-time-fraction-kinds
use Rattle.ploegelster.proofs.published.plg_allan_deviation.Reads as plg-allan-deviation
use Rattle.ploegelster.proofs.published.plg_allan_deviation.Kinds as plg-allan-deviation-kinds
use Rattle.ploegelster.proofs.published.plg_time_deviation.Reads as plg-time-deviation
use Rattle.ploegelster.proofs.published.plg_time_deviation.Kinds as plg-time-deviation-kinds
use Rattle.ploegelster.proofs.published.plg_quieter.Reads as plg-quieter
use Rattle.ploegelster.proofs.published.plg_quieter.Kinds as plg-quieter-kinds
use Rattle.ploegelster.proofs.phases.plg_phase_from_frequency.Reads as plg-phase-from-frequency
use Rattle.ploegelster.proofs.phases.plg_phase_from_frequency.Kinds as plg-phase-from-frequency-kinds
use Rattle.ploegelster.proofs.phases.plg_phase_from_start.Reads as plg-phase-from-start
use Rattle.ploegelster.proofs.phases.plg_phase_from_start.Kinds as plg-phase-from-start-kinds
use Rattle.ploegelster.proofs.phases.plg_frequency_from_phase.Reads as plg-frequency-from-phase
use Rattle.ploegelster.proofs.phases.plg_frequency_from_phase.Kinds as plg-frequency-from-phase-kinds
use Rattle.ploegelster.proofs.phases.plg_drift_figure.Reads as plg-drift-figure
use Rattle.ploegelster.proofs.phases.plg_drift_figure.Kinds as plg-drift-figure-kinds
use Rattle.ploegelster.proofs.phases.plg_remove_drift.Reads as plg-remove-drift
use Rattle.ploegelster.proofs.phases.plg_remove_drift.Kinds as plg-remove-drift-kinds
use Rattle.ploegelster.proofs.floats.plg_float_sums.Reads as plg-float-sums
use Rattle.ploegelster.proofs.floats.plg_float_sums.Kinds as plg-float-sums-kinds
use Rattle.ploegelster.proofs.drawing.plg_drawn_number.Reads as plg-drawn-number
use Rattle.ploegelster.proofs.drawing.plg_drawn_number.Kinds as plg-drawn-number-kinds
use Rattle.ploegelster.proofs.drawing.plg_allan_dot.Reads as plg-allan-dot
use Rattle.ploegelster.proofs.drawing.plg_allan_dot.Kinds as plg-allan-dot-kinds
use Rattle.ploegelster.proofs.drawing.plg_time_dot.Reads as plg-time-dot
use Rattle.ploegelster.proofs.drawing.plg_time_dot.Kinds as plg-time-dot-kinds
use Rattle.ploegelster.proofs.drawing.plg_noise_type.Reads as plg-noise-type
use Rattle.ploegelster.proofs.drawing.plg_noise_type.Kinds as plg-noise-type-kinds
use Rattle.ploegelster.proofs.drawing.plg_noise_of_record.Reads as plg-noise-of-record
use Rattle.ploegelster.proofs.drawing.plg_noise_of_record.Kinds as plg-noise-of-record-kinds
use Rattle.ploegelster.proofs.drawing.plg_bars.Reads as plg-bars
use Rattle.ploegelster.proofs.drawing.plg_bars.Kinds as plg-bars-kinds
use Rattle.ploegelster.proofs.meters.plg_meter_start.Reads as plg-meter-start
use Rattle.ploegelster.proofs.meters.plg_meter_start.Kinds as plg-meter-start-kinds
use Rattle.ploegelster.proofs.meters.plg_meter_sample.Reads as plg-meter-sample
use Rattle.ploegelster.proofs.meters.plg_meter_sample.Kinds as plg-meter-sample-kinds
use Rattle.ploegelster.proofs.meters.plg_meter_gap.Reads as plg-meter-gap
use Rattle.ploegelster.proofs.meters.plg_meter_gap.Kinds as plg-meter-gap-kinds
use Rattle.ploegelster.proofs.meters.plg_meter_report.Reads as plg-meter-report
use Rattle.ploegelster.proofs.meters.plg_meter_report.Kinds as plg-meter-report-kinds
use Rattle.ploegelster.proofs.meters.plg_channel_start.Reads as plg-channel-start
use Rattle.ploegelster.proofs.meters.plg_channel_start.Kinds as plg-channel-start-kinds
use Rattle.ploegelster.proofs.meters.plg_channel_sample.Reads as plg-channel-sample
use Rattle.ploegelster.proofs.meters.plg_channel_sample.Kinds as plg-channel-sample-kinds
use Rattle.ploegelster.proofs.meters.plg_channel_gap.Reads as plg-channel-gap
use Rattle.ploegelster.proofs.meters.plg_channel_gap.Kinds as plg-channel-gap-kinds
use Rattle.ploegelster.proofs.meters.plg_channel_report.Reads as plg-channel-report
use Rattle.ploegelster.proofs.meters.plg_channel_report.Kinds as plg-channel-report-kinds
use Rattle.ploegelster.proofs.files.plg_read_file.Reads as plg-read-file
use Rattle.ploegelster.proofs.files.plg_read_file.Kinds as plg-read-file-kinds
use Rattle.ploegelster.proofs.files.plg_write_file.Reads as plg-write-file
use Rattle.ploegelster.proofs.files.plg_write_file.Kinds as plg-write-file-kinds
use Rattle.ploegelster.proofs.files.plg_read_record.Reads as plg-read-record
use Rattle.ploegelster.proofs.files.plg_read_record.Kinds as plg-read-record-kinds
use Rattle.ploegelster.proofs.files.plg_write_record.Reads as plg-write-record
use Rattle.ploegelster.proofs.files.plg_write_record.Kinds as plg-write-record-kinds
use Rattle.ploegelster.proofs.files.plg_salvage.Reads as plg-salvage
use Rattle.ploegelster.proofs.files.plg_salvage.Kinds as plg-salvage-kinds
use Rattle.ploegelster.proofs.sheets.plg_sheet_record.Reads as plg-sheet-record
use Rattle.ploegelster.proofs.sheets.plg_sheet_record.Kinds as plg-sheet-record-kinds
use Rattle.ploegelster.proofs.sheets.plg_sheet_total.Reads as plg-sheet-total
use Rattle.ploegelster.proofs.sheets.plg_sheet_total.Kinds as plg-sheet-total-kinds

-- ---- published

pub plg_allan_sum_single : Single 1 plg-allan-sum-kinds.ps plg-allan-sum-kinds.r plg-allan-sum.Post
plg_allan_sum_single κs args z z' w w' first second = (first ∙ sym second, refl)

pub plg_modified_sum_single : Single 1 plg-modified-sum-kinds.ps plg-modified-sum-kinds.r plg-modified-sum.Post
plg_modified_sum_single κs args z z' w w' first second = (first ∙ sym second, refl)

pub plg_allan_fraction_single : Single 0 plg-allan-fraction-kinds.ps plg-allan-fraction-kinds.r plg-allan-fraction.Post
plg_allan_fraction_single κs args z z' w w' first second = (first ∙ sym second, refl)

pub plg_time_fraction_single : Single 0 plg-time-fraction-kinds.ps plg-time-fraction-kinds.r plg-time-fraction.Post
plg_time_fraction_single κs args z z' w w' first second = (first ∙ sym second, refl)

pub plg_allan_deviation_single : Single 0 plg-allan-deviation-kinds.ps plg-allan-deviation-kinds.r plg-allan-deviation.Post
plg_allan_deviation_single κs args z z' w w' first second = (first ∙ sym second, refl)

pub plg_time_deviation_single : Single 0 plg-time-deviation-kinds.ps plg-time-deviation-kinds.r plg-time-deviation.Post
plg_time_deviation_single κs args z z' w w' first second = (first ∙ sym second, refl)

-- ---- phases

pub plg_quieter_single : Single 2 plg-quieter-kinds.ps plg-quieter-kinds.r plg-quieter.Post
plg_quieter_single κs args z z' w w' first second = (first ∙ sym second, refl)

pub plg_phase_from_frequency_single : Single 2 plg-phase-from-frequency-kinds.ps plg-phase-from-frequency-kinds.r plg-phase-from-frequency.Post
plg_phase_from_frequency_single κs args z z' w w' first second = (first.0 ∙ sym second.0, λ i. (tt, ((first.1 ∙ sym second.1) i, tt)))

pub plg_phase_from_start_single : Single 2 plg-phase-from-start-kinds.ps plg-phase-from-start-kinds.r plg-phase-from-start.Post
plg_phase_from_start_single κs args z z' w w' first second = (first.0 ∙ sym second.0, λ i. (tt, (tt, ((first.1 ∙ sym second.1) i, tt))))

pub plg_frequency_from_phase_single : Single 2 plg-frequency-from-phase-kinds.ps plg-frequency-from-phase-kinds.r plg-frequency-from-phase.Post
plg_frequency_from_phase_single κs args z z' w w' first second = (first.0 ∙ sym second.0, λ i. (tt, ((first.1 ∙ sym second.1) i, tt)))

pub plg_drift_figure_single : Single 1 plg-drift-figure-kinds.ps plg-drift-figure-kinds.r plg-drift-figure.Post
plg_drift_figure_single κs args z z' w w' first second = (first ∙ sym second, refl)

pub plg_remove_drift_single : Single 2 plg-remove-drift-kinds.ps plg-remove-drift-kinds.r plg-remove-drift.Post
plg_remove_drift_single κs args z z' w w' first second = (first.0 ∙ sym second.0, λ i. (tt, ((first.1 ∙ sym second.1) i, tt)))

-- ---- floats

pub plg_float_sums_single : Single 2 plg-float-sums-kinds.ps plg-float-sums-kinds.r plg-float-sums.Post
plg_float_sums_single κs args z z' w w' first second = (first.0 ∙ sym second.0, λ i. (tt, (tt, ((first.1 ∙ sym second.1) i, tt))))

-- ---- drawing

pub plg_drawn_number_single : Single 0 plg-drawn-number-kinds.ps plg-drawn-number-kinds.r plg-drawn-number.Post
plg_drawn_number_single κs args z z' w w' first second = (first ∙ sym second, refl)

pub plg_allan_dot_single : Single 0 plg-allan-dot-kinds.ps plg-allan-dot-kinds.r plg-allan-dot.Post
plg_allan_dot_single κs args z z' w w' first second = (first ∙ sym second, refl)

pub plg_time_dot_single : Single 0 plg-time-dot-kinds.ps plg-time-dot-kinds.r plg-time-dot.Post
plg_time_dot_single κs args z z' w w' first second = (first ∙ sym second, refl)

pub plg_noise_type_single : Single 0 plg-noise-type-kinds.ps plg-noise-type-kinds.r plg-noise-type.Post
plg_noise_type_single κs args z z' w w' first second = (first ∙ sym second, refl)

pub plg_noise_of_record_single : Single 1 plg-noise-of-record-kinds.ps plg-noise-of-record-kinds.r plg-noise-of-record.Post
plg_noise_of_record_single κs args z z' w w' first second = (first ∙ sym second, refl)

pub plg_bars_single : Single 0 plg-bars-kinds.ps plg-bars-kinds.r plg-bars.Post
plg_bars_single κs args z z' w w' first second = (first ∙ sym second, refl)

-- ---- meters

pub plg_meter_start_single : Single 1 plg-meter-start-kinds.ps plg-meter-start-kinds.r plg-meter-start.Post
plg_meter_start_single κs args z z' w w' first second = (first ∙ sym second, refl)

pub plg_meter_sample_single : Single 1 plg-meter-sample-kinds.ps plg-meter-sample-kinds.r plg-meter-sample.Post
plg_meter_sample_single κs args z z' w w' first second = (first.0 ∙ sym second.0, λ i. (tt, ((first.1 ∙ sym second.1) i, (tt, tt))))

pub plg_meter_gap_single : Single 0 plg-meter-gap-kinds.ps plg-meter-gap-kinds.r plg-meter-gap.Post
plg_meter_gap_single κs args z z' w w' first second = (first ∙ sym second, refl)

pub plg_meter_report_single : Single 0 plg-meter-report-kinds.ps plg-meter-report-kinds.r plg-meter-report.Post
plg_meter_report_single κs args z z' w w' first second = (first ∙ sym second, refl)

-- ---- files

pub plg_channel_start_single : Single 1 plg-channel-start-kinds.ps plg-channel-start-kinds.r plg-channel-start.Post
plg_channel_start_single κs args z z' w w' first second = (first ∙ sym second, refl)

pub plg_channel_sample_single : Single 1 plg-channel-sample-kinds.ps plg-channel-sample-kinds.r plg-channel-sample.Post
plg_channel_sample_single κs args z z' w w' first second = (first.0 ∙ sym second.0, λ i. (tt, (tt, ((first.1 ∙ sym second.1) i, (tt, tt)))))

pub plg_channel_gap_single : Single 0 plg-channel-gap-kinds.ps plg-channel-gap-kinds.r plg-channel-gap.Post
plg_channel_gap_single κs args z z' w w' first second = (first ∙ sym second, refl)

pub plg_channel_report_single : Single 0 plg-channel-report-kinds.ps plg-channel-report-kinds.r plg-channel-report.Post
plg_channel_report_single κs args z z' w w' first second = (first ∙ sym second, refl)

pub plg_read_file_single : Single 2 plg-read-file-kinds.ps plg-read-file-kinds.r plg-read-file.Post
plg_read_file_single κs args z z' w w' first second = (first.0 ∙ sym second.0, λ i. (tt, ((first.1 ∙ sym second.1) i, tt)))

pub plg_write_file_single : Single 2 plg-write-file-kinds.ps plg-write-file-kinds.r plg-write-file.Post
plg_write_file_single κs args z z' w w' first second = (first.0 ∙ sym second.0, λ i. (tt, (tt, ((first.1 ∙ sym second.1) i, tt))))

pub plg_read_record_single : Single 2 plg-read-record-kinds.ps plg-read-record-kinds.r plg-read-record.Post
plg_read_record_single κs args z z' w w' first second = (first.0 ∙ sym second.0, λ i. (tt, ((first.1 ∙ sym second.1) i, tt)))

pub plg_write_record_single : Single 2 plg-write-record-kinds.ps plg-write-record-kinds.r plg-write-record.Post
plg_write_record_single κs args z z' w w' first second = (first.0 ∙ sym second.0, λ i. (tt, (tt, (tt, ((first.1 ∙ sym second.1) i, tt)))))

pub plg_salvage_single : Single 2 plg-salvage-kinds.ps plg-salvage-kinds.r plg-salvage.Post
plg_salvage_single κs args z z' w w' first second = (first.0 ∙ sym second.0, λ i. (tt, ((first.1 ∙ sym second.1) i, tt)))

-- ---- sheets

pub plg_sheet_record_single : Single 2 plg-sheet-record-kinds.ps plg-sheet-record-kinds.r plg-sheet-record.Post
plg_sheet_record_single κs args z z' w w' first second = (first.0 ∙ sym second.0, λ i. (tt, (tt, ((first.1 ∙ sym second.1) i, tt))))

pub plg_sheet_total_single : Single 1 plg-sheet-total-kinds.ps plg-sheet-total-kinds.r plg-sheet-total.Post
plg_sheet_total_single κs args z z' w w' first second = (first.0 ∙ sym second.0, λ i. (tt, ((first.1 ∙ sym second.1) i, tt)))
