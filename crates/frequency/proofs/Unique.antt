-- Each contract of this crate leaves one answer: any two results that it allows of the same arguments are equal.
use mathlib.Core.Path.{sym, ◌∙◌}
use Rattle.laws.specs.Single.{Single}
use Rattle.frequency.proofs.phase_from_frequency.Reads as phase-from-frequency
use Rattle.frequency.proofs.phase_from_frequency.Kinds as phase-from-frequency-kinds
use Rattle.frequency.proofs.phase_from_start.Reads as phase-from-start
use Rattle.frequency.proofs.phase_from_start.Kinds as phase-from-start-kinds
use Rattle.frequency.proofs.frequency_from_phase.Reads as frequency-from-phase
use Rattle.frequency.proofs.frequency_from_phase.Kinds as frequency-from-phase-kinds
use Rattle.frequency.proofs.phases.Reads as phases_lem
use Rattle.frequency.proofs.phases.Kinds as phases-kinds
use Rattle.frequency.proofs.differences.Reads as differences_lem
use Rattle.frequency.proofs.differences.Kinds as differences-kinds
use Rattle.record.proofs.ToldLaws.{same_count}

-- with the buffer's content
pub phase_from_frequency_single : Single 2 phase-from-frequency-kinds.ps phase-from-frequency-kinds.r phase-from-frequency.Post
phase_from_frequency_single κs args z z' w w' first second =
    (first.0 ∙ sym second.0, λ i. (tt, ((first.1 ∙ sym second.1) i, tt)))

pub phase_from_start_single : Single 2 phase-from-start-kinds.ps phase-from-start-kinds.r phase-from-start.Post
phase_from_start_single κs args z z' w w' first second =
    (first.0 ∙ sym second.0, λ i. (tt, (tt, ((first.1 ∙ sym second.1) i, tt))))

pub frequency_from_phase_single : Single 2 frequency-from-phase-kinds.ps frequency-from-phase-kinds.r frequency-from-phase.Post
frequency_from_phase_single κs args z z' w w' first second =
    (first.0 ∙ sym second.0, λ i. (tt, ((first.1 ∙ sym second.1) i, tt)))

pub phases_single : Single 2 phases-kinds.ps phases-kinds.r phases_lem.Post
phases_single κs args z z' w w' first second =
    (same_count z z' (first.0 ∙ sym second.0), λ i. (tt, (tt, ((first.1 ∙ sym second.1) i, tt))))

pub differences_single : Single 2 differences-kinds.ps differences-kinds.r differences_lem.Post
differences_single κs args z z' w w' first second =
    (same_count z z' (first.0 ∙ sym second.0), λ i. (tt, ((first.1 ∙ sym second.1) i, tt)))
