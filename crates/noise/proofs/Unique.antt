-- Each public function's contract leaves one answer.
use Rattle.std.proofs.Common.{◌≡◌, Result, refl, sym, ◌∙◌}
use Rattle.laws.specs.Single.{Single}
use Rattle.noise.proofs.noise_type.Reads as noise-type
use Rattle.noise.proofs.noise_type.Kinds as noise-type-kinds
use Rattle.noise.proofs.noise_of_record.Reads as noise-of-record
use Rattle.noise.proofs.noise_of_record.Kinds as noise-of-record-kinds
use Rattle.noise.proofs.bars.bars.Reads as bars
use Rattle.noise.proofs.bars.bars.Kinds as bars-kinds
use Rattle.noise.proofs.by_deviations.Reads as by-deviations
use Rattle.noise.proofs.by_deviations.Kinds as by-deviations-kinds
use Rattle.noise.proofs.of_record.Reads as of-record
use Rattle.noise.proofs.of_record.Kinds as of-record-kinds
use Rattle.noise.proofs.bars.row.Reads as row_lem
use Rattle.noise.proofs.bars.row.Kinds as row-kinds
use Rattle.record.specs.declared.grounds.Refused.{Refused}
use Rattle.record.proofs.ToldLaws.{same_told}
use Rattle.noise.specs.Told.{noise_told, bars_told}
use Rattle.noise.specs.declared.Noise.{Noise}
use Rattle.noise.specs.declared.bars.Bar.{Bar}

-- two types, and two rows, that are told alike are one
pub same_noise : (x y : Result Noise Refused) → noise_told x ≡ noise_told y → x ≡ y
same_noise = same_told noise_told (λ z. z.number) (λ z. z.place) (λ z. z.noise) (λ _. refl) (λ _. refl) (λ _. refl) (λ _. refl)

pub same_bar : (x y : Result Bar Refused) → bars_told x ≡ bars_told y → x ≡ y
same_bar = same_told bars_told (λ z. z.number) (λ z. z.place) (λ z. z.bar) (λ _. refl) (λ _. refl) (λ _. refl) (λ _. refl)

pub by_deviations_single : Single 0 by-deviations-kinds.ps by-deviations-kinds.r by-deviations.Post
by_deviations_single κs args z z' w w' first second = (same_noise z z' (first ∙ sym second), refl)

pub of_record_single : Single 1 of-record-kinds.ps of-record-kinds.r of-record.Post
of_record_single κs args z z' w w' first second = (same_noise z z' (first ∙ sym second), refl)

pub row_single : Single 0 row-kinds.ps row-kinds.r row_lem.Post
row_single κs args z z' w w' first second = (same_bar z z' (first ∙ sym second), refl)

pub noise_type_single : Single 0 noise-type-kinds.ps noise-type-kinds.r noise-type.Post
noise_type_single κs args z z' w w' first second = (first ∙ sym second, refl)

pub noise_of_record_single : Single 1 noise-of-record-kinds.ps noise-of-record-kinds.r noise-of-record.Post
noise_of_record_single κs args z z' w w' first second = (first ∙ sym second, refl)

pub bars_single : Single 0 bars-kinds.ps bars-kinds.r bars.Post
bars_single κs args z z' w w' first second = (first ∙ sym second, refl)
