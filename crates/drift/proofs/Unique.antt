-- Each contract of this crate leaves one answer: any two results that it allows of the same arguments are equal.
use Rattle.std.proofs.Common.{◌≡◌, Result, refl, sym, ◌∙◌}
use Rattle.laws.specs.Single.{Single}
use Rattle.drift.proofs.drift_figure.Reads as drift-figure
use Rattle.drift.proofs.drift_figure.Kinds as drift-figure-kinds
use Rattle.drift.proofs.remove_drift.Reads as remove-drift
use Rattle.drift.proofs.remove_drift.Kinds as remove-drift-kinds
use Rattle.drift.proofs.figure.Reads as figure_lem
use Rattle.drift.proofs.figure.Kinds as figure-kinds
use Rattle.drift.proofs.removed.Reads as removed_lem
use Rattle.drift.proofs.removed.Kinds as removed-kinds
use Rattle.record.specs.declared.grounds.Refused.{Refused}
use Rattle.record.proofs.ToldLaws.{same_told, same_count}
use Rattle.drift.specs.Told.{drift_told}
use Rattle.drift.specs.declared.Drift.{Drift}

-- two figures that are told alike are one
pub same_drift : (x y : Result Drift Refused) → drift_told x ≡ drift_told y → x ≡ y
same_drift = same_told drift_told (λ z. z.number) (λ z. z.place) (λ z. record { p = z.p; r = z.r }) (λ _. refl) (λ _. refl) (λ _. refl) (λ _. refl)

pub figure_single : Single 1 figure-kinds.ps figure-kinds.r figure_lem.Post
figure_single κs args z z' w w' first second = (same_drift z z' (first ∙ sym second), refl)

-- with the buffer's content
pub removed_single : Single 2 removed-kinds.ps removed-kinds.r removed_lem.Post
removed_single κs args z z' w w' first second = (same_count z z' (first.0 ∙ sym second.0), λ i. (tt, ((first.1 ∙ sym second.1) i, tt)))

pub drift_figure_single : Single 1 drift-figure-kinds.ps drift-figure-kinds.r drift-figure.Post
drift_figure_single κs args z z' w w' first second = (first ∙ sym second, refl)

-- with the buffer's content
pub remove_drift_single : Single 2 remove-drift-kinds.ps remove-drift-kinds.r remove-drift.Post
remove_drift_single κs args z z' w w' first second = (first.0 ∙ sym second.0, λ i. (tt, ((first.1 ∙ sym second.1) i, tt)))
