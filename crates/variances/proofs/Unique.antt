-- Each public function's contract leaves one answer.
use Rattle.std.proofs.Common.{◌≡◌, ℕ, Result, refl, sym, ◌∙◌}
use Rattle.laws.specs.Single.{Single}
use Rattle.variances.proofs.allan_fraction.Reads as allan-fraction
use Rattle.variances.proofs.allan_fraction.Kinds as allan-fraction-kinds
use Rattle.variances.proofs.time_fraction.Reads as time-fraction
use Rattle.variances.proofs.time_fraction.Kinds as time-fraction-kinds
use Rattle.variances.proofs.allan_deviation.Reads as allan-deviation
use Rattle.variances.proofs.allan_deviation.Kinds as allan-deviation-kinds
use Rattle.variances.proofs.time_deviation.Reads as time-deviation
use Rattle.variances.proofs.time_deviation.Kinds as time-deviation-kinds
use Rattle.variances.proofs.fractions.allan_variance.Reads as allan-variance
use Rattle.variances.proofs.fractions.allan_variance.Kinds as allan-variance-kinds
use Rattle.variances.proofs.fractions.time_variance.Reads as time-variance
use Rattle.variances.proofs.fractions.time_variance.Kinds as time-variance-kinds
use Rattle.variances.proofs.deviations.allan_root.Reads as allan-root
use Rattle.variances.proofs.deviations.allan_root.Kinds as allan-root-kinds
use Rattle.variances.proofs.deviations.time_root.Reads as time-root
use Rattle.variances.proofs.deviations.time_root.Kinds as time-root-kinds
use Rattle.record.specs.declared.grounds.Refused.{Refused}
use Rattle.record.proofs.ToldLaws.{same_told}
use Rattle.variances.specs.Told.{fraction_told, deviation_told}
use Rattle.variances.specs.declared.fractions.Fraction.{Fraction}

-- two fractions, and two deviations, that are told alike are one
pub same_fraction : (x y : Result Fraction Refused) → fraction_told x ≡ fraction_told y → x ≡ y
same_fraction =
    same_told fraction_told (λ z. z.number) (λ z. z.place) (λ z. record { numerator = z.numerator; denominator = z.denominator })
    (λ _. refl) (λ _. refl) (λ _. refl) (λ _. refl)

pub same_deviation : (x y : Result ℕ Refused) → deviation_told x ≡ deviation_told y → x ≡ y
same_deviation = same_told deviation_told (λ z. z.number) (λ z. z.place) (λ z. z.deviation) (λ _. refl) (λ _. refl) (λ _. refl) (λ _. refl)

pub allan_variance_single : Single 0 allan-variance-kinds.ps allan-variance-kinds.r allan-variance.Post
allan_variance_single κs args z z' w w' first second = (same_fraction z z' (first ∙ sym second), refl)

pub time_variance_single : Single 0 time-variance-kinds.ps time-variance-kinds.r time-variance.Post
time_variance_single κs args z z' w w' first second = (same_fraction z z' (first ∙ sym second), refl)

pub allan_root_single : Single 0 allan-root-kinds.ps allan-root-kinds.r allan-root.Post
allan_root_single κs args z z' w w' first second = (same_deviation z z' (first ∙ sym second), refl)

pub time_root_single : Single 0 time-root-kinds.ps time-root-kinds.r time-root.Post
time_root_single κs args z z' w w' first second = (same_deviation z z' (first ∙ sym second), refl)

pub allan_fraction_single : Single 0 allan-fraction-kinds.ps allan-fraction-kinds.r allan-fraction.Post
allan_fraction_single κs args z z' w w' first second = (first ∙ sym second, refl)

pub time_fraction_single : Single 0 time-fraction-kinds.ps time-fraction-kinds.r time-fraction.Post
time_fraction_single κs args z z' w w' first second = (first ∙ sym second, refl)

pub allan_deviation_single : Single 0 allan-deviation-kinds.ps allan-deviation-kinds.r allan-deviation.Post
allan_deviation_single κs args z z' w w' first second = (first ∙ sym second, refl)

pub time_deviation_single : Single 0 time-deviation-kinds.ps time-deviation-kinds.r time-deviation.Post
time_deviation_single κs args z z' w w' first second = (first ∙ sym second, refl)
