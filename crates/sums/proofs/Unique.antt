-- Each public function's contract leaves one answer.
use Rattle.std.proofs.Common.{◌≡◌, Result, refl, sym, ◌∙◌}
use Rattle.laws.specs.Single.{Single}
use Rattle.sums.proofs.allan_sum.Reads as allan-sum
use Rattle.sums.proofs.allan_sum.Kinds as allan-sum-kinds
use Rattle.sums.proofs.modified_sum.Reads as modified-sum
use Rattle.sums.proofs.modified_sum.Kinds as modified-sum-kinds
use Rattle.sums.proofs.allan.Reads as allan_lem
use Rattle.sums.proofs.allan.Kinds as allan-kinds
use Rattle.sums.proofs.modified.Reads as modified_lem
use Rattle.sums.proofs.modified.Kinds as modified-kinds
use Rattle.record.specs.declared.grounds.Refused.{Refused}
use Rattle.record.proofs.ToldLaws.{same_told}
use Rattle.sums.specs.Told.{sum_told}
use Rattle.sums.specs.declared.Sum.{Sum}

-- two sums that are told alike are one
pub same_sum : (x y : Result Sum Refused) → sum_told x ≡ sum_told y → x ≡ y
same_sum = same_told sum_told (λ z. z.number) (λ z. z.place) (λ z. record { total = z.sum; count = z.count }) (λ _. refl) (λ _. refl) (λ _. refl) (λ _. refl)

pub allan_single : Single 1 allan-kinds.ps allan-kinds.r allan_lem.Post
allan_single κs args z z' w w' first second = (same_sum z z' (first ∙ sym second), refl)

pub modified_single : Single 1 modified-kinds.ps modified-kinds.r modified_lem.Post
modified_single κs args z z' w w' first second = (same_sum z z' (first ∙ sym second), refl)

pub allan_sum_single : Single 1 allan-sum-kinds.ps allan-sum-kinds.r allan-sum.Post
allan_sum_single κs args z z' w w' first second = (first ∙ sym second, refl)

pub modified_sum_single : Single 1 modified-sum-kinds.ps modified-sum-kinds.r modified-sum.Post
modified_sum_single κs args z z' w w' first second = (first ∙ sym second, refl)
