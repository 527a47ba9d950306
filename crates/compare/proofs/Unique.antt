-- Each public function's contract leaves one answer; of a slice that is handed back, one place where it lies and one content.
use Rattle.std.proofs.Common.{◌≡◌, ℕ, cond, ◌==◌, Result, refl, sym, ◌∙◌}
use Rattle.laws.specs.Single.{Single}
use Rattle.compare.proofs.quieter.Reads as quieter
use Rattle.compare.proofs.quieter.Kinds as quieter-kinds
use Rattle.compare.proofs.which_quieter.Reads as which-quieter
use Rattle.compare.proofs.which_quieter.Kinds as which-quieter-kinds
use Rattle.compare.proofs.compared.Reads as compared_lem
use Rattle.compare.proofs.compared.Kinds as compared-kinds
use Rattle.record.specs.declared.grounds.Refused.{Refused}
use Rattle.record.proofs.ToldLaws.{same_told}
use Rattle.compare.specs.Told.{which_of, which_told}
use Rattle.compare.specs.declared.Choice.{Choice}
use Rattle.compare.specs.declared.Choice.TheVariants.{First, Second}

-- the choice of a number
chosen_by : ℕ → Choice
chosen_by n = cond (n == 1) First Second

chosen_back : (x : Choice) → chosen_by (which_of x) ≡ x
unfolding chosen_by
chosen_back First = refl
chosen_back Second = refl

-- two choices that are told alike are one
same_choice : (x y : Result Choice Refused) → which_told x ≡ which_told y → x ≡ y
same_choice = same_told which_told (λ z. z.number) (λ z. z.place) (λ z. chosen_by z.which) (λ _. refl) chosen_back (λ _. refl) (λ _. refl)

pub compared_single : Single 2 compared-kinds.ps compared-kinds.r compared_lem.Post
compared_single κs args z z' w w' first second = (same_choice z z' (first ∙ sym second), refl)

pub quieter_single : Single 1 quieter-kinds.ps quieter-kinds.r quieter.Post
quieter_single κs args z z' w w' first second = (first ∙ sym second, refl)

pub which_quieter_single : Single 2 which-quieter-kinds.ps which-quieter-kinds.r which-quieter.Post
which_quieter_single κs args z z' w w' first second = (first ∙ sym second, refl)
