-- Each contract of this crate leaves one answer and one content of the lent buffer.
use Rattle.std.proofs.Common.{◌≡◌, Bool, true, false, cond, ◌==◌, Result, refl, sym, ap, ◌∙◌}
use Rattle.laws.specs.Single.{Single}
use Rattle.record.specs.declared.grounds.Refused.{Refused}
use Rattle.record.proofs.ToldLaws.{same_told}
use Rattle.mending.specs.Told.{salvage_told}
use Rattle.mending.specs.declared.Kept.{Kept}
use Rattle.mending.proofs.mended.Reads as mended_lem
use Rattle.mending.proofs.mended.Kinds as mended-kinds
use Rattle.mending.proofs.salvage.Reads as salvage
use Rattle.mending.proofs.salvage.Kinds as salvage-kinds

met_back : (met : Bool) → cond met 1 0 == 1 ≡ met
met_back true = refl
met_back false = refl

-- two that are told alike are one
same_kept : (x y : Result Kept Refused) → salvage_told x ≡ salvage_told y → x ≡ y
same_kept =
    same_told salvage_told (λ z. z.number) (λ z. z.place) (λ z. record { old_count = z.old_count; new_count = z.new_count; left_over = z.left_over; met = z.met == 1 })
    (λ _. refl) (λ k. ap (λ (met : Bool). record { old_count = k.old_count; new_count = k.new_count; left_over = k.left_over; met = met }) (met_back k.met))
    (λ _. refl) (λ _. refl)

pub mended_single : Single 2 mended-kinds.ps mended-kinds.r mended_lem.Post
mended_single κs args z z' w w' first second = (same_kept z z' (first.0 ∙ sym second.0), λ i. (tt, ((first.1 ∙ sym second.1) i, tt)))

pub salvage_single : Single 2 salvage-kinds.ps salvage-kinds.r salvage.Post
salvage_single κs args z z' w w' first second = (first.0 ∙ sym second.0, λ i. (tt, ((first.1 ∙ sym second.1) i, tt)))
