-- Each public function's contract leaves one answer: any two results that it allows of the same arguments are equal.
use Rattle.std.proofs.Common.{◌≡◌, cond, ◌==◌, Option, Some, None, Result, refl, sym, ◌∙◌}
use Rattle.laws.specs.Single.{Single}
use Rattle.readings.proofs.float_sums.Reads as float-sums
use Rattle.readings.proofs.float_sums.Kinds as float-sums-kinds
use Rattle.readings.proofs.sums_of.Reads as sums-of
use Rattle.readings.proofs.sums_of.Kinds as sums-of-kinds
use Rattle.record.specs.declared.grounds.Refused.{Refused}
use Rattle.record.proofs.ToldLaws.{same_told}
use Rattle.sums.specs.Told.{part_told}
use Rattle.sums.specs.declared.Sum.{Sum}
use Rattle.sums.specs.declared.Part.{Part}
use Rattle.readings.specs.Told.{sums_told}
use Rattle.readings.specs.declared.Sums.{Sums}

-- a part's sum
part_back : Part → Option Sum
part_back p = cond (p.number == 0) (Some (record { total = p.sum; count = p.count })) None

part_back_lem : (x : Option Sum) → part_back (part_told x) ≡ x
unfolding part_back
part_back_lem (Some s) = refl
part_back_lem None = refl

-- two answers that are told alike are one
same_sums : (x y : Result Sums Refused) → sums_told x ≡ sums_told y → x ≡ y
same_sums =
    same_told sums_told (λ z. z.number) (λ z. z.place)
    (λ z. record { allan = record { total = z.allan.sum; count = z.allan.count }; modified = part_back z.modified; changed = z.changed }) (λ _. refl)
    (λ s i. record { allan = s.allan; modified = part_back_lem s.modified i; changed = s.changed }) (λ _. refl) (λ _. refl)

-- with the buffer's content
pub sums_of_single : Single 2 sums-of-kinds.ps sums-of-kinds.r sums-of.Post
sums_of_single κs args z z' w w' first second =
    (same_sums z z' (first.0 ∙ sym second.0), λ i. (tt, (tt, ((first.1 ∙ sym second.1) i, tt))))

pub float_sums_single : Single 2 float-sums-kinds.ps float-sums-kinds.r float-sums.Post
float_sums_single κs args z z' w w' first second =
    (first.0 ∙ sym second.0, λ i. (tt, (tt, ((first.1 ∙ sym second.1) i, tt))))
