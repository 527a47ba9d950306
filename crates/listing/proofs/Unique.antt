-- The contracts leave one answer and one content of the lent buffer.
use Rattle.std.proofs.Common.{◌≡◌, Result, refl, sym, ◌∙◌}
use Rattle.laws.specs.Single.{Single}
use Rattle.listing.proofs.record.Reads as record_lem
use Rattle.listing.proofs.record.Kinds as record-kinds
use Rattle.listing.proofs.total.Reads as total_lem
use Rattle.listing.proofs.total.Kinds as total-kinds
use Rattle.listing.proofs.sheet_record.Reads as sheet-record
use Rattle.listing.proofs.sheet_record.Kinds as sheet-record-kinds
use Rattle.listing.proofs.sheet_total.Reads as sheet-total
use Rattle.listing.proofs.sheet_total.Kinds as sheet-total-kinds
use Rattle.record.specs.declared.grounds.Refused.{Refused}
use Rattle.record.proofs.ToldLaws.{same_told, same_count}
use Rattle.listing.specs.declared.Totals.{Totals}
use Rattle.listing.specs.declared.Written.{Written}
use Rattle.listing.specs.Told.{text_told}

-- two texts that are told alike are one
same_text : (t : Totals) (x y : Result Written Refused) → text_told t x ≡ text_told t y → x ≡ y
same_text t =
    same_told (text_told t) (λ z. z.number) (λ z. z.place) (λ z. record { length = z.length; totals = z.totals }) (λ _. refl) (λ _. refl) (λ _. refl) (λ _. refl)

pub record_single : Single 2 record-kinds.ps record-kinds.r record_lem.Post
record_single κs args z z' w w' first second = (same_text args.1.0 z z' (first.0 ∙ sym second.0), λ i. (tt, (tt, ((first.1 ∙ sym second.1) i, tt))))

pub total_single : Single 1 total-kinds.ps total-kinds.r total_lem.Post
total_single κs args z z' w w' first second = (same_count z z' (first.0 ∙ sym second.0), λ i. (tt, ((first.1 ∙ sym second.1) i, tt)))

pub sheet_record_single : Single 2 sheet-record-kinds.ps sheet-record-kinds.r sheet-record.Post
sheet_record_single κs args z z' w w' first second = (first.0 ∙ sym second.0, λ i. (tt, (tt, ((first.1 ∙ sym second.1) i, tt))))

pub sheet_total_single : Single 1 sheet-total-kinds.ps sheet-total-kinds.r sheet-total.Post
sheet_total_single κs args z z' w w' first second = (first.0 ∙ sym second.0, λ i. (tt, ((first.1 ∙ sym second.1) i, tt)))
