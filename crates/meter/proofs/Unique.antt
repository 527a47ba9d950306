-- Each public function's contract leaves one answer, and a sample call's leaves one content of the ring.
use Rattle.std.proofs.Common.{◌≡◌, cond, ◌==◌, Option, Some, None, Result, refl, sym, ◌∙◌}
use Rattle.laws.specs.Single.{Single}
use Rattle.meter.proofs.Meter.start.Reads as start
use Rattle.meter.proofs.Meter.start.Kinds as start-kinds
use Rattle.meter.proofs.Meter.sample.Reads as sample
use Rattle.meter.proofs.Meter.sample.Kinds as sample-kinds
use Rattle.meter.proofs.Meter.gap.Reads as gap
use Rattle.meter.proofs.Meter.gap.Kinds as gap_kinds
use Rattle.meter.proofs.Meter.report.Reads as report
use Rattle.meter.proofs.Meter.report.Kinds as report-kinds
use Rattle.meter.proofs.Meter.new.Reads as new_lem
use Rattle.meter.proofs.Meter.new.Kinds as new-kinds
use Rattle.meter.proofs.Meter.with_sample.Reads as with-sample
use Rattle.meter.proofs.Meter.with_sample.Kinds as with-sample-kinds
use Rattle.meter.proofs.Meter.after_gap.Reads as after-gap
use Rattle.meter.proofs.Meter.after_gap.Kinds as after-gap-kinds
use Rattle.record.specs.declared.grounds.Refused.{Refused}
use Rattle.record.proofs.ToldLaws.{same_told}
use Rattle.meter.proofs.Meter.sums.Reads as sums_lem
use Rattle.meter.proofs.Meter.sums.Kinds as sums-kinds
use Rattle.sums.specs.declared.Sum.{Sum}
use Rattle.sums.specs.declared.Part.{Part}
use Rattle.sums.specs.Told.{part_told}
use Rattle.meter.specs.declared.Sums.{Sums}
use Rattle.meter.specs.Told.{meter_told, report_told}
use Rattle.meter.specs.Meter.{started}
use Rattle.meter.specs.declared.Meter.{Meter}

-- two meters that are told alike are one
pub same_meter : (old : Meter) (x y : Result Meter Refused) → meter_told old x ≡ meter_told old y → x ≡ y
same_meter old = same_told (meter_told old) (λ z. z.number) (λ z. z.place) (λ z. z.meter) (λ _. refl) (λ _. refl) (λ _. refl) (λ _. refl)

pub new_single : Single 1 new-kinds.ps new-kinds.r new_lem.Post
new_single κs args z z' w w' first second = (same_meter (started 0) z z' (first (started 0) ∙ sym (second (started 0))), refl)

pub with_sample_single : Single 1 with-sample-kinds.ps with-sample-kinds.r with-sample.Post
with_sample_single κs args z z' w w' first second = (same_meter args.0 z z' (first.0 ∙ sym second.0), λ i. (tt, ((first.1 ∙ sym second.1) i, (tt, tt))))

pub after_gap_single : Single 0 after-gap-kinds.ps after-gap-kinds.r after-gap.Post
after_gap_single κs args z z' w w' first second = (same_meter args.0 z z' (first ∙ sym second), refl)

-- a part's sum
part_back : Part → Option Sum
part_back p = cond (p.number == 0) (Some (record { total = p.sum; count = p.count })) None

part_back_lem : (x : Option Sum) → part_back (part_told x) ≡ x
unfolding part_back
part_back_lem (Some s) = refl
part_back_lem None = refl

-- two reports that are told alike are one
pub same_sums : (x y : Result Sums Refused) → report_told x ≡ report_told y → x ≡ y
same_sums =
    same_told report_told (λ z. z.number) (λ z. z.place) (λ z. record { allan = part_back z.allan; modified = part_back z.modified }) (λ _. refl)
    (λ s i. record { allan = part_back_lem s.allan i; modified = part_back_lem s.modified i }) (λ _. refl) (λ _. refl)

pub sums_single : Single 0 sums-kinds.ps sums-kinds.r sums_lem.Post
sums_single κs args z z' w w' first second = (same_sums z z' (first ∙ sym second), refl)

pub start_single : Single 1 start-kinds.ps start-kinds.r start.Post
start_single κs args z z' w w' first second = (first ∙ sym second, refl)

pub sample_single : Single 1 sample-kinds.ps sample-kinds.r sample.Post
sample_single κs args z z' w w' first second = (first.0 ∙ sym second.0, λ i. (tt, ((first.1 ∙ sym second.1) i, (tt, tt))))

pub gap_single : Single 0 gap_kinds.ps gap_kinds.r gap.Post
gap_single κs args z z' w w' first second = (first ∙ sym second, refl)

pub report_single : Single 0 report-kinds.ps report-kinds.r report.Post
report_single κs args z z' w w' first second = (first ∙ sym second, refl)
