-- Each public function's contract leaves one answer, and a sample call's leaves one content of the ring.
use Rattle.std.proofs.Common.{◌≡◌, Result, refl, sym, ◌∙◌}
use Rattle.laws.specs.Single.{Single}
use Rattle.channels.proofs.channel_start.Reads as channel-start
use Rattle.channels.proofs.channel_start.Kinds as channel-start-kinds
use Rattle.channels.proofs.channel_sample.Reads as channel-sample
use Rattle.channels.proofs.channel_sample.Kinds as channel-sample-kinds
use Rattle.channels.proofs.channel_gap.Reads as channel-gap
use Rattle.channels.proofs.channel_gap.Kinds as channel-gap-kinds
use Rattle.channels.proofs.channel_report.Reads as channel-report
use Rattle.channels.proofs.channel_report.Kinds as channel-report-kinds
use Rattle.channels.proofs.Bank.start.Reads as start
use Rattle.channels.proofs.Bank.start.Kinds as start-kinds
use Rattle.channels.proofs.Bank.sample.Reads as sample
use Rattle.channels.proofs.Bank.sample.Kinds as sample-kinds
use Rattle.channels.proofs.Bank.gap.Reads as gap
use Rattle.channels.proofs.Bank.gap.Kinds as gap_kinds
use Rattle.channels.proofs.Bank.report.Reads as report
use Rattle.channels.proofs.Bank.report.Kinds as report-kinds
use Rattle.channels.proofs.fresh_on.Reads as fresh-call
use Rattle.channels.proofs.fresh_on.Kinds as fresh-call-kinds
use Rattle.channels.proofs.with_sample_on.Reads as with-sample-call
use Rattle.channels.proofs.with_sample_on.Kinds as with-sample-call-kinds
use Rattle.channels.proofs.after_gap_on.Reads as after-gap-call
use Rattle.channels.proofs.after_gap_on.Kinds as after-gap-call-kinds
use Rattle.channels.proofs.sums_on.Reads as sums-of-call
use Rattle.channels.proofs.sums_on.Kinds as sums-of-call-kinds
use Rattle.channels.proofs.Bank.with_fresh.Reads as bank-with-fresh-call
use Rattle.channels.proofs.Bank.with_fresh.Kinds as bank-with-fresh-call-kinds
use Rattle.channels.proofs.Bank.with_sample.Reads as bank-with-sample-call
use Rattle.channels.proofs.Bank.with_sample.Kinds as bank-with-sample-call-kinds
use Rattle.channels.proofs.Bank.after_gap.Reads as bank-after-gap-call
use Rattle.channels.proofs.Bank.after_gap.Kinds as bank-after-gap-call-kinds
use Rattle.channels.proofs.Bank.sums.Reads as bank-sums-call
use Rattle.channels.proofs.Bank.sums.Kinds as bank-sums-call-kinds
use Rattle.record.specs.declared.grounds.Refused.{Refused}
use Rattle.record.proofs.ToldLaws.{same_told}
use Rattle.meter.specs.Meter.{started}
use Rattle.meter.proofs.Unique.{same_meter, same_sums}
use Rattle.channels.specs.Told.{bank_told}
use Rattle.channels.specs.declared.Bank.{Bank}

-- two banks that are told alike are one
same_bank : (old : Bank) (x y : Result Bank Refused) → bank_told old x ≡ bank_told old y → x ≡ y
same_bank old = same_told (bank_told old) (λ z. z.number) (λ z. z.place) (λ z. z.bank) (λ _. refl) (λ _. refl) (λ _. refl) (λ _. refl)

pub fresh_on_single : Single 1 fresh-call-kinds.ps fresh-call-kinds.r fresh-call.Post
fresh_on_single κs args z z' w w' first second = (same_meter (started 0) z z' (first (started 0) ∙ sym (second (started 0))), refl)

pub with_sample_on_single : Single 1 with-sample-call-kinds.ps with-sample-call-kinds.r with-sample-call.Post
with_sample_on_single κs args z z' w w' first second = (same_meter args.0 z z' (first.0 ∙ sym second.0), λ i. (tt, (tt, ((first.1 ∙ sym second.1) i, (tt, tt)))))

pub after_gap_on_single : Single 0 after-gap-call-kinds.ps after-gap-call-kinds.r after-gap-call.Post
after_gap_on_single κs args z z' w w' first second = (same_meter args.0 z z' (first ∙ sym second), refl)

pub sums_on_single : Single 0 sums-of-call-kinds.ps sums-of-call-kinds.r sums-of-call.Post
sums_on_single κs args z z' w w' first second = (same_sums z z' (first ∙ sym second), refl)

pub with_fresh_single : Single 1 bank-with-fresh-call-kinds.ps bank-with-fresh-call-kinds.r bank-with-fresh-call.Post
with_fresh_single κs args z z' w w' first second = (same_bank args.0 z z' (first ∙ sym second), refl)

pub with_sample_single : Single 1 bank-with-sample-call-kinds.ps bank-with-sample-call-kinds.r bank-with-sample-call.Post
with_sample_single κs args z z' w w' first second = (same_bank args.0 z z' (first.0 ∙ sym second.0), λ i. (tt, (tt, ((first.1 ∙ sym second.1) i, (tt, tt)))))

pub after_gap_single : Single 0 bank-after-gap-call-kinds.ps bank-after-gap-call-kinds.r bank-after-gap-call.Post
after_gap_single κs args z z' w w' first second = (same_bank args.0 z z' (first ∙ sym second), refl)

pub sums_single : Single 0 bank-sums-call-kinds.ps bank-sums-call-kinds.r bank-sums-call.Post
sums_single κs args z z' w w' first second = (same_sums z z' (first ∙ sym second), refl)

pub channel_start_single : Single 1 channel-start-kinds.ps channel-start-kinds.r channel-start.Post
channel_start_single κs args z z' w w' first second = (first ∙ sym second, refl)

pub channel_sample_single : Single 1 channel-sample-kinds.ps channel-sample-kinds.r channel-sample.Post
channel_sample_single κs args z z' w w' first second = (first.0 ∙ sym second.0, λ i. (tt, (tt, ((first.1 ∙ sym second.1) i, (tt, tt)))))

pub channel_gap_single : Single 0 channel-gap-kinds.ps channel-gap-kinds.r channel-gap.Post
channel_gap_single κs args z z' w w' first second = (first ∙ sym second, refl)

pub channel_report_single : Single 0 channel-report-kinds.ps channel-report-kinds.r channel-report.Post
channel_report_single κs args z z' w w' first second = (first ∙ sym second, refl)

pub start_single : Single 1 start-kinds.ps start-kinds.r start.Post
start_single κs args z z' w w' first second = (first ∙ sym second, refl)

pub sample_single : Single 1 sample-kinds.ps sample-kinds.r sample.Post
sample_single κs args z z' w w' first second = (first.0 ∙ sym second.0, λ i. (tt, (tt, ((first.1 ∙ sym second.1) i, (tt, tt)))))

pub gap_single : Single 0 gap_kinds.ps gap_kinds.r gap.Post
gap_single κs args z z' w w' first second = (first ∙ sym second, refl)

pub report_single : Single 0 report-kinds.ps report-kinds.r report.Post
report_single κs args z z' w w' first second = (first ∙ sym second, refl)
