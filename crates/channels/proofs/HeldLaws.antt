-- What the bank answers of a call on a channel, and how it leaves the ring, is that of the meter that it holds; above 15 no meter matters.
use mathlib.Core.Path.{◌≡◌, refl, ap}
use mathlib.Core.Bool.{cond}
use mathlib.Core.List.{List}
use Prim.Native.Nat.{ℕ, ◌≤◌, ◌<◌}
use native.Mathlib.Decide.{dec_le}
use native.Mathlib.Omega.{arith}
use lib.IntN.{ℤ}
use Rattle.meter.specs.Answers.{start_answer, sample_answer, gap_answer}
use Rattle.meter.specs.declared.Meter.{Meter}
use Rattle.meter.specs.declared.MeterAnswer.{MeterAnswer}
use Rattle.channels.specs.Shares.{is_channel, channel_part, meter_of}
use Rattle.channels.specs.Answers.{no_channel, channel_start_answer, channel_sample_answer, channel_ring_left, channel_gap_answer, channel_report_answer}
use Rattle.channels.specs.Answers.{bank_answer, bank_start_answer, bank_sample_answer, bank_ring_left, bank_gap_answer, bank_report_answer}
use Rattle.channels.specs.declared.Bank.{Bank}
use Rattle.channels.proofs.ChannelLaws.{is_no_channel}

-- what a call answers of the meter that the bank holds for the channel; above 15 it is the same of any meter
pub held_alike : {A : Type 0} (bank : Bank) (c : ℕ) (answer : Meter → A) (x : Meter) →
    (15 < c → (y z : Meter) → answer y ≡ answer z) → (c ≤ 15 → x ≡ meter_of bank c) → answer x ≡ answer (meter_of bank c)
held_alike bank c answer x off held = by_order (dec_le c 15)
  where
    by_order : Dec (c ≤ 15) → answer x ≡ answer (meter_of bank c)
    by_order (yes inside) = ap answer (held inside)
    by_order (no above) = off (omega arith) x (meter_of bank c)

-- so the bank's answer is that of the meter that it holds
module _ (bank : Bank) (c : ℕ) (x : Meter) (held : c ≤ 15 → x ≡ meter_of bank c) where
  no_meter_matters : (met : Meter → MeterAnswer) → 15 < c → (y z : Meter) →
      bank_answer bank c (cond (is_channel c) (met y) (no_channel y)) ≡ bank_answer bank c (cond (is_channel c) (met z) (no_channel z))
  unfolding bank_answer no_channel
  no_meter_matters met above y z = rw (is_no_channel above) refl

  pub start_held : (m : ℕ) (ring : List ℤ) → bank_answer bank c (channel_start_answer x c m ring) ≡ bank_start_answer bank c m ring
  unfolding bank_start_answer channel_start_answer
  start_held m ring =
      held_alike bank c (λ (y : Meter). bank_answer bank c (channel_start_answer y c m ring)) x (no_meter_matters (λ y. start_answer y m (channel_part c ring))) held

  pub sample_held : (ring : List ℤ) (v : ℤ) → bank_answer bank c (channel_sample_answer x c ring v) ≡ bank_sample_answer bank c ring v
  unfolding bank_sample_answer channel_sample_answer
  sample_held ring v =
      held_alike bank c (λ (y : Meter). bank_answer bank c (channel_sample_answer y c ring v)) x (no_meter_matters (λ y. sample_answer y (channel_part c ring) v)) held

  pub ring_held : (ring : List ℤ) (v : ℤ) → channel_ring_left x c ring v ≡ bank_ring_left bank c ring v
  unfolding bank_ring_left channel_ring_left
  ring_held ring v = held_alike bank c (λ (y : Meter). channel_ring_left y c ring v) x (λ above y z. rw (is_no_channel above) refl) held

  pub gap_held : bank_answer bank c (channel_gap_answer x c) ≡ bank_gap_answer bank c
  unfolding bank_gap_answer channel_gap_answer
  gap_held = held_alike bank c (λ (y : Meter). bank_answer bank c (channel_gap_answer y c)) x (no_meter_matters gap_answer) held

  pub report_held : channel_report_answer x c ≡ bank_report_answer bank c
  unfolding bank_report_answer channel_report_answer
  report_held = held_alike bank c (λ (y : Meter). channel_report_answer y c) x (λ above y z. rw (is_no_channel above) refl) held
