-- A call on a channel, above 15 and not; where a channel's part of the ring lies; and what the bank is told.
use mathlib.Core.Path.{◌≡◌, refl, sym, ap, ◌∙◌}
use mathlib.Core.Bool.{true, false, cond}
use mathlib.Core.List.{List, ◌++◌}
use Prim.Native.Nat.{ℕ, ◌+◌, ◌-◌, ◌*◌, ◌/◌, ◌≤◌, ◌<◌}
use native.Mathlib.Decide.{dec_le}
use native.Mathlib.Omega.{arith}
use borrow.Author.Tests.{le-leb, lt-leb}
use lib.IntN.{ℤ}
use lib.ListN.{length, take, drop}
use lib.Seq.{drop-drop}
use Rattle.laws.proofs.Tests.{choice_true, choice_false}
use Rattle.laws.proofs.SliceLaws.{part_within}
use Rattle.meter.specs.Answers.{sample_answer, ring_left}
use Rattle.std.proofs.Common.{Ok, Err, ne_eqb}
use Rattle.record.specs.Told.{number_of}
use Rattle.record.specs.declared.grounds.Refused.{Refused}
use Rattle.record.specs.declared.grounds.Ground.TheVariants.{BadChannel}
use Rattle.record.proofs.ToldLaws.{answered_not}
use Rattle.sums.specs.Answers.{no_part}
use Rattle.meter.specs.Told.{meter_told, report_told}
use Rattle.meter.specs.declared.Report.{Report}
use Rattle.meter.specs.declared.Meter.{Meter}
use Rattle.meter.specs.declared.MeterAnswer.{MeterAnswer}
use Rattle.channels.specs.Shares.{is_channel, share, channel_part, with_part, with_meter}
use Rattle.channels.specs.Answers.{no_channel, channel_sample_answer, channel_ring_left, bank_answer}
use Rattle.channels.specs.Told.{bank_told}
use Rattle.channels.specs.declared.Bank.{Bank}

-- ---- a channel, or none

pub is_channel_lem : {c : ℕ} → c ≤ 15 → is_channel c ≡ true
unfolding is_channel
is_channel_lem {c} inside = le-leb c 15 inside

pub is_no_channel : {c : ℕ} → 15 < c → is_channel c ≡ false
unfolding is_channel
is_no_channel {c} above = lt-leb c 15 above

-- ---- its part of the ring

pub part_inside : (c length : ℕ) → c ≤ 15 → c * (length / 16) + length / 16 ≤ length
part_inside c length inside = part_within 16 c length (omega arith)

-- the entries from one place to another, where these are the part's ends
module _ (c : ℕ) (ring : List ℤ) {from to : ℕ} (begins : from ≡ c * (length ring / 16)) (ends : to ≡ c * (length ring / 16) + length ring / 16) where
  width : to - from ≡ length ring / 16
  width = omega (arith, begins, ends)

  pub part_cut : take (to - from) (drop from ring) ≡ channel_part c ring
  unfolding channel_part share
  part_cut = rw (width, begins) refl

  pub part_put_back : (left : List ℤ) → take from ring ++ (left ++ drop (to - from) (drop from ring)) ≡ with_part c ring left
  unfolding with_part share
  part_put_back left = rw (width, begins) (ap (λ (l : List ℤ). take (c * (length ring / 16)) ring ++ (left ++ l)) (drop-drop (length ring / 16) (c * (length ring / 16)) ring))

-- a sample call on the part that is cut out and put back is one on the channel
module _ (x : Meter) (c : ℕ) (ring : List ℤ) (v : ℤ) (inside : c ≤ 15) {from to : ℕ} (begins : from ≡ c * (length ring / 16)) (ends : to ≡ c * (length ring / 16) + length ring / 16) where
  pub sampled_on_part : {z : MeterAnswer} {left : List ℤ} → let cut : List ℤ = take (to - from) (drop from ring) in
      (z ≡ sample_answer x cut v) × (left ≡ ring_left x cut v) →
      (z ≡ channel_sample_answer x c ring v) × (take from ring ++ (left ++ drop (to - from) (drop from ring)) ≡ channel_ring_left x c ring v)
  unfolding channel_sample_answer channel_ring_left
  sampled_on_part {left = left} told =
      let cut = part_cut c ring begins ends in (
        told.0 ∙ ap (λ (part : List ℤ). sample_answer x part v) cut ∙ sym (choice_true _ _ (is_channel_lem inside)),
        part_put_back c ring begins ends left ∙ ap (with_part c ring) (told.1 ∙ ap (λ (part : List ℤ). ring_left x part v) cut)
            ∙ sym (choice_true _ _ (is_channel_lem inside)),
      )

-- above 15 the call is refused, and the ring as it was
pub sample_off_channel : (x : Meter) (c : ℕ) (ring : List ℤ) (v : ℤ) → 15 < c → (no_channel x ≡ channel_sample_answer x c ring v) × (ring ≡ channel_ring_left x c ring v)
unfolding channel_sample_answer channel_ring_left
sample_off_channel x c ring v above = (sym (choice_false _ _ (is_no_channel above)), sym (choice_false _ _ (is_no_channel above)))

-- ---- what a call that gives a result is told

-- above 15 it is refused 11
pub told_off_channel : (x : Meter) (c : ℕ) (answered : MeterAnswer) (e : Refused) → (15 < c) × (e ≡ record { why = BadChannel; place = 0 }) →
    meter_told x (Err e) ≡ cond (is_channel c) answered (no_channel x)
unfolding no_channel
told_off_channel x c answered e off = rw (off.1) (sym (choice_false _ _ (is_no_channel off.0)))

pub report_off_channel : (c : ℕ) (answered : Report) (e : Refused) → (15 < c) × (e ≡ record { why = BadChannel; place = 0 }) →
    report_told (Err e) ≡ cond (is_channel c) answered (record { number = 11; place = 0; allan = no_part; modified = no_part })
report_off_channel c answered e off = rw (off.1) (sym (choice_false _ _ (is_no_channel off.0)))

-- on a channel it is what the meter answers
pub on_channel : {A : Type 0} {c : ℕ} {answer answered : A} (other : A) → c ≤ 15 → answer ≡ answered → answer ≡ cond (is_channel c) answered other
on_channel other inside is = is ∙ sym (choice_true _ _ (is_channel_lem inside))

-- ---- the bank

module _ (bank : Bank) (c : ℕ) where
  -- a call that the meter refuses leaves the bank as it came
  pub bank_error : (x : Meter) (e : Refused) {z : MeterAnswer} → meter_told x (Err e) ≡ z → bank_told bank (Err e) ≡ bank_answer bank c z
  unfolding bank_answer
  bank_error x e is = rw (← is) (sym (choice_false _ _ (ne_eqb (number_of e.why) 0 (answered_not e))))

  -- and one that it answers puts the new meter in its place
  pub bank_given : (new : Meter) {z : MeterAnswer} → record { number = 0; place = 0; meter = new } ≡ z →
      bank_told bank (Ok (with_meter bank c new)) ≡ bank_answer bank c z
  unfolding bank_answer
  bank_given new is = rw (← is) refl

-- an answered call was on a channel
pub answered_on_channel : (c : ℕ) (answered : MeterAnswer) (x : Meter) {z : MeterAnswer} → z ≡ cond (is_channel c) answered (no_channel x) → z.number ≡ 0 → c ≤ 15
unfolding no_channel
answered_on_channel c answered x is nothing = by_order (dec_le c 15)
  where
    by_order : Dec (c ≤ 15) → c ≤ 15
    by_order (yes inside) = inside
    by_order (no above) = absurd (omega (arith, ap (λ (y : MeterAnswer). y.number) (is ∙ choice_false answered (no_channel x) (is_no_channel (omega (arith, above)))), nothing))
