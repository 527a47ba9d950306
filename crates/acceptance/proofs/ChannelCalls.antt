-- A call on a channel is the meter's own call with the channel's part as its ring, and leaves every other part as it was. So any calls on all channels, seen
-- from one, are calls of its meter, and a bank's calls are calls on its channels.
use mathlib.Core.Path.{◌≡◌, refl, sym, ap, subst, ◌∙◌}
use mathlib.Core.Bool.{Bool, true, false, cond}
use mathlib.Core.List.{List, [], ◌∷◌, ◌++◌}
use mathlib.Core.Logic.{inl, inr}
use Prim.Native.Nat.{ℕ, ◌+◌, ◌-◌, ◌*◌, ◌/◌, ◌%◌, ◌≤◌, ◌<◌}
use native.Mathlib.Decide.{dec_le, dec_lt}
use native.Mathlib.Omega.{arith}
use borrow.Author.Tests.{eq-eqb, ne_eqb, eqb-true, eqb-false}
use lib.Dec.{eqb}
use lib.IntN.{ℤ, pos}
use lib.ListN.{length, get_or, length-set}
use Rattle.laws.specs.Lists.{at}
use Rattle.laws.proofs.Tests.{choice_true, choice_false}
use Rattle.meter.specs.Meter.{ring_with}
use Rattle.meter.specs.Answers.{start_answer, sample_refusal, sample_answer, ring_left, gap_answer, report_answer}
use Rattle.meter.specs.declared.Meter.{Meter}
use Rattle.meter.specs.declared.MeterAnswer.{MeterAnswer}
use Rattle.meter.specs.declared.Report.{Report}
use Rattle.channels.specs.Shares.{is_channel, channel_part, with_part, meter_of, with_meter}
use Rattle.channels.specs.Answers.{no_channel, channel_start_answer, channel_sample_answer, channel_ring_left, channel_gap_answer, channel_report_answer, bank_answer, bank_start_answer, bank_sample_answer, bank_ring_left, bank_gap_answer, bank_report_answer}
use Rattle.channels.specs.declared.Bank.{Bank}
use Rattle.channels.specs.declared.BankAnswer.{BankAnswer}
use Rattle.channels.proofs.ChannelLaws.{is_channel_lem, is_no_channel, answered_on_channel}
use Rattle.channels.proofs.ShareLaws.{part_length, part_entry, put_length, put_entry, put_own, put_other, put_as_it_was, replaced_meters, replaced_own, replaced_other}
use Rattle.sums.specs.Answers.{no_part}
use Rattle.acceptance.specs.Noughts.{Refused, PartsNought, PartsApart}
use Rattle.acceptance.specs.Calls.{Starts, Samples, Gaps, Reports, Trace}
use Rattle.acceptance.specs.Calls
use Rattle.acceptance.specs.Channels.{ChannelStarts, ChannelSamples, ChannelGaps, ChannelReports, ChannelTrace, BankStarts, BankSamples, BankGaps, BankReports, BankTrace, Accepted, but_for}
use Rattle.acceptance.specs.Channels
use Rattle.acceptance.proofs.AnyCalls.{sample_answers}
use Rattle.acceptance.proofs.NoughtLaws.{meter_as_it_came, ring_as_it_came, other_slots_unchanged, slot_in_ring, own_slot_written, report_noughts, report_part_noughts}

-- ---- the parts of a ring

-- a sample call leaves a ring as long as it was
left_length : (x : Meter) (ring : List ℤ) (v : ℤ) → length (ring_left x ring v) ≡ length ring
unfolding ring_left ring_with
left_length x ring v = by_number (eqb (sample_refusal x ring v).number 0)
  where
    by_number : (t : Bool) → length (cond t (ring_with x ring v) ring) ≡ length ring
    by_number true = length-set ring _ v
    by_number false = refl

-- so it leaves a channel's part, and the ring with it
part_left_length : (x : Meter) (c : ℕ) (ring : List ℤ) (v : ℤ) → c ≤ 15 → length (ring_left x (channel_part c ring) v) ≡ length ring / 16
part_left_length x c ring v inside = left_length x (channel_part c ring) v ∙ part_length c ring inside

-- ---- one call on a channel, by its contract alone

pub start_on : {x : Meter} {c m : ℕ} {ring : List ℤ} {z : MeterAnswer} → ChannelStarts x c m ring z → z ≡ channel_start_answer x c m ring
start_on (Channels.by_contract κs place allowed) = allowed

pub sample_on : {x : Meter} {c : ℕ} {ring left : List ℤ} {v : ℤ} {z : MeterAnswer} → ChannelSamples x c ring v z left →
    (z ≡ channel_sample_answer x c ring v) × (left ≡ channel_ring_left x c ring v)
sample_on (Channels.by_contract κs place name allowed) = allowed

pub gap_on : {x : Meter} {c : ℕ} {z : MeterAnswer} → ChannelGaps x c z → z ≡ channel_gap_answer x c
gap_on (Channels.by_contract κs allowed) = allowed

pub report_on : {x : Meter} {c : ℕ} {z : Report} → ChannelReports x c z → z ≡ channel_report_answer x c
report_on (Channels.by_contract κs allowed) = allowed

-- ---- it is the meter's own call, with the channel's part as its ring

module _ {x : Meter} {c : ℕ} (inside : c ≤ 15) where
  pub starts_on_part : {m : ℕ} {ring : List ℤ} {z : MeterAnswer} → ChannelStarts x c m ring z → Starts x m (channel_part c ring) z
  unfolding channel_start_answer
  starts_on_part (Channels.by_contract κs place allowed) = Calls.by_contract κs place (allowed ∙ choice_true _ _ (is_channel_lem inside))

  pub samples_on_part : {ring left : List ℤ} {v : ℤ} {z : MeterAnswer} → ChannelSamples x c ring v z left →
      Samples x (channel_part c ring) v z (channel_part c left)
  unfolding channel_sample_answer channel_ring_left
  samples_on_part {ring} {v = v} (Channels.by_contract κs place name allowed) = Calls.by_contract κs place name (
    allowed.0 ∙ choice_true _ _ (is_channel_lem inside),
    ap (channel_part c) (allowed.1 ∙ choice_true _ _ (is_channel_lem inside)) ∙ put_own c ring inside (ring_left x (channel_part c ring) v) (part_left_length x c ring v inside),
  )

  pub gaps_on_part : {z : MeterAnswer} → ChannelGaps x c z → Gaps x z
  unfolding channel_gap_answer
  gaps_on_part (Channels.by_contract κs allowed) = Calls.by_contract κs (allowed ∙ choice_true _ _ (is_channel_lem inside))

  pub reports_on_part : {z : Report} → ChannelReports x c z → Reports x z
  unfolding channel_report_answer
  reports_on_part (Channels.by_contract κs allowed) = Calls.by_contract κs (allowed ∙ choice_true _ _ (is_channel_lem inside))

-- ---- what it leaves of the ring elsewhere

-- a ring as a call on channel c leaves it: the part of every other channel is as it was
pub other_part_kept : {y : Meter} {c k : ℕ} {ring left : List ℤ} {v : ℤ} {z : MeterAnswer} → ChannelSamples y c ring v z left → (k ≡ c → ⊥) →
    channel_part k left ≡ channel_part k ring
unfolding channel_ring_left
other_part_kept {y} {c} {k} {ring} {v = v} call other = ap (channel_part k) (sample_on call).1 ∙ by_order (dec_le c 15)
  where
    by_order : Dec (c ≤ 15) → channel_part k (channel_ring_left y c ring v) ≡ channel_part k ring
    by_order (yes inside) =
        ap (channel_part k) (choice_true _ _ (is_channel_lem inside)) ∙ put_other c ring inside (ring_left y (channel_part c ring) v) (part_left_length y c ring v inside) k other
    by_order (no far) = let past : 15 < c = omega arith in ap (channel_part k) (choice_false _ _ (is_no_channel past))

-- and it is as long as it was
pub length_kept : {y : Meter} {c : ℕ} {ring left : List ℤ} {v : ℤ} {z : MeterAnswer} → ChannelSamples y c ring v z left → length left ≡ length ring
unfolding channel_ring_left
length_kept {y} {c} {ring} {v = v} call = ap length (sample_on call).1 ∙ by_order (dec_le c 15)
  where
    by_order : Dec (c ≤ 15) → length (channel_ring_left y c ring v) ≡ length ring
    by_order (yes inside) = ap length (choice_true _ _ (is_channel_lem inside)) ∙ put_length c ring inside (ring_left y (channel_part c ring) v) (part_left_length y c ring v inside)
    by_order (no far) = let past : 15 < c = omega arith in ap length (choice_false _ _ (is_no_channel past))

-- above 15 it is not touched
ring_untouched : (y : Meter) (c : ℕ) (ring : List ℤ) (v : ℤ) → 15 < c → channel_ring_left y c ring v ≡ ring
unfolding channel_ring_left
ring_untouched y c ring v past = choice_false _ _ (is_no_channel past)

-- a call on channel k answers the same of two rings in which its part is the same
module _ {x : Meter} {k : ℕ} {ring left : List ℤ} (same : channel_part k ring ≡ channel_part k left) where
  pub same_part_same_start : {m : ℕ} {a a' : MeterAnswer} → ChannelStarts x k m ring a → ChannelStarts x k m left a' → a ≡ a'
  unfolding channel_start_answer
  same_part_same_start {m} before after =
      start_on before ∙ ap (λ (part : List ℤ). cond (is_channel k) (start_answer x m part) (no_channel x)) same ∙ sym (start_on after)

  pub same_part_same_sample : {u : ℤ} {a a' : MeterAnswer} {l l' : List ℤ} → ChannelSamples x k ring u a l → ChannelSamples x k left u a' l' →
      (a ≡ a') × (channel_part k l ≡ channel_part k l')
  unfolding channel_sample_answer
  same_part_same_sample {u} {l = l} {l'} before after = (
    (sample_on before).0 ∙ ap (λ (part : List ℤ). cond (is_channel k) (sample_answer x part u) (no_channel x)) same ∙ sym (sample_on after).0,
    by_order (dec_le k 15),
  )
    where
      by_order : Dec (k ≤ 15) → channel_part k l ≡ channel_part k l'
      by_order (yes inside) =
          (sample_answers (samples_on_part inside before)).1 ∙ ap (λ (part : List ℤ). ring_left x part u) same ∙ sym (sample_answers (samples_on_part inside after)).1
      by_order (no far) =
          let past : 15 < k = omega arith in
          ap (channel_part k) ((sample_on before).1 ∙ ring_untouched x k ring u past) ∙ same ∙ sym (ap (channel_part k) ((sample_on after).1 ∙ ring_untouched x k left u past))

-- ---- a refused call

module _ (x : Meter) (c : ℕ) where
  pub refused_start_on : (m : ℕ) (ring : List ℤ) → Refused (channel_start_answer x c m ring).number → (channel_start_answer x c m ring).meter ≡ x
  unfolding channel_start_answer start_answer no_channel
  refused_start_on m ring = by_channel (is_channel c)
    where
      by_channel : (t : Bool) → Refused (cond t (start_answer x m (channel_part c ring)) (no_channel x)).number → (cond t (start_answer x m (channel_part c ring)) (no_channel x)).meter ≡ x
      by_channel true some = meter_as_it_came _ _ _ some
      by_channel false some = refl

  pub refused_sample_on : (ring : List ℤ) (v : ℤ) → Refused (channel_sample_answer x c ring v).number →
      ((channel_sample_answer x c ring v).meter ≡ x) × (channel_ring_left x c ring v ≡ ring)
  unfolding channel_sample_answer channel_ring_left sample_answer no_channel
  refused_sample_on ring v = by_channel (is_channel c)
    where
      by_channel : (t : Bool) → Refused (cond t (sample_answer x (channel_part c ring) v) (no_channel x)).number →
          ((cond t (sample_answer x (channel_part c ring) v) (no_channel x)).meter ≡ x) × (cond t (with_part c ring (ring_left x (channel_part c ring) v)) ring ≡ ring)
      by_channel true some = (meter_as_it_came _ _ _ some, ap (with_part c ring) (ring_as_it_came x (channel_part c ring) v some) ∙ put_as_it_was c ring)
      by_channel false some = (refl, refl)

  pub refused_gap_on : Refused (channel_gap_answer x c).number → (channel_gap_answer x c).meter ≡ x
  unfolding channel_gap_answer gap_answer no_channel
  refused_gap_on = by_channel (is_channel c)
    where
      by_channel : (t : Bool) → Refused (cond t (gap_answer x) (no_channel x)).number → (cond t (gap_answer x) (no_channel x)).meter ≡ x
      by_channel true some = meter_as_it_came _ _ _ some
      by_channel false some = refl

  pub refused_report_on : let z : Report = channel_report_answer x c in (Refused z.number → PartsNought z.allan z.modified) × PartsApart z.allan z.modified
  unfolding channel_report_answer no_part
  refused_report_on = by_channel (is_channel c)
    where
      by_channel : (t : Bool) → let z : Report = cond t (report_answer x) (record { number = 11; place = 0; allan = no_part; modified = no_part }) in
          (Refused z.number → PartsNought z.allan z.modified) × PartsApart z.allan z.modified
      by_channel true = (report_noughts x, report_part_noughts x)
      by_channel false = (λ some. ((refl, (refl, refl)), (refl, (refl, refl))), (λ some. (refl, refl), λ some. (refl, refl)))

-- ---- what a sample call on a channel writes: its slot of the part, and no other entry of the ring

module _ (x : Meter) (c : ℕ) (ring : List ℤ) (v : ℤ) where
  abbrev own_slot : ℕ
  own_slot = c * (length ring / 16) + x.stretch % (3 * x.m)

  module _ (inside : c ≤ 15) where
    abbrev part_left : List ℤ
    part_left = ring_left x (channel_part c ring) v

    as_long : length (with_part c ring part_left) ≡ length ring
    as_long = put_length c ring inside part_left (part_left_length x c ring v inside)

    -- an entry of the part, in the ring as it is left
    entry_left : (j : ℕ) (e : ℤ) → j < length ring / 16 → get_or (with_part c ring part_left) (c * (length ring / 16) + j) e ≡ get_or part_left j e
    entry_left j e below =
        sym (rw as_long at (part_entry c (with_part c ring part_left) inside j e (rw as_long below)))
        ∙ ap (λ (l : List ℤ). get_or l j e) (put_own c ring inside part_left (part_left_length x c ring v inside))

    other_entry : (i : ℕ) (e : ℤ) → (i ≡ own_slot → ⊥) → get_or (with_part c ring part_left) i e ≡ get_or ring i e
    other_entry i e other = by_place (dec_lt i (c * (length ring / 16))) (dec_lt i (c * (length ring / 16) + length ring / 16))
      where
        by_place : Dec (i < c * (length ring / 16)) → Dec (i < c * (length ring / 16) + length ring / 16) → get_or (with_part c ring part_left) i e ≡ get_or ring i e
        by_place (yes before) _ = put_entry c ring inside part_left (part_left_length x c ring v inside) i e (inl before)
        by_place (no not_before) (no not-Within) = put_entry c ring inside part_left (part_left_length x c ring v inside) i e (inr (omega arith))
        by_place (no not_before) (yes within) =
            let j : ℕ = i - c * (length ring / 16) in
            let here : c * (length ring / 16) + j ≡ i = omega arith in
            let below : j < length ring / 16 = omega arith in
            rw here at (entry_left j e below ∙ other_slots_unchanged x (channel_part c ring) v j e (λ same. other (omega arith)) ∙ part_entry c ring inside j e below)

  pub other_entries_unchanged : (i : ℕ) (e : ℤ) → (i ≡ own_slot → ⊥) → get_or (channel_ring_left x c ring v) i e ≡ get_or ring i e
  unfolding channel_ring_left
  other_entries_unchanged i e other = by_order (dec_le c 15)
    where
      by_order : Dec (c ≤ 15) → get_or (channel_ring_left x c ring v) i e ≡ get_or ring i e
      by_order (yes inside) = rw (is_channel_lem inside) (other_entry inside i e other)
      by_order (no far) = let past : 15 < c = omega arith in rw (is_no_channel past) refl

  pub own_entry_written : (channel_sample_answer x c ring v).number ≡ 0 → at (channel_ring_left x c ring v) own_slot ≡ v
  unfolding channel_sample_answer channel_ring_left
  own_entry_written zero =
      let inside = answered_on_channel c _ x refl zero in
      let answered : (sample_answer x (channel_part c ring) v).number ≡ 0 = sym (ap (λ (z : MeterAnswer). z.number) (choice_true (sample_answer x (channel_part c ring) v) (no_channel x) (is_channel_lem inside))) ∙ zero in
      let below = slot_in_ring x (channel_part c ring) v answered in
      rw (is_channel_lem inside) (entry_left inside _ (pos 0) (rw (part_length c ring inside) at below) ∙ own_slot_written x (channel_part c ring) v answered)

-- ---- any calls, seen from one channel, are calls of its meter

pub seen_from_channel : {c : ℕ} {x : Meter} {ring h : List ℤ} {past : List (List ℤ)} {m : ℕ} → c ≤ 15 → ChannelTrace c x ring m h past →
    Trace x (channel_part c ring) m h past
seen_from_channel inside (Channels.begin x ring) = Calls.begin x _
seen_from_channel inside (Channels.start_accepted trace call e) = Calls.start_accepted (seen_from_channel inside trace) (starts_on_part inside call) e
seen_from_channel inside (Channels.start_refused trace call f) = Calls.start_refused (seen_from_channel inside trace) (starts_on_part inside call) f
seen_from_channel inside (Channels.sample_accepted trace call e) = Calls.sample_accepted (seen_from_channel inside trace) (samples_on_part inside call) e
seen_from_channel inside (Channels.sample_refused trace call f) = Calls.sample_refused (seen_from_channel inside trace) (samples_on_part inside call) f
seen_from_channel inside (Channels.gap_accepted trace call e) = Calls.gap_accepted (seen_from_channel inside trace) (gaps_on_part inside call) e
seen_from_channel inside (Channels.gap_refused trace call f) = Calls.gap_refused (seen_from_channel inside trace) (gaps_on_part inside call) f
seen_from_channel inside (Channels.reported trace call) = Calls.reported (seen_from_channel inside trace) (reports_on_part inside call)
seen_from_channel {x = x} {h = h} {past} {m} inside (Channels.sampled_elsewhere trace other call) =
    subst (λ (l : List ℤ). Trace x l m h past) (sym (other_part_kept call (λ e. other (sym e)))) (seen_from_channel inside trace)

-- ---- a bank's call, by its contract alone: that of the meter that it holds

pub bank_starts_on : {b : Bank} {c m : ℕ} {ring : List ℤ} {z : BankAnswer} → BankStarts b c m ring z → z ≡ bank_answer b c (channel_start_answer (meter_of b c) c m ring)
unfolding bank_start_answer
bank_starts_on (Channels.by_contract κs place allowed) = allowed

pub bank_samples_on : {b : Bank} {c : ℕ} {ring left : List ℤ} {v : ℤ} {z : BankAnswer} → BankSamples b c ring v z left →
    (z ≡ bank_answer b c (channel_sample_answer (meter_of b c) c ring v)) × (left ≡ channel_ring_left (meter_of b c) c ring v)
unfolding bank_sample_answer bank_ring_left
bank_samples_on (Channels.by_contract κs place name allowed) = allowed

pub bank_gaps_on : {b : Bank} {c : ℕ} {z : BankAnswer} → BankGaps b c z → z ≡ bank_answer b c (channel_gap_answer (meter_of b c) c)
unfolding bank_gap_answer
bank_gaps_on (Channels.by_contract κs allowed) = allowed

-- the call on the channel, which the contract of the channel's function allows
start_held : {b : Bank} {c m : ℕ} {ring : List ℤ} {z : BankAnswer} → BankStarts b c m ring z →
    ChannelStarts (meter_of b c) c m ring (channel_start_answer (meter_of b c) c m ring)
start_held (Channels.by_contract κs place allowed) = Channels.by_contract κs place refl

pub sample_held : {b : Bank} {c : ℕ} {ring left : List ℤ} {v : ℤ} {z : BankAnswer} → BankSamples b c ring v z left →
    ChannelSamples (meter_of b c) c ring v (channel_sample_answer (meter_of b c) c ring v) left
unfolding bank_ring_left
sample_held (Channels.by_contract κs place name allowed) = Channels.by_contract κs place name (refl, allowed.1)

gap_held : {b : Bank} {c : ℕ} {z : BankAnswer} → BankGaps b c z → ChannelGaps (meter_of b c) c (channel_gap_answer (meter_of b c) c)
gap_held (Channels.by_contract κs allowed) = Channels.by_contract κs refl

pub report_held : {b : Bank} {c : ℕ} {z : Report} → BankReports b c z → ChannelReports (meter_of b c) c z
unfolding bank_report_answer
report_held (Channels.by_contract κs allowed) = Channels.by_contract κs allowed

-- ---- what the bank is after it

module _ (b : Bank) (c : ℕ) (y : MeterAnswer) {z : BankAnswer} (told : z ≡ bank_answer b c y) where
  pub bank_number : z.number ≡ y.number
  unfolding bank_answer
  bank_number = ap (λ (a : BankAnswer). a.number) told ∙ by_number (eqb y.number 0) refl
    where
      by_number : (t : Bool) → eqb y.number 0 ≡ t →
          (cond {A = BankAnswer} t (record { number = 0; place = 0; bank = with_meter b c y.meter }) (record { number = y.number; place = y.place; bank = b })).number ≡ y.number
      by_number true e = sym (eqb-true y.number 0 e)
      by_number false e = refl

  accepted_bank : z.number ≡ 0 → z.bank ≡ with_meter b c y.meter
  unfolding bank_answer
  accepted_bank zero = ap (λ (a : BankAnswer). a.bank) (told ∙ choice_true _ _ (eq-eqb y.number 0 (sym bank_number ∙ zero)))

  pub refused_bank : Refused z.number → z.bank ≡ b
  unfolding bank_answer
  refused_bank some = ap (λ (a : BankAnswer). a.bank) (told ∙ choice_false _ _ (ne_eqb y.number 0 (λ zero. some (bank_number ∙ zero))))

  -- every other meter is as it was, and there are as many
  by_number : {A : Type 0} → (z.number ≡ 0 → A) → (Refused z.number → A) → A
  by_number {A} zero some = by_test (eqb z.number 0) refl
    where
      by_test : (t : Bool) → eqb z.number 0 ≡ t → A
      by_test true e = zero (eqb-true z.number 0 e)
      by_test false e = some (eqb-false z.number 0 e)

  pub other_meter_kept : (k : ℕ) → (k ≡ c → ⊥) → meter_of z.bank k ≡ meter_of b k
  other_meter_kept k other = by_number (λ zero. ap (λ (d : Bank). meter_of d k) (accepted_bank zero) ∙ replaced_other b c y.meter k other) (λ some. ap (λ (d : Bank). meter_of d k) (refused_bank some))

  as_many : length z.bank.meters ≡ length b.meters
  as_many = by_number (λ zero. ap (λ (d : Bank). length d.meters) (accepted_bank zero) ∙ replaced_meters b c y.meter) (λ some. ap (λ (d : Bank). length d.meters) (refused_bank some))

-- ---- any calls of a bank, seen from each channel

abbrev Seen : Bank → List ℤ → (ℕ → Accepted) → ℕ → Type 0
Seen b ring all k = ChannelTrace k (meter_of b k) ring (all k).factor (all k).present (all k).past

-- a step that changed the meter of channel c alone
module _ (b : Bank) (c : ℕ) (y : MeterAnswer) {z : BankAnswer} (told : z ≡ bank_answer b c y) (zero : z.number ≡ 0) (there : c < length b.meters) where
  own_meter : meter_of z.bank c ≡ y.meter
  own_meter = ap (λ (d : Bank). meter_of d c) (accepted_bank b c y told zero) ∙ replaced_own b c y.meter there

  stepped : {ring : List ℤ} (all : ℕ → Accepted) (new : Accepted) (k : ℕ) → ChannelTrace c y.meter ring new.factor new.present new.past →
      ((k ≡ c → ⊥) → Seen b ring all k) → Seen z.bank ring (but_for all c new) k
  stepped {ring} all new k own others = by_same (eqb k c) refl
    where
      by_same : (t : Bool) → eqb k c ≡ t → let got : Accepted = cond t new (all k) in ChannelTrace k (meter_of z.bank k) ring got.factor got.present got.past
      by_same true e =
          subst (λ (j : ℕ). ChannelTrace j (meter_of z.bank j) ring new.factor new.present new.past) (sym (eqb-true k c e))
          (subst (λ (x : Meter). ChannelTrace c x ring new.factor new.present new.past) (sym own_meter) own)
      by_same false e =
          let other = eqb-false k c e in
          subst (λ (x : Meter). ChannelTrace k x ring (all k).factor (all k).present (all k).past) (sym (other_meter_kept b c y told k other)) (others other)

pub record SeenFromAll (b : Bank) (ring : List ℤ) (all : ℕ → Accepted) : Type 0 where
  pub sixteen : length b.meters ≡ 16
  pub each : (k : ℕ) → k ≤ 15 → Seen b ring all k

-- a call that gave the bank back as it came, and the ring
same_seen : {b d : Bank} {ring left : List ℤ} {all : ℕ → Accepted} → d ≡ b → left ≡ ring → SeenFromAll b ring all → SeenFromAll d left all
same_seen {all = all} same kept seen = rw (same, kept) seen

-- an accepted call was on one of the sixteen
accepted_within : (b : Bank) (c : ℕ) (met : MeterAnswer) {z : BankAnswer} → z ≡ bank_answer b c (cond (is_channel c) met (no_channel (meter_of b c))) → z.number ≡ 0 → c ≤ 15
accepted_within b c met told zero = answered_on_channel c met (meter_of b c) refl (sym (bank_number b c _ told) ∙ zero)

start_seen : {b : Bank} {ring : List ℤ} {all : ℕ → Accepted} {c factor : ℕ} {z : BankAnswer} → BankStarts b c factor ring z → z.number ≡ 0 →
    SeenFromAll b ring all → SeenFromAll z.bank ring (but_for all c (record { factor = factor; present = []; past = [] }))
unfolding channel_start_answer
start_seen {b} {all = all} {c} {factor} call zero seen =
    let told = bank_starts_on call in
    let on = accepted_within b c _ told zero in
    record {
      sixteen = as_many b c _ told ∙ seen.sixteen;
      each = λ k inside. stepped b c _ told zero (omega (arith, seen.sixteen, on)) all _ k
          (Channels.start_accepted (seen.each c on) (start_held call) (sym (bank_number b c _ told) ∙ zero)) (λ other. seen.each k inside);
    }

sample_seen : {b : Bank} {ring left : List ℤ} {all : ℕ → Accepted} {c : ℕ} {v : ℤ} {z : BankAnswer} → BankSamples b c ring v z left → z.number ≡ 0 →
    SeenFromAll b ring all → SeenFromAll z.bank left (but_for all c (record { factor = (all c).factor; present = (all c).present ++ v ∷ []; past = (all c).past }))
unfolding channel_sample_answer
sample_seen {b} {all = all} {c} call zero seen =
    let told = (bank_samples_on call).0 in
    let on = accepted_within b c _ told zero in
    record {
      sixteen = as_many b c _ told ∙ seen.sixteen;
      each = λ k inside. stepped b c _ told zero (omega (arith, seen.sixteen, on)) all _ k
          (Channels.sample_accepted (seen.each c on) (sample_held call) (sym (bank_number b c _ told) ∙ zero))
          (λ other. Channels.sampled_elsewhere (seen.each k inside) (λ same. other (sym same)) (sample_held call));
    }

gap_seen : {b : Bank} {ring : List ℤ} {all : ℕ → Accepted} {c : ℕ} {z : BankAnswer} → BankGaps b c z → z.number ≡ 0 →
    SeenFromAll b ring all → SeenFromAll z.bank ring (but_for all c (record { factor = (all c).factor; present = []; past = (all c).present ∷ (all c).past }))
unfolding channel_gap_answer
gap_seen {b} {all = all} {c} call zero seen =
    let told = bank_gaps_on call in
    let on = accepted_within b c _ told zero in
    record {
      sixteen = as_many b c _ told ∙ seen.sixteen;
      each = λ k inside. stepped b c _ told zero (omega (arith, seen.sixteen, on)) all _ k
          (Channels.gap_accepted (seen.each c on) (gap_held call) (sym (bank_number b c _ told) ∙ zero)) (λ other. seen.each k inside);
    }

pub bank_seen : {b : Bank} {ring : List ℤ} {all : ℕ → Accepted} → BankTrace b ring all → SeenFromAll b ring all
bank_seen (Channels.begin b ring sixteen) = record { sixteen = sixteen; each = λ k inside. Channels.begin (meter_of b k) ring }
bank_seen (Channels.start_accepted {b} {ring} {all} {c} {factor} trace call e) = start_seen call e (bank_seen trace)
bank_seen (Channels.start_refused trace call f) = same_seen (refused_bank _ _ _ (bank_starts_on call) f) refl (bank_seen trace)
bank_seen (Channels.sample_accepted trace call e) = sample_seen call e (bank_seen trace)
bank_seen (Channels.sample_refused trace call f) =
    let told = bank_samples_on call in
    same_seen (refused_bank _ _ _ told.0 f) (told.1 ∙ (refused_sample_on _ _ _ _ (λ zero. f (bank_number _ _ _ told.0 ∙ zero))).1) (bank_seen trace)
bank_seen (Channels.gap_accepted trace call e) = gap_seen call e (bank_seen trace)
bank_seen (Channels.gap_refused trace call f) = same_seen (refused_bank _ _ _ (bank_gaps_on call) f) refl (bank_seen trace)
bank_seen (Channels.reported trace call) = bank_seen trace
