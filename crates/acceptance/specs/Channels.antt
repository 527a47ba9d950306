-- What calls on the channels of one ring are: each is given the meter that the latest call on its channel gave back, or the bank that holds it, is lent the
-- ring as the call before left it, and ends as the function's own contract allows.
use Rattle.std.specs.Prelude.{◌≡◌, cond, List, [], ◌∷◌, ◌++◌, ℕ, eqb, ℤ, length}
use Rattle.std.specs.Borrow.{GName}
use contract.Lifetimes.{Lfts}
use Rattle.laws.specs.Single.{Allows}
use Rattle.meter.specs.declared.Meter.{Meter}
use Rattle.meter.specs.declared.MeterAnswer.{MeterAnswer}
use Rattle.meter.specs.declared.Report.{Report}
use Rattle.channels.specs.declared.Bank.{Bank}
use Rattle.channels.specs.declared.BankAnswer.{BankAnswer}
use Rattle.channels.proofs.channel_start.Reads as start
use Rattle.channels.proofs.channel_start.Kinds as start-kinds
use Rattle.channels.proofs.channel_sample.Reads as sample
use Rattle.channels.proofs.channel_sample.Kinds as sample-kinds
use Rattle.channels.proofs.channel_gap.Reads as gap
use Rattle.channels.proofs.channel_gap.Kinds as gap_kinds
use Rattle.channels.proofs.channel_report.Reads as report
use Rattle.channels.proofs.channel_report.Kinds as report-kinds
use Rattle.channels.proofs.Bank.start.Reads as bank-start
use Rattle.channels.proofs.Bank.start.Kinds as bank-start-kinds
use Rattle.channels.proofs.Bank.sample.Reads as bank-sample
use Rattle.channels.proofs.Bank.sample.Kinds as bank-sample-kinds
use Rattle.channels.proofs.Bank.gap.Reads as bank-gap
use Rattle.channels.proofs.Bank.gap.Kinds as bank-gap-kinds
use Rattle.channels.proofs.Bank.report.Reads as bank-report
use Rattle.channels.proofs.Bank.report.Kinds as bank-report-kinds
use Rattle.acceptance.specs.Noughts.{Refused}
use Rattle.acceptance.specs.Calls.{lent, lent_to_write}

-- ---- one call of one meter on channel c, the ring lent whole

pub data ChannelStarts (x : Meter) (c m : ℕ) (ring : List ℤ) (z : MeterAnswer) : Type 0 where
  by_contract : (κs : Lfts 1) (place : ℕ × ℕ) →
      Allows 1 start-kinds.ps start-kinds.r start.Post κs (x, (c, (m, (lent place ring, tt)))) z (tt, (tt, (tt, (tt, tt)))) → ChannelStarts x c m ring z

pub data ChannelSamples (x : Meter) (c : ℕ) (ring : List ℤ) (v : ℤ) (z : MeterAnswer) (left : List ℤ) : Type 0 where
  by_contract : (κs : Lfts 1) (place : ℕ × ℕ) (name : GName) →
      Allows 1 sample-kinds.ps sample-kinds.r sample.Post κs (x, (c, (lent_to_write place name ring, (v, tt)))) z (tt, (tt, (left, (tt, tt)))) → ChannelSamples x c ring v z left

pub data ChannelGaps (x : Meter) (c : ℕ) (z : MeterAnswer) : Type 0 where
  by_contract : (κs : Lfts 0) → Allows 0 gap_kinds.ps gap_kinds.r gap.Post κs (x, (c, tt)) z (tt, (tt, tt)) → ChannelGaps x c z

pub data ChannelReports (x : Meter) (c : ℕ) (z : Report) : Type 0 where
  by_contract : (κs : Lfts 0) → Allows 0 report-kinds.ps report-kinds.r report.Post κs (x, (c, tt)) z (tt, (tt, tt)) → ChannelReports x c z

-- ---- one call of a bank

pub data BankStarts (b : Bank) (c m : ℕ) (ring : List ℤ) (z : BankAnswer) : Type 0 where
  by_contract : (κs : Lfts 1) (place : ℕ × ℕ) →
      Allows 1 bank-start-kinds.ps bank-start-kinds.r bank-start.Post κs (b, (c, (m, (lent place ring, tt)))) z (tt, (tt, (tt, (tt, tt)))) → BankStarts b c m ring z

pub data BankSamples (b : Bank) (c : ℕ) (ring : List ℤ) (v : ℤ) (z : BankAnswer) (left : List ℤ) : Type 0 where
  by_contract : (κs : Lfts 1) (place : ℕ × ℕ) (name : GName) →
      Allows 1 bank-sample-kinds.ps bank-sample-kinds.r bank-sample.Post κs (b, (c, (lent_to_write place name ring, (v, tt)))) z (tt, (tt, (left, (tt, tt)))) → BankSamples b c ring v z left

pub data BankGaps (b : Bank) (c : ℕ) (z : BankAnswer) : Type 0 where
  by_contract : (κs : Lfts 0) → Allows 0 bank-gap-kinds.ps bank-gap-kinds.r bank-gap.Post κs (b, (c, tt)) z (tt, (tt, tt)) → BankGaps b c z

pub data BankReports (b : Bank) (c : ℕ) (z : Report) : Type 0 where
  by_contract : (κs : Lfts 0) → Allows 0 bank-report-kinds.ps bank-report-kinds.r bank-report.Post κs (b, (c, tt)) z (tt, (tt, tt)) → BankReports b c z

-- ---- a sequence of calls, seen from channel c

-- ChannelTrace c x ring m h past: after some calls on all channels x is the meter that the latest on channel c gave back, ring the ring of all as it was
-- left, and m, h and past are what a Trace says of this meter: the factor, the samples of the present stretch, the stretches before. A sample call on
-- another channel k, with whatever meter, leaves the ring as its contract says; the other calls on another channel are given neither this meter nor a ring
-- to write, so that they are no step.
pub data ChannelTrace (c : ℕ) : Meter → List ℤ → ℕ → List ℤ → List (List ℤ) → Type 0 where
  begin : (x : Meter) (ring : List ℤ) → ChannelTrace c x ring 0 [] []
  start_accepted : {x : Meter} {ring h : List ℤ} {past : List (List ℤ)} {m factor : ℕ} {z : MeterAnswer} →
      ChannelTrace c x ring m h past → ChannelStarts x c factor ring z → z.number ≡ 0 → ChannelTrace c z.meter ring factor [] []
  start_refused : {x : Meter} {ring h : List ℤ} {past : List (List ℤ)} {m factor : ℕ} {z : MeterAnswer} →
      ChannelTrace c x ring m h past → ChannelStarts x c factor ring z → Refused z.number → ChannelTrace c z.meter ring m h past
  sample_accepted : {x : Meter} {ring h left : List ℤ} {past : List (List ℤ)} {m : ℕ} {v : ℤ} {z : MeterAnswer} →
      ChannelTrace c x ring m h past → ChannelSamples x c ring v z left → z.number ≡ 0 → ChannelTrace c z.meter left m (h ++ v ∷ []) past
  sample_refused : {x : Meter} {ring h left : List ℤ} {past : List (List ℤ)} {m : ℕ} {v : ℤ} {z : MeterAnswer} →
      ChannelTrace c x ring m h past → ChannelSamples x c ring v z left → Refused z.number → ChannelTrace c z.meter left m h past
  gap_accepted : {x : Meter} {ring h : List ℤ} {past : List (List ℤ)} {m : ℕ} {z : MeterAnswer} →
      ChannelTrace c x ring m h past → ChannelGaps x c z → z.number ≡ 0 → ChannelTrace c z.meter ring m [] (h ∷ past)
  gap_refused : {x : Meter} {ring h : List ℤ} {past : List (List ℤ)} {m : ℕ} {z : MeterAnswer} →
      ChannelTrace c x ring m h past → ChannelGaps x c z → Refused z.number → ChannelTrace c z.meter ring m h past
  reported : {x : Meter} {ring h : List ℤ} {past : List (List ℤ)} {m : ℕ} {z : Report} →
      ChannelTrace c x ring m h past → ChannelReports x c z → ChannelTrace c x ring m h past
  sampled_elsewhere : {x y : Meter} {ring h left : List ℤ} {past : List (List ℤ)} {m k : ℕ} {v : ℤ} {z : MeterAnswer} →
      ChannelTrace c x ring m h past → (k ≡ c → ⊥) → ChannelSamples y k ring v z left → ChannelTrace c x left m h past

-- ---- a sequence of calls of a bank

-- what a channel has accepted: the factor of its latest accepted start, nought before the first; the samples since in the present stretch; and the
-- stretches that gaps have ended since, the latest first
pub record Accepted : Type 0 where
  pub factor : ℕ
  pub present : List ℤ
  pub past : List (List ℤ)

-- of all channels c alone has got something new
abbrev pub but_for : (ℕ → Accepted) → ℕ → Accepted → ℕ → Accepted
but_for all c new k = cond (eqb k c) new (all k)

-- BankTrace b ring all: after some calls on any channels, in any order, b is the bank that the latest gave back, ring the ring as it was left, and all
-- says what each channel has accepted. At the beginning stands any bank of sixteen meters.
pub data BankTrace : Bank → List ℤ → (ℕ → Accepted) → Type 0 where
  begin : (b : Bank) (ring : List ℤ) → length b.meters ≡ 16 → BankTrace b ring (λ c. record { factor = 0; present = []; past = [] })
  start_accepted : {b : Bank} {ring : List ℤ} {all : ℕ → Accepted} {c factor : ℕ} {z : BankAnswer} →
      BankTrace b ring all → BankStarts b c factor ring z → z.number ≡ 0 →
      BankTrace z.bank ring (but_for all c (record { factor = factor; present = []; past = [] }))
  start_refused : {b : Bank} {ring : List ℤ} {all : ℕ → Accepted} {c factor : ℕ} {z : BankAnswer} →
      BankTrace b ring all → BankStarts b c factor ring z → Refused z.number → BankTrace z.bank ring all
  sample_accepted : {b : Bank} {ring left : List ℤ} {all : ℕ → Accepted} {c : ℕ} {v : ℤ} {z : BankAnswer} →
      BankTrace b ring all → BankSamples b c ring v z left → z.number ≡ 0 →
      BankTrace z.bank left (but_for all c (record { factor = (all c).factor; present = (all c).present ++ v ∷ []; past = (all c).past }))
  sample_refused : {b : Bank} {ring left : List ℤ} {all : ℕ → Accepted} {c : ℕ} {v : ℤ} {z : BankAnswer} →
      BankTrace b ring all → BankSamples b c ring v z left → Refused z.number → BankTrace z.bank left all
  gap_accepted : {b : Bank} {ring : List ℤ} {all : ℕ → Accepted} {c : ℕ} {z : BankAnswer} →
      BankTrace b ring all → BankGaps b c z → z.number ≡ 0 →
      BankTrace z.bank ring (but_for all c (record { factor = (all c).factor; present = []; past = (all c).present ∷ (all c).past }))
  gap_refused : {b : Bank} {ring : List ℤ} {all : ℕ → Accepted} {c : ℕ} {z : BankAnswer} →
      BankTrace b ring all → BankGaps b c z → Refused z.number → BankTrace z.bank ring all
  reported : {b : Bank} {ring : List ℤ} {all : ℕ → Accepted} {c : ℕ} {z : Report} → BankTrace b ring all → BankReports b c z → BankTrace b ring all
