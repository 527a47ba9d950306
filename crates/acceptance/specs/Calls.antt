-- What a sequence of the meter's calls is: each call is given the meter as the call before gave it back, is lent its own ring, and ends as the
-- function's own contract allows. What a comparison of two records is. And what the calls of a sheet are: each is given the totals as the call before gave
-- them back.
use Rattle.std.specs.Prelude.{◌≡◌, List, [], ◌∷◌, ◌++◌, ℕ, ◌<◌, ℤ, pos, ◌+ℤ◌, ◌*ℤ◌, length, take}
use Rattle.std.specs.Borrow.{GName, Bor, MutBor}
use contract.Lifetimes.{Lfts}
use Rattle.laws.specs.Lists.{at}
use Rattle.laws.specs.Single.{Allows}
use Rattle.meter.specs.declared.Meter.{Meter}
use Rattle.meter.specs.declared.MeterAnswer.{MeterAnswer}
use Rattle.meter.specs.declared.Report.{Report}
use Rattle.meter.proofs.Meter.start.Reads as start
use Rattle.meter.proofs.Meter.start.Kinds as start-kinds
use Rattle.meter.proofs.Meter.sample.Reads as sample
use Rattle.meter.proofs.Meter.sample.Kinds as sample-kinds
use Rattle.meter.proofs.Meter.gap.Reads as gap
use Rattle.meter.proofs.Meter.gap.Kinds as gap_kinds
use Rattle.meter.proofs.Meter.report.Reads as report
use Rattle.meter.proofs.Meter.report.Kinds as report-kinds
use Rattle.compare.specs.declared.QuieterAnswer.{QuieterAnswer}
use Rattle.compare.proofs.which_quieter.Reads as which-quieter
use Rattle.compare.proofs.which_quieter.Kinds as which-quieter-kinds
use Rattle.record.specs.declared.CountAnswer.{CountAnswer}
use Rattle.listing.specs.declared.Totals.{Totals}
use Rattle.listing.specs.declared.SheetAnswer.{SheetAnswer}
use Rattle.listing.proofs.sheet_record.Reads as sheet-record
use Rattle.listing.proofs.sheet_record.Kinds as sheet-record-kinds
use Rattle.listing.proofs.sheet_total.Reads as sheet-total
use Rattle.listing.proofs.sheet_total.Kinds as sheet-total-kinds
use Rattle.acceptance.specs.Noughts.{Refused}

-- ---- one call

-- a ring that is lent to be read, wherever it lies
abbrev pub lent : ℕ × ℕ → List ℤ → Bor (List ℤ)
lent place ring = record { ref_ptr = place; now = ring }

-- and one that is lent to be written
abbrev pub lent_to_write : ℕ × ℕ → GName → List ℤ → MutBor (List ℤ)
lent_to_write place name ring = record { ref_ptr = place; ghost_name = name; now = ring }

-- a start of meter x at factor m, lent a ring, may answer z
pub data Starts (x : Meter) (m : ℕ) (ring : List ℤ) (z : MeterAnswer) : Type 0 where
  by_contract : (κs : Lfts 1) (place : ℕ × ℕ) →
      Allows 1 start-kinds.ps start-kinds.r start.Post κs (x, (m, (lent place ring, tt))) z (tt, (tt, (tt, tt))) → Starts x m ring z

-- a sample call of meter x with sample v, lent a ring, may answer z and leave the ring as `left`
pub data Samples (x : Meter) (ring : List ℤ) (v : ℤ) (z : MeterAnswer) (left : List ℤ) : Type 0 where
  by_contract : (κs : Lfts 1) (place : ℕ × ℕ) (name : GName) →
      Allows 1 sample-kinds.ps sample-kinds.r sample.Post κs (x, (lent_to_write place name ring, (v, tt))) z (tt, (left, (tt, tt))) → Samples x ring v z left

-- a gap call of meter x may answer z
pub data Gaps (x : Meter) (z : MeterAnswer) : Type 0 where
  by_contract : (κs : Lfts 0) → Allows 0 gap_kinds.ps gap_kinds.r gap.Post κs (x, tt) z (tt, tt) → Gaps x z

-- a report of meter x may answer z
pub data Reports (x : Meter) (z : Report) : Type 0 where
  by_contract : (κs : Lfts 0) → Allows 0 report-kinds.ps report-kinds.r report.Post κs (x, tt) z (tt, tt) → Reports x z

-- ---- a sequence of calls

-- Trace x ring m h past: after some calls x is the meter that the latest gave back, ring its own ring as it was left, m the factor of the latest accepted
-- start (nought before the first), h the samples accepted since in the present stretch, and past the stretches that gaps have ended since, the latest first.
-- At the beginning stands any meter, one of all noughts for instance; an accepted start adopts the ring that it is lent; a gap call is lent no ring, and a
-- report gives no meter back.
pub data Trace : Meter → List ℤ → ℕ → List ℤ → List (List ℤ) → Type 0 where
  begin : (x : Meter) (ring : List ℤ) → Trace x ring 0 [] []
  start_accepted : {x : Meter} {ring h own : List ℤ} {past : List (List ℤ)} {m factor : ℕ} {z : MeterAnswer} →
      Trace x ring m h past → Starts x factor own z → z.number ≡ 0 → Trace z.meter own factor [] []
  start_refused : {x : Meter} {ring h other : List ℤ} {past : List (List ℤ)} {m factor : ℕ} {z : MeterAnswer} →
      Trace x ring m h past → Starts x factor other z → Refused z.number → Trace z.meter ring m h past
  sample_accepted : {x : Meter} {ring h left : List ℤ} {past : List (List ℤ)} {m : ℕ} {v : ℤ} {z : MeterAnswer} →
      Trace x ring m h past → Samples x ring v z left → z.number ≡ 0 → Trace z.meter left m (h ++ v ∷ []) past
  sample_refused : {x : Meter} {ring h left : List ℤ} {past : List (List ℤ)} {m : ℕ} {v : ℤ} {z : MeterAnswer} →
      Trace x ring m h past → Samples x ring v z left → Refused z.number → Trace z.meter left m h past
  gap_accepted : {x : Meter} {ring h : List ℤ} {past : List (List ℤ)} {m : ℕ} {z : MeterAnswer} →
      Trace x ring m h past → Gaps x z → z.number ≡ 0 → Trace z.meter ring m [] (h ∷ past)
  gap_refused : {x : Meter} {ring h : List ℤ} {past : List (List ℤ)} {m : ℕ} {z : MeterAnswer} →
      Trace x ring m h past → Gaps x z → Refused z.number → Trace z.meter ring m h past
  reported : {x : Meter} {ring h : List ℤ} {past : List (List ℤ)} {m : ℕ} {z : Report} → Trace x ring m h past → Reports x z → Trace x ring m h past

-- what a live stream asks of a meter: to take a sample, or that there is a gap
pub data Call : Type 0 where
  of_sample : ℤ → Call
  of_gap : Call

-- a run of such calls from meter x and its ring on: the calls, and the answers
pub data Run : Meter → List ℤ → List Call → List MeterAnswer → Type 0 where
  done : {x : Meter} {ring : List ℤ} → Run x ring [] []
  next : {x : Meter} {ring left : List ℤ} {calls : List Call} {v : ℤ} {z : MeterAnswer} {zs : List MeterAnswer} →
      Samples x ring v z left → Run z.meter left calls zs → Run x ring (of_sample v ∷ calls) (z ∷ zs)
  across : {x : Meter} {ring : List ℤ} {calls : List Call} {z : MeterAnswer} {zs : List MeterAnswer} →
      Gaps x z → Run z.meter ring calls zs → Run x ring (of_gap ∷ calls) (z ∷ zs)

-- two streams with gaps at the same places: stretch by stretch as many samples, and sample i of a stretch in the one is that in the other, an offset and
-- a rate times i more; offset and rate are each stretch's own
pub data Alike : List (List ℤ) → List (List ℤ) → Type 0 where
  no_stretch : Alike [] []
  one_more : {h h' : List ℤ} {past past' : List (List ℤ)} (offset rate : ℤ) → length h' ≡ length h →
      ((i : ℕ) → i < length h → at h' i ≡ at h i +ℤ (offset +ℤ rate *ℤ pos i)) → Alike past past' → Alike (h ∷ past) (h' ∷ past')

-- ---- a call of which_quieter

-- with two records, wherever they lie, it may answer z
pub data Compares (xs ys : List ℤ) (m : ℕ) (z : QuieterAnswer) : Type 0 where
  by_contract : (κs : Lfts 2) (place other : ℕ × ℕ) →
      Allows 2 which-quieter-kinds.ps which-quieter-kinds.r which-quieter.Post κs (lent place xs, (lent other ys, (m, tt))) z (tt, (tt, (tt, tt))) → Compares xs ys m z

-- ---- the calls of a sheet

-- bytes that are lent to be read, wherever they lie
abbrev pub lent_bytes : ℕ × ℕ → List ℕ → Bor (List ℕ)
lent_bytes place bytes = record { ref_ptr = place; now = bytes }

-- and bytes that are lent to be written
abbrev pub lent_bytes_to_write : ℕ × ℕ → GName → List ℕ → MutBor (List ℕ)
lent_bytes_to_write place name bytes = record { ref_ptr = place; ghost_name = name; now = bytes }

-- a call of sheet_record with a file's bytes and totals, lent a buffer, may answer z and leave the buffer as `left`
pub data PrintsRecord (bytes : List ℕ) (t : Totals) (buffer : List ℕ) (z : SheetAnswer) (left : List ℕ) : Type 0 where
  by_contract : (κs : Lfts 2) (place other : ℕ × ℕ) (name : GName) →
      Allows 2 sheet-record-kinds.ps sheet-record-kinds.r sheet-record.Post κs (lent_bytes place bytes, (t, (lent_bytes_to_write other name buffer, tt))) z (tt, (tt, (left, tt))) →
      PrintsRecord bytes t buffer z left

-- a call of sheet_total with totals, lent a buffer, may answer z and leave the buffer as `left`
pub data PrintsTotal (t : Totals) (buffer : List ℕ) (z : CountAnswer) (left : List ℕ) : Type 0 where
  by_contract : (κs : Lfts 1) (place : ℕ × ℕ) (name : GName) →
      Allows 1 sheet-total-kinds.ps sheet-total-kinds.r sheet-total.Post κs (t, (lent_bytes_to_write place name buffer, tt)) z (tt, (left, tt)) → PrintsTotal t buffer z left

-- Printed t files text: from totals t on, a call for each file in turn, each answered, and one for the closing line wrote these texts one after the other
pub data Printed : Totals → List (List ℕ) → List ℕ → Type 0 where
  closed : {t : Totals} {buffer left : List ℕ} {z : CountAnswer} → PrintsTotal t buffer z left → z.number ≡ 0 → Printed t [] (take z.count left)
  next : {t : Totals} {bytes buffer left text : List ℕ} {files : List (List ℕ)} {z : SheetAnswer} →
      PrintsRecord bytes t buffer z left → z.number ≡ 0 → Printed z.totals files text → Printed t (bytes ∷ files) (take z.length left ++ text)
