-- The grounds of the quieter's refusals, and of the calls on a channel: 11, then the rows of the meter's own call.
use mathlib.Core.Path.{◌≡◌, refl}
use mathlib.Core.Bool.{Bool, true, false, cond}
use mathlib.Core.List.{List}
use Prim.Native.Nat.{ℕ, ◌+◌, ◌*◌, ◌≤◌, ◌<◌}
use native.Mathlib.Decide.{dec_le}
use native.Mathlib.Omega.{arith}
use borrow.Author.Tests.{eqb-true}
use lib.Dec.{eqb}
use lib.IntN.{ℤ}
use Rattle.record.specs.Refusals.{record_refusal}
use Rattle.sums.specs.Answers.{allan_demand}
use Rattle.compare.specs.Quieter.{quieter_refusal, quieter_answer}
use Rattle.compare.specs.declared.QuieterAnswer.{QuieterAnswer}
use Rattle.meter.specs.declared.Meter.{Meter}
use Rattle.meter.specs.declared.MeterAnswer.{MeterAnswer}
use Rattle.meter.specs.declared.Report.{Report}
use Rattle.channels.specs.Shares.{is_channel, channel_part}
use Rattle.channels.specs.Answers.{no_channel, channel_start_answer, channel_sample_answer, channel_gap_answer, channel_report_answer, bank_answer}
use Rattle.channels.specs.declared.Bank.{Bank}
use Rattle.channels.proofs.ChannelLaws.{is_channel_lem, is_no_channel}
use Rattle.acceptance.specs.Grounds.{NoRow, Grounded, OfRecord, OfQuieter, OfStart, OfSample, OfGap, OfReport, OfChannel, above, own}
use Rattle.acceptance.specs.Grounds
use Rattle.acceptance.proofs.Grounding.{Agrees, Stands, decide_after, decided_by, stands_first, stands_later, rowless_none, none_rowless, grounded_answer}
use Rattle.acceptance.proofs.RecordGrounds.{record_agrees}
use Rattle.acceptance.proofs.MeterGrounds.{start_grounded, sample_grounded, gap_grounded, report_grounded}

-- ---- two records

module _ (m : ℕ) (xs ys : List ℤ) where
  one : Agrees (OfRecord 10922 (2 * m + 1) m xs) (record_refusal allan_demand m xs)
  one = record_agrees allan_demand m xs

  other : Agrees (OfRecord 10922 (2 * m + 1) m ys) (record_refusal allan_demand m ys)
  other = record_agrees allan_demand m ys

  quieter_stands : {n p : ℕ} → OfQuieter m xs ys n p → Stands n p (quieter_refusal m xs ys)
  unfolding quieter_refusal
  quieter_stands (Grounds.first row) = stands_first _ _ (one.stands row)
  quieter_stands (Grounds.second rowless row) = stands_later _ _ (rowless_none one rowless) (other.stands row)

  pub quieter_agrees : Agrees (OfQuieter m xs ys) (quieter_refusal m xs ys)
  unfolding quieter_refusal
  quieter_agrees = record {
    stands = quieter_stands;
    decided = decide_after _ _ (decided_by (λ n p. Grounds.first) one.decided)
        (λ clear. decided_by (λ n p. Grounds.second (none_rowless one (rw clear))) other.decided);
  }

  pub quieter_grounded : Grounded (OfQuieter m xs ys) (quieter_answer m xs ys).number (quieter_answer m xs ys).place
  unfolding quieter_answer
  quieter_grounded = grounded_answer quieter_agrees (λ (z : QuieterAnswer). z.number) (λ z. z.place) _ _ (refl, refl) (refl, refl)

-- ---- a channel, or none

module _ (c : ℕ) {Row : ℕ → ℕ → Type 0} {number place : ℕ} where
  on_channel : c ≤ 15 → Grounded Row number place → Grounded (OfChannel c Row) number place
  on_channel inside grounds = record {
    refused = λ numbered. own inside (grounds.refused numbered);
    row = by_row;
    answered = λ zero. let is = grounds.answered zero in (is.0, λ n p row. rowless is.1 row);
    no_row = λ none. grounds.no_row (λ n p row. none n p (own inside row));
  }
    where
      by_row : (n p : ℕ) → OfChannel c Row n p → (n ≡ 0 → ⊥) × (number ≡ n) × (place ≡ p)
      by_row n p (above far) = absurd (omega arith)
      by_row n p (own near row) = grounds.row n p row

      rowless : NoRow Row → {n p : ℕ} → OfChannel c Row n p → ⊥
      rowless none (above far) = omega arith
      rowless none (own near row) = none _ _ row

  off_channel : 15 < c → number ≡ 11 → place ≡ 0 → Grounded (OfChannel c Row) number place
  off_channel far eleven nought = record {
    refused = λ numbered. rw (eleven, nought) (above far);
    row = by_row;
    answered = λ zero. absurd (omega arith);
    no_row = λ none. absurd (none 11 0 (above far));
  }
    where
      by_row : (n p : ℕ) → OfChannel c Row n p → (n ≡ 0 → ⊥) × (number ≡ n) × (place ≡ p)
      by_row n p (above far') = (λ zero. omega arith, eleven, nought)
      by_row n p (own near row) = absurd (omega arith)

-- an answer that is one thing on a channel and another above 15
channel_grounded : (c : ℕ) {Row : ℕ → ℕ → Type 0} {A : Type 0} (number place : A → ℕ) (met none : A) →
    Grounded Row (number met) (place met) → number none ≡ 11 → place none ≡ 0 →
    Grounded (OfChannel c Row) (number (cond (is_channel c) met none)) (place (cond (is_channel c) met none))
channel_grounded c {Row} number place met none grounds eleven nought = by_order (dec_le c 15)
  where
    by_order : Dec (c ≤ 15) → Grounded (OfChannel c Row) (number (cond (is_channel c) met none)) (place (cond (is_channel c) met none))
    by_order (yes inside) = rw (is_channel_lem inside) (on_channel c inside grounds)
    by_order (no far) = let past : 15 < c = omega arith in rw (is_no_channel past) (off_channel c past eleven nought)

pub channel_start_grounded : (x : Meter) (c m : ℕ) (ring : List ℤ) →
    Grounded (OfChannel c (OfStart m (channel_part c ring))) (channel_start_answer x c m ring).number (channel_start_answer x c m ring).place
unfolding channel_start_answer no_channel
channel_start_grounded x c m ring = channel_grounded c (λ (z : MeterAnswer). z.number) (λ z. z.place) _ _ (start_grounded m (channel_part c ring) x) refl refl

pub channel_sample_grounded : (x : Meter) (c : ℕ) (ring : List ℤ) (v : ℤ) →
    Grounded (OfChannel c (OfSample x (channel_part c ring) v)) (channel_sample_answer x c ring v).number (channel_sample_answer x c ring v).place
unfolding channel_sample_answer no_channel
channel_sample_grounded x c ring v = channel_grounded c (λ (z : MeterAnswer). z.number) (λ z. z.place) _ _ (sample_grounded x (channel_part c ring) v) refl refl

pub channel_gap_grounded : (x : Meter) (c : ℕ) → Grounded (OfChannel c (OfGap x)) (channel_gap_answer x c).number (channel_gap_answer x c).place
unfolding channel_gap_answer no_channel
channel_gap_grounded x c = channel_grounded c (λ (z : MeterAnswer). z.number) (λ z. z.place) _ _ (gap_grounded x) refl refl

pub channel_report_grounded : (x : Meter) (c : ℕ) → Grounded (OfChannel c (OfReport x)) (channel_report_answer x c).number (channel_report_answer x c).place
unfolding channel_report_answer
channel_report_grounded x c = channel_grounded c (λ (z : Report). z.number) (λ z. z.place) _ _ (report_grounded x) refl refl

-- ---- a bank has the number and the place of its meter's call

pub bank_grounded : {Row : ℕ → ℕ → Type 0} (b : Bank) (c : ℕ) (z : MeterAnswer) → Grounded Row z.number z.place →
    Grounded Row (bank_answer b c z).number (bank_answer b c z).place
unfolding bank_answer
bank_grounded {Row} b c z grounds = by_number (eqb z.number 0) refl
  where
    by_number : (t : Bool) → eqb z.number 0 ≡ t → Grounded Row (bank_answer b c z).number (bank_answer b c z).place
    by_number true e =
        let zero : z.number ≡ 0 = eqb-true z.number 0 e in
        let there : z.place ≡ 0 = (grounds.answered zero).0 in
        rw e (rw (zero, there) at grounds)
    by_number false e = rw e grounds
