-- Beside a refusal every other value of an answer is nought, and a lent buffer is as it came; the entries past an output are never changed.
use mathlib.Core.Path.{◌≡◌, refl}
use mathlib.Core.Bool.{Bool, true, false, cond}
use mathlib.Core.List.{List}
use Prim.Native.Nat.{ℕ, zero, suc, ◌≤◌, ◌<◌, ◌-◌, ◌*◌, ◌%◌}
use native.Mathlib.Omega.{arith}
use denote.Ref.{Bor}
use lib.Dec.{leb, eqb}
use lib.Ieee.{Float}
use lib.IntN.{ℤ, pos, negsuc}
use lib.ListN.{length, get_or, set}
use lib.Seq.{get_or-set_same, get_or-set_other}
use Rattle.laws.specs.Lists.{at, how_many, written}
use borrow.Author.Tests.{ne_eqb, eqb-true, eqb-false}
use Rattle.laws.proofs.ListLaws.{written_past}
use Rattle.record.specs.Answers.{count_answer, buffer_left}
use Rattle.wide.specs.Wide.{value}
use Rattle.record.specs.declared.Refusal.{Refusal}
use Rattle.record.specs.declared.CountAnswer.{CountAnswer}
use Rattle.record.proofs.AnswerLaws.{past_unchanged}
use Rattle.sums.specs.Published.{allan_sum, allan_count, modified_sum, modified_count}
use Rattle.sums.specs.Answers.{sum_answer, part_of, no_part}
use Rattle.drift.specs.Drift.{drift_refusal, drift_answer}
use Rattle.readings.proofs.RefusalLaws.{samples_of, samples_length}
use Rattle.readings.specs.Readings.{has_fraction}
use Rattle.readings.specs.Answers.{float_refusal, float_answer}
use Rattle.readings.proofs.AnswerLaws.{float_buffer}
use Rattle.readings.specs.declared.FloatSums.{FloatSums}
use Rattle.compare.specs.Quieter.{quieter_refusal, quieter_answer, empty_part, quieter_record}
use Rattle.meter.specs.Meter.{holds_together, with_sample, ring_with}
use Rattle.meter.specs.Answers.{meter_answer, sample_refusal, sample_answer, ring_left, report_answer}
use Rattle.meter.specs.declared.Meter.{Meter}
use Rattle.meter.specs.declared.MeterAnswer.{MeterAnswer}
use Rattle.meter.proofs.TestLaws.{holds_together_lem, slot_inside, ring_holds_lem, let_in_by_number}
use Rattle.meter.specs.declared.Report.{Report}
use Rattle.phr.specs.Reading.{read_refusal, read_answer, kind_of, values_of, count_of, version_of, start_of, record_values, counted_header_refusal, header_answer, read_record_refusal, read_record_answer}
use Rattle.phr.proofs.AnswerCases.{read_buffer, record_buffer}
use Rattle.phr.proofs.ReadCases.{values_of_length, record_values_length}
use Rattle.phr.specs.declared.ReadAnswer.{ReadAnswer}
use Rattle.phr.specs.declared.RecordAnswer.{RecordAnswer}
use Rattle.mending.specs.Salvage.{salvaged_file, salvage_refusal, salvage_answer}
use Rattle.mending.proofs.KeptLaws.{salvaged_within}
use Rattle.mending.proofs.SalvageCases.{unrefused_salvageable}
use Rattle.listing.specs.Sheet.{record_text, totals_with, text_refusal, text_answer}
use Rattle.listing.specs.declared.Totals.{Totals}
use Rattle.listing.specs.declared.SheetAnswer.{SheetAnswer}
use Rattle.plot.specs.Drawn.{plus_zero, drawn_refusal, drawn_answer}
use Rattle.plot.specs.Dots.{dot_number, dot_value, dot_answer}
use Rattle.ploegelster.specs.Boundary.{dot_kind, told_dot}
use Rattle.variances.specs.declared.DeviationAnswer.{DeviationAnswer}
use Rattle.variances.specs.Answers.{fraction_answer, deviation_answer}
use Rattle.noise.specs.Noise.{told_alpha}
use Rattle.noise.specs.Bars.{no_bar, bars_refusal, bars_answer}
use Rattle.noise.specs.declared.Noise.{Noise}
use Rattle.noise.specs.declared.NoiseAnswer.{NoiseAnswer}
use Rattle.ploegelster.specs.Boundary.{no_such_type, bars_by_alpha}
use Rattle.acceptance.specs.Noughts.{Refused, SumNought, PartsNought, PartsApart, DotNought, BarsNought, OneOf, the_first, the_second, empty}

-- ---- a count and its buffer

-- an answer that has a number has it from a refusal that has one: what follows where the answer's number is nought if the refusal's is
by_refusal : (r : Refusal) {number : ℕ} → (r.number ≡ 0 → number ≡ 0) → Refused number → eqb r.number 0 ≡ false
by_refusal r answered some = ne_eqb r.number 0 (λ nothing. some (answered nothing))

module _ {A : Type 0} (r : Refusal) (n : ℕ) (out buffer : List A) where
  pub count_noughts : Refused (count_answer r n).number → ((count_answer r n).count ≡ 0) × (buffer_left r out buffer ≡ buffer)
  unfolding count_answer buffer_left
  count_noughts some = rw (by_refusal r (λ nothing. rw nothing) some) (refl, refl)

  -- the answer's count is how many entries are written, nought where the call is refused
  pub past_the_count : length out ≡ n → (i : ℕ) (e : A) → (count_answer r n).count ≤ i → get_or (buffer_left r out buffer) i e ≡ get_or buffer i e
  unfolding count_answer buffer_left
  past_the_count whole i e = by_number (eqb r.number 0)
    where
      by_number : (t : Bool) → (cond {A = CountAnswer} t (record { number = 0; place = 0; count = n }) (record { number = r.number; place = r.place; count = 0 })).count ≤ i →
          get_or (cond t (written out buffer) buffer) i e ≡ get_or buffer i e
      by_number true past = written_past out buffer i e (omega (arith, whole))
      by_number false past = refl

-- ---- a file that is read

module _ (bytes : List ℕ) (buffer : List ℤ) where
  pub read_noughts : Refused (read_answer bytes (length buffer)).number → ((read_answer bytes (length buffer)).kind ≡ 0) × ((read_answer bytes (length buffer)).count ≡ 0) × (read_buffer bytes buffer ≡ buffer)
  unfolding read_answer buffer_left
  read_noughts some = rw (by_refusal (read_refusal bytes (length buffer)) (λ nothing. rw nothing) some) (refl, refl, refl)

  pub past_the_values : (i : ℕ) (e : ℤ) → (read_answer bytes (length buffer)).count ≤ i → get_or (read_buffer bytes buffer) i e ≡ get_or buffer i e
  unfolding read_answer buffer_left
  past_the_values i e = by_number (eqb r.number 0)
    where
      r : Refusal
      r = read_refusal bytes (length buffer)

      by_number : (t : Bool) →
          (cond {A = ReadAnswer} t (record { number = 0; place = 0; kind = kind_of bytes; count = count_of bytes })
          (record { number = r.number; place = r.place; kind = 0; count = 0 })).count ≤ i →
          get_or (cond t (written (values_of bytes) buffer) buffer) i e ≡ get_or buffer i e
      by_number true past = written_past (values_of bytes) buffer i e (omega (arith, values_of_length bytes))
      by_number false past = refl

  -- of either version
  pub record_noughts : let z = read_record_answer bytes (length buffer) in
      Refused z.number → (z.version ≡ 0) × (z.kind ≡ 0) × (z.start ≡ pos 0) × (z.count ≡ 0) × (record_buffer bytes buffer ≡ buffer)
  unfolding read_record_answer buffer_left
  record_noughts some = rw (by_refusal (read_record_refusal bytes (length buffer)) (λ nothing. rw nothing) some) (refl, refl, refl, refl, refl)

  pub past_the_record : (i : ℕ) (e : ℤ) → (read_record_answer bytes (length buffer)).count ≤ i → get_or (record_buffer bytes buffer) i e ≡ get_or buffer i e
  unfolding read_record_answer buffer_left
  past_the_record i e = by_number (eqb r.number 0)
    where
      r : Refusal
      r = read_record_refusal bytes (length buffer)

      by_number : (t : Bool) →
          (cond {A = RecordAnswer} t (record { number = 0; place = 0; version = version_of bytes; kind = kind_of bytes; start = start_of bytes; count = count_of bytes })
          (record { number = r.number; place = r.place; version = 0; kind = 0; start = pos 0; count = 0 })).count ≤ i →
          get_or (cond t (written (record_values bytes) buffer) buffer) i e ≡ get_or buffer i e
      by_number true past = written_past (record_values bytes) buffer i e (omega (arith, record_values_length bytes))
      by_number false past = refl

-- of its header alone
pub header_noughts : (bytes : List ℕ) → let z = header_answer bytes in Refused z.number → (z.version ≡ 0) × (z.kind ≡ 0) × (z.start ≡ pos 0) × (z.count ≡ 0)
unfolding header_answer
header_noughts bytes some = rw (by_refusal (counted_header_refusal bytes) (λ nothing. rw nothing) some) (refl, refl, refl, refl)

-- ---- a file that is salvaged

module _ (bytes buffer : List ℕ) where
  abbrev salvage_buffer : List ℕ
  salvage_buffer = buffer_left (salvage_refusal bytes (length buffer)) (salvaged_file bytes) buffer

  pub salvage_noughts : let z = salvage_answer bytes (length buffer) in
      Refused z.number → (z.old_count ≡ 0) × (z.new_count ≡ 0) × (z.left_over ≡ 0) × (z.met ≡ 0) × (salvage_buffer ≡ buffer)
  unfolding salvage_answer buffer_left
  salvage_noughts some = rw (by_refusal (salvage_refusal bytes (length buffer)) (λ nothing. rw nothing) some) (refl, refl, refl, refl, refl)

  -- the new file's length is the input's less what is left over
  pub past_the_salvaged : (i e : ℕ) → length bytes - (salvage_answer bytes (length buffer)).left_over ≤ i → get_or salvage_buffer i e ≡ get_or buffer i e
  unfolding salvage_answer buffer_left
  past_the_salvaged i e past = by_number (eqb (salvage_refusal bytes (length buffer)).number 0) refl
    where
      by_number : (t : Bool) → eqb (salvage_refusal bytes (length buffer)).number 0 ≡ t → get_or salvage_buffer i e ≡ get_or buffer i e
      by_number true t =
          let known = unrefused_salvageable bytes (length buffer) (eqb-true (salvage_refusal bytes (length buffer)).number 0 t) in
          let behind : length bytes - (length bytes - length (salvaged_file bytes)) ≤ i = rw t at past in
          rw t (written_past (salvaged_file bytes) buffer i e (omega (arith, salvaged_within bytes known.header.present)))
      by_number false t = rw t

-- ---- sums and answers of two parts

pub sum_noughts : (r : Refusal) (s count : ℕ) → Refused (sum_answer r s count).number → SumNought (sum_answer r s count).sum (sum_answer r s count).count
unfolding sum_answer
sum_noughts r s count some = rw (by_refusal r (λ nothing. rw nothing) some) (refl, refl)

pub part_noughts : (due : Bool) (s count : ℕ) → Refused (part_of due s count).number → SumNought (part_of due s count).sum (part_of due s count).count
unfolding part_of
part_noughts true s count some = absurd (some refl)
part_noughts false s count some = (refl, refl)

module _ (m : ℕ) (xs : List Float) (buffer : List ℤ) where
  pub float_noughts : Refused (float_answer m xs (length buffer)).number → PartsNought (float_answer m xs (length buffer)).allan (float_answer m xs (length buffer)).modified × ((float_answer m xs (length buffer)).changed ≡ 0) × (float_buffer m xs buffer ≡ buffer)
  unfolding float_answer buffer_left no_part
  float_noughts some =
      rw (by_refusal (float_refusal m xs (length buffer)) (λ nothing. rw nothing) some) (((refl, (refl, refl)), (refl, (refl, refl))), refl, refl)

  -- a 1 for one part alone
  pub float_part_noughts : PartsApart (float_answer m xs (length buffer)).allan (float_answer m xs (length buffer)).modified
  unfolding float_answer no_part
  float_part_noughts = by_number (eqb r.number 0)
    where
      r : Refusal
      r = float_refusal m xs (length buffer)

      answer : Bool → FloatSums
      answer t =
          cond t
          (record {
            number = 0;
            place = 0;
            allan = part_of true (allan_sum m (samples_of xs)) (allan_count m (samples_of xs));
            modified = part_of (leb (3 * m) (length xs)) (modified_sum m (samples_of xs)) (modified_count m (samples_of xs));
            changed = how_many has_fraction xs;
          })
          (record { number = r.number; place = r.place; allan = no_part; modified = no_part; changed = 0 })

      by_number : (t : Bool) → PartsApart (answer t).allan (answer t).modified
      by_number true = (part_noughts _ _ _, part_noughts _ _ _)
      by_number false = (λ some. (refl, refl), λ some. (refl, refl))

  pub past_the_samples : (i : ℕ) (e : ℤ) → length xs ≤ i → get_or (float_buffer m xs buffer) i e ≡ get_or buffer i e
  past_the_samples i e past = past_unchanged _ (samples_of xs) buffer i e (omega (arith, samples_length xs))

pub report_noughts : (x : Meter) → Refused (report_answer x).number → PartsNought (report_answer x).allan (report_answer x).modified
unfolding report_answer no_part
report_noughts x some = rw (falls (holds_together x) refl) ((refl, (refl, refl)), (refl, (refl, refl)))
  where
    falls : (t : Bool) → holds_together x ≡ t → t ≡ false
    falls true e = absurd (some (rw e))
    falls false e = refl

pub report_part_noughts : (x : Meter) → PartsApart (report_answer x).allan (report_answer x).modified
unfolding report_answer no_part
report_part_noughts x = by_test (holds_together x)
  where
    answer : Bool → Report
    answer t =
        cond t
        (record { number = 0; place = 0; allan = part_of (leb 1 x.k) (value x.a) x.k; modified = part_of (leb 1 x.c) (value x.b) x.c })
        (record { number = 7; place = 0; allan = no_part; modified = no_part })

    by_test : (t : Bool) → PartsApart (answer t).allan (answer t).modified
    by_test true = (part_noughts _ _ _, part_noughts _ _ _)
    by_test false = (λ some. (refl, refl), λ some. (refl, refl))

-- ---- drift

pub drift_noughts : (xs : List ℤ) → Refused (drift_answer xs).number → ((drift_answer xs).p ≡ pos 0) × ((drift_answer xs).r ≡ 0)
unfolding drift_answer
drift_noughts xs some = rw (by_refusal (drift_refusal xs) (λ nothing. rw nothing) some) (refl, refl)

-- ---- the quieter of two records

pub which_nought : (m : ℕ) (xs ys : List ℤ) → Refused (quieter_answer m xs ys).number → (quieter_answer m xs ys).which ≡ 0
unfolding quieter_answer
which_nought m xs ys some = rw (by_refusal (quieter_refusal m xs ys) (λ nothing. rw nothing) some) refl

pub one_is_handed : (m : ℕ) (first second : Bor (List ℤ)) → OneOf first second (quieter_record m first second)
unfolding quieter_record empty_part
one_is_handed m first second = by_which (eqb which 1) (eqb which 2)
  where
    which : ℕ
    which = (quieter_answer m first.now second.now).which

    by_which : (s t : Bool) → OneOf first second (cond s first (cond t second (empty_part first)))
    by_which true t = the_first
    by_which false true = the_second
    by_which false false = empty refl refl

-- ---- meters

pub meter_as_it_came : (r : Refusal) (old new : Meter) → Refused (meter_answer r old new).number → (meter_answer r old new).meter ≡ old
unfolding meter_answer
meter_as_it_came r old new some = rw (by_refusal r (λ nothing. rw nothing) some) refl

module _ (x : Meter) (ring : List ℤ) (v : ℤ) where
  pub ring_as_it_came : Refused (sample_answer x ring v).number → ring_left x ring v ≡ ring
  unfolding sample_answer meter_answer ring_left
  ring_as_it_came some = rw (by_refusal (sample_refusal x ring v) (λ nothing. rw nothing) some) refl

  -- no slot but the sample's own is written
  pub other_slots_unchanged : (i : ℕ) (e : ℤ) → (i ≡ x.stretch % (3 * x.m) → ⊥) → get_or (ring_left x ring v) i e ≡ get_or ring i e
  unfolding ring_left ring_with
  other_slots_unchanged i e other = by_number (eqb (sample_refusal x ring v).number 0)
    where
      by_number : (t : Bool) → get_or (cond t (set ring (x.stretch % (3 * x.m)) v) ring) i e ≡ get_or ring i e
      by_number true = get_or-set_other ring (x.stretch % (3 * x.m)) i v e other
      by_number false = refl

  -- which lies in the ring where the sample is accepted
  pub slot_in_ring : (sample_answer x ring v).number ≡ 0 → x.stretch % (3 * x.m) < length ring
  unfolding sample_answer meter_answer
  slot_in_ring answered = by_number (eqb r.number 0) refl answered
    where
      r : Refusal
      r = sample_refusal x ring v

      by_number : (t : Bool) → eqb r.number 0 ≡ t →
          (cond {A = MeterAnswer} t (record { number = 0; place = 0; meter = with_sample x ring v }) (record { number = r.number; place = r.place; meter = x })).number ≡ 0 →
          x.stretch % (3 * x.m) < length ring
      by_number true e given =
          let known = let_in_by_number x ring v (eqb-true r.number 0 e) in
          let factor = (holds_together_lem x known.meter_holds).factor_least in
          slot_inside x.m x.stretch (length ring) factor (ring_holds_lem x ring known.ring_holds_lem).long
      by_number false e refused = absurd (eqb-false r.number 0 e refused)

  -- and there it stands
  pub own_slot_written : (sample_answer x ring v).number ≡ 0 → at (ring_left x ring v) (x.stretch % (3 * x.m)) ≡ v
  unfolding sample_answer meter_answer ring_left ring_with
  own_slot_written answered = by_number (eqb r.number 0) refl answered
    where
      r : Refusal
      r = sample_refusal x ring v

      by_number : (t : Bool) → eqb r.number 0 ≡ t →
          (cond {A = MeterAnswer} t (record { number = 0; place = 0; meter = with_sample x ring v }) (record { number = r.number; place = r.place; meter = x })).number ≡ 0 →
          at (cond t (set ring (x.stretch % (3 * x.m)) v) ring) (x.stretch % (3 * x.m)) ≡ v
      by_number true e given =
          get_or-set_same ring _ v (pos 0) (slot_in_ring answered)
      by_number false e refused = absurd (eqb-false r.number 0 e refused)

-- ---- what is drawn

pub drawn_noughts : (r : ℕ) → Refused (drawn_answer r).number → (drawn_answer r).value ≡ plus_zero
unfolding drawn_answer
drawn_noughts r some = rw (by_refusal (drawn_refusal r) (λ nothing. rw nothing) some) refl

pub dot_noughts : (d : DeviationAnswer) → Refused (dot_answer d).number → DotNought (dot_answer d).dot
unfolding dot_answer dot_number dot_value
dot_noughts d some = rw (ne_eqb d.number 0 (λ nothing. some (rw nothing)), ne_eqb d.number 1 (λ few. some (rw few))) (refl, refl, refl)

-- as C has it
pub told_dot_noughts : (d : DeviationAnswer) → Refused (told_dot (dot_answer d)).number → ((told_dot (dot_answer d)).kind ≡ 0) × ((told_dot (dot_answer d)).value ≡ plus_zero)
unfolding told_dot dot_kind dot_value
told_dot_noughts d some = rw (dot_noughts d some).0 (refl, refl)

-- ---- fractions and deviations

pub fraction_noughts : (r : Refusal) (n d : ℕ) → Refused (fraction_answer r n d).number → SumNought (fraction_answer r n d).numerator (fraction_answer r n d).denominator
unfolding fraction_answer
fraction_noughts r n d some = rw (by_refusal r (λ nothing. rw nothing) some) (refl, refl)

pub deviation_noughts : (r : Refusal) (d : ℕ) → Refused (deviation_answer r d).number → (deviation_answer r d).deviation ≡ 0
unfolding deviation_answer
deviation_noughts r d some = rw (by_refusal r (λ nothing. rw nothing) some) refl

-- ---- noise types and bars

-- the alpha that an answer tells, in Rattle and in C
pub alpha_nought : (a : NoiseAnswer) → Refused a.number → told_alpha a ≡ pos 0
unfolding told_alpha
alpha_nought a some = rw (ne_eqb a.number 0 some) refl

pub bars_noughts : (r : ℕ) (t : Noise) (m : ℕ) → Refused (bars_answer r t m).number → BarsNought (bars_answer r t m)
unfolding bars_answer no_bar
bars_noughts r t m some = rw (by_refusal (bars_refusal r m) (λ nothing. rw nothing) some) (refl, refl, refl)

pub alpha_bars_noughts : (r : ℕ) (alpha : ℤ) (m : ℕ) → Refused (bars_by_alpha r alpha m).number → BarsNought (bars_by_alpha r alpha m)
unfolding bars_by_alpha no_such_type no_bar
alpha_bars_noughts r (pos zero) m some = bars_noughts _ _ _ some
alpha_bars_noughts r (pos (suc zero)) m some = bars_noughts _ _ _ some
alpha_bars_noughts r (pos (suc (suc zero))) m some = bars_noughts _ _ _ some
alpha_bars_noughts r (pos (suc (suc (suc n)))) m some = (refl, refl, refl)
alpha_bars_noughts r (negsuc zero) m some = bars_noughts _ _ _ some
alpha_bars_noughts r (negsuc (suc zero)) m some = bars_noughts _ _ _ some
alpha_bars_noughts r (negsuc (suc (suc n))) m some = (refl, refl, refl)

-- ---- the lines of a record on a sheet

module _ (bytes : List ℕ) (t : Totals) (buffer : List ℕ) where
  abbrev r : Refusal
  r = text_refusal bytes t (length buffer)

  pub text_noughts : Refused (text_answer bytes t (length buffer)).number →
      ((text_answer bytes t (length buffer)).length ≡ 0) × ((text_answer bytes t (length buffer)).totals ≡ t) × (buffer_left r (record_text bytes) buffer ≡ buffer)
  unfolding text_answer buffer_left
  text_noughts some = rw (by_refusal r (λ nothing. rw nothing) some) (refl, refl, refl)

  pub past_the_text : (i e : ℕ) → (text_answer bytes t (length buffer)).length ≤ i → get_or (buffer_left r (record_text bytes) buffer) i e ≡ get_or buffer i e
  unfolding text_answer buffer_left
  past_the_text i e = by_number (eqb r.number 0)
    where
      by_number : (nought : Bool) →
          (cond {A = SheetAnswer} nought (record { number = 0; place = 0; length = length (record_text bytes); totals = totals_with t bytes }) (record { number = r.number; place = r.place; length = 0; totals = t })).length ≤ i →
          get_or (cond nought (written (record_text bytes) buffer) buffer) i e ≡ get_or buffer i e
      by_number true h = written_past (record_text bytes) buffer i e h
      by_number false h = refl
