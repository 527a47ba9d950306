-- The cases of what a record is refused for as a whole, in their order, and of the calls that fill a lent buffer.
use mathlib.Core.Path.{◌≡◌, refl, sym, ap, ◌∙◌}
use mathlib.Core.Bool.{Bool, true, false, cond, not}
use mathlib.Core.List.{List}
use Rattle.std.proofs.Common.{Result, Ok, Err, IfOk}
use Prim.Native.Nat.{ℕ, ◌+◌, ◌≤◌, ◌<◌}
use native.Mathlib.Omega.{arith}
use borrow.Author.Tests.{lt-ltb, le-ltb, ltb-true, ltb-false, eq-eqb, ne_eqb, eqb-true, eqb-false}
use lib.Dec.{ltb, eqb}
use lib.IntN.{ℤ}
use lib.ListN.{length, take, drop}
use lib.Seq.{take_at}
use Rattle.record.specs.Answers.{count_answer, buffer_left}
use Rattle.record.specs.Refusals.{none, refused, refused_if, ◌then◌, in_range, record_refusal}
use Rattle.record.specs.Told.{number_of, count_told}
use Rattle.record.specs.declared.Refusal.{Refusal}
use Rattle.record.specs.declared.CountAnswer.{CountAnswer}
use Rattle.record.specs.declared.grounds.Refused.{Refused}
use Rattle.record.proofs.AnswerLaws.{error_value}
use Rattle.record.proofs.ToldLaws.{numbered, answered_not}
use Rattle.record.proofs.RefusalLaws.{refusal_stands, none_gives_way, first_refuses_nothing, rest_refuses_nothing, test_fails}
use Rattle.frequency.specs.Frequency.{phases_from, first_leaving, phase_refusal_from}
use Rattle.frequency.proofs.FrequencyLaws.{phases_from_length}
use Rattle.sums.specs.Answers.{allan_demand}
use Rattle.phr.specs.File.{most_values}
use Rattle.phr.specs.Reading.{kind_of, count_of, start_of, record_values, header_refusal, counted_header_refusal, read_record_refusal, record_answer, read_record_answer, header_answer}
use Rattle.phr.specs.Kinds.{number_of_kind}
use Rattle.phr.specs.Told.{record_told}
use Rattle.phr.specs.declared.Contents.{Contents}
use Rattle.phr.specs.declared.RecordAnswer.{RecordAnswer}
use Rattle.phr.proofs.AnswerCases.{header_told_refused, header_told}
use Rattle.phr.proofs.ReadCases.{record_values_length, unrefused_record, sound_header_none, unrefused_counted_header}
use Rattle.listing.specs.Sheet.{sheet_most, samples_of, reader_refusal, phases_refusal, sheet_refusal}

-- ---- orders and answers

-- an order of three, the first two taken together
two_then_one : (r s t : Refusal) → ((r then s) then t) ≡ (r then (s then t))
two_then_one r s t = by_number (eqb r.number 0) refl
  where
    by_number : (nought : Bool) → eqb r.number 0 ≡ nought → ((r then s) then t) ≡ (r then (s then t))
    by_number true e = rw e
    by_number false e = rw (e, e)

-- what is refused first is refused
pub first_refuses : (r s : Refusal) (number place : ℕ) → 0 < number → r ≡ refused number place → (r then s) ≡ refused number place
first_refuses r s number place some e = rw (e, ne_eqb number 0 (λ z. omega arith))

-- what refuses nothing adds nothing
none_more : (r : Refusal) (n : ℕ) → count_answer (r then none) n ≡ count_answer r n
unfolding count_answer
none_more r n = by_number (eqb r.number 0) refl
  where
    by_number : (nought : Bool) → eqb r.number 0 ≡ nought → count_answer (r then none) n ≡ count_answer r n
    by_number true e = rw e
    by_number false e = rw (e, e)

module _ (r : Refusal) (n : ℕ) where
  -- what an answer tells of its refusal
  pub told_refused : {answer : CountAnswer} → answer ≡ count_answer r n → (answer.number ≡ 0 → ⊥) → r ≡ refused answer.number answer.place
  unfolding count_answer
  told_refused e some = by_number (eqb r.number 0) refl e some
    where
      by_number : (nought : Bool) → eqb r.number 0 ≡ nought → {answer : CountAnswer} →
          answer ≡ cond nought (record { number = 0; place = 0; count = n }) (record { number = r.number; place = r.place; count = 0 }) →
          (answer.number ≡ 0 → ⊥) → r ≡ refused answer.number answer.place
      by_number true t e some = absurd (some (ap (λ (a : CountAnswer). a.number) e))
      by_number false t e some = rw e

  pub told_none : {answer : CountAnswer} → answer ≡ count_answer r n → answer.number ≡ 0 → (r.number ≡ 0) × (answer.count ≡ n)
  unfolding count_answer
  told_none e nought = by_number (eqb r.number 0) refl e nought
    where
      by_number : (is : Bool) → eqb r.number 0 ≡ is → {answer : CountAnswer} →
          answer ≡ cond is (record { number = 0; place = 0; count = n }) (record { number = r.number; place = r.place; count = 0 }) →
          answer.number ≡ 0 → (r.number ≡ 0) × (answer.count ≡ n)
      by_number true t e nought = (eqb-true r.number 0 t, ap (λ (a : CountAnswer). a.count) e)
      by_number false t e nought = absurd (eqb-false r.number 0 t (sym (ap (λ (a : CountAnswer). a.number) e) ∙ nought))

-- refusals that refuse nothing are answered alike
pub same_answer : (r s : Refusal) (n : ℕ) → r.number ≡ 0 → s.number ≡ 0 → count_answer r n ≡ count_answer s n
unfolding count_answer
same_answer r s n e f = rw (eq-eqb r.number 0 e, eq-eqb s.number 0 f)

-- an error that is told of the first of two refusals
pub error_first : (r s : Refusal) (n k : ℕ) (e : Refused) → count_told (Err e) ≡ count_answer r n → count_told (Err e) ≡ count_answer (r then s) k
error_first r s n k e is =
    error_value k e (sym (first_refuses r s (number_of e.why) e.place (numbered e.why) (told_refused r n is (answered_not e))))

-- ---- a buffer that is filled

-- the output stands at its front
output_in_front : {A : Type 0} (r : Refusal) (out buffer : List A) → r.number ≡ 0 → {count : ℕ} → count ≡ length out → {left : List A} →
    left ≡ buffer_left r out buffer → take count left ≡ out
unfolding buffer_left
output_in_front r out buffer nought e l = rw (l, eq-eqb r.number 0 nought) (take_at out (drop (length out) buffer) _ (sym e))

-- as many samples as are counted stand at the front of a sheet's buffer
abbrev InFront : CountAnswer → List ℤ → List ℤ → Type 0
InFront answer left samples = answer.number ≡ 0 → (answer.count ≤ 4096) × (take answer.count left ≡ samples)

-- the same of a result
pub ok_in_front : (result : Result ℕ Refused) (left samples : List ℤ) → InFront (count_told result) left samples →
    IfOk result (λ count. (count ≤ 4096) × (take count left ≡ samples))
ok_in_front (Ok n) left samples f = f refl
ok_in_front (Err e) left samples f = tt

-- ---- what reading a record answers

-- without its version, its kind and its start
abbrev counted : RecordAnswer → CountAnswer
counted answer = record { number = answer.number; place = answer.place; count = answer.count }

module _ (bytes : List ℕ) (room : ℕ) where
  abbrev refusal : Refusal
  refusal = read_record_refusal bytes room

  pub values_counted : {answer : RecordAnswer} → answer ≡ read_record_answer bytes room → counted answer ≡ count_answer refusal (length (record_values bytes))
  unfolding read_record_answer count_answer
  values_counted e = ap counted e ∙ rw (record_values_length bytes) (by_number (eqb refusal.number 0) refl)
    where
      by_number : (nought : Bool) → eqb refusal.number 0 ≡ nought → counted (record_answer refusal bytes) ≡ count_answer refusal (count_of bytes)
      by_number true t = rw t
      by_number false t = rw t

  pub start_told : {answer : RecordAnswer} → answer ≡ read_record_answer bytes room → refusal.number ≡ 0 → answer.start ≡ start_of bytes
  unfolding read_record_answer
  start_told e nought = ap (λ (a : RecordAnswer). a.start) e ∙ rw (eq-eqb refusal.number 0 nought)

  -- as many values as are counted stand at the front of the buffer, and it has room for them
  pub values_in_front : {answer : RecordAnswer} → answer ≡ read_record_answer bytes room → answer.number ≡ 0 → (buffer : List ℤ) {left : List ℤ} →
      left ≡ buffer_left refusal (record_values bytes) buffer → (answer.count ≤ room) × (take answer.count left ≡ record_values bytes)
  values_in_front e nought buffer l =
      let told = told_none refusal (length (record_values bytes)) (values_counted e) nought in
      (omega (arith, told.1, record_values_length bytes, (unrefused_record bytes room told.0).counted.enough), output_in_front refusal (record_values bytes) buffer told.0 told.1 l)

-- ---- the phases of a frequency record

-- phases that are not refused have room
room_for_phases : (start : ℤ) (ys : List ℤ) (room : ℕ) → (phase_refusal_from start ys room).number ≡ 0 → length ys + 1 ≤ room
unfolding phase_refusal_from
room_for_phases start ys room nought =
    let many = refused_if (ltb 32767 (length ys)) 2 0 in
    let no_room = refused_if (ltb room (length ys + 1)) 6 0 in
    let rest = refused_if (not (in_range start)) 3 0 then refused_if (ltb (first_leaving start ys) (length ys)) 3 (first_leaving start ys) in
    ltb-false room (length ys + 1) (test_fails _ 6 0 (omega arith) (first_refuses_nothing no_room rest (rest_refuses_nothing many (no_room then rest) nought)))

module _ (bytes : List ℕ) where
  abbrev phases_of : List ℤ
  phases_of = phases_from (start_of bytes) (record_values bytes)

  abbrev readings_refusal : Refusal
  readings_refusal = read_record_refusal bytes 4096 then phase_refusal_from (start_of bytes) (record_values bytes) 4096

  -- a frequency record that is read: its start, its readings and the buffer's room are known by equations
  pub phases_answered : (read_record_refusal bytes 4096).number ≡ 0 →
      {start : ℤ} {readings : List ℤ} {room : ℕ} → start ≡ start_of bytes → readings ≡ record_values bytes → room ≡ 4096 →
      {answer : CountAnswer} → answer ≡ count_answer (phase_refusal_from start readings room) (length readings + 1) →
      (buffer : List ℤ) {left : List ℤ} → left ≡ buffer_left (phase_refusal_from start readings room) (phases_from start readings) buffer →
      (answer ≡ count_answer readings_refusal (length phases_of)) × InFront answer left phases_of
  phases_answered unrefused {start} {readings} {room} s y r {answer} e buffer {left} l =
      let refusal = phase_refusal_from (start_of bytes) (record_values bytes) 4096 in
      let many = phases_from_length (start_of bytes) (record_values bytes) in
      let answered : answer ≡ count_answer refusal (length phases_of) = e ∙ rw (s, y, r, many) in
      let stored : left ≡ buffer_left refusal phases_of buffer = l ∙ rw (s, y, r) in
      let filled : InFront answer left phases_of = λ nought.
      let told = told_none refusal (length phases_of) answered nought in
      (omega (arith, told.1, many, room_for_phases _ _ _ told.0), output_in_front refusal phases_of buffer told.0 told.1 stored) in
      (answered ∙ ap (λ (q : Refusal). count_answer q (length phases_of)) (sym (none_gives_way (read_record_refusal bytes 4096) refusal unrefused)), filled)

-- ---- the reader

pub sheet_most_within : (kind : ℕ) → sheet_most kind ≤ most_values kind
unfolding sheet_most most_values
sheet_most_within kind = by_kind (eqb kind 0)
  where
    by_kind : (phase : Bool) → cond phase 4096 4095 ≤ cond phase 32768 32767
    by_kind true = omega arith
    by_kind false = omega arith

module _ (bytes : List ℕ) where
  abbrev pub too_many_refusal : Refusal
  too_many_refusal = refused_if (ltb (sheet_most (kind_of bytes)) (count_of bytes)) 2 0

  after_header : (header_refusal bytes).number ≡ 0 → reader_refusal bytes ≡ (too_many_refusal then read_record_refusal bytes 4096)
  unfolding reader_refusal
  after_header e = none_gives_way (header_refusal bytes) (too_many_refusal then read_record_refusal bytes 4096) e

  -- the library's own most is never below the sheet's, so that either gives the same answer
  pub header_stands : ((counted_header_refusal bytes).number ≡ 0 → ⊥) → reader_refusal bytes ≡ counted_header_refusal bytes
  unfolding counted_header_refusal reader_refusal
  header_stands some = by_header (eqb (header_refusal bytes).number 0) refl
    where
      large : Refusal
      large = refused_if (ltb (most_values (kind_of bytes)) (count_of bytes)) 2 0

      by_count : (over : Bool) → ltb (most_values (kind_of bytes)) (count_of bytes) ≡ over → (header_refusal bytes).number ≡ 0 → reader_refusal bytes ≡ counted_header_refusal bytes
      by_count true t nought =
          let over = lt-ltb (sheet_most (kind_of bytes)) (count_of bytes) (omega (arith, sheet_most_within (kind_of bytes), ltb-true (most_values (kind_of bytes)) (count_of bytes) t)) in
          let on_sheet : reader_refusal bytes ≡ refused 2 0 = after_header nought ∙ rw over in
          let in_library : counted_header_refusal bytes ≡ refused 2 0 = none_gives_way (header_refusal bytes) large nought ∙ rw t in
          on_sheet ∙ sym in_library
      by_count false t nought =
          let in_library : counted_header_refusal bytes ≡ none = none_gives_way (header_refusal bytes) large nought ∙ rw t in
          absurd (some (ap (λ (r : Refusal). r.number) in_library))

      by_header : (nought : Bool) → eqb (header_refusal bytes).number 0 ≡ nought → reader_refusal bytes ≡ counted_header_refusal bytes
      by_header true t = by_count (ltb (most_values (kind_of bytes)) (count_of bytes)) refl (eqb-true _ 0 t)
      by_header false t = let wrong = eqb-false (header_refusal bytes).number 0 t in refusal_stands (header_refusal bytes) _ wrong ∙ sym (refusal_stands (header_refusal bytes) large wrong)

  module _ (header : (header_refusal bytes).number ≡ 0) where
    pub too_many_on_sheet : sheet_most (kind_of bytes) < count_of bytes → reader_refusal bytes ≡ refused 2 0
    too_many_on_sheet h = after_header header ∙ rw (lt-ltb (sheet_most (kind_of bytes)) (count_of bytes) h)

    pub reader_reads : count_of bytes ≤ sheet_most (kind_of bytes) → reader_refusal bytes ≡ read_record_refusal bytes 4096
    reader_reads h = after_header header ∙ rw (le-ltb (sheet_most (kind_of bytes)) (count_of bytes) h)

  -- ---- the phases

  pub phase_samples : kind_of bytes ≡ 0 → samples_of bytes ≡ record_values bytes
  unfolding samples_of
  phase_samples e = rw (eq-eqb (kind_of bytes) 0 e)

  pub frequency_samples : (kind_of bytes ≡ 0 → ⊥) → samples_of bytes ≡ phases_from (start_of bytes) (record_values bytes)
  unfolding samples_of
  frequency_samples some = rw (ne_eqb (kind_of bytes) 0 some)

  no_phases : kind_of bytes ≡ 0 → phases_refusal bytes ≡ none
  unfolding phases_refusal
  no_phases e = rw (eq-eqb (kind_of bytes) 0 e)

  some_phases : (kind_of bytes ≡ 0 → ⊥) → phases_refusal bytes ≡ phase_refusal_from (start_of bytes) (record_values bytes) 4096
  unfolding phases_refusal
  some_phases some = rw (ne_eqb (kind_of bytes) 0 some)

  abbrev pub read_refusal : Refusal
  read_refusal = reader_refusal bytes then phases_refusal bytes

  -- ---- the header as it is told

  -- an error
  pub header_error : (e : Refused) → record_told (Err e) ≡ header_answer bytes → refused (number_of e.why) e.place ≡ read_refusal
  header_error e is =
      let told = header_told_refused bytes is (answered_not e) in
      let stands = header_stands (λ z. answered_not e (sym (ap (λ (r : Refusal). r.number) told) ∙ z)) in
      sym (first_refuses (reader_refusal bytes) (phases_refusal bytes) (number_of e.why) e.place (numbered e.why) (stands ∙ told))

  -- what it says
  pub record HeaderTold (h : Contents) : Type 0 where
    pub sound : (header_refusal bytes).number ≡ 0
    pub kind : number_of_kind h.kind ≡ kind_of bytes
    pub count : h.count ≡ count_of bytes

  pub header_there : {h : Contents} → record_told (Ok h) ≡ header_answer bytes → HeaderTold h
  header_there e =
      let told = header_told bytes e refl in record {
        sound = ap (λ (r : Refusal). r.number) (sound_header_none bytes (unrefused_counted_header bytes told.0).0);
        kind = ap (λ (a : RecordAnswer). a.kind) told.1;
        count = ap (λ (a : RecordAnswer). a.count) told.1;
      }

  -- ---- what is answered where the header and the count are not refused

  module _ (header : (header_refusal bytes).number ≡ 0) (few : count_of bytes ≤ sheet_most (kind_of bytes)) where
    pub phase_answer : kind_of bytes ≡ 0 → count_answer (read_record_refusal bytes 4096) (length (record_values bytes)) ≡ count_answer read_refusal (length (samples_of bytes))
    phase_answer e = sym (rw (no_phases e, reader_reads header few, phase_samples e) (none_more (read_record_refusal bytes 4096) (length (record_values bytes))))

    pub frequency_answer : (kind_of bytes ≡ 0 → ⊥) →
        count_answer (read_record_refusal bytes 4096 then phase_refusal_from (start_of bytes) (record_values bytes) 4096) (length (phases_from (start_of bytes) (record_values bytes)))
        ≡ count_answer read_refusal (length (samples_of bytes))
    frequency_answer some = sym (rw (some_phases some, reader_reads header few, frequency_samples some))

  -- ---- the Allan sum at factor 1

  sheet_refusal_is : sheet_refusal bytes ≡ (read_refusal then record_refusal allan_demand 1 (samples_of bytes))
  unfolding sheet_refusal
  sheet_refusal_is = sym (two_then_one (reader_refusal bytes) (phases_refusal bytes) (record_refusal allan_demand 1 (samples_of bytes)))

  pub read_refuses : (read_refusal.number ≡ 0 → ⊥) → sheet_refusal bytes ≡ read_refusal
  read_refuses some = sheet_refusal_is ∙ refusal_stands read_refusal _ some

  pub allan_decides : read_refusal.number ≡ 0 → sheet_refusal bytes ≡ record_refusal allan_demand 1 (samples_of bytes)
  allan_decides e = sheet_refusal_is ∙ none_gives_way read_refusal _ e
