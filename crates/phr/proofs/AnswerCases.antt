-- The two cases of a call that reads a file, of version 1 or of either, or a header: an error as it is told, and what was read.
use Rattle.std.proofs.Common.{◌≡◌, ℕ, Bool, true, false, cond, eqb, List, length, ℤ, pos, sym, refl, ap, ◌∙◌, ne_eqb, eqb-true, Ok, Err}
use borrow.Author.Tests.{eqb-false}
use Rattle.record.specs.Answers.{buffer_left}
use Rattle.record.specs.Refusals.{none, refused}
use Rattle.record.specs.Told.{number_of}
use Rattle.record.specs.declared.Refusal.{Refusal}
use Rattle.record.specs.declared.grounds.Refused.{Refused}
use Rattle.record.proofs.ToldLaws.{answered_not}
use Rattle.phr.specs.Reading.{kind_of, count_of, values_of, read_refusal, read_answer, record_values, read_record_refusal, record_answer, read_record_answer, counted_header_refusal, header_answer}
use Rattle.phr.specs.Kinds.{number_of_kind}
use Rattle.phr.specs.Told.{read_told, record_told}
use Rattle.phr.specs.declared.Held.{Held}
use Rattle.phr.specs.declared.Contents.{Contents}
use Rattle.phr.specs.declared.RecordAnswer.{RecordAnswer}

-- the lent buffer as it is left
abbrev pub read_buffer : List ℕ → List ℤ → List ℤ
read_buffer bytes buffer = buffer_left (read_refusal bytes (length buffer)) (values_of bytes) buffer

abbrev pub record_buffer : List ℕ → List ℤ → List ℤ
record_buffer bytes buffer = buffer_left (read_record_refusal bytes (length buffer)) (record_values bytes) buffer

-- noughts beside a refusal
abbrev no_record : ℕ → ℕ → RecordAnswer
no_record n p = record { number = n; place = p; version = 0; kind = 0; start = pos 0; count = 0 }

module _ (bytes : List ℕ) (room : ℕ) where
  pub read_error : (e : Refused) → refused (number_of e.why) e.place ≡ read_refusal bytes room → read_told (Err e) ≡ read_answer bytes room
  unfolding read_answer
  read_error e is = rw (← is, ne_eqb (number_of e.why) 0 (answered_not e))

  pub read_value : none ≡ read_refusal bytes room → (h : Held) → number_of_kind h.kind ≡ kind_of bytes → h.count ≡ count_of bytes → read_told (Ok h) ≡ read_answer bytes room
  unfolding read_answer
  read_value is h k n = rw (← is, k, n)

-- the refusal of a record or of a header, and what is answered by it
module _ (bytes : List ℕ) {r : Refusal} where
  answer_error : (e : Refused) → refused (number_of e.why) e.place ≡ r → record_told (Err e) ≡ record_answer r bytes
  answer_error e is = rw (← is, ne_eqb (number_of e.why) 0 (answered_not e))

  answer_value : none ≡ r → (h : Contents) → record_told (Ok h) ≡ record_answer none bytes → record_told (Ok h) ≡ record_answer r bytes
  answer_value is h said = rw (← is) said

module _ (bytes : List ℕ) (room : ℕ) where
  pub record_error : (e : Refused) → refused (number_of e.why) e.place ≡ read_record_refusal bytes room → record_told (Err e) ≡ read_record_answer bytes room
  unfolding read_record_answer
  record_error e is = answer_error bytes e is

  pub record_value : none ≡ read_record_refusal bytes room → (h : Contents) → record_told (Ok h) ≡ record_answer none bytes → record_told (Ok h) ≡ read_record_answer bytes room
  unfolding read_record_answer
  record_value is h said = answer_value bytes is h said

module _ (bytes : List ℕ) where
  pub header_error : (e : Refused) → refused (number_of e.why) e.place ≡ counted_header_refusal bytes → record_told (Err e) ≡ header_answer bytes
  unfolding header_answer
  header_error e is = answer_error bytes e is

  pub header_value : none ≡ counted_header_refusal bytes → (h : Contents) → record_told (Ok h) ≡ record_answer none bytes → record_told (Ok h) ≡ header_answer bytes
  unfolding header_answer
  header_value is h said = answer_value bytes is h said

  -- what is told by the answer
  pub header_told_refused : {answer : RecordAnswer} → answer ≡ header_answer bytes → (answer.number ≡ 0 → ⊥) → counted_header_refusal bytes ≡ refused answer.number answer.place
  unfolding header_answer
  header_told_refused e numbered = by_number (eqb (counted_header_refusal bytes).number 0) refl e numbered
    where
      by_number : (nought : Bool) → eqb (counted_header_refusal bytes).number 0 ≡ nought → {answer : RecordAnswer} →
          answer ≡ cond nought (record_answer none bytes) (no_record (counted_header_refusal bytes).number (counted_header_refusal bytes).place) →
          (answer.number ≡ 0 → ⊥) → counted_header_refusal bytes ≡ refused answer.number answer.place
      by_number true t e numbered = absurd (numbered (ap (λ (a : RecordAnswer). a.number) e))
      by_number false t e numbered = rw e

  pub header_told : {answer : RecordAnswer} → answer ≡ header_answer bytes → answer.number ≡ 0 → ((counted_header_refusal bytes).number ≡ 0) × (answer ≡ record_answer none bytes)
  unfolding header_answer
  header_told e nought = by_number (eqb (counted_header_refusal bytes).number 0) refl e nought
    where
      by_number : (is : Bool) → eqb (counted_header_refusal bytes).number 0 ≡ is → {answer : RecordAnswer} →
          answer ≡ cond is (record_answer none bytes) (no_record (counted_header_refusal bytes).number (counted_header_refusal bytes).place) →
          answer.number ≡ 0 → ((counted_header_refusal bytes).number ≡ 0) × (answer ≡ record_answer none bytes)
      by_number true t e nought = (eqb-true (counted_header_refusal bytes).number 0 t, e)
      by_number false t e nought = absurd (eqb-false (counted_header_refusal bytes).number 0 t (sym (ap (λ (a : RecordAnswer). a.number) e) ∙ nought))
