-- What a record is refused for on a sheet, and what the two entries of a sheet refuse, agree with their tables of grounds.
use mathlib.Core.Path.{◌≡◌, refl, sym, ap, ◌∙◌}
use mathlib.Core.Bool.{Bool, true, false, cond, ◌||◌}
use mathlib.Core.List.{List}
use mathlib.Core.Logic.{◌⊎◌, inl, inr}
use Prim.Native.Nat.{ℕ, ◌^◌, ◌≤◌, ◌<◌}
use native.Mathlib.Omega.{arith}
use borrow.Author.Tests.{ltb-true, ltb-false, lt-ltb, le-ltb, eq-eqb, ne_eqb, eqb-true, eqb-false}
use lib.Dec.{ltb, eqb}
use lib.ListN.{length}
use Rattle.record.specs.Refusals.{none, refused_if, ◌then◌, record_refusal}
use Rattle.record.specs.Answers.{count_answer}
use Rattle.record.specs.declared.Refusal.{Refusal}
use Rattle.record.specs.declared.CountAnswer.{CountAnswer}
use Rattle.record.proofs.RefusalLaws.{first_refuses_nothing}
use Rattle.frequency.specs.Frequency.{phase_refusal_from}
use Rattle.sums.specs.Answers.{allan_demand}
use Rattle.frequency.proofs.FrequencyLaws.{phases_from_length}
use Rattle.phr.specs.Reading.{kind_of, count_of, start_of, record_values, header_refusal, counted_header_refusal, read_record_refusal}
use Rattle.phr.proofs.ReadCases.{record_values_length}
use Rattle.listing.specs.Sheet.{sheet_most, samples_of, reader_refusal, phases_refusal, sheet_refusal, total_line, text_refusal, text_answer, total_refusal}
use Rattle.listing.specs.declared.Totals.{Totals}
use Rattle.listing.specs.declared.SheetAnswer.{SheetAnswer}
use Rattle.listing.proofs.SheetCases.{header_stands, too_many_on_sheet, reader_reads, phase_samples, frequency_samples}
use Rattle.listing.proofs.TextCases.{total_too_large, no_room_for_text, totals_within}
use Rattle.acceptance.specs.Grounds
use Rattle.acceptance.specs.Grounds.{NoRow, Grounded, ManyOnSheet, FewOnSheet, OfRecordHeader, OfRecordFile, OfPhasesFrom, OfSheet, OfText, OfTotal}
use Rattle.acceptance.proofs.Grounding.{Decided, nothing, something, Stands, Agrees, decide_last, decide_after, decided_by, stands_first, stands_later, rowless_none, none_rowless, grounded_answer}
use Rattle.acceptance.proofs.RecordGrounds.{record_agrees}
use Rattle.acceptance.proofs.BufferGrounds.{phases_from_agree}
use Rattle.acceptance.proofs.VersionGrounds.{header_agrees, record_reading_agrees}

-- ---- more values than a sheet takes

module _ (kind count : ℕ) where
  many_over : ManyOnSheet kind count → sheet_most kind < count
  unfolding sheet_most
  many_over (inl (phase, over)) = rw (eq-eqb kind 0 phase) over
  many_over (inr (frequency, over)) = rw (ne_eqb kind 0 frequency) over

  over_many : sheet_most kind < count → ManyOnSheet kind count
  unfolding sheet_most
  over_many h = by_kind (eqb kind 0) refl h
    where
      by_kind : (phase : Bool) → eqb kind 0 ≡ phase → cond phase 4096 4095 < count → ManyOnSheet kind count
      by_kind true e over = inl (eqb-true kind 0 e, over)
      by_kind false e over = inr (eqb-false kind 0 e, over)

-- ---- a record that is refused as a whole

module _ (bytes : List ℕ) where
  abbrev kind : ℕ
  kind = kind_of bytes

  abbrev rest : Refusal
  rest = phases_refusal bytes then record_refusal allan_demand 1 (samples_of bytes)

  abbrev phase_rows : ℕ → ℕ → Type 0
  phase_rows = OfPhasesFrom (start_of bytes) (record_values bytes) 4096

  number_none : {r : Refusal} → r ≡ none → r.number ≡ 0
  number_none e = ap (λ (r : Refusal). r.number) e

  -- the header is sound where none of its rows holds, and these are rows of the whole file
  sound_header : NoRow (OfRecordHeader bytes) → (header_refusal bytes).number ≡ 0
  unfolding counted_header_refusal
  sound_header rowless = first_refuses_nothing (header_refusal bytes) _ (number_none (rowless_none (header_agrees bytes 0) rowless))

  rowless_header : NoRow (OfRecordFile bytes 4096) → NoRow (OfRecordHeader bytes)
  rowless_header rowless n p row = rowless n p (Grounds.header row)

  few_within : FewOnSheet bytes → count_of bytes ≤ sheet_most kind
  few_within few = by_count (ltb (sheet_most kind) (count_of bytes)) refl
    where
      by_count : (over : Bool) → ltb (sheet_most kind) (count_of bytes) ≡ over → count_of bytes ≤ sheet_most kind
      by_count true t = absurd (few (over_many kind (count_of bytes) (ltb-true _ _ t)))
      by_count false t = ltb-false _ _ t

  reads : NoRow (OfRecordHeader bytes) → FewOnSheet bytes → reader_refusal bytes ≡ read_record_refusal bytes 4096
  reads rowless few = reader_reads bytes (sound_header rowless) (few_within few)

  whole : NoRow (OfRecordFile bytes 4096) → FewOnSheet bytes → reader_refusal bytes ≡ none
  whole rowless few = reads (rowless_header rowless) few ∙ rowless_none (record_reading_agrees bytes 4096) rowless

  no_phases : kind ≡ 0 → phases_refusal bytes ≡ none
  unfolding phases_refusal
  no_phases e = rw (eq-eqb kind 0 e)

  some_phases : (kind ≡ 0 → ⊥) → phases_refusal bytes ≡ phase_refusal_from (start_of bytes) (record_values bytes) 4096
  unfolding phases_refusal
  some_phases some = rw (ne_eqb kind 0 some)

  phases_clear : ((kind ≡ 0 → ⊥) → NoRow phase_rows) → phases_refusal bytes ≡ none
  phases_clear rowless = by_kind (eqb kind 0) refl
    where
      by_kind : (phase : Bool) → eqb kind 0 ≡ phase → phases_refusal bytes ≡ none
      by_kind true e = no_phases (eqb-true kind 0 e)
      by_kind false e = let some = eqb-false kind 0 e in some_phases some ∙ rowless_none (phases_from_agree _ _ _) (rowless some)

  clear_phases : phases_refusal bytes ≡ none → (kind ≡ 0 → ⊥) → NoRow phase_rows
  clear_phases clear some = none_rowless (phases_from_agree _ _ _) (number_none (sym (some_phases some) ∙ clear))

  -- each row is the refusal
  stands_numbered : {n p : ℕ} {r : Refusal} → Stands n p r → r.number ≡ 0 → ⊥
  stands_numbered stands zero = stands.0 (sym (ap (λ (r : Refusal). r.number) stands.1) ∙ zero)

  stands_as : {n p : ℕ} {r s : Refusal} → r ≡ s → Stands n p s → Stands n p r
  stands_as e stands = (stands.0, e ∙ stands.1)

  sheet_stands : {n p : ℕ} → OfSheet bytes n p → Stands n p (sheet_refusal bytes)
  unfolding sheet_refusal
  sheet_stands (Grounds.header row) =
      let counted = (header_agrees bytes 0).stands row in
      stands_first (reader_refusal bytes) rest (stands_as (header_stands bytes (stands_numbered counted)) counted)
  sheet_stands (Grounds.many rowless over) =
      stands_first (reader_refusal bytes) rest (λ e. omega arith, too_many_on_sheet bytes (sound_header rowless) (many_over kind (count_of bytes) over))
  sheet_stands (Grounds.file rowless few row) = stands_first (reader_refusal bytes) rest (stands_as (reads rowless few) ((record_reading_agrees bytes 4096).stands row))
  sheet_stands (Grounds.phases rowless few some row) =
      stands_later (reader_refusal bytes) rest (whole rowless few)
      (stands_first (phases_refusal bytes) _ (stands_as (some_phases some) ((phases_from_agree _ _ _).stands row)))
  sheet_stands (Grounds.allan rowless few clear row) =
      stands_later (reader_refusal bytes) rest (whole rowless few) (stands_later (phases_refusal bytes) _ (phases_clear clear) ((record_agrees allan_demand 1 (samples_of bytes)).stands row))

  -- and where something is refused some row holds
  decided_as : {Row : ℕ → ℕ → Type 0} {r s : Refusal} → r ≡ s → Decided Row s → Decided Row r
  decided_as e d = rw e d

  reader_decided : Decided (OfSheet bytes) (reader_refusal bytes)
  reader_decided = by_header (header_agrees bytes 0).decided
    where
      by_count : counted_header_refusal bytes ≡ none → (over : Bool) → ltb (sheet_most kind) (count_of bytes) ≡ over → Decided (OfSheet bytes) (reader_refusal bytes)
      by_count clear true t =
          let rowless = none_rowless (header_agrees bytes 0) (number_none clear) in
          let over = ltb-true (sheet_most kind) (count_of bytes) t in
          decided_as (too_many_on_sheet bytes (sound_header rowless) over) (something (λ e. omega arith) (Grounds.many rowless (over_many kind (count_of bytes) over)))
      by_count clear false t =
          let rowless = none_rowless (header_agrees bytes 0) (number_none clear) in
          let few : FewOnSheet bytes = λ over. omega (arith, many_over kind (count_of bytes) over, ltb-false (sheet_most kind) (count_of bytes) t) in
          decided_as (reads rowless few) (decided_by (λ n p. Grounds.file rowless few) (record_reading_agrees bytes 4096).decided)

      by_header : Decided (OfRecordHeader bytes) (counted_header_refusal bytes) → Decided (OfSheet bytes) (reader_refusal bytes)
      by_header (nothing clear) = by_count clear (ltb (sheet_most kind) (count_of bytes)) refl
      by_header (something some row) = decided_as (header_stands bytes some) (something some (Grounds.header row))

  -- what is known where the reader refuses nothing
  no_row_of_reader : reader_refusal bytes ≡ none → {n p : ℕ} → Stands n p (reader_refusal bytes) → ⊥
  no_row_of_reader clear stands = stands.0 (sym (ap (λ (r : Refusal). r.number) (sym clear ∙ stands.1)))

  clear_header : reader_refusal bytes ≡ none → NoRow (OfRecordHeader bytes)
  clear_header clear n p row =
      let counted = (header_agrees bytes 0).stands row in
      no_row_of_reader clear (stands_as (header_stands bytes (stands_numbered counted)) counted)

  clear_count : reader_refusal bytes ≡ none → FewOnSheet bytes
  clear_count clear over =
      let two : Stands 2 0 (reader_refusal bytes) = (λ e. omega arith, too_many_on_sheet bytes (sound_header (clear_header clear)) (many_over kind (count_of bytes) over)) in
      no_row_of_reader clear two

  clear_file : reader_refusal bytes ≡ none → NoRow (OfRecordFile bytes 4096)
  clear_file clear n p row = no_row_of_reader clear (stands_as (reads (clear_header clear) (clear_count clear)) ((record_reading_agrees bytes 4096).stands row))

  sheet_decided : Decided (OfSheet bytes) (sheet_refusal bytes)
  unfolding sheet_refusal
  sheet_decided =
      decide_after (reader_refusal bytes) rest reader_decided
      (λ clear. decide_after (phases_refusal bytes) _ (phases_decided clear (eqb kind 0) refl)
      (λ no-phase. decided_by (λ n p. Grounds.allan (clear_file clear) (clear_count clear) (clear_phases no-phase)) (record_agrees allan_demand 1 (samples_of bytes)).decided))
    where
      phases_decided : reader_refusal bytes ≡ none → (phase : Bool) → eqb kind 0 ≡ phase → Decided (OfSheet bytes) (phases_refusal bytes)
      phases_decided clear true e = nothing (no_phases (eqb-true kind 0 e))
      phases_decided clear false e =
          let some = eqb-false kind 0 e in
          decided_as (some_phases some) (decided_by (λ n p. Grounds.phases (clear_file clear) (clear_count clear) some) (phases_from_agree _ _ _).decided)

  pub sheet_agrees : Agrees (OfSheet bytes) (sheet_refusal bytes)
  sheet_agrees = record { stands = sheet_stands; decided = sheet_decided }

  -- a record that is not refused has few enough samples
  pub samples_few : NoRow (OfSheet bytes) → length (samples_of bytes) ≤ 4096
  unfolding sheet_most
  samples_few rowless = by_kind (eqb kind 0) refl
    where
      few : count_of bytes ≤ sheet_most kind
      few = few_within (λ over. rowless 2 0 (Grounds.many (λ n p row. rowless n p (Grounds.header row)) over))

      by_kind : (phase : Bool) → eqb kind 0 ≡ phase → length (samples_of bytes) ≤ 4096
      by_kind true e =
          let most : sheet_most kind ≡ 4096 = rw e in
          omega (arith, ap length (phase_samples bytes (eqb-true kind 0 e)), record_values_length bytes, few)
      by_kind false e =
          let most : sheet_most kind ≡ 4095 = rw e in
          omega (arith, ap length (frequency_samples bytes (eqb-false kind 0 e)), phases_from_length (start_of bytes) (record_values bytes), record_values_length bytes, few)

-- ---- the two entries

module _ (bytes : List ℕ) (t : Totals) (room : ℕ) where
  abbrev too_large : Bool
  too_large = ltb (2 ^ 63) t.k || ltb (2 ^ 63) t.c

  large_row : too_large ≡ true → OfText bytes t room 2 0
  large_row e = by_k (ltb (2 ^ 63) t.k) refl e
    where
      by_k : (k : Bool) → ltb (2 ^ 63) t.k ≡ k → (k || ltb (2 ^ 63) t.c) ≡ true → OfText bytes t room 2 0
      by_k true k e = Grounds.large (inl (ltb-true (2 ^ 63) t.k k))
      by_k false k e = Grounds.large (inr (ltb-true (2 ^ 63) t.c e))

  large_test : (2 ^ 63 < t.k) ⊎ (2 ^ 63 < t.c) → too_large ≡ true
  large_test (inl h) = rw (lt-ltb (2 ^ 63) t.k h)
  large_test (inr h) = by_k (ltb (2 ^ 63) t.k)
    where
      by_k : (k : Bool) → (k || ltb (2 ^ 63) t.c) ≡ true
      by_k true = refl
      by_k false = lt-ltb (2 ^ 63) t.c h

  text_stands : {n p : ℕ} → OfText bytes t room n p → Stands n p (text_refusal bytes t room)
  text_stands (Grounds.large over) = (λ e. omega arith, total_too_large bytes t room (large_test over))
  text_stands (Grounds.no_room k c h) =
      let small : too_large ≡ false = rw (le-ltb (2 ^ 63) t.k k) (le-ltb (2 ^ 63) t.c c) in
      (λ e. omega arith, no_room_for_text bytes t room small h)

  text_decided : Decided (OfText bytes t room) (text_refusal bytes t room)
  unfolding text_refusal
  text_decided =
      decide_after (refused_if too_large 2 0) _ (decide_last too_large 2 0 (omega arith) large_row)
      (λ clear. let within = totals_within t (small_test too_large clear) in
      decide_last _ 6 0 (omega arith) (λ h. Grounds.no_room within.0 within.1 (ltb-true _ _ h)))
    where
      small_test : (large : Bool) → refused_if large 2 0 ≡ none → large ≡ false
      small_test true clear = absurd (omega (arith, ap (λ (r : Refusal). r.number) clear))
      small_test false clear = refl

  pub text_grounded : Grounded (OfText bytes t room) (text_answer bytes t room).number (text_answer bytes t room).place
  unfolding text_answer
  text_grounded = grounded_answer (record { stands = text_stands; decided = text_decided }) (λ (a : SheetAnswer). a.number) (λ a. a.place) _ _ (refl, refl) (refl, refl)

module _ (t : Totals) (room : ℕ) where
  total_agrees : Agrees (OfTotal t room) (total_refusal t room)
  unfolding total_refusal
  total_agrees = record {
    stands = stand;
    decided = decide_last _ 6 0 (omega arith) (λ h. Grounds.no_room (ltb-true _ _ h));
  }
    where
      stand : {n p : ℕ} → OfTotal t room n p → Stands n p (refused_if (ltb room (length (total_line t))) 6 0)
      stand (Grounds.no_room h) = (λ e. omega arith, rw (lt-ltb room (length (total_line t)) h))

  pub total_grounded : (n : ℕ) → Grounded (OfTotal t room) (count_answer (total_refusal t room) n).number (count_answer (total_refusal t room) n).place
  unfolding count_answer
  total_grounded n = grounded_answer total_agrees (λ (a : CountAnswer). a.number) (λ a. a.place) _ _ (refl, refl) (refl, refl)
