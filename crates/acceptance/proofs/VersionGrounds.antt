-- The refusals of reading record files of either version and their headers, and of writing version 2, agree with their tables of grounds.
use mathlib.Core.Path.{◌≡◌, refl, ap, ◌∙◌}
use mathlib.Core.Bool.{Bool, true, false, not, ◌||◌}
use mathlib.Core.List.{List}
use mathlib.Core.Logic.{inl, inr}
use Prim.Native.Nat.{ℕ, ◌+◌, ◌*◌, ◌≤◌, ◌<◌}
use native.Mathlib.Omega.{arith}
use borrow.Author.Tests.{ltb-true, ltb-false, leb-true, leb-false, not-false, not-true, eqb-true, eq-eqb}
use lib.Dec.{ltb, eqb}
use lib.IntN.{ℤ, pos}
use lib.ListN.{length}
use Rattle.laws.specs.Lists.{at}
use Rattle.record.specs.Refusals.{none, refused, refused_if, ◌then◌, in_range}
use Rattle.record.specs.declared.Refusal.{Refusal}
use Rattle.record.proofs.RangeLaws.{sample_bounded, bounded_sample}
use Rattle.phr.specs.Bytes.{value_at}
use Rattle.phr.specs.File.{most_values, start_fits, values_refusal}
use Rattle.phr.specs.Reading.{sound_up_to, kind_of, count_of, count_refusal, either_tests, head_length, start_of, record_values, header_refusal, counted_header_refusal, read_record_refusal, read_record_answer, header_answer}
use Rattle.phr.specs.Writing.{room_refusal, write_record_refusal}
use Rattle.phr.specs.declared.RecordAnswer.{RecordAnswer}
use Rattle.phr.proofs.ReadCases.{head_length_bounded, record_values_length, too_many_values, file_too_short, file_too_long, no_room_for_values, room_for_values, unrefused_counted, first_eight_wrong, header_short, start_unfit, start_fit, unrefused_header, too_many_said}
use Rattle.phr.proofs.StartCases.{fit_passes, passes_fit, unfit_fails, fails_unfit}
use Rattle.phr.proofs.WriteCases.{too_many_to_write, no_room_for_file, room_for_file, unrefused_room, no_such_kind_from, start_not_nought, start_allowed}
use Rattle.acceptance.specs.Grounds
use Rattle.acceptance.specs.Grounds.{NoRow, Grounded, None, TooMany, EitherVersion, WrongEither, OfRecordHeader, OfRecordFile, OfWritingFrom}
use Rattle.acceptance.proofs.Grounding.{Decided, Stands, Agrees, decide, decide_last, decide_after, decided_by, stands_first, stands_later, grounded_answer}
use Rattle.acceptance.proofs.RecordGrounds.{outside_fails, failing_outside}
use Rattle.acceptance.proofs.FileGrounds.{too_many_above, above_too_many, few_enough, values_stand, values_decided, none_wrong, kind_known, eight_sound, first_wrong, too_few_bytes, unsound_row, few_values, count_decided, record_entry, room_decided}

-- ---- the versions that are known

abbrev either_known : ℕ → Bool
either_known b = eqb b 1 || eqb b 2

knows_either : (b : ℕ) → either_known b ≡ true → EitherVersion b
knows_either b = by_first (eqb b 1) refl
  where
    by_first : (is : Bool) → eqb b 1 ≡ is → (is || eqb b 2) ≡ true → EitherVersion b
    by_first true e t = inl (eqb-true b 1 e)
    by_first false e t = inr (eqb-true b 2 t)

either_there : (b : ℕ) → EitherVersion b → either_known b ≡ true
either_there b (inl e) = rw (eq-eqb b 1 e)
either_there b (inr e) = rw e refl

-- ---- reading: 9, 2, 9, 6, 3, 3

module _ (bytes : List ℕ) (room : ℕ) where
  abbrev head : ℕ
  head = head_length bytes

  abbrev kind : ℕ
  kind = kind_of bytes

  abbrev start : ℤ
  start = start_of bytes

  -- eight bytes that are sound
  module _ (sound : 8 ≤ sound_up_to either_tests bytes) where
    known_kind : kind ≤ 1
    unfolding either_tests
    known_kind = kind_known either_known EitherVersion knows_either either_there bytes sound

    none_bad : None (length bytes) (WrongEither bytes)
    unfolding either_tests
    none_bad = none_wrong either_known EitherVersion knows_either either_there bytes sound

    sound_rowless : head ≤ length bytes → (kind ≡ 0 → start ≡ pos 0) → (TooMany kind (count_of bytes) → ⊥) → NoRow (OfRecordHeader bytes)
    sound_rowless present fit few n p (Grounds.wrong first) = none_bad p first.inside first.bad
    sound_rowless present fit few n p (Grounds.short right brief) = omega arith
    sound_rowless present fit few n p (Grounds.started right there phase some) = some (fit phase)
    sound_rowless present fit few n p (Grounds.many right there from many) = few many

  unsound : sound_up_to either_tests bytes < 8 → OfRecordHeader bytes 9 (sound_up_to either_tests bytes)
  unfolding either_tests
  unsound =
      unsound_row either_known EitherVersion knows_either either_there bytes (OfRecordHeader bytes) (λ i. Grounds.wrong)
      (λ right brief. Grounds.short right (omega (arith, head_length_bounded bytes)))

  sound_there : None (length bytes) (WrongEither bytes) → head ≤ length bytes → 8 ≤ sound_up_to either_tests bytes
  unfolding either_tests
  sound_there right present = eight_sound either_known EitherVersion knows_either either_there bytes right (omega (arith, head_length_bounded bytes))

  -- what is known where no row of the header holds
  module _ (rowless : NoRow (OfRecordHeader bytes)) where
    rowless_sound : 8 ≤ sound_up_to either_tests bytes
    rowless_sound = let never : sound_up_to either_tests bytes < 8 → ⊥ = λ h. rowless 9 _ (unsound h) in omega arith

    rowless_present : head ≤ length bytes
    rowless_present = let never : length bytes < head → ⊥ = λ h. rowless 9 _ (Grounds.short (none_bad rowless_sound) h) in omega arith

    rowless_fit : start_fits kind start ≡ true
    rowless_fit = by_test (start_fits kind start) refl
      where
        by_test : (fits : Bool) → start_fits kind start ≡ fits → start_fits kind start ≡ true
        by_test true t = t
        by_test false t = let unfit = fails_unfit kind start t in absurd (rowless 9 8 (Grounds.started (none_bad rowless_sound) rowless_present unfit.0 unfit.1))

    rowless_few : count_of bytes ≤ most_values kind
    rowless_few =
        few_values head bytes room (known_kind rowless_sound)
        (λ many. rowless 2 0 (Grounds.many (none_bad rowless_sound) rowless_present (passes_fit kind start rowless_fit) many))

    rowless_header : header_refusal bytes ≡ none
    rowless_header = start_fit bytes rowless_sound rowless_present rowless_fit

  -- the orders that are left
  abbrev values_left : Refusal
  values_left = values_refusal kind (record_values bytes)

  abbrev start_left : Refusal
  start_left = refused_if (not (in_range start)) 3 0 then values_left

  abbrev count_left : Refusal
  count_left = count_refusal head bytes room then start_left

  -- the header's rows stand in an order that begins with the header and refuses 2 next
  module _ (whole : Refusal) (nine : (p : ℕ) → Stands 9 p (header_refusal bytes) → Stands 9 p whole)
      (two : header_refusal bytes ≡ none → most_values kind < count_of bytes → Stands 2 0 whole) where
    first_eight_stands : {i : ℕ} → (sound_up_to either_tests bytes < 8) × (sound_up_to either_tests bytes ≡ i) → Stands 9 i whole
    first_eight_stands {i} there = nine i (λ e. omega arith, first_eight_wrong bytes there.0 ∙ ap (refused 9) there.1)

    header_stands : {n p : ℕ} → OfRecordHeader bytes n p → Stands n p whole
    unfolding either_tests
    header_stands (Grounds.wrong first) = first_eight_stands (first_wrong either_known EitherVersion knows_either either_there bytes first)
    header_stands (Grounds.short right brief) = by_length (ltb (length bytes) 8) refl
      where
        by_length : (under : Bool) → ltb (length bytes) 8 ≡ under → Stands 9 (length bytes) whole
        by_length true t =
            first_eight_stands (too_few_bytes either_known EitherVersion knows_either either_there bytes right (ltb-true (length bytes) 8 t))
        by_length false t =
            let sound = eight_sound either_known EitherVersion knows_either either_there bytes right (ltb-false (length bytes) 8 t) in
            nine (length bytes) (λ e. omega arith, header_short bytes sound brief)
    header_stands (Grounds.started right there phase some) =
        nine 8 (λ e. omega arith, start_unfit bytes (sound_there right there) there (unfit_fails kind start phase some))
    header_stands (Grounds.many right there fit many) =
        two (start_fit bytes (sound_there right there) there (fit_passes kind start fit)) (too_many_above kind (count_of bytes) many).1

  header_decided : Decided (OfRecordHeader bytes) (header_refusal bytes)
  unfolding header_refusal
  header_decided =
      decide _ 9 _ (omega arith) (λ t. unsound (ltb-true _ 8 t)) _
      (λ f. let right = none_bad (ltb-false (sound_up_to either_tests bytes) 8 f) in
      decide _ 9 _ (omega arith) (λ t. Grounds.short right (ltb-true (length bytes) head t)) _
      (λ g. decide_last _ 9 8 (omega arith)
      (λ t. let unfit = fails_unfit kind start (not-true _ t) in
      Grounds.started right (ltb-false (length bytes) head g) unfit.0 unfit.1)))

  -- the header with its count
  counted_stands : {n p : ℕ} → OfRecordHeader bytes n p → Stands n p (counted_header_refusal bytes)
  unfolding counted_header_refusal
  counted_stands row =
      header_stands (counted_header_refusal bytes)
      (λ p. stands_first (header_refusal bytes) _)
      (λ clear many. (λ e. omega arith, too_many_said bytes (ap (λ (r : Refusal). r.number) clear) many)) row

  counted_decided : Decided (OfRecordHeader bytes) (counted_header_refusal bytes)
  unfolding counted_header_refusal
  counted_decided =
      decide_after _ _ header_decided
      (λ clear. let header = unrefused_header bytes (ap (λ (r : Refusal). r.number) clear) in
      decide_last _ 2 0 (omega arith)
      (λ t. Grounds.many (none_bad header.sound) header.present (passes_fit kind start header.fits_start)
      (above_too_many kind (count_of bytes) (known_kind header.sound) (ltb-true _ _ t))))

  pub header_agrees : Agrees (OfRecordHeader bytes) (counted_header_refusal bytes)
  header_agrees = record { stands = counted_stands; decided = counted_decided }

  pub header_grounded : Grounded (OfRecordHeader bytes) (header_answer bytes).number (header_answer bytes).place
  unfolding header_answer
  header_grounded = grounded_answer header_agrees (λ (a : RecordAnswer). a.number) (λ a. a.place) _ _ (refl, refl) (refl, refl)

  in_header : {n p : ℕ} → Stands n p (header_refusal bytes) → Stands n p (read_record_refusal bytes room)
  unfolding read_record_refusal
  in_header stands = stands_first (header_refusal bytes) count_left stands

  after_header : header_refusal bytes ≡ none → {n p : ℕ} → Stands n p count_left → Stands n p (read_record_refusal bytes room)
  unfolding read_record_refusal
  after_header clear stands = stands_later (header_refusal bytes) count_left clear stands

  -- the values, each by its entry
  abbrev value : ℕ → ℤ
  value k = value_at bytes (head + 8 * k)

  entry_is : kind ≤ 1 → (k : ℕ) → k < count_of bytes → at (record_values bytes) k ≡ value k
  unfolding record_values
  entry_is known = record_entry head bytes room known

  reading_stands : {n p : ℕ} → OfRecordFile bytes room n p → Stands n p (read_record_refusal bytes room)
  reading_stands (Grounds.header row) =
      header_stands (read_record_refusal bytes room) (λ p. in_header)
      (λ clear many. after_header clear (stands_first _ _ (λ e. omega arith, too_many_values head bytes room many))) row
  reading_stands (Grounds.too_short rowless h) =
      after_header (rowless_header rowless) (stands_first _ _ (λ e. omega arith, file_too_short head bytes room (rowless_few rowless) h))
  reading_stands (Grounds.too_long rowless h) =
      after_header (rowless_header rowless) (stands_first _ _ (λ e. omega arith, file_too_long head bytes room (rowless_few rowless) h))
  reading_stands (Grounds.no_room rowless whole h) =
      after_header (rowless_header rowless) (stands_first _ _ (λ e. omega arith, no_room_for_values head bytes room (rowless_few rowless) whole h))
  reading_stands (Grounds.far_start rowless whole enough far) =
      after_header (rowless_header rowless)
      (stands_later _ _ (room_for_values head bytes room (rowless_few rowless) whole enough) (λ e. omega arith, rw (outside_fails start far)))
  reading_stands (Grounds.range rowless whole enough near first) =
      let known = known_kind (rowless_sound rowless) in
      after_header (rowless_header rowless)
      (stands_later _ _ (room_for_values head bytes room (rowless_few rowless) whole enough)
      (rw (bounded_sample start near) (values_stand kind (record_values bytes) (count_of bytes) value known (record_values_length bytes) (entry_is known) first)))

  reading_decided : Decided (OfRecordFile bytes room) (read_record_refusal bytes room)
  unfolding read_record_refusal
  reading_decided =
      decide_after _ _ (decided_by (λ n p. Grounds.header) header_decided)
      (λ clear. let header = unrefused_header bytes (ap (λ (r : Refusal). r.number) clear) in
      let known = known_kind header.sound in
      let right = none_bad header.sound in
      let fit = passes_fit kind start header.fits_start in
      decide_after _ _
      (count_decided head bytes room known (λ many. Grounds.header (Grounds.many right header.present fit many))
      (λ few. let rowless = sound_rowless header.sound header.present fit few in (Grounds.too_short rowless, Grounds.too_long rowless, Grounds.no_room rowless)))
      (λ clear'. let counted = unrefused_counted head bytes room (ap (λ (r : Refusal). r.number) clear') in
      let few : TooMany kind (count_of bytes) → ⊥ = λ many. omega (arith, too_many_above kind (count_of bytes) many, counted.few) in
      let rowless = sound_rowless header.sound header.present fit few in
      decide _ 3 0 (omega arith) (λ t. Grounds.far_start rowless counted.whole counted.enough (failing_outside start (not-true _ t))) _
      (λ f. values_decided kind (record_values bytes) (count_of bytes) value known (record_values_length bytes) (entry_is known)
      (λ i first. Grounds.range rowless counted.whole counted.enough (sample_bounded start (not-false _ f)) first))))

  pub record_reading_agrees : Agrees (OfRecordFile bytes room) (read_record_refusal bytes room)
  record_reading_agrees = record { stands = reading_stands; decided = reading_decided }

  pub record_reading_grounded : Grounded (OfRecordFile bytes room) (read_record_answer bytes room).number (read_record_answer bytes room).place
  unfolding read_record_answer
  record_reading_grounded = grounded_answer record_reading_agrees (λ (a : RecordAnswer). a.number) (λ a. a.place) _ _ (refl, refl) (refl, refl)

-- ---- writing version 2: 9, 9, 2, 6, 3, 3

module _ (kind : ℕ) (start : ℤ) (values : List ℤ) (room : ℕ) where
  abbrev sized : Refusal
  sized = room_refusal 16 kind (length values) room

  after_start : kind ≤ 1 → (kind ≡ 0 → start ≡ pos 0) → {n p : ℕ} → Stands n p (sized then refused_if (not (in_range start)) 3 0 then values_refusal kind values) →
      Stands n p (write_record_refusal kind start values room)
  after_start known fit stands = (stands.0, start_allowed kind start values room known (fit_passes kind start fit) ∙ stands.1)

  after_room : kind ≤ 1 → (kind ≡ 0 → start ≡ pos 0) → (TooMany kind (length values) → ⊥) → 16 + 8 * length values ≤ room → {n p : ℕ} →
      Stands n p (refused_if (not (in_range start)) 3 0 then values_refusal kind values) → Stands n p (write_record_refusal kind start values room)
  after_room known fit few enough stands =
      after_start known fit (stands_later sized _ (room_for_file 16 kind (length values) room (few_enough kind _ known few) enough) stands)

  writing_stands : {n p : ℕ} → OfWritingFrom kind start values room n p → Stands n p (write_record_refusal kind start values room)
  writing_stands (Grounds.no_kind h) = (λ e. omega arith, no_such_kind_from kind start values room h)
  writing_stands (Grounds.started phase some) = (λ e. omega arith, start_not_nought kind start values room (omega (arith, phase)) (unfit_fails kind start phase some))
  writing_stands (Grounds.many fit many) =
      let above = too_many_above kind (length values) many in
      after_start above.0 fit (stands_first sized _ (λ e. omega arith, too_many_to_write 16 kind (length values) room above.1))
  writing_stands (Grounds.no_room known fit few h) =
      after_start known fit (stands_first sized _ (λ e. omega arith, no_room_for_file 16 kind (length values) room (few_enough kind _ known few) h))
  writing_stands (Grounds.far_start known fit few enough far) = after_room known fit few enough (λ e. omega arith, rw (outside_fails start far))
  writing_stands (Grounds.range known fit few enough near first) =
      after_room known fit few enough
      (rw (bounded_sample start near) (values_stand kind values (length values) (at values) known refl (λ k h. refl) first))

  writing_decided : Decided (OfWritingFrom kind start values room) (write_record_refusal kind start values room)
  unfolding write_record_refusal
  writing_decided =
      decide _ 9 5 (omega arith) (λ t. Grounds.no_kind (leb-false kind 1 (not-true _ t))) _
      (λ f. let known = leb-true kind 1 (not-false _ f) in
      decide _ 9 8 (omega arith) (λ t. let unfit = fails_unfit kind start (not-true _ t) in Grounds.started unfit.0 unfit.1) _
      (λ g. let fit = passes_fit kind start (not-false _ g) in
      decide_after _ _ (room_decided 16 kind (length values) room known (Grounds.many fit) (Grounds.no_room known fit))
      (λ clear. let fits = unrefused_room 16 kind (length values) room (ap (λ (r : Refusal). r.number) clear) in
      let few : TooMany kind (length values) → ⊥ = λ many. omega (arith, too_many_above kind (length values) many, fits.0) in
      decide _ 3 0 (omega arith) (λ t. Grounds.far_start known fit few fits.1 (failing_outside start (not-true _ t))) _
      (λ h. values_decided kind values (length values) (at values) known refl (λ k i. refl)
      (λ i first. Grounds.range known fit few fits.1 (sample_bounded start (not-false _ h)) first)))))

  pub record_writing_agrees : Agrees (OfWritingFrom kind start values room) (write_record_refusal kind start values room)
  record_writing_agrees = record { stands = writing_stands; decided = writing_decided }
