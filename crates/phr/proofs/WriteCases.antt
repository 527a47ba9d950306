-- The cases of writing's refusals in their order, and what is known of values that are not refused, in version 1 and, with a start, in version 2.
use Rattle.std.proofs.Common.{◌≡◌, ℕ, ◌+◌, ◌*◌, ◌<◌, ◌≤◌, true, false, not, ltb, leb, List, length, ℤ, Err, sym, ◌∙◌, arith, ltb-false, le-ltb, lt-ltb, le-leb, leb-true}
use borrow.Author.Tests.{lt-leb, not-false}
use Rattle.record.specs.Refusals.{none, refused, refused_if, ◌then◌, in_range}
use Rattle.record.proofs.RefusalLaws.{first_refuses_nothing, rest_refuses_nothing, test_fails}
use Rattle.record.specs.Told.{number_of}
use Rattle.record.specs.declared.grounds.Refused.{Refused}
use Rattle.phr.specs.Kinds.{OfNumber}
use Rattle.phr.specs.File.{most_values, start_fits, values_refusal}
use Rattle.phr.specs.Writing.{room_refusal, write_refusal, write_record_refusal}
use Rattle.phr.proofs.ValueCases.{AllInRange, in_range_none, unrefused_in_range}

-- ---- 2, 6: so many values after a header of so many bytes

module _ (head kind count room : ℕ) where
  pub too_many_to_write : most_values kind < count → room_refusal head kind count room ≡ refused 2 0
  unfolding room_refusal
  too_many_to_write h = simp (lt-ltb (most_values kind) count h)

  module _ (few : count ≤ most_values kind) where
    pub no_room_for_file : room < head + 8 * count → room_refusal head kind count room ≡ refused 6 0
    unfolding room_refusal
    no_room_for_file h = simp (le-ltb (most_values kind) count few, lt-ltb room (head + 8 * count) h)

    pub room_for_file : head + 8 * count ≤ room → room_refusal head kind count room ≡ none
    unfolding room_refusal
    room_for_file h = simp (le-ltb (most_values kind) count few, le-ltb room (head + 8 * count) h)

  pub unrefused_room : (room_refusal head kind count room).number ≡ 0 → (count ≤ most_values kind) × (head + 8 * count ≤ room)
  unfolding room_refusal
  unrefused_room e =
      let many = refused_if (ltb (most_values kind) count) 2 0 in
      let cramped = refused_if (ltb room (head + 8 * count)) 6 0 in (
        ltb-false (most_values kind) count (test_fails _ 2 0 (omega arith) (first_refuses_nothing many cramped e)),
        ltb-false room (head + 8 * count) (test_fails _ 6 0 (omega arith) (rest_refuses_nothing many cramped e)),
      )

-- ---- what is known of values that are not refused, after a header of so many bytes

pub record Writable (head kind : ℕ) (values : List ℤ) (room : ℕ) : Type 0 where
  pub known : kind ≤ 1
  pub few : length values ≤ most_values kind
  pub enough : head + 8 * length values ≤ room
  pub in_range : AllInRange kind values

-- ---- version 1

module _ (kind : ℕ) (values : List ℤ) (room : ℕ) where
  pub no_such_kind : 1 < kind → write_refusal kind values room ≡ refused 9 5
  unfolding write_refusal
  no_such_kind h = simp (lt-leb kind 1 h)

  pub no_kind : (e : Refused) → OfNumber kind (Err e) → refused (number_of e.why) e.place ≡ write_refusal kind values room
  no_kind e none_has = rw none_has.1 (sym (no_such_kind none_has.0))

  pub kind_passes : kind ≤ 1 → write_refusal kind values room ≡ (room_refusal 8 kind (length values) room then values_refusal kind values)
  unfolding write_refusal
  kind_passes h = simp (le-leb kind 1 h)

  pub writable_none : Writable 8 kind values room → write_refusal kind values room ≡ none
  writable_none w =
      kind_passes w.known ∙ rw (room_for_file 8 kind (length values) room w.few w.enough) (in_range_none kind values w.in_range)

  pub unrefused_writable : (write_refusal kind values room).number ≡ 0 → Writable 8 kind values room
  unfolding write_refusal
  unrefused_writable e =
      let unknown = refused_if (not (leb kind 1)) 9 5 in
      let sized = room_refusal 8 kind (length values) room in
      let unfit = values_refusal kind values in
      let after_kind = rest_refuses_nothing unknown (sized then unfit) e in
      let fits = unrefused_room 8 kind (length values) room (first_refuses_nothing sized unfit after_kind) in record {
        known = leb-true kind 1 (not-false (leb kind 1) (test_fails _ 9 5 (omega arith) (first_refuses_nothing unknown (sized then unfit) e)));
        few = fits.0;
        enough = fits.1;
        in_range = unrefused_in_range kind values (rest_refuses_nothing sized unfit after_kind);
      }

-- ---- version 2

pub record WritableFrom (kind : ℕ) (start : ℤ) (values : List ℤ) (room : ℕ) : Type 0 where
  pub writable : Writable 16 kind values room
  pub fits_start : start_fits kind start ≡ true
  pub start_in_range : in_range start ≡ true

module _ (kind : ℕ) (start : ℤ) (values : List ℤ) (room : ℕ) where
  pub no_such_kind_from : 1 < kind → write_record_refusal kind start values room ≡ refused 9 5
  unfolding write_record_refusal
  no_such_kind_from h = simp (lt-leb kind 1 h)

  pub no_kind_from : (e : Refused) → OfNumber kind (Err e) → refused (number_of e.why) e.place ≡ write_record_refusal kind start values room
  no_kind_from e none_has = rw none_has.1 (sym (no_such_kind_from none_has.0))

  module _ (known : kind ≤ 1) where
    pub start_not_nought : start_fits kind start ≡ false → write_record_refusal kind start values room ≡ refused 9 8
    unfolding write_record_refusal
    start_not_nought e = simp (le-leb kind 1 known, e)

    pub start_allowed : start_fits kind start ≡ true → write_record_refusal kind start values room
        ≡ (room_refusal 16 kind (length values) room then refused_if (not (in_range start)) 3 0 then values_refusal kind values)
    unfolding write_record_refusal
    start_allowed e = simp (le-leb kind 1 known, e)

  pub writable_from_none : WritableFrom kind start values room → write_record_refusal kind start values room ≡ none
  writable_from_none w =
      let held = w.writable in
      start_allowed held.known w.fits_start
      ∙ rw (room_for_file 16 kind (length values) room held.few held.enough, w.start_in_range) (in_range_none kind values held.in_range)

  pub unrefused_from : (write_record_refusal kind start values room).number ≡ 0 → WritableFrom kind start values room
  unfolding write_record_refusal
  unrefused_from e =
      let unknown = refused_if (not (leb kind 1)) 9 5 in
      let bound = refused_if (not (start_fits kind start)) 9 8 in
      let sized = room_refusal 16 kind (length values) room in
      let far = refused_if (not (in_range start)) 3 0 in
      let unfit = values_refusal kind values in
      let after_kind = rest_refuses_nothing unknown (bound then sized then far then unfit) e in
      let after_start = rest_refuses_nothing bound (sized then far then unfit) after_kind in
      let after-size = rest_refuses_nothing sized (far then unfit) after_start in
      let fits = unrefused_room 16 kind (length values) room (first_refuses_nothing sized (far then unfit) after_start) in record {
        writable = record {
          known = leb-true kind 1 (not-false (leb kind 1) (test_fails _ 9 5 (omega arith) (first_refuses_nothing unknown (bound then sized then far then unfit) e)));
          few = fits.0;
          enough = fits.1;
          in_range = unrefused_in_range kind values (rest_refuses_nothing far unfit after-size);
        };
        fits_start = not-false (start_fits kind start) (test_fails _ 9 8 (omega arith) (first_refuses_nothing bound (sized then far then unfit) after_kind));
        start_in_range = not-false (in_range start) (test_fails _ 3 0 (omega arith) (first_refuses_nothing far unfit after-size));
      }
