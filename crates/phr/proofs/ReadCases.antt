-- The cases of reading's refusals in their order, and what is known of bytes that are not refused: by the count, in version 1, and in either version.
use Rattle.std.proofs.Common.{◌≡◌, ℕ, suc, ◌+◌, ◌*◌, ◌<◌, ◌≤◌, min, Bool, true, false, cond, not, eqb, ltb, List, [], ◌∷◌, length, pos, ap, ◌∙◌, arith, ltb-false, le-ltb, lt-ltb, eq-eqb, ne_eqb, eqb-true}
use native.Mathlib.Nat.{min-eq_left, min-eq_right}
use borrow.Author.Tests.{not-false}
use Rattle.record.specs.Refusals.{none, refused, refused_if, ◌then◌, in_range}
use Rattle.record.proofs.RefusalLaws.{refusal_stands, none_gives_way, first_refuses_nothing, rest_refuses_nothing, test_fails}
use Rattle.phr.specs.Bytes.{value_at}
use Rattle.phr.specs.File.{most_values, start_fits, values_refusal}
use Rattle.phr.specs.Reading.{sound_up_to, kind_of, count_of, count_refusal, header_tests, values_of, read_refusal, either_tests, version_of, head_length, start_of, record_values, header_refusal, counted_header_refusal, read_record_refusal}
use Rattle.phr.proofs.ValueCases.{AllInRange, in_range_none, unrefused_in_range}
use Rattle.phr.proofs.ValueLaws.{values_from_length}

-- ---- bounds

-- the search goes no further than the bytes, nor than the tests
pub sound_within : (tests : List (ℕ → Bool)) (bytes : List ℕ) → (sound_up_to tests bytes ≤ length bytes) × (sound_up_to tests bytes ≤ length tests)
unfolding sound_up_to
sound_within [] bytes = omega arith
sound_within (test ∷ tests) [] = omega arith
sound_within (test ∷ tests) (b ∷ bytes) = step (test b) (sound_within tests bytes)
  where
    step : (passes : Bool) → (sound_up_to tests bytes ≤ length bytes) × (sound_up_to tests bytes ≤ length tests) →
        (cond passes (suc (sound_up_to tests bytes)) 0 ≤ suc (length bytes)) × (cond passes (suc (sound_up_to tests bytes)) 0 ≤ suc (length tests))
    step true tail = omega arith
    step false tail = omega arith

pub most_values_bounded : (kind : ℕ) → most_values kind ≤ 32768
unfolding most_values
most_values_bounded kind = by_kind (eqb kind 0)
  where
    by_kind : (phase : Bool) → cond phase 32768 32767 ≤ 32768
    by_kind true = omega arith
    by_kind false = omega arith

-- ---- the header and the start by the version

module _ (bytes : List ℕ) (first : version_of bytes ≡ 2 → ⊥) where
  pub first_head : head_length bytes ≡ 8
  unfolding head_length
  first_head = rw (ne_eqb (version_of bytes) 2 first)

  pub first_start : start_of bytes ≡ pos 0
  unfolding start_of
  first_start = rw (ne_eqb (version_of bytes) 2 first)

module _ (bytes : List ℕ) (second : version_of bytes ≡ 2) where
  pub second_head : head_length bytes ≡ 16
  unfolding head_length
  second_head = rw (eq-eqb (version_of bytes) 2 second)

  pub second_start : start_of bytes ≡ value_at bytes 8
  unfolding start_of
  second_start = rw (eq-eqb (version_of bytes) 2 second)

pub head_length_bounded : (bytes : List ℕ) → (8 ≤ head_length bytes) × (head_length bytes ≤ 16)
unfolding head_length
head_length_bounded bytes = by_version (eqb (version_of bytes) 2)
  where
    by_version : (second : Bool) → (8 ≤ cond second 16 8) × (cond second 16 8 ≤ 16)
    by_version true = omega arith
    by_version false = omega arith

-- ---- how many values there are

pub values_of_length : (bytes : List ℕ) → length (values_of bytes) ≡ count_of bytes
unfolding values_of
values_of_length bytes = values_from_length 8 (count_of bytes) bytes

pub record_values_length : (bytes : List ℕ) → length (record_values bytes) ≡ count_of bytes
unfolding record_values
record_values_length bytes = values_from_length (head_length bytes) (count_of bytes) bytes

-- ---- 2, 9, 6: the count, after a header of so many bytes

pub record Counted (head : ℕ) (bytes : List ℕ) (room : ℕ) : Type 0 where
  pub few : count_of bytes ≤ most_values (kind_of bytes)
  pub whole : length bytes ≡ head + 8 * count_of bytes
  pub enough : count_of bytes ≤ room

module _ (head : ℕ) (bytes : List ℕ) (room : ℕ) where
  pub too_many_values : most_values (kind_of bytes) < count_of bytes → count_refusal head bytes room ≡ refused 2 0
  unfolding count_refusal
  too_many_values h = simp (lt-ltb (most_values (kind_of bytes)) (count_of bytes) h)

  module _ (few : count_of bytes ≤ most_values (kind_of bytes)) where
    wrong_length : (length bytes ≡ head + 8 * count_of bytes → ⊥) → count_refusal head bytes room ≡ refused 9 (min (length bytes) (head + 8 * count_of bytes))
    unfolding count_refusal
    wrong_length h = simp (le-ltb (most_values (kind_of bytes)) (count_of bytes) few, ne_eqb (length bytes) (head + 8 * count_of bytes) h)

    pub file_too_short : length bytes < head + 8 * count_of bytes → count_refusal head bytes room ≡ refused 9 (length bytes)
    file_too_short h = wrong_length (λ e. omega arith) ∙ ap (refused 9) (min-eq_left (omega arith))

    pub file_too_long : head + 8 * count_of bytes < length bytes → count_refusal head bytes room ≡ refused 9 (head + 8 * count_of bytes)
    file_too_long h = wrong_length (λ e. omega arith) ∙ ap (refused 9) (min-eq_right (omega arith))

    module _ (whole : length bytes ≡ head + 8 * count_of bytes) where
      pub no_room_for_values : room < count_of bytes → count_refusal head bytes room ≡ refused 6 0
      unfolding count_refusal
      no_room_for_values h =
          simp (le-ltb (most_values (kind_of bytes)) (count_of bytes) few, eq-eqb (length bytes) (head + 8 * count_of bytes) whole, lt-ltb room (count_of bytes) h)

      pub room_for_values : count_of bytes ≤ room → count_refusal head bytes room ≡ none
      unfolding count_refusal
      room_for_values h =
          simp (le-ltb (most_values (kind_of bytes)) (count_of bytes) few, eq-eqb (length bytes) (head + 8 * count_of bytes) whole, le-ltb room (count_of bytes) h)

  pub counted_none : Counted head bytes room → count_refusal head bytes room ≡ none
  counted_none c = room_for_values c.few c.whole c.enough

  pub unrefused_counted : (count_refusal head bytes room).number ≡ 0 → Counted head bytes room
  unfolding count_refusal
  unrefused_counted e =
      let right = eqb (length bytes) (head + 8 * count_of bytes) in
      let many = refused_if (ltb (most_values (kind_of bytes)) (count_of bytes)) 2 0 in
      let uneven = refused_if (not right) 9 (min (length bytes) (head + 8 * count_of bytes)) in
      let cramped = refused_if (ltb room (count_of bytes)) 6 0 in
      let after-many = rest_refuses_nothing many (uneven then cramped) e in record {
        few = ltb-false (most_values (kind_of bytes)) (count_of bytes) (test_fails _ 2 0 (omega arith) (first_refuses_nothing many (uneven then cramped) e));
        whole = eqb-true (length bytes) (head + 8 * count_of bytes) (not-false right (test_fails _ 9 _ (omega arith) (first_refuses_nothing uneven cramped after-many)));
        enough = ltb-false room (count_of bytes) (test_fails _ 6 0 (omega arith) (rest_refuses_nothing uneven cramped after-many));
      }

-- ---- version 1

pub record Readable (bytes : List ℕ) (room : ℕ) : Type 0 where
  pub sound : 8 ≤ sound_up_to header_tests bytes
  pub counted : Counted 8 bytes room
  pub in_range : AllInRange (kind_of bytes) (values_of bytes)

module _ (bytes : List ℕ) (room : ℕ) where
  pub header_wrong : sound_up_to header_tests bytes < 8 → read_refusal bytes room ≡ refused 9 (sound_up_to header_tests bytes)
  unfolding read_refusal
  header_wrong h = simp (lt-ltb (sound_up_to header_tests bytes) 8 h)

  pub header_sound : 8 ≤ sound_up_to header_tests bytes → read_refusal bytes room ≡ (count_refusal 8 bytes room then values_refusal (kind_of bytes) (values_of bytes))
  unfolding read_refusal
  header_sound h = simp (le-ltb (sound_up_to header_tests bytes) 8 h)

  pub readable_none : Readable bytes room → read_refusal bytes room ≡ none
  readable_none r = header_sound r.sound ∙ rw (counted_none 8 bytes room r.counted) (in_range_none (kind_of bytes) (values_of bytes) r.in_range)

  pub unrefused_readable : (read_refusal bytes room).number ≡ 0 → Readable bytes room
  unfolding read_refusal
  unrefused_readable e =
      let header = refused_if (ltb (sound_up_to header_tests bytes) 8) 9 (sound_up_to header_tests bytes) in
      let count = count_refusal 8 bytes room in
      let values = values_refusal (kind_of bytes) (values_of bytes) in
      let after_header = rest_refuses_nothing header (count then values) e in record {
        sound = ltb-false (sound_up_to header_tests bytes) 8 (test_fails _ 9 _ (omega arith) (first_refuses_nothing header (count then values) e));
        counted = unrefused_counted 8 bytes room (first_refuses_nothing count values after_header);
        in_range = unrefused_in_range (kind_of bytes) (values_of bytes) (rest_refuses_nothing count values after_header);
      }

-- ---- either version

pub record SoundHeader (bytes : List ℕ) : Type 0 where
  pub sound : 8 ≤ sound_up_to either_tests bytes
  pub present : head_length bytes ≤ length bytes
  pub fits_start : start_fits (kind_of bytes) (start_of bytes) ≡ true

pub record ReadableRecord (bytes : List ℕ) (room : ℕ) : Type 0 where
  pub header : SoundHeader bytes
  pub counted : Counted (head_length bytes) bytes room
  pub start_in_range : in_range (start_of bytes) ≡ true
  pub in_range : AllInRange (kind_of bytes) (record_values bytes)

module _ (bytes : List ℕ) where
  pub first_eight_wrong : sound_up_to either_tests bytes < 8 → header_refusal bytes ≡ refused 9 (sound_up_to either_tests bytes)
  unfolding header_refusal
  first_eight_wrong h = simp (lt-ltb (sound_up_to either_tests bytes) 8 h)

  module _ (sound : 8 ≤ sound_up_to either_tests bytes) where
    pub header_short : length bytes < head_length bytes → header_refusal bytes ≡ refused 9 (length bytes)
    unfolding header_refusal
    header_short h = simp (le-ltb (sound_up_to either_tests bytes) 8 sound, lt-ltb (length bytes) (head_length bytes) h)

    module _ (present : head_length bytes ≤ length bytes) where
      pub start_unfit : start_fits (kind_of bytes) (start_of bytes) ≡ false → header_refusal bytes ≡ refused 9 8
      unfolding header_refusal
      start_unfit e = simp (le-ltb (sound_up_to either_tests bytes) 8 sound, le-ltb (length bytes) (head_length bytes) present, e)

      pub start_fit : start_fits (kind_of bytes) (start_of bytes) ≡ true → header_refusal bytes ≡ none
      unfolding header_refusal
      start_fit e = simp (le-ltb (sound_up_to either_tests bytes) 8 sound, le-ltb (length bytes) (head_length bytes) present, e)

  pub sound_header_none : SoundHeader bytes → header_refusal bytes ≡ none
  sound_header_none h = start_fit h.sound h.present h.fits_start

  pub unrefused_header : (header_refusal bytes).number ≡ 0 → SoundHeader bytes
  unfolding header_refusal
  unrefused_header e =
      let first = refused_if (ltb (sound_up_to either_tests bytes) 8) 9 (sound_up_to either_tests bytes) in
      let short = refused_if (ltb (length bytes) (head_length bytes)) 9 (length bytes) in
      let fits = start_fits (kind_of bytes) (start_of bytes) in
      let start = refused_if (not fits) 9 8 in
      let after_first = rest_refuses_nothing first (short then start) e in record {
        sound = ltb-false (sound_up_to either_tests bytes) 8 (test_fails _ 9 _ (omega arith) (first_refuses_nothing first (short then start) e));
        present = ltb-false (length bytes) (head_length bytes) (test_fails _ 9 _ (omega arith) (first_refuses_nothing short start after_first));
        fits_start = not-false fits (test_fails _ 9 8 (omega arith) (rest_refuses_nothing short start after_first));
      }

  -- the header with its count
  pub too_many_said : (header_refusal bytes).number ≡ 0 → most_values (kind_of bytes) < count_of bytes → counted_header_refusal bytes ≡ refused 2 0
  unfolding counted_header_refusal
  too_many_said e h = none_gives_way (header_refusal bytes) _ e ∙ rw (lt-ltb (most_values (kind_of bytes)) (count_of bytes) h)

  pub few_said : (header_refusal bytes).number ≡ 0 → count_of bytes ≤ most_values (kind_of bytes) → counted_header_refusal bytes ≡ none
  unfolding counted_header_refusal
  few_said e h = none_gives_way (header_refusal bytes) _ e ∙ rw (le-ltb (most_values (kind_of bytes)) (count_of bytes) h)

  pub unrefused_counted_header : (counted_header_refusal bytes).number ≡ 0 → SoundHeader bytes × (count_of bytes ≤ most_values (kind_of bytes))
  unfolding counted_header_refusal
  unrefused_counted_header e = let many = refused_if (ltb (most_values (kind_of bytes)) (count_of bytes)) 2 0 in (
    unrefused_header (first_refuses_nothing (header_refusal bytes) many e),
    ltb-false (most_values (kind_of bytes)) (count_of bytes) (test_fails _ 2 0 (omega arith) (rest_refuses_nothing (header_refusal bytes) many e)),
  )

  module _ (room : ℕ) where
    -- a count that is refused is the answer, whatever the start and the values are
    pub count_refuses : SoundHeader bytes → ((count_refusal (head_length bytes) bytes room).number ≡ 0 → ⊥) → read_record_refusal bytes room ≡ count_refusal (head_length bytes) bytes room
    unfolding read_record_refusal
    count_refuses h numbered = rw (sound_header_none h) (refusal_stands _ _ numbered)

    pub readable_record_none : ReadableRecord bytes room → read_record_refusal bytes room ≡ none
    unfolding read_record_refusal
    readable_record_none r =
        rw (sound_header_none r.header, counted_none (head_length bytes) bytes room r.counted, r.start_in_range)
        (in_range_none (kind_of bytes) (record_values bytes) r.in_range)

    pub unrefused_record : (read_record_refusal bytes room).number ≡ 0 → ReadableRecord bytes room
    unfolding read_record_refusal
    unrefused_record e =
        let count = count_refusal (head_length bytes) bytes room in
        let start = refused_if (not (in_range (start_of bytes))) 3 0 in
        let values = values_refusal (kind_of bytes) (record_values bytes) in
        let after_header = rest_refuses_nothing (header_refusal bytes) (count then start then values) e in
        let after_count = rest_refuses_nothing count (start then values) after_header in record {
          header = unrefused_header (first_refuses_nothing (header_refusal bytes) (count then start then values) e);
          counted = unrefused_counted (head_length bytes) bytes room (first_refuses_nothing count (start then values) after_header);
          start_in_range = not-false (in_range (start_of bytes)) (test_fails _ 3 0 (omega arith) (first_refuses_nothing start values after_count));
          in_range = unrefused_in_range (kind_of bytes) (record_values bytes) (rest_refuses_nothing start values after_count);
        }
