-- Either version: reading gives back what writing wrote, accepts the files of version 1 and of version 2 and nothing else, and reads version 1 as the
-- reader of version 1 alone does, which refuses version 2 at byte 3.
use Rattle.std.proofs.Common.{◌≡◌, ℕ, ◌+◌, ◌*◌, ◌<◌, ◌≤◌, Bool, true, false, ◌||◌, eqb, ltb, ◌⊎◌, List, [], ◌∷◌, ◌++◌, length, get_or, take, ℤ, pos, sym, refl, ap, ◌∙◌, ap₂, inl, inr, true≢false, append_assoc, append-nil, arith, take-append-drop, take_at, take-add, ltb-false, ltb-true, ne_eqb, eqb-true}
use borrow.Author.Tests.{eqb-false}
use Rattle.laws.specs.Lists.{at}
use Rattle.laws.proofs.Parts.{small_fits}
use Rattle.record.specs.Answers.{buffer_left}
use Rattle.record.specs.Refusals.{none, refused, refused_if, in_range}
use Rattle.record.specs.declared.Refusal.{Refusal}
use Rattle.record.proofs.RangeLaws.{sample_bounded, bounded_sample}
use Rattle.phr.specs.Bytes.{low_first, values_bytes, value_at, values_from}
use Rattle.phr.specs.File.{first_eight, header, file_of, header_from, file_from, start_fits, Proper, IsFile, ProperStart, IsFileFrom, AreBytes}
use Rattle.phr.specs.Reading.{tests_of, sound_up_to, kind_of, count_of, header_tests, values_of, read_refusal, either_tests, version_of, start_of, record_values, header_refusal, read_record_refusal, read_record_answer}
use Rattle.phr.specs.Writing.{write_record_refusal}
use Rattle.phr.proofs.ByteLaws.{bytes_joined}
use Rattle.phr.proofs.RangeCases.{in_range_fits}
use Rattle.phr.proofs.ReadCases.{SoundHeader, ReadableRecord, first_head, first_start, second_head, second_start, readable_record_none, unrefused_record, record_values_length, sound_within, most_values_bounded, header_wrong, first_eight_wrong, start_fit}
use Rattle.phr.proofs.RoundTrip.{first_eight_bytes, kind_there, count_there, version_there, first_eight_sound, passed, kind_passed, eight_there, values_there, kind_comes_back, count_comes_back, values_come_back, file_is_read, accepted_exactly}
use Rattle.phr.proofs.StartCases.{fit_passes, passes_fit}
use Rattle.phr.proofs.WriteCases.{unrefused_from}
use Rattle.phr.proofs.ValueLaws.{value_bytes, value_back, value_bytes_back, value_bytes_are_bytes, values_back, values_bytes_length, values_bytes_are_bytes}

-- ---- version 2, for the reader of version 1

-- whatever follows the mark and the 2, and however much of it there is
pub second_version_refused : (bytes : List ℕ) (room : ℕ) → 3 < length bytes → get_or bytes 0 0 ≡ 0x50 → get_or bytes 1 0 ≡ 0x48 → get_or bytes 2 0 ≡ 0x52 → get_or bytes 3 0 ≡ 2 →
    read_refusal bytes room ≡ refused 9 3
unfolding sound_up_to tests_of header_tests
second_version_refused bytes room long e₀ e₁ e₂ e₃ =
    let at-three = stops bytes long e₀ e₁ e₂ e₃ in
    header_wrong bytes room (omega (arith, at-three)) ∙ ap (refused 9) at-three
  where
    stops : (bytes : List ℕ) → 3 < length bytes → get_or bytes 0 0 ≡ 0x50 → get_or bytes 1 0 ≡ 0x48 → get_or bytes 2 0 ≡ 0x52 → get_or bytes 3 0 ≡ 2 → sound_up_to header_tests bytes ≡ 3
    stops [] long e₀ e₁ e₂ e₃ = absurd (omega arith)
    stops (a ∷ []) long e₀ e₁ e₂ e₃ = absurd (omega arith)
    stops (a ∷ b ∷ []) long e₀ e₁ e₂ e₃ = absurd (omega arith)
    stops (a ∷ b ∷ c ∷ []) long e₀ e₁ e₂ e₃ = absurd (omega arith)
    stops (a ∷ b ∷ c ∷ d ∷ rest) long e₀ e₁ e₂ e₃ = rw (e₀, e₁, e₂, e₃)

-- ---- version 1, for the reader of either

module _ (bytes : List ℕ) (first : version_of bytes ≡ 2 → ⊥) where
  pub first_values : record_values bytes ≡ values_of bytes
  unfolding record_values values_of
  first_values = rw (first_head bytes first)

  same_sound : sound_up_to either_tests bytes ≡ sound_up_to header_tests bytes
  unfolding version_of sound_up_to tests_of either_tests header_tests
  same_sound = by_bytes bytes (ne_eqb (get_or bytes 3 0) 2 first)
    where
      one_of_two : (is other : Bool) → other ≡ false → (is || other) ≡ is
      one_of_two true other e = refl
      one_of_two false other e = e

      by_bytes : (bytes : List ℕ) → eqb (get_or bytes 3 0) 2 ≡ false → sound_up_to either_tests bytes ≡ sound_up_to header_tests bytes
      by_bytes [] e = refl
      by_bytes (a ∷ []) e = refl
      by_bytes (a ∷ b ∷ []) e = refl
      by_bytes (a ∷ b ∷ c ∷ []) e = refl
      by_bytes (a ∷ b ∷ c ∷ d ∷ rest) e = rw (one_of_two (eqb d 1) (eqb d 2) e)

  header_as_first : header_refusal bytes ≡ refused_if (ltb (sound_up_to header_tests bytes) 8) 9 (sound_up_to header_tests bytes)
  header_as_first = by_sound (ltb (sound_up_to header_tests bytes) 8) refl
    where
      by_sound : (wrong : Bool) → ltb (sound_up_to header_tests bytes) 8 ≡ wrong → header_refusal bytes ≡ refused_if wrong 9 (sound_up_to header_tests bytes)
      by_sound true t = first_eight_wrong bytes (omega (arith, same_sound, ltb-true (sound_up_to header_tests bytes) 8 t)) ∙ ap (refused 9) same_sound
      by_sound false t =
          let sound : 8 ≤ sound_up_to either_tests bytes = omega (arith, same_sound, ltb-false (sound_up_to header_tests bytes) 8 t) in
          start_fit bytes sound (omega (arith, first_head bytes first, sound_within either_tests bytes)) (fit_passes (kind_of bytes) (start_of bytes) (λ phase. first_start bytes first))

  -- it is refused, or not, as the reader of version 1 alone refuses it
  pub as_first_version : (room : ℕ) → read_record_refusal bytes room ≡ read_refusal bytes room
  unfolding read_record_refusal read_refusal in_range
  as_first_version room = rw (header_as_first, first_head bytes first, first_start bytes first, first_values)

  pub first_version : SoundHeader bytes → version_of bytes ≡ 1
  unfolding version_of either_tests tests_of
  first_version header =
      one_known (get_or bytes 3 0) (eqb (get_or bytes 3 0) 1) refl (ne_eqb (get_or bytes 3 0) 2 first) (passed _ bytes header.sound 3 (omega arith))
    where
      one_known : (b : ℕ) (is : Bool) → eqb b 1 ≡ is → eqb b 2 ≡ false → (eqb b 1 || eqb b 2) ≡ true → b ≡ 1
      one_known b true e f t = eqb-true b 1 e
      one_known b false e f t = absurd (true≢false (sym (rw e at t) ∙ f))

-- ---- version 2: what was written is read

-- every byte of a file is below 256
pub file_from_bytes : (kind : ℕ) (start : ℤ) (values : List ℤ) → kind ≤ 1 → AreBytes (file_from kind start values)
unfolding file_from header_from
file_from_bytes kind start values known =
    bytes_joined (header_from kind start (length values)) (values_bytes values)
    (bytes_joined (first_eight 2 kind (length values)) (value_bytes start) (first_eight_bytes 2 kind (length values) known) (value_bytes_are_bytes start))
    (values_bytes_are_bytes values)

-- a file is 16 bytes and 8 for each value
pub file_from_length : (kind : ℕ) (start : ℤ) (values : List ℤ) → length (file_from kind start values) ≡ 16 + 8 * length values
unfolding file_from header_from first_eight low_first
file_from_length kind start values = omega (arith, values_bytes_length values)

-- a start that passes its two tests is one that a file may hold
pub fits_proper : (kind : ℕ) (start : ℤ) → start_fits kind start ≡ true → in_range start ≡ true → ProperStart kind start
fits_proper kind start fits near = record { in_range = sample_bounded start near; of_phase = passes_fit kind start fits }

module _ (kind : ℕ) (start : ℤ) (values : List ℤ) (proper : Proper kind values) (proper_start : ProperStart kind start) where
  -- the first eight bytes and the rest
  begins : file_from kind start values ≡ first_eight 2 kind (length values) ++ (value_bytes start ++ values_bytes values)
  unfolding file_from header_from
  begins = append_assoc (first_eight 2 kind (length values)) (value_bytes start) (values_bytes values)

  -- reading a written file gives version 2, the kind, the start, how many values there are, and the values
  pub version_comes_back_from : version_of (file_from kind start values) ≡ 2
  version_comes_back_from = ap version_of begins ∙ version_there 2 kind (length values) (value_bytes start ++ values_bytes values) (omega arith)

  pub kind_comes_back_from : kind_of (file_from kind start values) ≡ kind
  kind_comes_back_from = ap kind_of begins ∙ kind_there 2 kind (length values) (value_bytes start ++ values_bytes values)

  pub count_comes_back_from : count_of (file_from kind start values) ≡ length values
  count_comes_back_from =
      ap count_of begins ∙ count_there 2 kind (length values) (value_bytes start ++ values_bytes values) (omega (arith, proper.few, most_values_bounded kind))

  pub start_comes_back : start_of (file_from kind start values) ≡ start
  unfolding first_eight low_first
  start_comes_back =
      second_start (file_from kind start values) version_comes_back_from
      ∙ ap (λ (bytes : List ℕ). value_at bytes 8) begins
      ∙ value_back (first_eight 2 kind (length values)) (values_bytes values) 8 start refl (small_fits start (omega (arith, proper_start.in_range)))

  pub values_come_back_from : record_values (file_from kind start values) ≡ values
  unfolding record_values file_from header_from first_eight low_first
  values_come_back_from =
      rw (second_head (file_from kind start values) version_comes_back_from, count_comes_back_from)
      (ap (λ (bytes : List ℕ). values_from 16 (length values) (header_from kind start (length values) ++ bytes)) (sym (append-nil (values_bytes values)))
      ∙ values_back values (header_from kind start (length values)) [] 16 refl (λ i h. in_range_fits kind (at values i) (proper.in_range i h)))

  from_sound : sound_up_to either_tests (file_from kind start values) ≡ 8
  unfolding either_tests
  from_sound =
      ap (sound_up_to either_tests) begins
      ∙ first_eight_sound 2 kind (length values) (value_bytes start ++ values_bytes values) (λ b. eqb b 1 || eqb b 2) refl (omega arith) proper.known

  file_from_readable : (room : ℕ) → length values ≤ room → ReadableRecord (file_from kind start values) room
  file_from_readable room enough = let head-is = second_head (file_from kind start values) version_comes_back_from in record {
    header = record {
      sound = omega (arith, from_sound);
      present = omega (arith, head-is, file_from_length kind start values);
      fits_start = rw (kind_comes_back_from, start_comes_back) (fit_passes kind start proper_start.of_phase);
    };
    counted = record {
      few = rw (kind_comes_back_from, count_comes_back_from) proper.few;
      whole = file_from_length kind start values ∙ rw (head-is, count_comes_back_from);
      enough = rw count_comes_back_from enough;
    };
    start_in_range = rw start_comes_back (bounded_sample start proper_start.in_range);
    in_range = rw (kind_comes_back_from, values_come_back_from) proper.in_range;
  }

  -- and it is not refused, where the buffer has room for the values
  pub file_from_is_read : (room : ℕ) → length values ≤ room → read_record_refusal (file_from kind start values) room ≡ none
  file_from_is_read room enough = readable_record_none (file_from kind start values) room (file_from_readable room enough)

  pub file_from_answer : (room : ℕ) → length values ≤ room →
      read_record_answer (file_from kind start values) room ≡ record { number = 0; place = 0; version = 2; kind = kind; start = start; count = length values }
  unfolding read_record_answer
  file_from_answer room enough = rw (file_from_is_read room enough, version_comes_back_from, kind_comes_back_from, start_comes_back, count_comes_back_from)

-- what writing does not refuse is proper
pub unrefused_proper_from : (kind : ℕ) (start : ℤ) (values : List ℤ) (room : ℕ) → write_record_refusal kind start values room ≡ none →
    Proper kind values × ProperStart kind start
unrefused_proper_from kind start values room unrefused =
    let w = unrefused_from kind start values room (ap (λ (r : Refusal). r.number) unrefused) in
    let held = w.writable in
    (record { known = held.known; few = held.few; in_range = held.in_range }, fits_proper kind start w.fits_start w.start_in_range)

-- and the front of the buffer that it leaves is the file
pub buffer_has_file_from : (kind : ℕ) (start : ℤ) (values : List ℤ) (buffer : List ℕ) → write_record_refusal kind start values (length buffer) ≡ none →
    take (16 + 8 * length values) (buffer_left (write_record_refusal kind start values (length buffer)) (file_from kind start values) buffer) ≡ file_from kind start values
unfolding buffer_left
buffer_has_file_from kind start values buffer unrefused = rw unrefused (take_at (file_from kind start values) _ _ (file_from_length kind start values))

-- ---- version 2: what is read was written

-- a sound header is that of its kind, its start and its count
module _ (bytes : List ℕ) (all : AreBytes bytes) (sound : SoundHeader bytes) where
  pub first_header : (version_of bytes ≡ 2 → ⊥) → take 8 bytes ≡ header (kind_of bytes) (count_of bytes)
  unfolding header either_tests
  first_header first = eight_there (λ b. eqb b 1 || eqb b 2) bytes sound.sound all (omega arith) (first_version bytes first sound)

  pub second_header : version_of bytes ≡ 2 → take 16 bytes ≡ header_from (kind_of bytes) (start_of bytes) (count_of bytes)
  unfolding header_from either_tests
  second_header second =
      take-add 8 8 bytes
      ∙ ap₂ ◌++◌ (eight_there (λ b. eqb b 1 || eqb b 2) bytes sound.sound all (omega arith) second)
      (sym (value_bytes_back bytes 8 all (omega (arith, sound.present, second_head bytes second))) ∙ ap value_bytes (sym (second_start bytes second)))

module _ (bytes : List ℕ) (all : AreBytes bytes) (room : ℕ) (second : version_of bytes ≡ 2) (accepted : read_record_refusal bytes room ≡ none) where
  readable : ReadableRecord bytes room
  readable = unrefused_record bytes room (ap (λ (r : Refusal). r.number) accepted)

  whole : length bytes ≡ 16 + 8 * count_of bytes
  whole = readable.counted.whole ∙ ap (λ (n : ℕ). n + 8 * count_of bytes) (second_head bytes second)

  record_values_there : record_values bytes ≡ values_from 16 (count_of bytes) bytes
  unfolding record_values
  record_values_there = rw (second_head bytes second)

  pub accepted_is_file_from : bytes ≡ file_from (kind_of bytes) (start_of bytes) (record_values bytes)
  unfolding file_from
  accepted_is_file_from =
      sym (take-append-drop 16 bytes)
      ∙ ap₂ ◌++◌ (second_header bytes all readable.header second ∙ ap (header_from (kind_of bytes) (start_of bytes)) (sym (record_values_length bytes)))
      (values_there 16 bytes all whole ∙ ap values_bytes (sym record_values_there))

  pub accepted_from : IsFileFrom bytes room
  unfolding either_tests
  accepted_from = record {
    kind = kind_of bytes;
    start = start_of bytes;
    values = record_values bytes;
    proper = record {
      known = kind_passed (λ b. eqb b 1 || eqb b 2) bytes readable.header.sound;
      few = rw (record_values_length bytes) readable.counted.few;
      in_range = readable.in_range;
    };
    proper_start = fits_proper (kind_of bytes) (start_of bytes) readable.header.fits_start readable.start_in_range;
    enough = rw (record_values_length bytes) readable.counted.enough;
    same = accepted_is_file_from;
  }

-- ---- so the reader of either version accepts the files of both, and nothing else

file_version : (kind : ℕ) (values : List ℤ) → version_of (file_of kind values) ≡ 1
unfolding file_of header
file_version kind values = version_there 1 kind (length values) (values_bytes values) (omega arith)

file_is_first : (kind : ℕ) (values : List ℤ) → version_of (file_of kind values) ≡ 2 → ⊥
file_is_first kind values e = omega (arith, file_version kind values)

pub accepted_either : (bytes : List ℕ) (room : ℕ) → AreBytes bytes →
    (read_record_refusal bytes room ≡ none → IsFile bytes room ⊎ IsFileFrom bytes room) × (IsFile bytes room ⊎ IsFileFrom bytes room → read_record_refusal bytes room ≡ none)
accepted_either bytes room all = (λ accepted. by_version (eqb (version_of bytes) 2) refl accepted, is_read)
  where
    by_version : (second : Bool) → eqb (version_of bytes) 2 ≡ second → read_record_refusal bytes room ≡ none → IsFile bytes room ⊎ IsFileFrom bytes room
    by_version true t accepted = inr (accepted_from bytes all room (eqb-true (version_of bytes) 2 t) accepted)
    by_version false t accepted =
        inl ((accepted_exactly bytes room all).0 (sym (as_first_version bytes (eqb-false (version_of bytes) 2 t) room) ∙ accepted))

    is_read : IsFile bytes room ⊎ IsFileFrom bytes room → read_record_refusal bytes room ≡ none
    is_read (inl f) =
        let first : version_of bytes ≡ 2 → ⊥ = rw f.same (file_is_first f.kind f.values) in
        as_first_version bytes first room ∙ (accepted_exactly bytes room all).1 f
    is_read (inr f) = rw f.same (file_from_is_read f.kind f.start f.values f.proper f.proper_start room f.enough)

-- ---- what the reader of either version reads from a file

pub record ReadAs (bytes : List ℕ) (version kind : ℕ) (start : ℤ) (values : List ℤ) : Type 0 where
  pub version_is : version_of bytes ≡ version
  pub kind_is : kind_of bytes ≡ kind
  pub start_is : start_of bytes ≡ start
  pub count_is : count_of bytes ≡ length values
  pub values_are : record_values bytes ≡ values
  pub unrefused : (room : ℕ) → length values ≤ room → read_record_refusal bytes room ≡ none

pub first_file_read : (kind : ℕ) (values : List ℤ) → Proper kind values → ReadAs (file_of kind values) 1 kind (pos 0) values
first_file_read kind values proper =
    let first = file_is_first kind values in record {
      version_is = file_version kind values;
      kind_is = kind_comes_back kind values proper;
      start_is = first_start (file_of kind values) first;
      count_is = count_comes_back kind values proper;
      values_are = first_values (file_of kind values) first ∙ values_come_back kind values proper;
      unrefused = λ room enough. as_first_version (file_of kind values) first room ∙ file_is_read kind values proper room enough;
    }

pub second_file_read : (kind : ℕ) (start : ℤ) (values : List ℤ) → Proper kind values → ProperStart kind start → ReadAs (file_from kind start values) 2 kind start values
second_file_read kind start values proper proper_start = record {
  version_is = version_comes_back_from kind start values proper proper_start;
  kind_is = kind_comes_back_from kind start values proper proper_start;
  start_is = start_comes_back kind start values proper proper_start;
  count_is = count_comes_back_from kind start values proper proper_start;
  values_are = values_come_back_from kind start values proper proper_start;
  unrefused = file_from_is_read kind start values proper proper_start;
}
