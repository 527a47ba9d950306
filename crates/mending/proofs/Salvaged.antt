-- What salvage comes to: a file that the reader of either version accepts, with the version, kind and start of the input and the values kept; a sound
-- file unchanged, and so nothing more to salvage of what was salvaged.
use mathlib.Core.Path.{◌≡◌, refl, sym, ap, ◌∙◌}
use mathlib.Core.Bool.{Bool, true, false, ◌||◌}
use mathlib.Core.List.{List}
use Prim.Native.Nat.{ℕ, ◌-◌, ◌≤◌}
use native.Mathlib.Omega.{arith}
use borrow.Author.Tests.{eqb-true, eqb-false, le-ltb}
use lib.Dec.{eqb}
use lib.IntN.{pos}
use lib.ListN.{length}
use lib.Seq.{take-length}
use Rattle.laws.proofs.ListLaws.{none_fails}
use Rattle.record.specs.Refusals.{none}
use Rattle.record.specs.declared.Refusal.{Refusal}
use Rattle.phr.specs.File.{value_in_range, Proper, ProperStart, AreBytes}
use Rattle.phr.specs.Reading.{kind_of, count_of, either_tests, version_of, start_of, record_values, read_record_refusal}
use Rattle.phr.proofs.ReadCases.{ReadableRecord, unrefused_record, sound_header_none, few_said, record_values_length, first_start}
use Rattle.phr.proofs.RoundTrip.{kind_passed, file_bytes, accepted_is_file}
use Rattle.phr.proofs.RecordRoundTrip.{ReadAs, fits_proper, first_version, first_values, as_first_version, accepted_is_file_from, first_file_read, second_file_read, file_from_bytes}
use Rattle.mending.specs.Salvage.{present_values, first_bad, kept_values, salvaged_file, salvage_refusal, salvage_answer}
use Rattle.mending.proofs.KeptLaws.{present_count, present_length, first_bad_within, kept_length, kept_longest, salvaged_first, salvaged_second}
use Rattle.mending.proofs.SalvageCases.{Salvageable, start_inside}

-- ---- what is salvaged is read

module _ (bytes : List ℕ) (room : ℕ) (s : Salvageable bytes room) where
  kept_proper : Proper (kind_of bytes) (kept_values bytes)
  unfolding either_tests
  kept_proper = record {
    known = kind_passed (λ b. eqb b 1 || eqb b 2) bytes s.header.sound;
    few = omega (arith, kept_length bytes, first_bad_within bytes, s.few);
    in_range = (kept_longest bytes).good;
  }

  start_proper : ProperStart (kind_of bytes) (start_of bytes)
  start_proper = fits_proper (kind_of bytes) (start_of bytes) s.header.fits_start s.start_in_range

  pub salvaged_read : ReadAs (salvaged_file bytes) (version_of bytes) (kind_of bytes) (start_of bytes) (kept_values bytes)
  salvaged_read = by_version (eqb (version_of bytes) 2) refl
    where
      by_version : (second : Bool) → eqb (version_of bytes) 2 ≡ second → ReadAs (salvaged_file bytes) (version_of bytes) (kind_of bytes) (start_of bytes) (kept_values bytes)
      by_version true t =
          let second = eqb-true (version_of bytes) 2 t in
          rw (salvaged_second bytes second, second) (second_file_read (kind_of bytes) (start_of bytes) (kept_values bytes) kept_proper start_proper)
      by_version false t =
          let first = eqb-false (version_of bytes) 2 t in
          rw (salvaged_first bytes first, first_version bytes first s.header, first_start bytes first) (first_file_read (kind_of bytes) (kept_values bytes) kept_proper)

  pub salvaged_bytes : AreBytes (salvaged_file bytes)
  salvaged_bytes = by_version (eqb (version_of bytes) 2) refl
    where
      by_version : (second : Bool) → eqb (version_of bytes) 2 ≡ second → AreBytes (salvaged_file bytes)
      by_version true t = rw (salvaged_second bytes (eqb-true (version_of bytes) 2 t)) (file_from_bytes (kind_of bytes) (start_of bytes) (kept_values bytes) kept_proper.known)
      by_version false t = rw (salvaged_first bytes (eqb-false (version_of bytes) 2 t)) (file_bytes (kind_of bytes) (kept_values bytes) kept_proper.known)

-- ---- a sound file is salvaged whole

module _ (bytes : List ℕ) (all : AreBytes bytes) (room : ℕ) (accepted : read_record_refusal bytes room ≡ none) where
  readable : ReadableRecord bytes room
  readable = unrefused_record bytes room (ap (λ (r : Refusal). r.number) accepted)

  present_all : present_count bytes ≡ count_of bytes
  present_all = omega (arith, readable.counted.whole)

  present_are : present_values bytes ≡ record_values bytes
  unfolding present_values record_values
  present_are = rw present_all

  none_bad : first_bad bytes ≡ count_of bytes
  unfolding first_bad
  none_bad = rw present_are (none_fails (value_in_range (kind_of bytes)) (pos 0) (record_values bytes) readable.in_range ∙ record_values_length bytes)

  kept_all : kept_values bytes ≡ record_values bytes
  unfolding kept_values
  kept_all = rw (none_bad, present_are, ← (record_values_length bytes)) (take-length (record_values bytes))

  pub sound_unchanged : salvaged_file bytes ≡ bytes
  sound_unchanged = by_version (eqb (version_of bytes) 2) refl
    where
      by_version : (second : Bool) → eqb (version_of bytes) 2 ≡ second → salvaged_file bytes ≡ bytes
      by_version true t =
          let second = eqb-true (version_of bytes) 2 t in
          salvaged_second bytes second ∙ rw kept_all (sym (accepted_is_file_from bytes all room second accepted))
      by_version false t =
          let first = eqb-false (version_of bytes) 2 t in
          salvaged_first bytes first
          ∙ rw (kept_all, first_values bytes first) (sym (accepted_is_file bytes all room (sym (as_first_version bytes first room) ∙ accepted)))

  -- not refused where there is room for it, with nothing left over and no bad value met
  pub sound_unrefused : (space : ℕ) → length bytes ≤ space → salvage_refusal bytes space ≡ none
  sound_unrefused space enough =
      start_inside bytes space
      (ap (λ (r : Refusal). r.number) (few_said bytes (ap (λ (r : Refusal). r.number) (sound_header_none bytes readable.header)) readable.counted.few))
      (rw sound_unchanged enough) readable.start_in_range

  pub sound_answer : (space : ℕ) → length bytes ≤ space →
      salvage_answer bytes space ≡ record { number = 0; place = 0; old_count = count_of bytes; new_count = count_of bytes; left_over = 0; met = 0 }
  unfolding salvage_answer
  sound_answer space enough =
      let nothing_left : length bytes - length bytes ≡ 0 = omega arith in
      let all-good = le-ltb (count_of bytes) (count_of bytes) (omega arith) in
      rw (sound_unrefused space enough, sound_unchanged, nothing_left, kept_length bytes, none_bad, present_length bytes, present_all, all-good)
