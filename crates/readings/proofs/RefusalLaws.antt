-- The cases of the readings' refusal in their order, and what is known of readings that are not refused.
use mathlib.Core.Path.{◌≡◌, refl, sym, ap, ◌∙◌}
use mathlib.Core.Bool.{Bool, true, false, true≢false}
use mathlib.Core.List.{List, map}
use Prim.Native.Nat.{ℕ, ◌+◌, ◌≤◌, ◌<◌}
use native.Mathlib.Omega.{arith}
use borrow.Author.Tests.{ltb-true, ltb-false, lt-ltb, le-ltb, eq-eqb, eqb-true}
use lib.Dec.{ltb, eqb}
use lib.IntN.{ℤ, pos}
use lib.Ieee.{Float, nan}
use lib.ListN.{length, take, get_or, set, length-map, get_or-map}
use lib.Seq.{take_at}
use mir.Syntax.{w64}
use mir.Val.{to_z, of_z}
use Rattle.laws.specs.Lists.{at, first_failing, written}
use Rattle.laws.proofs.ListLaws.{first_failing_within, all_pass, fails_there, written_so_far, written_one_more, written_whole}
use Rattle.laws.proofs.Parts.{small_fits}
use Rattle.laws.proofs.Machine.{read_back}
use Rattle.record.specs.Refusals.{none, refused, refused_if, ◌then◌, in_range, size_refusal}
use Rattle.record.specs.declared.Refusal.{Refusal}
use Rattle.record.proofs.ToldLaws.{refuses_nothing}
use Rattle.record.proofs.RangeLaws.{bounded_sample}
use Rattle.record.proofs.RefusalLaws.{Sized, Sound, refusal_stands, none_gives_way, first_refuses_nothing, rest_refuses_nothing, test_fails, unrefused_sized, in_range_bounded}
use Rattle.sums.specs.Answers.{allan_demand}
use Rattle.readings.specs.Readings.{reading_number, sample_of, reading_refusal}
use Rattle.readings.specs.Answers.{float_refusal}
use Rattle.readings.proofs.ReadingLaws.{sample_bounded}

-- ---- 3, 4: the first reading that is no sample

abbrev pub is_sample : Float → Bool
is_sample x = eqb (reading_number x) 0

module _ (xs : List Float) where
  pub no_sample_at : (i : ℕ) → i < length xs → first_failing is_sample xs ≡ i → reading_refusal xs ≡ refused (reading_number (get_or xs i nan)) i
  unfolding reading_refusal
  no_sample_at i h e = simp (e, lt-ltb i (length xs) h)

  pub all_samples : first_failing is_sample xs ≡ length xs → reading_refusal xs ≡ none
  unfolding reading_refusal
  all_samples e = simp (e, le-ltb (length xs) (length xs) (omega arith))

  -- a reading that is refused has a number of its own
  pub unrefused_all : (reading_refusal xs).number ≡ 0 → first_failing is_sample xs ≡ length xs
  unfolding reading_refusal
  unrefused_all e = by_place (ltb (first_failing is_sample xs) (length xs)) refl e
    where
      first : ℕ
      first = first_failing is_sample xs

      by_place : (inside : Bool) → ltb first (length xs) ≡ inside → (refused_if inside (reading_number (get_or xs first nan)) first).number ≡ 0 → first ≡ length xs
      by_place true t z = absurd (true≢false (sym (eq-eqb _ 0 z) ∙ fails_there is_sample nan xs (ltb-true first (length xs) t)))
      by_place false t z = omega (arith, ltb-false first (length xs) t, first_failing_within is_sample xs)

  pub unrefused_sample : (reading_refusal xs).number ≡ 0 → (k : ℕ) → k < length xs → reading_number (get_or xs k nan) ≡ 0
  unrefused_sample e k h = eqb-true _ 0 (all_pass is_sample nan xs (unrefused_all e) k h)

  pub unrefused_none : (reading_refusal xs).number ≡ 0 → reading_refusal xs ≡ none
  unrefused_none e = all_samples (unrefused_all e)

-- ---- the samples of the readings

abbrev pub samples_of : List Float → List ℤ
samples_of xs = map sample_of xs

module _ (xs : List Float) where
  pub samples_length : length (samples_of xs) ≡ length xs
  samples_length = length-map xs sample_of

  pub sample_at : (k : ℕ) → at (samples_of xs) k ≡ sample_of (get_or xs k nan)
  unfolding sample_of
  sample_at k = get_or-map sample_of xs k nan

  pub samples_in_range : (reading_refusal xs).number ≡ 0 → (k : ℕ) → k < length (samples_of xs) → in_range (at (samples_of xs) k) ≡ true
  samples_in_range e k h = rw (sample_at k) (bounded_sample _ (sample_bounded _ (unrefused_sample xs e k (omega (arith, samples_length)))))

  -- a sample is stored at the index of its reading
  pub sample_stored : reading_refusal xs ≡ none → (before : List ℤ) (i : ℕ) → i < length xs → i < length before → {now : List ℤ} {n : ℤ} →
      now ≡ written_so_far i (samples_of xs) before → n ≡ sample_of (get_or xs i nan) →
      set now i (to_z w64 (of_z w64 n)) ≡ written_so_far (i + 1) (samples_of xs) before
  sample_stored unrefused before i inside room front is =
      let number = unrefused_sample xs (ap (λ (r : Refusal). r.number) unrefused) i inside in
      written_one_more (samples_of xs) before i (pos 0) (omega (arith, samples_length)) room front
      (read_back {w = w64} is (small_fits (sample_of (get_or xs i nan)) (omega (arith, sample_bounded _ number))) ∙ sym (sample_at i))

  -- the output at the buffer's front is read back whole
  module _ (before : List ℤ) {left : List ℤ} (front : left ≡ written (samples_of xs) before) where
    pub samples_taken : take (length xs) left ≡ samples_of xs
    samples_taken = rw front (take_at (samples_of xs) _ (length xs) samples_length)

  pub all_samples_written : (before : List ℤ) (i : ℕ) → i ≡ length xs → written_so_far i (samples_of xs) before ≡ written (samples_of xs) before
  all_samples_written before i whole = written_whole (samples_of xs) before i (omega (arith, samples_length))

-- ---- 5, 2, 1, 6, then the readings

module _ (m : ℕ) (xs : List Float) (room : ℕ) where
  pub size_refuses : ((size_refusal allan_demand m (length xs)).number ≡ 0 → ⊥) → float_refusal m xs room ≡ size_refusal allan_demand m (length xs)
  unfolding float_refusal
  size_refuses some = refusal_stands _ _ some

  pub no_room : (size_refusal allan_demand m (length xs)).number ≡ 0 → room < length xs → float_refusal m xs room ≡ refused 6 0
  unfolding float_refusal
  no_room sized short = none_gives_way _ _ sized ∙ simp (lt-ltb room (length xs) short)

  pub readings_decide : (size_refusal allan_demand m (length xs)).number ≡ 0 → length xs ≤ room → float_refusal m xs room ≡ reading_refusal xs
  unfolding float_refusal
  readings_decide sized enough = none_gives_way _ _ sized ∙ simp (le-ltb room (length xs) enough)

  module _ (unrefused : (float_refusal m xs room).number ≡ 0) where
    size_none : (size_refusal allan_demand m (length xs)).number ≡ 0
    unfolding float_refusal
    size_none = first_refuses_nothing _ _ unrefused

    room_and_readings : (refused_if (ltb room (length xs)) 6 0 then reading_refusal xs).number ≡ 0
    unfolding float_refusal
    room_and_readings = rest_refuses_nothing (size_refusal allan_demand m (length xs)) (refused_if (ltb room (length xs)) 6 0 then reading_refusal xs) unrefused

    pub unrefused_room : length xs ≤ room
    unrefused_room = ltb-false room (length xs) (test_fails _ 6 0 (omega arith) (first_refuses_nothing (refused_if (ltb room (length xs)) 6 0) (reading_refusal xs) room_and_readings))

    pub unrefused_readings : (reading_refusal xs).number ≡ 0
    unrefused_readings = rest_refuses_nothing (refused_if (ltb room (length xs)) 6 0) (reading_refusal xs) room_and_readings

    pub unrefused_size : Sized allan_demand m (length xs)
    unrefused_size = unrefused_sized allan_demand m (length xs) size_none

    -- the samples then are a record that the Allan sum is given of
    pub samples_sound : Sound allan_demand m (samples_of xs)
    samples_sound =
        let all = samples_in_range xs unrefused_readings in record {
          factor_least = unrefused_size.factor_least;
          factor_most = unrefused_size.factor_most;
          not_too_many = omega (arith, samples_length xs, unrefused_size.not_too_many);
          enough = omega (arith, samples_length xs, unrefused_size.enough);
          in_range_lem = all;
          bounded = in_range_bounded (samples_of xs) all;
        }

  -- then every reading becomes a sample, and there is room
  pub readable : none ≡ float_refusal m xs room → (reading_refusal xs ≡ none) × (length xs ≤ room)
  readable is =
      let unrefused = refuses_nothing is in
      (unrefused_none xs (unrefused_readings unrefused), unrefused_room unrefused)
