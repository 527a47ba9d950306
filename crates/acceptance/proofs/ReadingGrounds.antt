-- The refusal of float readings agrees with its table of grounds.
use mathlib.Core.Path.{◌≡◌, refl, ap, ◌∙◌}
use mathlib.Core.Bool.{Bool, true, false}
use mathlib.Core.List.{List}
use mathlib.Core.Logic.{◌⊎◌, inl, inr}
use Prim.Native.Nat.{ℕ, ◌+◌, ◌*◌, ◌^◌, ◌<◌}
use native.Mathlib.Omega.{arith}
use borrow.Author.Tests.{ltb-true, ltb-false, eqb-false, ne_eqb}
use lib.Dec.{ltb}
use lib.Ieee.{Float, nan, inf, fin, up, down}
use lib.Ieee.Fits.{down_pos}
use lib.ListN.{length, get_or}
use Rattle.laws.specs.Lists.{first_failing}
use Rattle.record.specs.Refusals.{refused, refused_if, size_refusal}
use Rattle.record.specs.declared.Refusal.{Refusal}
use Rattle.sums.specs.Answers.{allan_demand}
use Rattle.readings.specs.Readings.{reading_number, reading_refusal}
use Rattle.readings.specs.Answers.{float_refusal, float_answer}
use Rattle.readings.specs.declared.FloatSums.{FloatSums}
use Rattle.readings.proofs.ReadingLaws.{infinite_is_three, not_a_number_is_four, beyond_the_range, within_the_range}
use Rattle.readings.proofs.RefusalLaws.{is_sample, no_sample_at, no_room, readings_decide}
use Rattle.acceptance.specs.Grounds
use Rattle.acceptance.specs.Grounds.{NoRow, Grounded, First, OfSize, TooFar, NotANumber, NoSample, OfReadings}
use Rattle.acceptance.proofs.Grounding
use Rattle.acceptance.proofs.Grounding.{Decided, Stands, Agrees, decide, decide_after, decided_by, stands_first, rowless_none, none_rowless, grounded_answer}
use Rattle.acceptance.proofs.RecordGrounds.{first_is, first_there, size_agrees}

-- ---- one reading

far_is_three : {x : Float} → TooFar x → reading_number x ≡ 3
far_is_three (Grounds.infinite {s} e) = ap reading_number e ∙ infinite_is_three s
far_is_three {x} (Grounds.beyond s a c some value above) = beyond_the_range s a c some x value above

no_number_is_four : {x : Float} → NotANumber x → reading_number x ≡ 4
no_number_is_four e = ap reading_number e ∙ not_a_number_is_four

-- a reading becomes a sample, or is too far, or is not a number
kinds : (x : Float) → (reading_number x ≡ 0 → ⊥) → TooFar x ⊎ NotANumber x
kinds nan other = inr refl
kinds (inf s) other = inl (Grounds.infinite refl)
kinds (fin s m e) other = by_range (ltb (2 ^ 40 * down e) (m * up e)) refl
  where
    by_range : (t : Bool) → ltb (2 ^ 40 * down e) (m * up e) ≡ t → TooFar (fin s m e) ⊎ NotANumber (fin s m e)
    by_range true t = inl (Grounds.beyond s (m * up e) (down e) (down_pos e) (refl, refl) (ltb-true _ _ t))
    by_range false t = absurd (other (within_the_range s (m * up e) (down e) (down_pos e) (fin s m e) (refl, refl) (ltb-false _ _ t)))

-- ---- 3, 4: the first reading that becomes no sample

module _ (xs : List Float) where
  no_sample : (k : ℕ) → k < length xs → is_sample (get_or xs k nan) ≡ false → NoSample xs k
  no_sample k inside e = kinds (get_or xs k nan) (eqb-false _ 0 e)

  no_sample_fails : (k : ℕ) → k < length xs → NoSample xs k → is_sample (get_or xs k nan) ≡ false
  no_sample_fails k inside (inl far) = ne_eqb (reading_number (get_or xs k nan)) 0 (λ e. omega (arith, far_is_three far))
  no_sample_fails k inside (inr no_number) = ne_eqb (reading_number (get_or xs k nan)) 0 (λ e. omega (arith, no_number_is_four no_number))

  reading_refused : {i number : ℕ} → First (length xs) (NoSample xs) i → reading_number (get_or xs i nan) ≡ number → reading_refusal xs ≡ refused number i
  reading_refused {i} first is =
      no_sample_at xs i first.inside (first_is is_sample nan xs refl no_sample no_sample_fails first) ∙ ap (λ (n : ℕ). refused n i) is

  module _ {Row : ℕ → ℕ → Type 0}
      (far : (i : ℕ) → First (length xs) (NoSample xs) i → TooFar (get_or xs i nan) → Row 3 i)
      (no_number : (i : ℕ) → First (length xs) (NoSample xs) i → NotANumber (get_or xs i nan) → Row 4 i) where
    readings_decided : Decided Row (reading_refusal xs)
    unfolding reading_refusal
    readings_decided = by_test (ltb place (length xs)) refl
      where
        place : ℕ
        place = first_failing is_sample xs

        by_kind : First (length xs) (NoSample xs) place → NoSample xs place → Decided Row (refused (reading_number (get_or xs place nan)) place)
        by_kind first (inl is) = rw (far_is_three is) (Grounding.something (λ e. omega arith) (far place first is))
        by_kind first (inr is) = rw (no_number_is_four is) (Grounding.something (λ e. omega arith) (no_number place first is))

        by_test : (t : Bool) → ltb place (length xs) ≡ t → Decided Row (refused_if t (reading_number (get_or xs place nan)) place)
        by_test true t = let first = first_there is_sample nan xs refl no_sample no_sample_fails t in by_kind first first.bad
        by_test false t = Grounding.nothing refl

-- ---- 5, 2, 1, 6, then those

module _ (m : ℕ) (xs : List Float) (room : ℕ) where
  abbrev sized : Agrees (OfSize 10922 (2 * m + 1) m (length xs)) (size_refusal allan_demand m (length xs))
  sized = size_agrees allan_demand m (length xs)

  size_none : NoRow (OfSize 10922 (2 * m + 1) m (length xs)) → (size_refusal allan_demand m (length xs)).number ≡ 0
  size_none rowless = ap (λ (r : Refusal). r.number) (rowless_none sized rowless)

  readings_stand : {n p : ℕ} → OfReadings m xs room n p → Stands n p (float_refusal m xs room)
  unfolding float_refusal
  readings_stand (Grounds.size row) = stands_first _ _ (sized.stands row)
  readings_stand (Grounds.no_room rowless h) = (λ e. omega arith, no_room m xs room (size_none rowless) h)
  readings_stand (Grounds.far rowless enough first is) =
      (λ e. omega arith, readings_decide m xs room (size_none rowless) enough ∙ reading_refused xs first (far_is_three is))
  readings_stand (Grounds.no_number rowless enough first is) =
      (λ e. omega arith, readings_decide m xs room (size_none rowless) enough ∙ reading_refused xs first (no_number_is_four is))

  pub readings_agree : Agrees (OfReadings m xs room) (float_refusal m xs room)
  unfolding float_refusal
  readings_agree = record {
    stands = readings_stand;
    decided = decide_after _ _ (decided_by (λ n p. Grounds.size) sized.decided)
        (λ clear. let rowless = none_rowless sized (rw clear) in
        decide _ 6 0 (omega arith) (λ t. Grounds.no_room rowless (ltb-true room (length xs) t)) _
        (λ f. let enough = ltb-false room (length xs) f in readings_decided xs (λ i. Grounds.far rowless enough) (λ i. Grounds.no_number rowless enough)));
  }

  pub readings_grounded : Grounded (OfReadings m xs room) (float_answer m xs room).number (float_answer m xs room).place
  unfolding float_answer
  readings_grounded = grounded_answer readings_agree (λ (z : FloatSums). z.number) (λ (z : FloatSums). z.place) _ _ (refl, refl) (refl, refl)
