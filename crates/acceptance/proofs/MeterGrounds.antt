-- The refusals of the running meter agree with their tables of grounds.
use mathlib.Core.Path.{◌≡◌, refl}
use mathlib.Core.Bool.{Bool, true, false, cond, not, ◌&&◌, true≢false}
use mathlib.Core.List.{List}
use mathlib.Core.Logic.{inl, inr}
use Prim.Native.Nat.{ℕ, ◌*◌, ◌^◌}
use native.Mathlib.Omega.{arith}
use borrow.Author.Tests.{ltb-true, ltb-false, leb-true, leb-false, le-leb, lt-leb, lt-ltb, not-false, not-true, eqb-true, eqb-false}
use lib.IntN.{ℤ, nat_abs}
use lib.ListN.{length}
use Rattle.laws.proofs.Tests.{never_true, never_false, either_fails, first_true, second_true}
use Rattle.record.specs.Refusals.{refused_if, in_range}
use Rattle.record.specs.declared.Refusal.{Refusal}
use Rattle.meter.specs.Meter.{factor_fits, counts_fit, holds_together, slot, ring_holds}
use Rattle.meter.specs.Answers.{meter_answer, start_refusal, start_answer, sample_refusal, sample_answer, gap_answer, report_answer}
use Rattle.meter.specs.declared.Meter.{Meter}
use Rattle.meter.specs.declared.MeterAnswer.{MeterAnswer}
use Rattle.meter.proofs.TestLaws.{Together, holds_together_lem, Slots, ring_holds_lem, count_refused, sample_refused}
use Rattle.acceptance.specs.Grounds
use Rattle.acceptance.specs.Grounds.{Grounded, Broken, BrokenWith, OfStart, OfSample, OfGap, OfReport}
use Rattle.acceptance.proofs.Grounding.{Decided, Stands, Agrees, decide, decide_last, grounded, grounded_answer}
use Rattle.acceptance.proofs.RecordGrounds.{test_between, test_outside}
use Rattle.acceptance.proofs.TypeGrounds.{outside_fails}

-- ---- tests

-- a test that is made only where another holds
due_fails : (due t : Bool) → cond due t true ≡ false → (due ≡ true) × (t ≡ false)
due_fails true t e = (refl, e)
due_fails false t e = absurd (true≢false e)

-- ---- a meter that does not hold together

module _ (x : Meter) where
  together_unbroken : Together x → Broken x → ⊥
  together_unbroken t (Grounds.factor (inl h)) = omega arith
  together_unbroken t (Grounds.factor (inr h)) = omega arith
  together_unbroken t (Grounds.accepted h) = omega arith
  together_unbroken t (Grounds.stretch h) = omega arith
  together_unbroken t (Grounds.term_count_k h) = omega arith
  together_unbroken t (Grounds.term_count_c h) = omega arith
  together_unbroken t (Grounds.window h) = omega arith
  together_unbroken t (Grounds.high_of_a h) = omega arith
  together_unbroken t (Grounds.high_of_b h) = omega arith

  fails_broken : holds_together x ≡ false → Broken x
  unfolding holds_together factor_fits counts_fit
  fails_broken =
      either_fails _ _ (λ e. Grounds.factor (test_outside 1 10922 x.m e))
      (either_fails _ _ (λ e. Grounds.accepted (leb-false x.n 32768 e))
      (either_fails _ _
      (either_fails _ _ (λ e. Grounds.stretch (leb-false x.stretch x.n e))
      (either_fails _ _ (λ e. Grounds.term_count_k (leb-false x.k x.n e)) (λ e. Grounds.term_count_c (leb-false x.c x.n e))))
      (either_fails _ _ (λ e. Grounds.window (leb-false (nat_abs x.window) (x.m * 2 ^ 42) e))
      (either_fails _ _ (λ e. Grounds.high_of_a (ltb-false x.a.hi (2 ^ 62) e))
      (λ e. Grounds.high_of_b (ltb-false x.b.hi (2 ^ 62) e))))))

  broken_fails : Broken x → holds_together x ≡ false
  broken_fails broken = never_true _ (λ t. together_unbroken (holds_together_lem x t) broken)

-- ---- the same with its ring

module _ (x : Meter) (ring : List ℤ) where
  slots_unbroken : Together x → Slots x ring → BrokenWith x ring → ⊥
  unfolding slot
  slots_unbroken t s (Grounds.meter broken) = together_unbroken x t broken
  slots_unbroken t s (Grounds.short h) = omega arith
  slots_unbroken t s (Grounds.once due far) = omega (arith, s.latest due)
  slots_unbroken t s (Grounds.twice due far) = omega (arith, s.latest due)
  slots_unbroken t s (Grounds.thrice due far) = omega (arith, s.oldest due)

  ring_fails_broken : ring_holds x ring ≡ false → BrokenWith x ring
  unfolding ring_holds slot in_range
  ring_fails_broken =
      either_fails _ _ (λ e. Grounds.short (leb-false (3 * x.m) (length ring) e))
      (either_fails _ _
      (λ e. let read = due_fails _ _ e in let due = leb-true (2 * x.m) x.stretch read.0 in
      either_fails _ _ (λ f. Grounds.once due (leb-false _ (2 ^ 40) f)) (λ f. Grounds.twice due (leb-false _ (2 ^ 40) f)) read.1)
      (λ e. let read = due_fails _ _ e in Grounds.thrice (leb-true (3 * x.m) x.stretch read.0) (leb-false _ (2 ^ 40) read.1)))

  abbrev good : Bool
  good = holds_together x && ring_holds x ring

  fails_broken_with : good ≡ false → BrokenWith x ring
  fails_broken_with = either_fails (holds_together x) (ring_holds x ring) (λ e. Grounds.meter (fails_broken x e)) ring_fails_broken

  unbroken : good ≡ true → BrokenWith x ring → ⊥
  unbroken t = slots_unbroken (holds_together_lem x (first_true _ _ t)) (ring_holds_lem x ring (second_true (holds_together x) _ t))

  broken_with_fails : BrokenWith x ring → good ≡ false
  broken_with_fails broken = never_true _ (λ t. unbroken t broken)

  unbroken_good : (BrokenWith x ring → ⊥) → good ≡ true
  unbroken_good never = never_false _ (λ e. never (fails_broken_with e))

-- ---- a start: 5, 6

module _ (m : ℕ) (ring : List ℤ) where
  start_stands : {number place : ℕ} → OfStart m ring number place → Stands number place (start_refusal m ring)
  unfolding start_refusal factor_fits
  start_stands (Grounds.factor outside) = (λ e. omega arith, rw (outside_fails 1 10922 m outside))
  start_stands (Grounds.short between h) =
      (λ e. omega arith, rw (le-leb 1 m between.0, le-leb m 10922 between.1, lt-ltb (length ring) (3 * m) h))

  start_decided : Decided (OfStart m ring) (start_refusal m ring)
  unfolding start_refusal factor_fits
  start_decided =
      decide _ 5 0 (omega arith) (λ t. Grounds.factor (test_outside 1 10922 m (not-true _ t))) _
      (λ f. decide_last _ 6 0 (omega arith) (λ t. Grounds.short (test_between 1 10922 m (not-false _ f)) (ltb-true (length ring) (3 * m) t)))

  start_agrees : Agrees (OfStart m ring) (start_refusal m ring)
  start_agrees = record { stands = start_stands; decided = start_decided }

  pub start_grounded : (old : Meter) → Grounded (OfStart m ring) (start_answer old m ring).number (start_answer old m ring).place
  unfolding start_answer meter_answer
  start_grounded old = grounded_answer start_agrees (λ (a : MeterAnswer). a.number) (λ a. a.place) _ _ (refl, refl) (refl, refl)

-- ---- a sample call: 7, 2, 3

module _ (x : Meter) (ring : List ℤ) (v : ℤ) where
  sample_stands : {number place : ℕ} → OfSample x ring v number place → Stands number place (sample_refusal x ring v)
  unfolding sample_refusal in_range
  sample_stands (Grounds.broken broken) = (λ e. omega arith, rw (broken_with_fails x ring broken))
  sample_stands (Grounds.many sound full) =
      let good = unbroken_good x ring sound in
      (λ e. omega arith, count_refused x ring v (first_true _ _ good) (second_true (holds_together x) _ good) full)
  sample_stands (Grounds.range sound room far) =
      let good = unbroken_good x ring sound in
      (λ e. omega arith, sample_refused x ring v (first_true _ _ good) (second_true (holds_together x) _ good) (λ e. omega arith) (lt-leb _ (2 ^ 40) far))

  sample_decided : Decided (OfSample x ring v) (sample_refusal x ring v)
  unfolding sample_refusal in_range
  sample_decided =
      decide _ 7 0 (omega arith) (λ t. Grounds.broken (fails_broken_with x ring (not-true _ t))) _
      (λ f. let good = not-false _ f in let together = holds_together_lem x (first_true _ _ good) in
      decide _ 2 0 (omega arith) (λ t. Grounds.many (unbroken x ring good) (eqb-true x.n 32768 t)) _
      (λ room. let not_full = eqb-false x.n 32768 room in
      decide_last _ 3 0 (omega arith) (λ t. Grounds.range (unbroken x ring good) (omega arith) (leb-false (nat_abs v) (2 ^ 40) (not-true _ t)))))

  sample_agrees : Agrees (OfSample x ring v) (sample_refusal x ring v)
  sample_agrees = record { stands = sample_stands; decided = sample_decided }

  pub sample_grounded : Grounded (OfSample x ring v) (sample_answer x ring v).number (sample_answer x ring v).place
  unfolding sample_answer meter_answer
  sample_grounded = grounded_answer sample_agrees (λ (a : MeterAnswer). a.number) (λ a. a.place) _ _ (refl, refl) (refl, refl)

-- ---- a gap and a report: 7

module _ (x : Meter) where
  abbrev meter_refusal : Refusal
  meter_refusal = refused_if (not (holds_together x)) 7 0

  gap_stands : {number place : ℕ} → OfGap x number place → Stands number place meter_refusal
  gap_stands (Grounds.broken broken) = (λ e. omega arith, rw (broken_fails x broken))

  gap_decided : Decided (OfGap x) meter_refusal
  gap_decided = decide_last _ 7 0 (omega arith) (λ t. Grounds.broken (fails_broken x (not-true _ t)))

  gap_agrees : Agrees (OfGap x) meter_refusal
  gap_agrees = record { stands = gap_stands; decided = gap_decided }

  pub gap_grounded : Grounded (OfGap x) (gap_answer x).number (gap_answer x).place
  unfolding gap_answer meter_answer
  gap_grounded = grounded_answer gap_agrees (λ (a : MeterAnswer). a.number) (λ a. a.place) _ _ (refl, refl) (refl, refl)

  report_stands : {number place : ℕ} → OfReport x number place → Stands number place meter_refusal
  report_stands (Grounds.broken broken) = (λ e. omega arith, rw (broken_fails x broken))

  report_decided : Decided (OfReport x) meter_refusal
  report_decided = decide_last _ 7 0 (omega arith) (λ t. Grounds.broken (fails_broken x (not-true _ t)))

  report_refuses : (t : Bool) → holds_together x ≡ t → ((report_answer x).number ≡ meter_refusal.number) × ((report_answer x).place ≡ meter_refusal.place)
  unfolding report_answer
  report_refuses true e = rw e (refl, refl)
  report_refuses false e = rw e (refl, refl)

  pub report_grounded : Grounded (OfReport x) (report_answer x).number (report_answer x).place
  report_grounded = let is = report_refuses _ refl in grounded (record { stands = report_stands; decided = report_decided }) is.0 is.1
