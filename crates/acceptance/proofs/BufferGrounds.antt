-- The refusals of phase and frequency and of drift agree with their tables of grounds.
use mathlib.Core.Path.{◌≡◌, refl, sym, ap, subst, ◌∙◌}
use mathlib.Core.List.{List}
use Prim.Native.Nat.{ℕ, ◌+◌, ◌-◌, ◌^◌, ◌<◌}
use native.Mathlib.Omega.{arith}
use borrow.Author.Tests.{ltb-true, ltb-false, not-true, not-false, eqb-true, eqb-false}
use lib.IntN.{ℤ, pos, nat_abs, ◌+ℤ◌, +ℤ_idl}
use lib.ListN.{length}
use Rattle.laws.specs.Lists.{at}
use Rattle.laws.specs.Sums.{sum_ℤ}
use Rattle.record.specs.Answers.{count_answer}
use Rattle.record.specs.declared.Refusal.{Refusal}
use Rattle.record.specs.declared.CountAnswer.{CountAnswer}
use Rattle.record.proofs.RangeLaws.{sample_bounded, bounded_sample}
use Rattle.frequency.specs.Frequency.{first_leaving, phase_refusal, phase_refusal_from, frequency_refusal}
use Rattle.frequency.proofs.FrequencyLaws.{running, later, later_length, later_is, readings_too_many, no_room_for_phases, start_outside, reading_leaves, refusal_from_nought, samples_too_many, no_sample, no_room_for_differences, range_decides}
use Rattle.drift.specs.Drift.{without_drift, drift_refusal, drift_answer, removal_refusal}
use Rattle.drift.specs.declared.DriftAnswer.{DriftAnswer}
use Rattle.drift.proofs.DriftLaws.{drift_too_many, drift_too_few, drift_by_range, without_drift_length, removal_too_many, removal_too_few, removal_no_room, removal_sample_outside, removal_result_outside}
use Rattle.acceptance.specs.Grounds
use Rattle.acceptance.specs.Grounds.{Grounded, Between, First, OfPhases, OfPhasesFrom, OfDifferences, OfDrift, OfRemoval}
use Rattle.acceptance.proofs.Grounding.{Decided, Stands, Agrees, decide, decide_last, decide_after, decided_by, grounded_answer}
use Rattle.acceptance.proofs.RecordGrounds.{outside_fails, failing_outside, first_outside_lem, outside_is, range_stands, range_decided, none_outside_none, none_none_outside}

-- ---- phase from a start: 2, 6, 3 of the start, 3 of a reading

module _ (start : ℤ) (ys : List ℤ) (room : ℕ) where
  phases_from_stand : {n p : ℕ} → OfPhasesFrom start ys room n p → Stands n p (phase_refusal_from start ys room)
  unfolding first_leaving
  phases_from_stand (Grounds.many h) = (λ e. omega arith, readings_too_many start ys room h)
  phases_from_stand (Grounds.no_room few h) = (λ e. omega arith, no_room_for_phases start ys room few h)
  phases_from_stand (Grounds.outside few enough h) = (λ e. omega arith, start_outside start ys room few enough (outside_fails start h))
  phases_from_stand {p = i} (Grounds.leaves few enough near first) =
      let there = outside_is (later start ys) (later_length start ys) (λ k. running start ys (k + 1)) (later_is start ys) first in
      (λ e. omega arith, reading_leaves start ys room few enough (bounded_sample start near) i first.inside (sym there))

  phases_from_decided : Decided (OfPhasesFrom start ys room) (phase_refusal_from start ys room)
  unfolding phase_refusal_from first_leaving
  phases_from_decided =
      decide _ 2 0 (omega arith) (λ t. Grounds.many (ltb-true 32767 (length ys) t)) _
      (λ f. let few = ltb-false 32767 (length ys) f in
      decide _ 6 0 (omega arith) (λ t. Grounds.no_room few (ltb-true room (length ys + 1) t)) _
      (λ g. let enough = ltb-false room (length ys + 1) g in
      decide _ 3 0 (omega arith) (λ t. Grounds.outside few enough (failing_outside start (not-true _ t))) _
      (λ h. decide_last _ 3 _ (omega arith)
      (λ t. Grounds.leaves few enough (sample_bounded start (not-false _ h))
      (first_outside_lem (later start ys) (later_length start ys) (λ k. running start ys (k + 1)) (later_is start ys) t)))))

  pub phases_from_agree : Agrees (OfPhasesFrom start ys room) (phase_refusal_from start ys room)
  phases_from_agree = record { stands = phases_from_stand; decided = phases_from_decided }

-- ---- phase from frequency: the same from 0, which is in range

module _ (ys : List ℤ) (room : ℕ) where
  same_phases : ◌≡◌ {A = ℕ → ℤ} (λ k. pos 0 +ℤ sum_ℤ (k + 1) (at ys)) (λ k. sum_ℤ (k + 1) (at ys))
  same_phases i k = +ℤ_idl (sum_ℤ (k + 1) (at ys)) i

  abbrev Leaves : ℕ → (ℕ → ℤ) → Type 0
  Leaves i phase = First (length ys) (λ k. 2 ^ 40 < nat_abs (phase k)) i

  row_from_nought : {n p : ℕ} → OfPhases ys room n p → OfPhasesFrom (pos 0) ys room n p
  row_from_nought (Grounds.many h) = Grounds.many h
  row_from_nought (Grounds.no_room few h) = Grounds.no_room few h
  row_from_nought {p = i} (Grounds.leaves few enough first) = Grounds.leaves few enough (omega arith) (subst (Leaves i) (sym same_phases) first)

  nought_in_row : {n p : ℕ} → OfPhasesFrom (pos 0) ys room n p → OfPhases ys room n p
  nought_in_row (Grounds.many h) = Grounds.many h
  nought_in_row (Grounds.no_room few h) = Grounds.no_room few h
  nought_in_row (Grounds.outside few enough h) = absurd (omega arith)
  nought_in_row {p = i} (Grounds.leaves few enough near first) = Grounds.leaves few enough (subst (Leaves i) same_phases first)

  pub phases_agree : Agrees (OfPhases ys room) (phase_refusal ys room)
  phases_agree =
      let agree = phases_from_agree (pos 0) ys room in
      rw (← refusal_from_nought ys room)
      (record { stands = λ row. agree.stands (row_from_nought row); decided = decided_by (λ n p. nought_in_row) agree.decided })

-- ---- frequency from phase: 2, 1, 6, 3

module _ (xs : List ℤ) (room : ℕ) where
  differences_stand : {n p : ℕ} → OfDifferences xs room n p → Stands n p (frequency_refusal xs room)
  differences_stand (Grounds.many h) = (λ e. omega arith, samples_too_many xs room h)
  differences_stand (Grounds.no_sample e) = (λ e. omega arith, no_sample xs room (omega (arith, e)) e)
  differences_stand (Grounds.no_room size h) = (λ e. omega arith, no_room_for_differences xs room size.1 (λ e. omega (arith, size)) h)
  differences_stand (Grounds.range size enough first) =
      let stands = range_stands xs first in
      (stands.0, range_decides xs room size.1 (λ e. omega (arith, size)) enough ∙ stands.1)

  differences_decided : Decided (OfDifferences xs room) (frequency_refusal xs room)
  unfolding frequency_refusal
  differences_decided =
      decide _ 2 0 (omega arith) (λ t. Grounds.many (ltb-true 32768 (length xs) t)) _
      (λ f. decide _ 1 0 (omega arith) (λ t. Grounds.no_sample (eqb-true (length xs) 0 t)) _
      (λ g. let size : Between 1 32768 (length xs) = (omega (arith, eqb-false (length xs) 0 g), ltb-false 32768 (length xs) f) in
      decide _ 6 0 (omega arith) (λ t. Grounds.no_room size (ltb-true room (length xs - 1) t)) _
      (λ h. range_decided xs (λ i. Grounds.range size (ltb-false room (length xs - 1) h)))))

  pub differences_agree : Agrees (OfDifferences xs room) (frequency_refusal xs room)
  differences_agree = record { stands = differences_stand; decided = differences_decided }

-- ---- the drift figure: 2, 1, 3

module _ (xs : List ℤ) where
  drift_stands : {n p : ℕ} → OfDrift xs n p → Stands n p (drift_refusal xs)
  drift_stands (Grounds.many h) = (λ e. omega arith, drift_too_many xs h)
  drift_stands (Grounds.few h) = (λ e. omega arith, drift_too_few xs (omega (arith, h)) h)
  drift_stands (Grounds.range size first) = let stands = range_stands xs first in (stands.0, drift_by_range xs size.1 size.0 ∙ stands.1)

  drift_decided : Decided (OfDrift xs) (drift_refusal xs)
  unfolding drift_refusal
  drift_decided =
      decide _ 2 0 (omega arith) (λ t. Grounds.many (ltb-true 32768 (length xs) t)) _
      (λ f. decide _ 1 0 (omega arith) (λ t. Grounds.few (ltb-true (length xs) 3 t)) _
      (λ g. range_decided xs (λ i. Grounds.range (ltb-false (length xs) 3 g, ltb-false 32768 (length xs) f))))

  pub drift_agrees : Agrees (OfDrift xs) (drift_refusal xs)
  drift_agrees = record { stands = drift_stands; decided = drift_decided }

-- ---- removal: 2, 1, 6, 3 of the samples, 3 of the results

module _ (xs : List ℤ) (room : ℕ) where
  abbrev results : List ℤ
  results = without_drift xs

  removal_stands : {n p : ℕ} → OfRemoval xs room n p → Stands n p (removal_refusal xs room)
  removal_stands (Grounds.many h) = (λ e. omega arith, removal_too_many xs room h)
  removal_stands (Grounds.few h) = (λ e. omega arith, removal_too_few xs room (omega (arith, h)) h)
  removal_stands (Grounds.no_room size h) = (λ e. omega arith, removal_no_room xs room size.1 size.0 h)
  removal_stands (Grounds.range size enough first) =
      let stands = range_stands xs first in
      (stands.0, removal_sample_outside xs room size.1 size.0 enough refl (λ e. omega (arith, ap (λ (r : Refusal). r.number) stands.1, e)) ∙ stands.1)
  removal_stands {p = i} (Grounds.result size enough inside first) =
      let clear = ap (λ (r : Refusal). r.number) (none_outside_none xs inside) in
      let there = outside_is results (without_drift_length xs) (at results) (λ k h. refl) first in
      (λ e. omega arith, removal_result_outside xs room size.1 size.0 enough refl clear i (sym there) first.inside)

  removal_decided : Decided (OfRemoval xs room) (removal_refusal xs room)
  unfolding removal_refusal
  removal_decided =
      decide _ 2 0 (omega arith) (λ t. Grounds.many (ltb-true 32768 (length xs) t)) _
      (λ f. decide _ 1 0 (omega arith) (λ t. Grounds.few (ltb-true (length xs) 3 t)) _
      (λ g. let size : Between 3 32768 (length xs) = (ltb-false (length xs) 3 g, ltb-false 32768 (length xs) f) in
      decide _ 6 0 (omega arith) (λ t. Grounds.no_room size (ltb-true room (length xs) t)) _
      (λ h. let enough = ltb-false room (length xs) h in
      decide_after _ _ (range_decided xs (λ i. Grounds.range size enough))
      (λ clear. decide_last _ 3 _ (omega arith)
      (λ t. Grounds.result size enough (none_none_outside xs clear) (first_outside_lem results (without_drift_length xs) (at results) (λ k h. refl) t))))))

  pub removal_agrees : Agrees (OfRemoval xs room) (removal_refusal xs room)
  removal_agrees = record { stands = removal_stands; decided = removal_decided }

-- ---- the answers

pub count_grounded : {Row : ℕ → ℕ → Type 0} {r : Refusal} → Agrees Row r → (n : ℕ) → Grounded Row (count_answer r n).number (count_answer r n).place
unfolding count_answer
count_grounded {r = r} agrees n =
    grounded_answer agrees (λ (z : CountAnswer). z.number) (λ (z : CountAnswer). z.place) (record { number = 0; place = 0; count = n })
    (record { number = r.number; place = r.place; count = 0 }) (refl, refl) (refl, refl)

pub drift_grounded : (xs : List ℤ) → Grounded (OfDrift xs) (drift_answer xs).number (drift_answer xs).place
unfolding drift_answer
drift_grounded xs =
    grounded_answer (drift_agrees xs) (λ (z : DriftAnswer). z.number) (λ (z : DriftAnswer). z.place) _ _ (refl, refl) (refl, refl)
