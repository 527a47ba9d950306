-- The refusals of fractions, deviations and dots agree with their tables of grounds.
use mathlib.Core.Path.{◌≡◌, refl, ap}
use mathlib.Core.Bool.{Bool, true, false, cond}
use mathlib.Core.Logic.{inl, inr}
use Prim.Native.Nat.{ℕ, ◌*◌, ◌^◌, ◌≤◌, ◌<◌}
use native.Mathlib.Omega.{arith}
use borrow.Author.Tests.{ltb-true, ltb-false, lt-ltb, leb-true, eqb-true, eqb-false, ne_eqb, not-false, not-true}
use lib.Dec.{eqb}
use Rattle.laws.specs.Greatest.{Greatest}
use Rattle.laws.proofs.GreatestLaws.{one_greatest}
use Rattle.record.specs.Refusals.{none}
use Rattle.record.specs.declared.Refusal.{Refusal}
use Rattle.variances.specs.Deviations.{within, deviation}
use Rattle.variances.specs.Answers.{figure_refusal, fraction_answer, deviation_answer}
use Rattle.variances.specs.declared.FractionAnswer.{FractionAnswer}
use Rattle.variances.specs.declared.DeviationAnswer.{DeviationAnswer}
use Rattle.variances.proofs.AnswerLaws.{deviation_refusal, given_deviation, no_deviation, deviation_refused}
use Rattle.variances.proofs.DeviationLaws.{deviation_is_greatest}
use Rattle.variances.proofs.FigureLaws.{factor_nought, factor_too_large, count_nought, count_too_large, sum_too_large, unrefused_allowed, denominator_above_nought}
use Rattle.plot.specs.Dots.{dot_answer}
use Rattle.plot.proofs.DotLaws.{too_few_dot, refused_dot}
use Rattle.acceptance.specs.Grounds
use Rattle.acceptance.specs.Grounds.{NoRow, Grounded, OfFraction, OfDeviation, OfDot}
use Rattle.acceptance.proofs.Grounding
use Rattle.acceptance.proofs.Grounding.{Decided, Stands, Agrees, decide, decide_last, decide_after, decided_by, stands_first, stands_later, rowless_none, none_rowless, grounded, grounded_answer}
use Rattle.acceptance.proofs.RecordGrounds.{test_between, test_outside}

-- ---- fractions: 5, 1, 2, 3

module _ (sum m count : ℕ) where
  fraction_stands : {n p : ℕ} → OfFraction sum m count n p → Stands n p (figure_refusal sum m count)
  fraction_stands (Grounds.factor (inl below)) = (λ e. omega arith, factor_nought sum m count below)
  fraction_stands (Grounds.factor (inr above)) = (λ e. omega arith, factor_too_large sum m count above)
  fraction_stands (Grounds.no_count factor e) = (λ e. omega arith, count_nought sum m count factor.0 factor.1 e)
  fraction_stands (Grounds.many factor h) = (λ e. omega arith, count_too_large sum m count factor.0 factor.1 h)
  fraction_stands (Grounds.large factor counts h) = (λ e. omega arith, sum_too_large sum m count factor.0 factor.1 counts.0 counts.1 h)

  fraction_decided : Decided (OfFraction sum m count) (figure_refusal sum m count)
  unfolding figure_refusal
  fraction_decided =
      decide _ 5 0 (omega arith) (λ t. Grounds.factor (test_outside 1 10922 m (not-true _ t))) _
      (λ f. let factor = test_between 1 10922 m (not-false _ f) in
      decide _ 1 0 (omega arith) (λ t. Grounds.no_count factor (eqb-true count 0 t)) _
      (λ g. decide _ 2 0 (omega arith) (λ t. Grounds.many factor (ltb-true 32768 count t)) _
      (λ h. decide_last _ 3 0 (omega arith)
      (λ t. Grounds.large factor (omega (arith, eqb-false count 0 g), ltb-false 32768 count h) (leb-true (2 ^ 126) sum t)))))

  pub fraction_agrees : Agrees (OfFraction sum m count) (figure_refusal sum m count)
  fraction_agrees = record { stands = fraction_stands; decided = fraction_decided }

-- ---- deviations: those, then 3, of a variance over scale m^2 count

module _ (sum m count scale : ℕ) (some : 0 < scale) where
  abbrev d : ℕ
  d = scale * (m * m) * count

  -- where those refuse nothing, the deviation is the one greatest number
  greatest : figure_refusal sum m count ≡ none → Greatest (within sum d) (deviation sum d)
  greatest clear =
      let allowed = unrefused_allowed sum m count (ap (λ (r : Refusal). r.number) clear) in
      deviation_is_greatest sum d (denominator_above_nought allowed scale some) allowed.sum_below

  pub deviation_agrees : Agrees (OfDeviation sum m count d) (deviation_refusal sum m count (deviation sum d))
  deviation_agrees = record {
    stands = stands;
    decided = decide_after _ _ (decided_by (λ n p. Grounds.fraction) (fraction_agrees sum m count).decided)
        (λ clear. decide_last _ 3 0 (omega arith)
        (λ t. Grounds.above (none_rowless (fraction_agrees sum m count) (rw clear)) (greatest clear) (ltb-true (2 ^ 62) _ t)));
  }
    where
      stands : {n p : ℕ} → OfDeviation sum m count d n p → Stands n p (deviation_refusal sum m count (deviation sum d))
      stands (Grounds.fraction row) = stands_first _ _ ((fraction_agrees sum m count).stands row)
      stands (Grounds.above rowless is large) =
          let clear = rowless_none (fraction_agrees sum m count) rowless in
          stands_later _ _ clear (λ e. omega arith, rw (lt-ltb (2 ^ 62) (deviation sum d) (omega (arith, large, one_greatest is (greatest clear)))))

-- ---- the answers

module _ {Row : ℕ → ℕ → Type 0} {r : Refusal} (agrees : Agrees Row r) where
  pub fraction_grounded : (a d : ℕ) → Grounded Row (fraction_answer r a d).number (fraction_answer r a d).place
  unfolding fraction_answer
  fraction_grounded a d =
      grounded_answer agrees (λ (z : FractionAnswer). z.number) (λ (z : FractionAnswer). z.place) _ _ (refl, refl) (refl, refl)

  pub deviation_grounded : (s : ℕ) → Grounded Row (deviation_answer r s).number (deviation_answer r s).place
  unfolding deviation_answer
  deviation_grounded s =
      grounded_answer agrees (λ (z : DeviationAnswer). z.number) (λ (z : DeviationAnswer). z.place) (given_deviation s) (no_deviation r) (refl, refl) (refl, refl)

-- ---- dots: a refusal but the 1

abbrev unless_few : Refusal → Refusal
unless_few r = cond (eqb r.number 1) none r

-- the dot of a deviation s that t may refuse has its number and its place from u
abbrev Told : ℕ → Refusal → Refusal → Type 0
Told s t u = ((dot_answer (deviation_answer t s)).number ≡ u.number) × ((dot_answer (deviation_answer t s)).place ≡ u.place)

given_told : (s : ℕ) → Told s none none
unfolding dot_answer deviation_answer
given_told s = (refl, refl)

module _ (sum m count d : ℕ) {r : Refusal} (agrees : Agrees (OfDeviation sum m count d) r) where
  dot_agrees : Agrees (OfDot sum m count d) (unless_few r)
  dot_agrees = record { stands = stands; decided = by_case agrees.decided }
    where
      stands : {n p : ℕ} → OfDot sum m count d n p → Stands n p (unless_few r)
      stands {n} (Grounds.deviation other row) = let stood = agrees.stands row in (stood.0, rw (stood.1, ne_eqb n 1 other))

      by_test : (t : Bool) → eqb r.number 1 ≡ t → (r.number ≡ 0 → ⊥) → OfDeviation sum m count d r.number r.place →
          Decided (OfDot sum m count d) (cond t none r)
      by_test true e some row = Grounding.nothing refl
      by_test false e some row = Grounding.something some (Grounds.deviation (eqb-false r.number 1 e) row)

      by_case : Decided (OfDeviation sum m count d) r → Decided (OfDot sum m count d) (unless_few r)
      by_case (Grounding.nothing e) = Grounding.nothing (rw e)
      by_case (Grounding.something some row) = by_test _ refl some row

  dot_told : (s : ℕ) → Told s r (unless_few r)
  dot_told s = by_case agrees.decided
    where
      by_test : (t : Bool) → eqb r.number 1 ≡ t → (r.number ≡ 0 → ⊥) → Told s r (cond t none r)
      by_test true e some = rw (deviation_refused r s some, too_few_dot (no_deviation r) (eqb-true r.number 1 e)) (refl, refl)
      by_test false e some = rw (deviation_refused r s some, refused_dot (no_deviation r) some (eqb-false r.number 1 e)) (refl, refl)

      by_case : Decided (OfDeviation sum m count d) r → Told s r (unless_few r)
      by_case (Grounding.nothing e) = rw e (given_told s)
      by_case (Grounding.something some row) = by_test _ refl some

  pub dot_grounded : (s : ℕ) → Grounded (OfDot sum m count d) (dot_answer (deviation_answer r s)).number (dot_answer (deviation_answer r s)).place
  dot_grounded s = grounded dot_agrees (dot_told s).0 (dot_told s).1

  -- an answered dot of a count above nought is that of a deviation that is given
  pub dotted_none : 1 ≤ count → NoRow (OfDot sum m count d) → r ≡ none
  dotted_none some rowless = by_case agrees.decided
    where
      no_count : {n p : ℕ} → OfDeviation sum m count d n p → n ≡ 1 → ⊥
      no_count (Grounds.fraction (Grounds.factor f)) e = omega arith
      no_count (Grounds.fraction (Grounds.no_count f none)) e = omega arith
      no_count (Grounds.fraction (Grounds.many f h)) e = omega arith
      no_count (Grounds.fraction (Grounds.large f h k)) e = omega arith
      no_count (Grounds.above rowless is large) e = omega arith

      by_case : Decided (OfDeviation sum m count d) r → r ≡ none
      by_case (Grounding.nothing e) = e
      by_case (Grounding.something some row) = absurd (rowless _ _ (Grounds.deviation (no_count row) row))
