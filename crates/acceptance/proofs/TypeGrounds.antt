-- The refusals of drawn numbers, noise types and bars agree with their tables of grounds.
use mathlib.Core.Path.{◌≡◌, refl}
use mathlib.Core.Bool.{false, ◌&&◌}
use mathlib.Core.Logic.{inl, inr}
use Prim.Native.Nat.{ℕ, zero, suc, ◌^◌, ◌≤◌, ◌<◌}
use native.Mathlib.Omega.{arith}
use borrow.Author.Tests.{ltb-true, ltb-false, leb-true, leb-false, lt-leb, not-false, not-true, eqb-true, eqb-false}
use lib.Dec.{leb}
use lib.IntN.{ℤ, pos, negsuc, nat_abs}
use Rattle.laws.proofs.Tests.{either_fails, second_true, second_fails}
use Rattle.record.specs.Refusals.{refused}
use Rattle.record.specs.declared.Refusal.{Refusal}
use Rattle.plot.specs.Drawn.{drawn_refusal, drawn_answer}
use Rattle.noise.specs.Noise.{alpha_of, noise_refusal, noise_answer}
use Rattle.noise.specs.Bars.{bars_refusal, bars_answer}
use Rattle.noise.specs.declared.Noise.{Noise}
use Rattle.noise.specs.declared.NoiseAnswer.{NoiseAnswer}
use Rattle.noise.specs.declared.bars.BarsAnswer.{BarsAnswer}
use Rattle.plot.specs.declared.drawn.DrawnAnswer.{DrawnAnswer}
use Rattle.noise.specs.declared.Noise.TheVariants.{WhitePhase, FlickerPhase, WhiteFrequency, FlickerFrequency, RandomWalkFrequency}
use Rattle.noise.proofs.NoiseLaws as types
use Rattle.noise.proofs.NoiseLaws.{given_type, no_type}
use Rattle.noise.proofs.BarLaws as bar
use Rattle.ploegelster.specs.Boundary.{no_such_type, bars_by_alpha}
use Rattle.acceptance.specs.Grounds
use Rattle.acceptance.specs.Grounds.{Outside, Grounded, OfDrawn, OfType, OfBars}
use Rattle.acceptance.proofs.Grounding.{Decided, Stands, Agrees, something, decide, decide_last, grounded, grounded_answer}
use Rattle.acceptance.proofs.RecordGrounds.{test_outside}

-- ---- tests

pub outside_fails : (low high n : ℕ) → Outside low high n → (leb low n && leb n high) ≡ false
outside_fails low high n (inl below) = rw (lt-leb low n below)
outside_fails low high n (inr above) = second_fails (leb low n) (lt-leb n high above)

-- ---- drawn numbers: 3

module _ (r : ℕ) where
  drawn_stands : {number place : ℕ} → OfDrawn r number place → Stands number place (drawn_refusal r)
  unfolding drawn_refusal
  drawn_stands (Grounds.range outside) = (λ e. omega arith, rw (outside_fails 1 (2 ^ 63) r outside))

  drawn_decided : Decided (OfDrawn r) (drawn_refusal r)
  unfolding drawn_refusal
  drawn_decided = decide_last _ 3 0 (omega arith) (λ t. Grounds.range (test_outside 1 (2 ^ 63) r (not-true _ t)))

  drawn_agrees : Agrees (OfDrawn r) (drawn_refusal r)
  drawn_agrees = record { stands = drawn_stands; decided = drawn_decided }

  pub drawn_grounded : Grounded (OfDrawn r) (drawn_answer r).number (drawn_answer r).place
  unfolding drawn_answer
  drawn_grounded = grounded_answer drawn_agrees (λ (a : DrawnAnswer). a.number) (λ a. a.place) _ _ (refl, refl) (refl, refl)

-- ---- noise types: 3, 8

module _ (r1 r2 : ℕ) where
  type_stands : {number place : ℕ} → OfType r1 r2 number place → Stands number place (noise_refusal r1 r2)
  type_stands (Grounds.above (inl first)) = (λ e. omega arith, types.first_too_large r1 r2 first)
  type_stands (Grounds.above (inr second)) = (λ e. omega arith, types.second_too_large r1 r2 second)
  type_stands (Grounds.nought first second) = (λ e. omega arith, types.first_nought r1 r2 (omega arith) second first)

  type_decided : Decided (OfType r1 r2) (noise_refusal r1 r2)
  unfolding noise_refusal
  type_decided =
      decide _ 3 0 (omega arith)
      (λ t. Grounds.above (either_fails _ _ (λ e. inl (leb-false r1 (2 ^ 62) e)) (λ e. inr (leb-false r2 (2 ^ 62) e)) (not-true _ t))) _
      (λ f. decide_last _ 8 0 (omega arith)
      (λ t. Grounds.nought (eqb-true r1 0 t) (leb-true r2 (2 ^ 62) (second_true (leb r1 (2 ^ 62)) _ (not-false _ f)))))

  pub type_agrees : Agrees (OfType r1 r2) (noise_refusal r1 r2)
  type_agrees = record { stands = type_stands; decided = type_decided }

-- the answer, of two deviations or of a record
pub type_grounded : {Row : ℕ → ℕ → Type 0} {r : Refusal} → Agrees Row r → (t : Noise) → Grounded Row (noise_answer r t).number (noise_answer r t).place
unfolding noise_answer
type_grounded {r = r} agrees t =
    grounded_answer agrees (λ (z : NoiseAnswer). z.number) (λ (z : NoiseAnswer). z.place) (given_type t) (no_type r) (refl, refl) (refl, refl)

-- ---- bars: 3 for an alpha of no type, 8, 3, 1, 2

module _ (r : ℕ) (alpha : ℤ) (m : ℕ) where
  -- an alpha that no type has
  module _ (beyond : 2 < nat_abs alpha) where
    beyond_stands : {number place : ℕ} → OfBars r alpha m number place → Stands number place (refused 3 0)
    beyond_stands (Grounds.no_type h) = (λ e. omega arith, refl)
    beyond_stands (Grounds.nought within h) = absurd (omega arith)
    beyond_stands (Grounds.above within h) = absurd (omega arith)
    beyond_stands (Grounds.few within h k) = absurd (omega arith)
    beyond_stands (Grounds.many within h k) = absurd (omega arith)

    beyond_agrees : Agrees (OfBars r alpha m) (refused 3 0)
    beyond_agrees = record { stands = beyond_stands; decided = something (λ e. omega arith) (Grounds.no_type beyond) }

    no_type_grounded : Grounded (OfBars r alpha m) no_such_type.number no_such_type.place
    unfolding no_such_type
    no_type_grounded = grounded beyond_agrees refl refl

  -- an alpha of some type
  module _ (within : nat_abs alpha ≤ 2) where
    bars_stand : {number place : ℕ} → OfBars r alpha m number place → Stands number place (bars_refusal r m)
    bars_stand (Grounds.no_type h) = absurd (omega arith)
    bars_stand (Grounds.nought h is) = (λ e. omega arith, bar.deviation_nought r m is)
    bars_stand (Grounds.above h large) = (λ e. omega arith, bar.deviation_too_large r m (λ e. omega arith) large)
    bars_stand (Grounds.few h between few) = (λ e. omega arith, bar.too_few r m (λ e. omega arith) between.1 few)
    bars_stand (Grounds.many h between many) = (λ e. omega arith, bar.too_many r m (λ e. omega arith) between.1 (omega arith) many)

    bars_decided : Decided (OfBars r alpha m) (bars_refusal r m)
    unfolding bars_refusal
    bars_decided =
        decide _ 8 0 (omega arith) (λ t. Grounds.nought within (eqb-true r 0 t)) _
        (λ some. let nonzero : r ≡ 0 → ⊥ = eqb-false r 0 some in
        decide _ 3 0 (omega arith) (λ t. Grounds.above within (ltb-true (2 ^ 62) r t)) _
        (λ small. let most = ltb-false (2 ^ 62) r small in
        decide _ 1 0 (omega arith) (λ t. Grounds.few within (omega arith, most) (ltb-true m 10 t)) _
        (λ enough. decide_last _ 2 0 (omega arith) (λ t. Grounds.many within (omega arith, most) (ltb-true 32767 m t)))))

    pub bars_agree : Agrees (OfBars r alpha m) (bars_refusal r m)
    bars_agree = record { stands = bars_stand; decided = bars_decided }

    bars_within_grounded : (t : Noise) → Grounded (OfBars r alpha m) (bars_answer r t m).number (bars_answer r t m).place
    unfolding bars_answer
    bars_within_grounded t = grounded_answer bars_agree (λ (a : BarsAnswer). a.number) (λ a. a.place) _ _ (refl, refl) (refl, refl)

-- the alpha of a type is never beyond 2
pub alpha_within : (t : Noise) → nat_abs (alpha_of t) ≤ 2
unfolding alpha_of
alpha_within WhitePhase = omega arith
alpha_within FlickerPhase = omega arith
alpha_within WhiteFrequency = omega arith
alpha_within FlickerFrequency = omega arith
alpha_within RandomWalkFrequency = omega arith

pub bars_grounded : (r : ℕ) (t : Noise) (m : ℕ) → Grounded (OfBars r (alpha_of t) m) (bars_answer r t m).number (bars_answer r t m).place
bars_grounded r t m = bars_within_grounded r (alpha_of t) m (alpha_within t) t

pub alpha_bars_grounded : (r : ℕ) (alpha : ℤ) (m : ℕ) → Grounded (OfBars r alpha m) (bars_by_alpha r alpha m).number (bars_by_alpha r alpha m).place
unfolding bars_by_alpha
alpha_bars_grounded r (pos zero) m = bars_within_grounded r _ m (omega arith) _
alpha_bars_grounded r (pos (suc zero)) m = bars_within_grounded r _ m (omega arith) _
alpha_bars_grounded r (pos (suc (suc zero))) m = bars_within_grounded r _ m (omega arith) _
alpha_bars_grounded r (pos (suc (suc (suc n)))) m = no_type_grounded r _ m (omega arith)
alpha_bars_grounded r (negsuc zero) m = bars_within_grounded r _ m (omega arith) _
alpha_bars_grounded r (negsuc (suc zero)) m = bars_within_grounded r _ m (omega arith) _
alpha_bars_grounded r (negsuc (suc (suc n))) m = no_type_grounded r _ m (omega arith)
