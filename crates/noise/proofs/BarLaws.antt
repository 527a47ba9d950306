-- The width and the half of a bar, the refusals of bars, that the half is the greatest number of its test and not above the deviation, and that a
-- bar's ends are in order.
use mathlib.Core.Path.{◌≡◌, refl, sym, ap, subst, ◌∙◌}
use mathlib.Core.Bool.{Bool, true, false, cond}
use Prim.Native.Nat.{ℕ, ◌+◌, ◌*◌, ◌/◌, ◌%◌, ◌^◌, ◌≤◌, ◌<◌}
use native.Mathlib.Nat.{div-add-mod, mul-add-div, mul-add, mul_left_comm, mul-le-mul_left, mul-le-mul_right, div-le_self, le-div_iff_mul-le, lt_of_le_of_lt}
use native.Mathlib.Omega.{arith}
use borrow.Author.Tests.{eq-eqb, ne_eqb, lt-ltb, le-ltb, ltb-false, eqb-false, le-leb, leb-true}
use lib.Dec.{T, leb, ltb, eqb, leb→le}
use lib.Ieee.{le}
use lib.Ieee.Order.{le_of_values}
use Rattle.laws.specs.Greatest.{Greatest, greatest}
use Rattle.laws.proofs.GreatestLaws.{one_greatest}
use Rattle.laws.proofs.Halves.{product_below}
use Rattle.laws.proofs.Tests.{choice_true, choice_false, tests_agree}
use Rattle.wide.specs.Wide.{value, halves, division_of, square_root}
use Rattle.wide.specs.declared.Wide.{Wide}
use Rattle.wide.specs.declared.Division.{Division}
use Rattle.wide.proofs.WideLaws.{value_of_halves}
use Rattle.wide.proofs.Divisions.{quotient_given}
use Rattle.wide.proofs.Roots.{square_root_is_greatest}
use Rattle.record.specs.Refusals.{none, refused, refused_if, ◌then◌}
use Rattle.record.specs.declared.Refusal.{Refusal}
use Rattle.std.proofs.Common.{Some, Err}
use Rattle.record.specs.Told.{number_of}
use Rattle.record.specs.declared.grounds.Refused.{Refused}
use Rattle.record.proofs.ToldLaws.{refuses, refuses_nothing}
use Rattle.record.proofs.RefusalLaws.{first_refuses_nothing, rest_refuses_nothing, test_fails}
use Rattle.plot.specs.Drawn.{plus_zero}
use Rattle.noise.specs.Noise.{kappa_of}
use Rattle.noise.specs.Bars.{bar_width, bar_half, bars_refusal, bar_of, no_bar, bars_answer}
use Rattle.noise.specs.Told.{bars_told}
use Rattle.noise.specs.declared.Noise.{Noise}
use Rattle.noise.specs.declared.Noise.TheVariants.{WhitePhase, FlickerPhase, WhiteFrequency, FlickerFrequency, RandomWalkFrequency}
use Rattle.noise.specs.declared.bars.Bar.{Bar}
use Rattle.noise.specs.declared.bars.BarsAnswer.{BarsAnswer}
use Rattle.plot.proofs.DrawnLaws.{drawn_in_order}

-- ---- the refusals

-- what is known where nothing is refused
pub record Barred (r m : ℕ) : Type 0 where
  pub some : 0 < r
  pub most : r ≤ 2 ^ 62
  pub enough : 10 ≤ m
  pub not_too_many : m ≤ 32767

module _ (r m : ℕ) where
  pub deviation_nought : r ≡ 0 → bars_refusal r m ≡ refused 8 0
  unfolding bars_refusal
  deviation_nought e = simp (eq-eqb r 0 e)

  module _ (some : r ≡ 0 → ⊥) where
    pub deviation_too_large : 2 ^ 62 < r → bars_refusal r m ≡ refused 3 0
    unfolding bars_refusal
    deviation_too_large h = simp (ne_eqb r 0 some, lt-ltb (2 ^ 62) r h)

    module _ (most : r ≤ 2 ^ 62) where
      pub too_few : m < 10 → bars_refusal r m ≡ refused 1 0
      unfolding bars_refusal
      too_few h = simp (ne_eqb r 0 some, le-ltb (2 ^ 62) r most, lt-ltb m 10 h)

      pub too_many : 10 ≤ m → 32767 < m → bars_refusal r m ≡ refused 2 0
      unfolding bars_refusal
      too_many enough h = simp (ne_eqb r 0 some, le-ltb (2 ^ 62) r most, le-ltb m 10 enough, lt-ltb 32767 m h)

      pub no_refusal : 10 ≤ m → m ≤ 32767 → bars_refusal r m ≡ none
      unfolding bars_refusal
      no_refusal enough h = simp (ne_eqb r 0 some, le-ltb (2 ^ 62) r most, le-ltb m 10 enough, le-ltb 32767 m h)

  pub unrefused_barred : (bars_refusal r m).number ≡ 0 → Barred r m
  unfolding bars_refusal
  unrefused_barred e =
      let nought = refused_if (eqb r 0) 8 0 in
      let large = refused_if (ltb (2 ^ 62) r) 3 0 in
      let few = refused_if (ltb m 10) 1 0 in
      let many = refused_if (ltb 32767 m) 2 0 in
      let after-nought = rest_refuses_nothing nought (large then few then many) e in
      let after-large = rest_refuses_nothing large (few then many) after-nought in
      let above : r ≡ 0 → ⊥ = eqb-false r 0 (test_fails _ 8 0 (omega arith) (first_refuses_nothing nought (large then few then many) e)) in record {
        some = omega arith;
        most = ltb-false (2 ^ 62) r (test_fails _ 3 0 (omega arith) (first_refuses_nothing large (few then many) after-nought));
        enough = ltb-false m 10 (test_fails _ 1 0 (omega arith) (first_refuses_nothing few many after-large));
        not_too_many = ltb-false 32767 m (test_fails _ 2 0 (omega arith) (rest_refuses_nothing few many after-large));
      }

pub nothing_refused : {r m : ℕ} → none ≡ bars_refusal r m → Barred r m
nothing_refused {r} {m} is = unrefused_barred r m (refuses_nothing is)

-- ---- the width

pub kappa_within : (t : Noise) → kappa_of t < 100
unfolding kappa_of
kappa_within WhitePhase = omega arith
kappa_within FlickerPhase = omega arith
kappa_within WhiteFrequency = omega arith
kappa_within FlickerFrequency = omega arith
kappa_within RandomWalkFrequency = omega arith

-- kappa times the hundreds and the rest of r, apart
pub width_in_parts : (r kappa : ℕ) → kappa * (r / 100) + kappa * (r % 100) / 100 ≡ kappa * r / 100
width_in_parts r kappa =
    let whole : 100 * (kappa * (r / 100)) + kappa * (r % 100) ≡ kappa * r =
    omega (arith, mul_left_comm 100 kappa (r / 100), mul-add kappa (100 * (r / 100)) (r % 100), ap (λ (t : ℕ). kappa * t) (div-add-mod r 100)) in
    sym (mul-add-div {m = 100} (omega arith) (kappa * (r / 100)) (kappa * (r % 100))) ∙ ap (λ (n : ℕ). n / 100) whole

module _ (r kappa : ℕ) (below : kappa < 100) where
  -- 100 w is at most 99 r
  pub hundred_widths : 100 * (kappa * r / 100) ≤ 99 * r
  hundred_widths = omega (arith, mul-le-mul_right {m = kappa} {n = 99} r (omega arith))

-- ---- the half

module _ (w m : ℕ) (some : 1 ≤ m) where
  -- the test of the half, and that of the root of w^2 / m
  tests_are_one : (h : ℕ) → leb (h * h) (w * w / m) ≡ leb (h * h * m) (w * w)
  tests_are_one h =
      tests_agree (leb (h * h) (w * w / m)) (leb (h * h * m) (w * w))
      (λ passes. le-leb _ _ ((le-div_iff_mul-le some).0 (leb-true _ _ passes)))
      (λ passes. le-leb _ _ ((le-div_iff_mul-le some).1 (leb-true _ _ passes)))

  pub root_is_half : square_root (w * w / m) ≡ greatest 64 (λ h. leb (h * h * m) (w * w))
  unfolding square_root
  root_is_half = ap (greatest 64) (λ i h. tests_are_one h i)

  pub half_of_squares : w < 2 ^ 64 → Greatest (λ h. leb (h * h * m) (w * w)) (greatest 64 (λ h. leb (h * h * m) (w * w)))
  unfolding square_root
  half_of_squares below =
      subst (λ (test : ℕ → Bool). Greatest test (greatest 64 test)) (λ i h. tests_are_one h i)
      (square_root_is_greatest (w * w / m) (lt_of_le_of_lt (div-le_self (w * w) m) (product_below (2 ^ 64) w w below below)))

  -- as the words compute it
  pub half_of_words :
      {p : Wide} {d : Division} {h : ℕ} → p ≡ halves (w * w) → division_of (value p) m ≡ Some d → h ≡ square_root (value d.quotient) →
      h ≡ greatest 64 (λ h. leb (h * h * m) (w * w))
  half_of_words p-is d-is h-is =
      let number : value (halves (w * w)) ≡ w * w = value_of_halves (w * w) in
      let divided = ap (λ (n : ℕ). division_of n m) (sym number) ∙ ap (λ (s : Wide). division_of (value s) m) (sym p-is) ∙ d-is in
      h-is ∙ ap square_root (ap value (quotient_given (w * w) m some divided) ∙ value_of_halves (w * w / m)) ∙ root_is_half

  pub half_not_above : {h : ℕ} → Greatest (λ h. leb (h * h * m) (w * w)) h → h ≤ w
  half_not_above {h} is =
      let within : h * h * m ≤ w * w = leb→le _ _ is.passes in
      let not_above : w < h → ⊥ = λ above. omega (arith, product_below h w w above above, mul-le-mul_left (h * h) some) in
      omega arith

-- ---- of a deviation r up to 2^62 with noise of a type over M intervals, M above nought
module _ (r : ℕ) (t : Noise) (m : ℕ) (most : r ≤ 2 ^ 62) (some : 1 ≤ m) where
  -- h^2 M is not above w^2, and no greater number's is
  pub half_is_greatest : Greatest (λ h. leb (h * h * m) (bar_width r t * bar_width r t)) (bar_half r t m)
  unfolding bar_width bar_half
  half_is_greatest = half_of_squares (bar_width r t) m some (omega (arith, hundred_widths r (kappa_of t) (kappa_within t)))

  -- and it is the only such number
  pub half_is_only : (h : ℕ) → Greatest (λ h. leb (h * h * m) (bar_width r t * bar_width r t)) h → h ≡ bar_half r t m
  half_is_only h is = one_greatest is half_is_greatest

-- ---- h is below r, so that r - h is at least 1

-- whatever kappa below 100 hundredths the width is of, and however many intervals: h^2 is at most h^2 M, which is at most w^2
pub below_deviation : (r kappa m : ℕ) → kappa < 100 → 1 ≤ r → 1 ≤ m → {h : ℕ} → Greatest (λ k. leb (k * k * m) (kappa * r / 100 * (kappa * r / 100))) h → h < r
below_deviation r kappa m below least some is =
    omega (arith, half_not_above (kappa * r / 100) m some is, hundred_widths r kappa below)

pub half_below : {r m : ℕ} (t : Noise) → Barred r m → bar_half r t m < r
unfolding bar_width
half_below {r} {m} t known =
    let some : 1 ≤ m = omega (arith, known.enough) in
    below_deviation r (kappa_of t) m (kappa_within t) known.some some (half_is_greatest r t m known.most some)

-- ---- the answers

abbrev pub given : Bar → BarsAnswer
given bar = record { number = 0; place = 0; bar = bar }

abbrev pub given_up : Refusal → Bar → BarsAnswer
given_up refusal bar = record { number = refusal.number; place = refusal.place; bar = bar }

module _ (r : ℕ) (t : Noise) (m : ℕ) where
  -- the half from kappa and the width
  pub half_is : {kappa w h : ℕ} → kappa ≡ kappa_of t → w ≡ kappa * r / 100 → h ≡ greatest 64 (λ k. leb (k * k * m) (w * w)) → h ≡ bar_half r t m
  unfolding bar_width bar_half
  half_is kappa-is w-is h-is =
      h-is ∙ ap (λ (w : ℕ). greatest 64 (λ k. leb (k * k * m) (w * w))) (w-is ∙ ap (λ (kappa : ℕ). kappa * r / 100) kappa-is)

  pub bars_error : (e : Refused) → refused (number_of e.why) e.place ≡ bars_refusal r m → bars_told (Err e) ≡ bars_answer r t m
  unfolding bars_answer
  bars_error e is = ap (λ (refusal : Refusal). given_up refusal no_bar) is ∙ sym (choice_false _ _ (ne_eqb _ 0 (refuses e is)))

  pub bars_given : none ≡ bars_refusal r m → {h : ℕ} → h ≡ bar_half r t m → {bar : Bar} → bar ≡ bar_of r h → given bar ≡ bars_answer r t m
  unfolding bars_answer
  bars_given is h-is bar-is = ap given (bar-is ∙ ap (bar_of r) h-is) ∙ sym (choice_true _ _ (eq-eqb _ 0 (refuses_nothing is)))

-- ---- a bar's ends are in order: the lower is not above the deviation, nor that above the upper

abbrev pub InOrder : Bar → Type 0
InOrder bar = T (le bar.low bar.mid) × T (le bar.mid bar.high)

drawn_ends_in_order : (r h : ℕ) → InOrder (bar_of r h)
unfolding bar_of
drawn_ends_in_order r h = (drawn_in_order (omega arith), drawn_in_order (omega arith))

zero_not_above_zero : T (le plus_zero plus_zero)
zero_not_above_zero = le_of_values plus_zero plus_zero 0 1 0 1 (omega arith) (omega arith) (refl, refl) (refl, refl) (omega arith)

-- of every answer
pub ends_in_order : (r : ℕ) (t : Noise) (m : ℕ) → InOrder (bars_answer r t m).bar
unfolding bars_answer no_bar
ends_in_order r t m = by_refusal (eqb (bars_refusal r m).number 0)
  where
    by_refusal : (nothing : Bool) → InOrder (cond nothing (given (bar_of r (bar_half r t m))) (given_up (bars_refusal r m) no_bar)).bar
    by_refusal true = drawn_ends_in_order r (bar_half r t m)
    by_refusal false = (zero_not_above_zero, zero_not_above_zero)
