-- The quieter of two records by what its contract says: by the published variances, by the fractions that they are in lowest terms, and the record itself.
use mathlib.Core.Path.{◌≡◌, refl, sym, ap, ◌∙◌}
use mathlib.Core.Bool.{Bool, true, false, cond}
use mathlib.Core.List.{List, []}
use Prim.Native.Nat.{ℕ, ◌+◌, ◌-◌, ◌*◌, ◌≤◌, ◌<◌}
use native.Mathlib.Decide.{dec_le}
use native.Mathlib.Nat.{dvd-zero, mul-le-mul_left, mul-pos, le_of_mul-le-mul_left}
use native.Mathlib.Omega.{arith}
use borrow.Author.Tests.{eqb-false, le-leb, lt-leb}
use denote.Ref.{Bor}
use lib.Dec.{eqb}
use lib.IntN.{ℤ}
use lib.ListN.{length}
use Rattle.record.specs.Refusals.{record_refusal}
use Rattle.record.specs.declared.Refusal.{Refusal}
use Rattle.record.proofs.RefusalLaws.{unrefused_sound, first_refuses_nothing, rest_refuses_nothing}
use Rattle.sums.specs.Answers.{allan_demand}
use Rattle.sums.specs.Published.{allan_sum, allan_count, allan_denominator}
use Rattle.compare.specs.Quieter.{quieter_refusal, not_above, quieter_answer, empty_part, quieter_record}
use Rattle.compare.specs.declared.QuieterAnswer.{QuieterAnswer}
use Rattle.compare.proofs.QuieterLaws.{first_handed, second_handed, none_handed}
use Rattle.acceptance.specs.Noughts.{Refused}
use Rattle.acceptance.specs.Grounds.{NoRow, OfQuieter}
use Rattle.acceptance.specs.Promises.{FractionOf, QuieterOf}
use Rattle.acceptance.specs.Calls.{Compares}
use Rattle.acceptance.specs.Calls
use Rattle.acceptance.proofs.Grounding.{rowless_none}
use Rattle.acceptance.proofs.ChannelGrounds.{quieter_agrees}
use Rattle.acceptance.proofs.NoughtLaws.{which_nought}

-- ---- by the variances

-- what is told where nothing is refused
which_told : (m : ℕ) (xs ys : List ℤ) → (quieter_answer m xs ys).number ≡ 0 → (quieter_answer m xs ys).which ≡ cond (not_above m xs ys) 1 2
unfolding quieter_answer
which_told m xs ys = by_number (eqb (quieter_refusal m xs ys).number 0) refl
  where
    by_number : (t : Bool) → eqb (quieter_refusal m xs ys).number 0 ≡ t →
        let z : QuieterAnswer = cond t (record { number = 0; place = 0; which = cond (not_above m xs ys) 1 2 }) (record { number = (quieter_refusal m xs ys).number; place = (quieter_refusal m xs ys).place; which = 0 }) in
        z.number ≡ 0 → z.which ≡ cond (not_above m xs ys) 1 2
    by_number true e zero = refl
    by_number false e zero = absurd (eqb-false (quieter_refusal m xs ys).number 0 e zero)

pub quieter_of : (m : ℕ) (xs ys : List ℤ) → (quieter_answer m xs ys).number ≡ 0 → QuieterOf m xs ys (quieter_answer m xs ys).which
unfolding not_above allan_denominator allan_count
quieter_of m xs ys answered = record {
  not_above = λ below. which_told m xs ys answered ∙ ap (λ (t : Bool). cond t 1 2) (le-leb _ _ below);
  above = λ over. which_told m xs ys answered ∙ ap (λ (t : Bool). cond t 1 2) (lt-leb _ _ over);
}

-- ---- by the fractions

nought_product : (p d : ℕ) → 0 < d → p * d ≡ 0 → p ≡ 0
nought_product p d some none = by_order (dec_le 1 p)
  where
    by_order : Dec (1 ≤ p) → p ≡ 0
    by_order (yes least) = absurd (omega (arith, mul-pos least some, none))
    by_order (no nought) = omega arith

-- a fraction in lowest terms has a denominator above nought
denominator_some : {a d p q : ℕ} → 0 < d → FractionOf a d p q → 0 < q
denominator_some {a} {d} {p} {q} some fraction = by_order (dec_le 1 q)
  where
    by_order : Dec (1 ≤ q) → 0 < q
    by_order (yes least) = least
    by_order (no nought) =
        let q_none : q ≡ 0 = omega arith in
        let none : p * d ≡ 0 = omega (arith, fraction.same_value, ap (λ (n : ℕ). a * n) q_none) in
        let p_none : p ≡ 0 = nought_product p d some none in
        absurd (omega (arith, fraction.lowest 2 (rw p_none (dvd-zero 2)) (rw q_none (dvd-zero 2))))

-- p1 / q1 = a1 / d1 and p2 / q2 = a2 / d2, so that one order is the other's
module _ {a1 d1 p1 q1 a2 d2 p2 q2 : ℕ} (some : 0 < d1) (some-too : 0 < d2) (one : FractionOf a1 d1 p1 q1) (two : FractionOf a2 d2 p2 q2) where
  left_scaled : q1 * q2 * (a1 * d2) ≡ d1 * d2 * (p1 * q2)
  left_scaled = omega (arith, ap (λ (n : ℕ). n * (q2 * d2)) one.same_value)

  right_scaled : q1 * q2 * (a2 * d1) ≡ d1 * d2 * (p2 * q1)
  right_scaled = omega (arith, ap (λ (n : ℕ). n * (q1 * d1)) two.same_value)

  order_kept : p1 * q2 ≤ p2 * q1 → a1 * d2 ≤ a2 * d1
  order_kept below =
      le_of_mul-le-mul_left (rw (left_scaled, right_scaled) (mul-le-mul_left (d1 * d2) below)) (mul-pos (denominator_some some one) (denominator_some some-too two))

  order_given : a1 * d2 ≤ a2 * d1 → p1 * q2 ≤ p2 * q1
  order_given below = le_of_mul-le-mul_left (rw (← left_scaled, ← right_scaled) (mul-le-mul_left (q1 * q2) below)) (mul-pos some some-too)

-- both records are long enough, so that neither variance is a fraction over nought
denominator_of : (m n : ℕ) → 1 ≤ m → 2 * m + 1 ≤ n → 0 < 2 * (m * m) * (n - 2 * m)
denominator_of m n least enough =
    let two : 0 < 2 = omega arith in
    let terms : 0 < n - 2 * m = omega arith in
    mul-pos (mul-pos two (mul-pos least least)) terms

pub records_due : (m : ℕ) (xs ys : List ℤ) → NoRow (OfQuieter m xs ys) → (0 < 2 * (m * m) * (length xs - 2 * m)) × (0 < 2 * (m * m) * (length ys - 2 * m))
unfolding quieter_refusal
records_due m xs ys rowless =
    let nothing : (quieter_refusal m xs ys).number ≡ 0 = ap (λ (r : Refusal). r.number) (rowless_none (quieter_agrees m xs ys) rowless) in
    let one : Refusal = record_refusal allan_demand m xs in
    let other : Refusal = record_refusal allan_demand m ys in
    let first = unrefused_sound allan_demand m xs (first_refuses_nothing one other nothing) in
    let second = unrefused_sound allan_demand m ys (rest_refuses_nothing one other nothing) in
    (denominator_of m (length xs) first.factor_least first.enough, denominator_of m (length ys) second.factor_least second.enough)

pub by_fractions : (m : ℕ) (xs ys : List ℤ) {which p1 q1 p2 q2 : ℕ} → 0 < 2 * (m * m) * (length xs - 2 * m) → 0 < 2 * (m * m) * (length ys - 2 * m) → QuieterOf m xs ys which →
    FractionOf (allan_sum m xs) (2 * (m * m) * (length xs - 2 * m)) p1 q1 → FractionOf (allan_sum m ys) (2 * (m * m) * (length ys - 2 * m)) p2 q2 →
    (p1 * q2 ≤ p2 * q1 → which ≡ 1) × (p2 * q1 < p1 * q2 → which ≡ 2)
by_fractions m xs ys {which} {p1} {q1} {p2} {q2} some some-too quieter one two =
    (λ below. quieter.not_above (order_kept some some-too one two below), λ over. by_order over (dec_le a b))
  where
    a : ℕ
    a = allan_sum m xs * (2 * (m * m) * (length ys - 2 * m))

    b : ℕ
    b = allan_sum m ys * (2 * (m * m) * (length xs - 2 * m))

    by_order : p2 * q1 < p1 * q2 → Dec (a ≤ b) → which ≡ 2
    by_order over (yes below) = absurd (omega (arith, over, order_given some some-too one two below))
    by_order over (no above) = quieter.above (omega (arith, above))

-- ---- the record itself

pub handed_as_told : (m : ℕ) (first second : Bor (List ℤ)) (y : QuieterAnswer) → Compares first.now second.now m y →
    let z : Bor (List ℤ) = quieter_record m first second in
    (y.which ≡ 1 → z ≡ first) × (y.which ≡ 2 → z ≡ second) × (Refused y.number → (z.ref_ptr ≡ first.ref_ptr) × (z.now ≡ []))
unfolding empty_part
handed_as_told m first second y (Calls.by_contract κs place other told) = (
  λ is. sym (first_handed m first second told is),
  λ is. sym (second_handed m first second told is),
  λ refused.
      let nought : y.which ≡ 0 = ap (λ (z : QuieterAnswer). z.which) told ∙ which_nought m first.now second.now (rw told at refused) in
      let empty = none_handed m first second told (λ one. omega arith) (λ two. omega arith) in
      (ap (λ (z : Bor (List ℤ)). z.ref_ptr) (sym empty), ap (λ (z : Bor (List ℤ)). z.now) (sym empty)),
)
