-- The cases of the answer in their order; that A1 K2 against A2 K1 compares the variances; and that the products stay within two halves.
use mathlib.Core.Path.{◌≡◌, refl, sym, ap, ◌∙◌}
use mathlib.Core.Bool.{Bool, true, false, cond}
use mathlib.Core.List.{List}
use Prim.Native.Nat.{ℕ, ◌+◌, ◌*◌, ◌^◌, ◌≤◌, ◌<◌}
use native.Mathlib.Nat.{mul-le-mul, mul-le-mul_left, mul-pos, le_of_mul-le-mul_left}
use native.Mathlib.Omega.{arith}
use borrow.Author.Tests.{eq-eqb, ne_eqb, eqb-true, le-leb, leb-true}
use denote.Ref.{Bor}
use lib.Dec.{leb, eqb}
use lib.IntN.{ℤ}
use Rattle.laws.proofs.Tests.{choice_true, choice_false, tests_agree}
use Rattle.wide.specs.Wide.{value, halves, wide_sum}
use Rattle.wide.specs.declared.Wide.{Wide}
use Rattle.wide.proofs.WideLaws.{value_of_halves, sum_is_halves, below_top}
use Rattle.record.specs.Refusals.{record_refusal}
use Rattle.record.specs.declared.Refusal.{Refusal}
use Rattle.record.proofs.RefusalLaws.{Sound, refusal_stands, none_gives_way, unrefused_sound}
use Rattle.sums.specs.Published.{allan_sum, allan_count, allan_denominator}
use Rattle.sums.specs.Answers.{allan_demand, allan_sum_answer, sum_answer}
use Rattle.sums.specs.declared.SumAnswer.{SumAnswer}
use Rattle.sums.proofs.AnswerLaws.{no_sum, given_sum, allan_sum_refused, allan_sum_given}
use Rattle.sums.proofs.PublishedLaws.{allan_within}
use Rattle.compare.specs.Quieter.{quieter_refusal, not_above, quieter_answer, empty_part, quieter_record}
use Rattle.compare.specs.declared.QuieterAnswer.{QuieterAnswer}

-- ---- products of a sum and a count

halves_times : (h l n : ℕ) → h * n * 2 ^ 64 + 0 + l * n ≡ (h * 2 ^ 64 + l) * n
halves_times h l n = omega arith

product_below : (n count : ℕ) → n < 2 ^ 100 → count ≤ 32768 → n * count < 2 ^ 126
product_below n count below few = omega (arith, mul-le-mul below few)

-- a number below 2^100 times a count: the high half's product and the low half's, added
pub times_in_halves : (a : Wide) (count : ℕ) → value a < 2 ^ 100 → count ≤ 32768 → wide_sum (record { hi = a.hi * count; lo = 0 }) (halves (a.lo * count)) ≡ halves (value a * count)
times_in_halves a count below few =
    let upper : Wide = record { hi = a.hi * count; lo = 0 } in
    let together : value upper + value (halves (a.lo * count)) ≡ value a * count = rw (value_of_halves (a.lo * count)) (halves_times a.hi a.lo count) in
    sum_is_halves upper (halves (a.lo * count)) (rw together (below_top (product_below (value a) count below few))) ∙ ap halves together

pub high_times_fits : (a : Wide) (count : ℕ) → value a < 2 ^ 100 → count ≤ 32768 → a.hi * count < 2 ^ 64
high_times_fits a count below few = let high : a.hi < 2 ^ 36 = omega arith in omega (arith, mul-le-mul high few)

-- a sum of squares of at most 2^84 each
pub within_hundred_bits : {n count : ℕ} → count ≤ 32768 → n ≤ count * 2 ^ 84 → n < 2 ^ 100
within_hundred_bits few within = omega arith

pub products_compared : {p q : Wide} (x y : ℕ) {t : Bool} → p ≡ halves x → q ≡ halves y → t ≡ leb (value p) (value q) → t ≡ leb x y
products_compared x y p-is q-is told = told ∙ rw (p-is, q-is, value_of_halves x, value_of_halves y) refl

-- ---- fractions with a factor in both denominators

-- a / (d k) is not above b / (d l) exactly where a l is not above b k
pub crosswise : (d a k b l : ℕ) → 0 < d → leb (a * l) (b * k) ≡ leb (a * (d * l)) (b * (d * k))
crosswise d a k b l some =
    let left : a * (d * l) ≡ d * (a * l) = omega arith in
    let right : b * (d * k) ≡ d * (b * k) = omega arith in
    rw (left, right) (tests_agree _ _
    (λ below. le-leb _ _ (mul-le-mul_left d (leb-true _ _ below)))
    (λ below. le-leb _ _ (le_of_mul-le-mul_left (leb-true (d * (a * l)) (d * (b * k)) below) some)))

-- ---- what a record that is not refused gives

module _ (m : ℕ) (xs : List ℤ) (sound : Sound allan_demand m xs) where
  pub count_within : allan_count m xs ≤ 32768
  unfolding allan_count
  count_within = omega (arith, sound.not_too_many)

  pub sum_within_count : allan_sum m xs ≤ allan_count m xs * 2 ^ 84
  unfolding allan_sum
  sum_within_count = allan_within m xs sound.bounded (allan_count m xs)

-- a sum's answer has the number of its record's refusal
sum_number : (r : Refusal) (s count : ℕ) → (sum_answer r s count).number ≡ r.number
unfolding sum_answer
sum_number r s count = by_number (eqb r.number 0) refl
  where
    by_number : (t : Bool) → eqb r.number 0 ≡ t → (cond t (given_sum s count) (no_sum r)).number ≡ r.number
    by_number true e = sym (eqb-true r.number 0 e)
    by_number false e = refl

pub allan_sum_number : (m : ℕ) (xs : List ℤ) {z : SumAnswer} → z ≡ allan_sum_answer m xs → z.number ≡ (record_refusal allan_demand m xs).number
unfolding allan_sum_answer
allan_sum_number m xs is = ap (λ (y : SumAnswer). y.number) is ∙ sum_number _ _ _

pub allan_sum_sound : (m : ℕ) (xs : List ℤ) {z : SumAnswer} → z ≡ allan_sum_answer m xs → z.number ≡ 0 → Sound allan_demand m xs
allan_sum_sound m xs is nothing = unrefused_sound allan_demand m xs (sym (allan_sum_number m xs is) ∙ nothing)

-- ---- the answer, case by case

abbrev none_for : Refusal → QuieterAnswer
none_for r = record { number = r.number; place = r.place; which = 0 }

module _ (m : ℕ) (first second : List ℤ) where
  answer_refused : (r : Refusal) → quieter_refusal m first second ≡ r → (r.number ≡ 0 → ⊥) → quieter_answer m first second ≡ none_for r
  unfolding quieter_answer
  answer_refused r is some = rw is (choice_false _ _ (ne_eqb r.number 0 some))

  module _ {one : SumAnswer} (one-is : one ≡ allan_sum_answer m first) where
    -- the first record is refused
    pub first_refused : (one.number ≡ 0 → ⊥) → record { number = one.number; place = one.place; which = 0 } ≡ quieter_answer m first second
    unfolding quieter_refusal
    first_refused refused =
        let some : (record_refusal allan_demand m first).number ≡ 0 → ⊥ = λ e. refused (allan_sum_number m first one-is ∙ e) in
        ap (λ (z : SumAnswer). record { number = z.number; place = z.place; which = 0 }) (one-is ∙ allan_sum_refused m first some)
        ∙ sym (answer_refused _ (refusal_stands _ _ some) some)

    module _ {two : SumAnswer} (two_is : two ≡ allan_sum_answer m second) (answered : one.number ≡ 0) where
      -- the first is not, and the second is
      pub second_refused : (two.number ≡ 0 → ⊥) → record { number = two.number; place = two.place; which = 0 } ≡ quieter_answer m first second
      unfolding quieter_refusal
      second_refused refused =
          let some : (record_refusal allan_demand m second).number ≡ 0 → ⊥ = λ e. refused (allan_sum_number m second two_is ∙ e) in
          ap (λ (z : SumAnswer). record { number = z.number; place = z.place; which = 0 }) (two_is ∙ allan_sum_refused m second some)
          ∙ sym (answer_refused _ (none_gives_way _ _ (sym (allan_sum_number m first one-is) ∙ answered)) some)

      module _ (answered-too : two.number ≡ 0) where
        sound : Sound allan_demand m first
        sound = allan_sum_sound m first one-is answered

        sound_too : Sound allan_demand m second
        sound_too = allan_sum_sound m second two_is answered-too

        sum_is : (value one.sum ≡ allan_sum m first) × (one.count ≡ allan_count m first)
        sum_is = rw (one-is, allan_sum_given m first sound) (value_of_halves _, refl)

        sum_is_too : (value two.sum ≡ allan_sum m second) × (two.count ≡ allan_count m second)
        sum_is_too = rw (two_is, allan_sum_given m second sound_too) (value_of_halves _, refl)

        -- the products stay within two halves
        pub sums_within : (one.count ≤ 32768) × (two.count ≤ 32768) × (value one.sum ≤ one.count * 2 ^ 84) × (value two.sum ≤ two.count * 2 ^ 84)
        sums_within = rw (sum_is.0, sum_is.1, sum_is_too.0, sum_is_too.1) (
          count_within m first sound,
          count_within m second sound_too,
          sum_within_count m first sound,
          sum_within_count m second sound_too,
        )

        -- what is compared is the variances
        compared : leb (value one.sum * two.count) (value two.sum * one.count) ≡ not_above m first second
        unfolding not_above allan_denominator
        compared = rw (sum_is.0, sum_is.1, sum_is_too.0, sum_is_too.1)
            (crosswise (2 * (m * m)) (allan_sum m first) (allan_count m first) (allan_sum m second) (allan_count m second)
            (mul-pos (omega arith) (mul-pos sound.factor_least sound.factor_least)))

        pub record_chosen : {t : Bool} (which : ℕ) → t ≡ leb (value one.sum * two.count) (value two.sum * one.count) → cond t 1 2 ≡ which →
            record { number = 0; place = 0; which = which } ≡ quieter_answer m first second
        unfolding quieter_answer quieter_refusal
        record_chosen which told chosen =
            let nothing : (quieter_refusal m first second).number ≡ 0 = ap (λ (r : Refusal). r.number) (none_gives_way _ _ (sym (allan_sum_number m first one-is) ∙ answered))
            ∙ (sym (allan_sum_number m second two_is) ∙ answered-too) in
            sym (choice_true _ _ (eq-eqb _ 0 nothing) ∙ ap (λ (w : ℕ). record { number = 0; place = 0; which = w }) (ap (λ (t : Bool). cond t 1 2) (sym (told ∙ compared)) ∙ chosen))

-- ---- the record that is handed back

module _ (m : ℕ) (first second : Bor (List ℤ)) {answer : QuieterAnswer} (told : answer ≡ quieter_answer m first.now second.now) where
  same_which : (quieter_answer m first.now second.now).which ≡ answer.which
  same_which = ap (λ (z : QuieterAnswer). z.which) (sym told)

  pub first_handed : answer.which ≡ 1 → first ≡ quieter_record m first second
  unfolding quieter_record
  first_handed is = sym (choice_true _ _ (eq-eqb _ 1 (same_which ∙ is)))

  pub second_handed : answer.which ≡ 2 → second ≡ quieter_record m first second
  unfolding quieter_record
  second_handed is = rw (same_which, is) refl

  pub none_handed : (answer.which ≡ 1 → ⊥) → (answer.which ≡ 2 → ⊥) → empty_part first ≡ quieter_record m first second
  unfolding quieter_record
  none_handed not_first not-second = rw (same_which, ne_eqb _ 1 not_first, ne_eqb _ 2 not-second) refl
