-- A drawn number is the one greatest double not above r / 2^20, and drawn numbers keep the order of what they are drawn from.
use Rattle.std.proofs.Common.{◌≡◌, ℕ, suc, ◌+◌, ◌*◌, ◌^◌, ◌<◌, ◌≤◌, true, false, T, ℤ, pos, negsuc, sym, refl, ap, ◌∙◌, le_trans, le_of_eq, mul-le-mul_right, mul_assoc, mul-one, arith, lit≤, pow_pos, pow-add, le-leb}
use borrow.Author.Tests.{lt-leb}
use lib.Ieee.{Float, nan, inf, fin, binary64, up, down, le, fits}
use lib.Ieee.Fits.{down_pos, round-fits}
use lib.Ieee.Exact.{HasValue}
use lib.Ieee.Order.{le_of_values, round_mono}
use lib.Ieee.Positive.{positive, positive_of_value, between}
use Rattle.plot.specs.Drawn.{plus_zero, NotAbove, GreatestDouble, drawn_number, drawn_refusal, drawn_answer}
use Rattle.plot.specs.declared.drawn.DrawnAnswer.{DrawnAnswer}
use Rattle.plot.proofs.Grid.{dropped, kept, kept_not_above, kept_above_nought, kept_in_order, none_above_scaled}
use Rattle.plot.proofs.Doubles.{kept_exact, digits_below, neither_less_same, minus_not_above, minus_infinity_not_above}

-- ---- no double lies between

-- of the doubles m * 2^e, none is above kept r / 2^20 and not above r / 2^20
none_between : (m r : ℕ) (e : ℤ) → m < 2 ^ 53 → m * up e * 2 ^ 20 ≤ r * down e → m * up e * 2 ^ 20 ≤ kept r * down e
none_between m r (pos k) digits most =
    let joined : m * 2 ^ k * 2 ^ 20 ≡ m * 2 ^ (k + 20) = mul_assoc m (2 ^ k) (2 ^ 20) ∙ ap (λ (x : ℕ). m * x) (sym (pow-add 2 k 20)) in
    le_trans (le_of_eq joined) (none_above_scaled m (k + 20) 0 r digits (le_trans (le_of_eq (sym joined)) most))
none_between m r (negsuc k) digits most =
    let joined : m * 1 * 2 ^ 20 ≡ m * 2 ^ 20 = ap (λ (x : ℕ). x * 2 ^ 20) (mul-one m) in
    le_trans (le_of_eq joined) (none_above_scaled m 20 (suc k) r digits (le_trans (le_of_eq (sym joined)) most))

value_not_above : (x : Float) (w r : ℕ) → w ≤ r → HasValue x false w (2 ^ 20) → NotAbove x r (2 ^ 20)
value_not_above (fin true m e) w r order value = tt
value_not_above (fin false m e) w r order value = le_trans (le_of_eq value.1) (mul-le-mul_right (down e) order)
value_not_above nan w r order value = elim value [ ]
value_not_above (inf _) w r order value = elim value [ ]

module _ (r : ℕ) (x : Float) (least : 1 ≤ r) (value : HasValue x false (kept r) (2 ^ 20)) where
  above_nought : T (positive x)
  above_nought = positive_of_value x (kept r) (2 ^ 20) value (kept_above_nought r least)

  none_greater : (y : Float) → T (fits binary64 y) → NotAbove y r (2 ^ 20) → T (le y x)
  none_greater (inf true) double most = minus_infinity_not_above x above_nought
  none_greater (fin true m e) double most = minus_not_above m e x above_nought
  none_greater (fin false m e) double most =
      le_of_values (fin false m e) x (m * up e) (down e) (kept r) (2 ^ 20) (down_pos e) (pow_pos 20) (refl, refl) value
      (none_between m r e (digits_below false m e double) most)
  none_greater nan double most = elim most [ ]
  none_greater (inf false) double most = elim most [ ]

-- ---- the drawn number

module _ {r : ℕ} (least : 1 ≤ r) (most : r ≤ 2 ^ 63) where
  -- its exact value: r with all but its top 53 binary digits cleared, over 2^20
  pub drawn_value : HasValue (drawn_number r) false (kept r) (2 ^ 20)
  unfolding drawn_number kept dropped
  drawn_value = kept_exact r 20 (omega arith) (lit≤ tt)

  pub drawn_above_nought : T (positive (drawn_number r))
  drawn_above_nought = above_nought r (drawn_number r) least drawn_value

  drawn_double : T (fits binary64 (drawn_number r))
  unfolding drawn_number kept dropped
  drawn_double = round-fits binary64 false (kept r) (2 ^ 20)

  -- a drawn number is the greatest double not above r / 2^20
  pub drawn_is_greatest : GreatestDouble r (drawn_number r)
  drawn_is_greatest = record {
    double = drawn_double;
    not_above = value_not_above (drawn_number r) (kept r) r (kept_not_above r) drawn_value;
    greatest = none_greater r (drawn_number r) least drawn_value;
  }

  -- and there is no other
  pub greatest_is_drawn : {x : Float} → GreatestDouble r x → x ≡ drawn_number r
  greatest_is_drawn {x} greatest-x =
      let drawn = drawn_number r in
      let not_less : T (le drawn x) = greatest-x.greatest drawn drawn_is_greatest.double drawn_is_greatest.not_above in
      let not_more : T (le x drawn) = drawn_is_greatest.greatest x greatest-x.double greatest-x.not_above in
      let above : T (positive x) = between drawn x drawn drawn_above_nought drawn_above_nought not_less not_more in
      neither_less_same x drawn greatest-x.double drawn_double above drawn_above_nought not_more not_less

  pub one_greatest : {x y : Float} → GreatestDouble r x → GreatestDouble r y → x ≡ y
  one_greatest one other = greatest_is_drawn one ∙ sym (greatest_is_drawn other)

-- the order is kept
pub drawn_in_order : {r s : ℕ} → r ≤ s → T (le (drawn_number r) (drawn_number s))
unfolding drawn_number kept dropped
drawn_in_order {r} {s} order = round_mono binary64 (kept r) (2 ^ 20) (kept s) (2 ^ 20) (pow_pos 20) (pow_pos 20) (mul-le-mul_right (2 ^ 20) (kept_in_order order))

-- ---- the entry

abbrev pub given_number : Float → DrawnAnswer
given_number x = record { number = 0; place = 0; value = x }

abbrev pub no_drawn_number : DrawnAnswer
no_drawn_number = record { number = 3; place = 0; value = plus_zero }

module _ (r : ℕ) where
  pub nought_refused : r < 1 → drawn_answer r ≡ no_drawn_number
  unfolding drawn_refusal drawn_answer
  nought_refused nought = rw (lt-leb 1 r nought)

  pub above_refused : 2 ^ 63 < r → drawn_answer r ≡ no_drawn_number
  unfolding drawn_refusal drawn_answer
  above_refused above = rw (le-leb 1 r (omega arith), lt-leb r (2 ^ 63) above)

  pub drawn_given : 1 ≤ r → r ≤ 2 ^ 63 → drawn_answer r ≡ given_number (drawn_number r)
  unfolding drawn_refusal drawn_answer
  drawn_given least most = rw (le-leb 1 r least, le-leb r (2 ^ 63) most)
