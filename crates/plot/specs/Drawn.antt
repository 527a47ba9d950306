-- Drawn numbers: the greatest double not above r / 2^20.
use Rattle.std.specs.Prelude.{ℕ, ◌-◌, ◌*◌, ◌/◌, ◌^◌, ◌≤◌, true, false, cond, not, ◌&&◌, T, pos, ◌==◌, nat_le, Float}
use Rattle.std.specs.Float.{nan, inf, fin, binary64}
use Rattle.std.specs.Float.Ieee.{up, down, size, round, le, fits}
use Rattle.record.specs.Refusals.{refused_if}
use Rattle.record.specs.declared.Refusal.{Refusal}
use Rattle.plot.specs.declared.drawn.DrawnAnswer.{DrawnAnswer}

-- plus zero
abbrev pub plus_zero : Float
plus_zero = fin false 0 (pos 0)

-- ---- what it means

-- y is a number, or minus infinity, that is not above a / c; m * up e / down e is m * 2^e
abbrev pub NotAbove : Float → ℕ → ℕ → Type 0
NotAbove nan a c = ⊥
NotAbove (inf s) a c = T s
NotAbove (fin true m e) a c = Unit
NotAbove (fin false m e) a c = m * up e * c ≤ a * down e

-- x is a double, not above r / 2^20, and no double that is not above is greater
pub record GreatestDouble (r : ℕ) (x : Float) : Type 0 where
  pub double : T (fits binary64 x)
  pub not_above : NotAbove x r (2 ^ 20)
  pub greatest : (y : Float) → T (fits binary64 y) → NotAbove y r (2 ^ 20) → T (le y x)

-- ---- how it is built

-- the double whose exact value is r over 2^20, r with all but its top 53 binary digits cleared
unfoldable pub drawn_number : ℕ → Float
drawn_number r = round binary64 false (r / 2 ^ (size r - 53) * 2 ^ (size r - 53)) (2 ^ 20)

-- ---- the entry: r from 1 to 2^63; any other is refused 3
unfoldable pub drawn_refusal : ℕ → Refusal
drawn_refusal r = refused_if (not (nat_le 1 r && nat_le r (2 ^ 63))) 3 0

unfoldable pub drawn_answer : ℕ → DrawnAnswer
drawn_answer r =
    cond ((drawn_refusal r).number == 0) (record { number = 0; place = 0; value = drawn_number r })
    (record { number = (drawn_refusal r).number; place = (drawn_refusal r).place; value = plus_zero })
