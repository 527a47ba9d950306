-- What the code of a block of windows asks: each raised window from the one before, and the sums over them, within a word and within two.
use mathlib.Core.Path.{◌≡◌, sym, ap, ◌∙◌}
use mathlib.Core.List.{List}
use Prim.Native.Nat.{ℕ, ◌+◌, ◌-◌, ◌*◌, ◌^◌, ◌≤◌, ◌<◌}
use native.Mathlib.Nat.{mul-le-mul}
use native.Mathlib.Omega.{arith}
use lib.IntN.{ℤ, pos, nat_abs, ◌+ℤ◌, +ℤ_idr, +ℤ_assoc}
use lib.Signed.{mag}
use mir.Syntax.{w64}
use mir.Val.{SFits, of_z, to_z}
use mir.Facts.{to_z-of_z}
use Rattle.laws.specs.Sums.{sum, sum_ℤ, square}
use Rattle.laws.specs.Lists.{at}
use Rattle.laws.proofs.Parts.{plus, minus, one_part, size_is, +ℤ_parts}
use Rattle.laws.proofs.Expressions.{Expression, $◌, ◌∋◌, ◌⊖◌, equation}
use Rattle.laws.proofs.Machine.{Fit, machine, machine_is}
use Rattle.laws.proofs.SumLaws.{sum_step, sum_within, sum_ℤ_zero, sum_ℤ_step}
use Rattle.laws.proofs.Squares.{raised, raised_is, raised_within}
use Rattle.wide.specs.Wide.{value, halves, wide_sum}
use Rattle.wide.specs.declared.Wide.{Wide}
use Rattle.wide.proofs.WideLaws.{value_of_halves, sum_grows}
use Rattle.sums.proofs.SquareLaws.{raised_square_within, lowered_under, lowered_below, lowered_is}

-- the window after k gains, and raised
abbrev pub window_at : ℤ → List ℤ → ℕ → ℤ
window_at w gs k = w +ℤ sum_ℤ k (at gs)

abbrev pub raised_at : ℕ → ℤ → List ℤ → ℕ → ℕ
raised_at m w gs k = raised (m * 2 ^ 42) (window_at w gs k)

-- the sums over the first k raised windows after the first, and over their squares
abbrev pub raised_so_far : ℕ → ℤ → List ℤ → ℕ → ℕ
raised_so_far m w gs k = sum k (λ i. raised_at m w gs (i + 1))

abbrev pub squares_so_far : ℕ → ℤ → List ℤ → ℕ → ℕ
squares_so_far m w gs k = sum k (λ i. raised_at m w gs (i + 1) * raised_at m w gs (i + 1))

-- the raised window, lowered
abbrev pub lowering : ℕ → ℕ → Expression
lowering m high = high ∋ pos high ⊖ (m * 2 ^ 42) ∋ pos (m * 2 ^ 42)

module _ (w : ℤ) (gs : List ℤ) where
  pub window_starts : window_at w gs 0 ≡ w
  window_starts = ap (λ (t : ℤ). w +ℤ t) (sum_ℤ_zero (at gs)) ∙ +ℤ_idr w

  pub window_steps : (k : ℕ) → window_at w gs (k + 1) ≡ window_at w gs k +ℤ at gs k
  window_steps k = ap (λ (t : ℤ). w +ℤ t) (sum_ℤ_step k (at gs)) ∙ sym (+ℤ_assoc w (sum_ℤ k (at gs)) (at gs k))

-- every window of the block is as small as a window at factor m is
pub record Bounded (m : ℕ) (w : ℤ) (gs : List ℤ) : Type 0 where
  pub factor_most : m ≤ 10922
  pub within : (k : ℕ) → k ≤ 128 → nat_abs (window_at w gs k) ≤ m * 2 ^ 42

-- of the window as the loop reads it
pub bounded_read : (m : ℕ) (w : ℤ) (gs : List ℤ) → SFits w64 w → m ≤ 10922 → ((k : ℕ) → k ≤ 128 → nat_abs (window_at w gs k) ≤ m * 2 ^ 42) →
    Bounded m (to_z w64 (of_z w64 w)) gs
bounded_read m w gs fits most within = rw (to_z-of_z fits) (record { factor_most = most; within = within })

module _ {m : ℕ} {w : ℤ} {gs : List ℤ} (b : Bounded m w gs) where
  abbrev within : (k : ℕ) → k ≤ 128 → nat_abs (window_at w gs k) ≤ m * 2 ^ 42
  within = b.within

  abbrev factor_most : m ≤ 10922
  factor_most = b.factor_most

  first_within : nat_abs w ≤ m * 2 ^ 42
  first_within = rw (window_starts w gs) at (within 0 (omega arith))

  -- ---- the first window, raised
  pub start_fits : (m * 2 ^ 42 + nat_abs w < 2 ^ 63) × (minus w ≤ m * 2 ^ 42)
  start_fits = omega (arith, first_within, size_is w)

  pub start_is : (high : ℕ) → high + minus w ≡ m * 2 ^ 42 + plus w → high ≡ raised_at m w gs 0
  start_is high high_is = rw (window_starts w gs) (omega (arith, raised_is (m * 2 ^ 42) w first_within))

  -- ---- one gain more, as the machine loads it
  module _ (k : ℕ) (below : k < 128) {high : ℕ} (high_is : high ≡ raised_at m w gs k) {g : ℤ} (loads : mag (at gs k) < 2 ^ 63) (g-is : g ≡ to_z w64 (of_z w64 (at gs k))) where
    gain_is : g ≡ at gs k
    gain_is = g-is ∙ to_z-of_z {w = w64} (record { sfits = loads })

    next_is : window_at w gs (k + 1) ≡ window_at w gs k +ℤ g
    next_is = window_steps w gs k ∙ ap (λ (t : ℤ). window_at w gs k +ℤ t) (sym gain_is)

    before : raised_at m w gs k + minus (window_at w gs k) ≡ plus (window_at w gs k) + m * 2 ^ 42
    before = raised_is (m * 2 ^ 42) (window_at w gs k) (within k (omega arith))

    next_within : nat_abs (window_at w gs k +ℤ g) ≤ m * 2 ^ 42
    next_within = rw next_is at (within (k + 1) (omega arith))

    pub gain_moves : (high + nat_abs g < 2 ^ 63) × (minus g ≤ high)
    gain_moves =
        let now = window_at w gs k in
        omega (arith, before, next_within, within k (omega arith), +ℤ_parts now g, size_is g, size_is now, size_is (now +ℤ g), one_part g, one_part now, one_part (now +ℤ g))

    pub moved_is : (next : ℕ) → next + minus g ≡ high + plus g → next ≡ raised_at m w gs (k + 1)
    moved_is next moved =
        let now = window_at w gs k in
        rw next_is (omega (arith, before, +ℤ_parts now g, raised_is (m * 2 ^ 42) (now +ℤ g) next_within))

  -- ---- the sums
  raised_at_within : (i : ℕ) → i < 128 → raised_at m w gs (i + 1) ≤ 2 * (m * 2 ^ 42)
  raised_at_within i below = raised_within (m * 2 ^ 42) (window_at w gs (i + 1)) (within (i + 1) (omega arith))

  pub raised_grows : (k : ℕ) → k < 128 → {s high : ℕ} → s ≡ raised_so_far m w gs k → high ≡ raised_at m w gs (k + 1) → s + high ≡ raised_so_far m w gs (k + 1)
  raised_grows k below s-is high_is = omega (arith, sum_step k (λ i. raised_at m w gs (i + 1)))

  pub raised_fits : (k : ℕ) → k ≤ 128 → raised_so_far m w gs k < 2 ^ 64
  raised_fits k few =
      omega (arith, sum_within k (λ i. raised_at m w gs (i + 1)) (2 * (m * 2 ^ 42)) (λ i below. raised_at_within i (omega arith)), mul-le-mul few factor_most)

  squares_below : (k : ℕ) → k ≤ 128 → squares_so_far m w gs k < 2 ^ 126
  squares_below k few =
      omega (
        arith,
        sum_within k _ (m * m * 2 ^ 86) (λ i below. raised_square_within m 128 (λ i. window_at w gs (i + 1)) (λ i below. within (i + 1) (omega arith)) i (omega arith)),
        mul-le-mul few (mul-le-mul factor_most factor_most),
      )

  pub squares_grow : (k : ℕ) → k < 128 → {total next : Wide} {high : ℕ} → total ≡ halves (squares_so_far m w gs k) → high ≡ raised_at m w gs (k + 1) →
      next ≡ wide_sum total (halves (high * high)) → next ≡ halves (squares_so_far m w gs (k + 1))
  squares_grow k below total-is high_is next_is =
      let more = sum_step k (λ i. raised_at m w gs (i + 1) * raised_at m w gs (i + 1)) in
      sum_grows _ _ total-is (ap (λ (t : ℕ). halves (t * t)) high_is) next_is (rw more at (squares_below (k + 1) (omega arith))) ∙ ap halves (sym more)

  -- ---- after the last gain
  module _ (k : ℕ) (whole : k ≡ 128) where
    terms_within : (i : ℕ) → i < 128 → nat_abs (window_at w gs (i + 1)) ≤ m * 2 ^ 42
    terms_within i below = within (i + 1) (omega arith)

    -- the squares of the block
    module _ (total : Wide) (s : ℕ) (total-is : total ≡ halves (squares_so_far m w gs k)) (s-is : s ≡ raised_so_far m w gs k) where
      squares_value : value total ≡ squares_so_far m w gs 128
      squares_value = ap value total-is ∙ value_of_halves _ ∙ ap (squares_so_far m w gs) whole

      raised_whole : s ≡ raised_so_far m w gs 128
      raised_whole = s-is ∙ ap (raised_so_far m w gs) whole

      pub block_below : value total + 128 * (m * m * 2 ^ 84) < 2 ^ 126
      block_below = lowered_below m 128 (λ i. window_at w gs (i + 1)) terms_within _ s squares_value raised_whole (omega (arith, mul-le-mul factor_most factor_most))

      pub block_under : s * (m * 2 ^ 43) ≤ value total + 128 * (m * m * 2 ^ 84)
      block_under = lowered_under m 128 (λ i. window_at w gs (i + 1)) terms_within _ s squares_value raised_whole

      pub block_is : value total + 128 * (m * m * 2 ^ 84) - s * (m * 2 ^ 43) ≡ sum 128 (λ i. square (window_at w gs (i + 1)))
      block_is = lowered_is m 128 (λ i. window_at w gs (i + 1)) terms_within _ s squares_value raised_whole

    -- the last window, no longer raised
    module _ (high : ℕ) (high_is : high ≡ raised_at m w gs k) where
      last_raised_is : high ≡ raised_at m w gs 128
      last_raised_is = high_is ∙ ap (raised_at m w gs) whole

      last_raised : high + minus (window_at w gs 128) ≡ plus (window_at w gs 128) + m * 2 ^ 42
      last_raised = omega (arith, last_raised_is, raised_is (m * 2 ^ 42) (window_at w gs 128) (within 128 (omega arith)))

      pub last_small : high < 2 ^ 63
      last_small = omega (arith, last_raised_is, raised_within (m * 2 ^ 42) (window_at w gs 128) (within 128 (omega arith)))

      pub last_fits : Fit w64 (lowering m high)
      last_fits = omega (arith, last_small)

      pub last_is : machine w64 (lowering m high) ≡ window_at w gs 128
      last_is = machine_is w64 (lowering m high) last_fits ∙ equation (lowering m high) ($ window_at w gs 128) (omega (arith, last_raised))
