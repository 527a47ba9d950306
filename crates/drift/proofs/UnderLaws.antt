-- The division of P by R by naturals alone, where P is below nought: how far P lies below -1, that divided by R, and the quotient with one more taken
-- from nought. All of it stays within a word. The code divides by `div_euclid` instead.
use mathlib.Core.Path.{◌≡◌}
use mathlib.Core.Bool.{true}
use mathlib.Core.List.{List}
use Prim.Native.Nat.{ℕ, ◌+◌, ◌-◌, ◌/◌, ◌%◌, ◌^◌, ◌≤◌, ◌<◌}
use native.Mathlib.Nat.{mod-lt, div-le_self}
use native.Mathlib.Omega.{arith}
use lib.Dec.{T}
use lib.IntN.{ℤ, pos, nat_abs}
use lib.Signed.{lt_z, non_neg}
use mir.Syntax.{w64}
use mir.Val.{Fits, SFits}
use Rattle.laws.proofs.Parts.{plus, minus, one_part, size_is, small_fits}
use Rattle.laws.proofs.Expressions.{Expression, $◌, #◌, ◌⊕◌, ◌⊖◌, ◌⊏◌}
use Rattle.laws.proofs.Machine.{Fit, machine, result, operation_fits, lt_taken, cast_fits, cast_is}
use Rattle.record.specs.Refusals.{none}
use Rattle.drift.specs.Drift.{drift_p, drift_r, drift_refusal}
use Rattle.drift.proofs.DriftLaws.{signed_of, figure_within, r_within}

-- how far P lies below -1
abbrev pub under_of : ℤ → Expression
under_of p = # 0 ⊖ ($ p ⊕ # 1)

-- a natural taken from nought
abbrev pub below_of : ℕ → Expression
below_of q = # 0 ⊖ signed_of q

pub below_fits : (q : ℕ) → SFits w64 (pos q) → Fit w64 (below_of q)
below_fits q fits = omega (arith, fits.sfits)

module _ (xs : List ℤ) (unrefused : drift_refusal xs ≡ none) {p : ℤ} (p-is : p ≡ drift_p xs) {r : ℕ} (r-is : r ≡ drift_r xs) where
  p_within : nat_abs p ≤ 2 ^ 42
  p_within = rw p-is (figure_within xs unrefused)

  pub r_some : 0 < r
  r_some = rw r-is (r_within xs unrefused).0

  figure_read : Fit w64 ($ p)
  figure_read = small_fits p (omega (arith, p_within))

  pub under_fits : Fit w64 (under_of p)
  under_fits = omega (arith, figure_read, p_within, size_is p)

  module _ (negative : lt_z (machine w64 ($ p)) (pos 0) ≡ true) where
    -- how far the machine says that P lies below -1
    abbrev under : ℕ
    under = nat_abs (machine w64 (under_of p))

    p_below : $ p ⊏ # 0
    p_below = lt_taken w64 ($ p) (# 0) figure_read (omega arith) negative

    pub under_cast : T (non_neg (machine w64 (under_of p))) × Fits w64 under
    under_cast = cast_fits w64 w64 (under_of p) under_fits (omega (arith, p_below, p_within, size_is p))

    under_is : (plus p ≡ 0) × (minus p ≡ under + 1)
    under_is = omega (arith, p_below, one_part p, cast_is w64 (under_of p) (minus p - 1) under_fits (omega (arith, p_below, one_part p)))

    pub under_within : (under ≤ 2 ^ 42) × (under / r ≤ 2 ^ 42) × (under % r < r)
    under_within = omega (arith, under_is, p_within, size_is p, div-le_self under r, mod-lt under r_some)

    -- the quotient with one more is taken from nought within a word
    pub under_taken : SFits w64 (result w64 (below_of (under / r + 1)))
    under_taken =
        operation_fits w64 (below_of (under / r + 1)) (below_fits (under / r + 1) (small_fits (pos (under / r + 1)) (omega (arith, under_within))))
