-- The comparisons of a value with the ends of its kind's range are the test of its size.
use Rattle.std.proofs.Common.{◌≡◌, ℕ, ◌^◌, ◌≤◌, Bool, true, false, cond, eqb, ℤ, pos, neg_ℤ, nat_abs, sym, arith, w64, SFits, eq-eqb, ne_eqb, leb-true}
use lib.Signed.{lt_z, le_z}
use Rattle.laws.proofs.Parts.{small_fits}
use Rattle.record.specs.Refusals.{in_range}
use Rattle.record.proofs.RangeLaws.{below_low_end, above_low_end}
use Rattle.phr.specs.File.{value_in_range}

module _ (kind : ℕ) (z : ℤ) where
  pub phase_range : kind ≡ 0 → in_range z ≡ value_in_range kind z
  unfolding in_range value_in_range
  phase_range e = rw (eq-eqb kind 0 e)

  module _ (frequency : kind ≡ 0 → ⊥) where
    pub frequency_below : lt_z z (neg_ℤ (pos (2 ^ 41))) ≡ true → false ≡ value_in_range kind z
    unfolding value_in_range
    frequency_below t = rw (ne_eqb kind 0 frequency) (sym (below_low_end (2 ^ 41) z t))

    pub frequency_not_below : lt_z z (neg_ℤ (pos (2 ^ 41))) ≡ false → le_z z (pos (2 ^ 41)) ≡ value_in_range kind z
    unfolding value_in_range
    frequency_not_below t = rw (ne_eqb kind 0 frequency) (above_low_end (2 ^ 41) z t)

-- the upper end of a kind's range
abbrev pub end_of : ℕ → ℕ
end_of kind = cond (eqb kind 0) (2 ^ 40) (2 ^ 41)

pub end_within : (kind : ℕ) → end_of kind ≤ 2 ^ 41
end_within kind = widest (eqb kind 0)
  where
    widest : (phase : Bool) → cond phase (2 ^ 40) (2 ^ 41) ≤ 2 ^ 41
    widest true = omega arith
    widest false = omega arith

-- a value in its range fits 64 bits
pub in_range_fits : (kind : ℕ) (z : ℤ) → value_in_range kind z ≡ true → SFits w64 z
unfolding value_in_range
in_range_fits kind z t = small_fits z (omega (arith, leb-true (nat_abs z) _ t, end_within kind))
