-- The two comparisons of a signed number with the ends of a range, -limit and limit, are the one test of its size.
use Rattle.std.proofs.Common.{◌≡◌, ℕ, zero, suc, ◌^◌, ◌<◌, ◌≤◌, Bool, true, false, leb, ℤ, pos, negsuc, neg_ℤ, nat_abs, sym, refl, ap, ◌∙◌, arith, w64, to_z, of_z, ltb-false, ltb-true, le-leb, leb-true}
use mathlib.Core.Bool.{false≢true}
use borrow.Author.Tests.{lt-leb}
use lib.Signed.{mag, lt_z, le_z}
use mir.ValLaws.{to_z-of_z}
use Rattle.record.specs.Refusals.{in_range}

pub below_low_end : (limit : ℕ) (x : ℤ) → lt_z x (neg_ℤ (pos limit)) ≡ true → leb (nat_abs x) limit ≡ false
below_low_end zero (pos n) t = absurd (omega (arith, ltb-true n 0 t))
below_low_end zero (negsuc n) t = lt-leb (suc n) 0 (omega arith)
below_low_end (suc b) (pos n) t = absurd (false≢true t)
below_low_end (suc b) (negsuc n) t = lt-leb (suc n) (suc b) (omega (arith, ltb-true b n t))

pub above_low_end : (limit : ℕ) (x : ℤ) → lt_z x (neg_ℤ (pos limit)) ≡ false → le_z x (pos limit) ≡ leb (nat_abs x) limit
above_low_end zero (pos n) t = refl
above_low_end zero (negsuc n) t = absurd (false≢true (sym t))
above_low_end (suc b) (pos n) t = refl
above_low_end (suc b) (negsuc n) t = sym (le-leb (suc n) (suc b) (omega (arith, ltb-false b n t)))

-- ---- a phase sample

module _ (x : ℤ) where
  pub sample_below : lt_z x (neg_ℤ (pos (2 ^ 40))) ≡ true → false ≡ in_range x
  unfolding in_range
  sample_below t = sym (below_low_end (2 ^ 40) x t)

  pub sample_not_below : lt_z x (neg_ℤ (pos (2 ^ 40))) ≡ false → le_z x (pos (2 ^ 40)) ≡ in_range x
  unfolding in_range
  sample_not_below t = above_low_end (2 ^ 40) x t

  pub sample_bounded : in_range x ≡ true → nat_abs x ≤ 2 ^ 40
  unfolding in_range
  sample_bounded t = leb-true (nat_abs x) (2 ^ 40) t

  pub bounded_sample : nat_abs x ≤ 2 ^ 40 → in_range x ≡ true
  unfolding in_range
  bounded_sample h = le-leb (nat_abs x) (2 ^ 40) h

-- what the machine's test of a loaded sample tells of the sample
pub loaded_in_range : (x : ℤ) → mag x < 2 ^ 63 → {answer b : Bool} → answer ≡ in_range (to_z w64 (of_z w64 x)) → answer ≡ b → in_range x ≡ b
loaded_in_range x fits e t = ap in_range (sym (to_z-of_z w64 x (record { sfits = fits }))) ∙ sym e ∙ t
