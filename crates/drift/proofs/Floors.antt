-- What floored division means to a reader, the one number q with q d ≤ z < (q + 1) d, and how the floor of P T / R is taken apart.
use mathlib.Core.Path.{◌≡◌, ap, ◌∙◌}
use Prim.Native.Nat.{ℕ, ◌+◌, ◌*◌, ◌/◌, ◌%◌, ◌<◌}
use native.Mathlib.Nat.{div-add-mod', mod-lt, lt_of_mul-lt-mul_right}
use native.Mathlib.Omega.{arith}
use lib.IntN.{ℤ, pos, negsuc, ◌+ℤ◌, ◌*ℤ◌}
use lib.Signed.{◌≤ℤ◌, ◌<ℤ◌}
use Rattle.laws.proofs.Parts.{plus, minus, equal_by_parts, parts_of_equal, le_by_parts, parts_of_le, lt_by_parts, parts_of_lt}
use Rattle.laws.proofs.Expressions.{$◌, ±◌, #◌, ◌⊕◌, ◌⊗◌, sound, equation, at_most, less_than}
use Rattle.drift.specs.Drift.{floored}

module _ (d : ℕ) (positive : 0 < d) where
  -- the floor times the divisor is not above the dividend
  pub floored_at_most : (z : ℤ) → (floored z d *ℤ pos d) ≤ℤ z
  unfolding floored
  floored_at_most (pos n) = at_most (# (n / d) ⊗ # d) (# n) (omega (arith, div-add-mod' n d))
  floored_at_most (negsuc n) = at_most (± negsuc (n / d) ⊗ # d) (± negsuc n) (omega (arith, div-add-mod' n d, mod-lt n positive))

  -- one more, times the divisor, is above it
  pub one_more_above : (z : ℤ) → z <ℤ ((floored z d +ℤ pos 1) *ℤ pos d)
  unfolding floored
  one_more_above (pos n) = less_than (# n) ((# (n / d) ⊕ # 1) ⊗ # d) (omega (arith, div-add-mod' n d, mod-lt n positive))
  one_more_above (negsuc n) = less_than (± negsuc n) ((± negsuc (n / d) ⊕ # 1) ⊗ # d) (omega (arith, div-add-mod' n d))

  not_greater : (z q p : ℤ) → (q *ℤ pos d) ≤ℤ z → z <ℤ ((p +ℤ pos 1) *ℤ pos d) → plus q + minus p < plus p + minus q + 1
  not_greater z q p low high =
      lt_of_mul-lt-mul_right d (omega (arith, parts_of_le low, parts_of_lt high, sound ($ q ⊗ # d), sound (($ p ⊕ # 1) ⊗ # d)))

  -- no other number is so
  pub floored_only : (z q : ℤ) → (q *ℤ pos d) ≤ℤ z → z <ℤ ((q +ℤ pos 1) *ℤ pos d) → floored z d ≡ q
  floored_only z q low high =
      equal_by_parts (floored z d) q
      (omega (arith, not_greater z q (floored z d) low (one_more_above z), not_greater z (floored z d) q (floored_at_most z) high))

  -- the floor is the whole part where a rest below the divisor is left
  pub floored_of_split : (z q : ℤ) (r : ℕ) → r < d → z ≡ q *ℤ pos d +ℤ pos r → floored z d ≡ q
  floored_of_split z q r below split =
      floored_only z q
      (le_by_parts _ _ (omega (arith, parts_of_equal split, sound ($ q ⊗ # d ⊕ # r), sound ($ q ⊗ # d))))
      (lt_by_parts _ _ (omega (arith, parts_of_equal split, sound ($ q ⊗ # d ⊕ # r), sound (($ q ⊕ # 1) ⊗ # d))))

-- with P = whole R + rest, floor(2 P T / (2 R)) is whole T + floor(rest T / R)
pub floor_taken_apart :
    (p whole : ℤ) (rest r t : ℕ) → rest < r → p ≡ whole *ℤ pos r +ℤ pos rest →
    floored (p *ℤ pos (2 * t)) (2 * r) ≡ whole *ℤ pos t +ℤ pos (rest * t / r)
floor_taken_apart p whole rest r t below split =
    let positive : 0 < r = omega arith in
    floored_of_split (2 * r) (omega arith) (p *ℤ pos (2 * t)) (whole *ℤ pos t +ℤ pos (rest * t / r)) (2 * (rest * t % r))
    (omega (arith, mod-lt (rest * t) positive))
    (ap (λ (z : ℤ). z *ℤ pos (2 * t)) split
    ∙ equation (($ whole ⊗ # r ⊕ # rest) ⊗ # (2 * t)) (($ whole ⊗ # t ⊕ # (rest * t / r)) ⊗ # (2 * r) ⊕ # (2 * (rest * t % r))) (omega (arith, div-add-mod' (rest * t) r)))
