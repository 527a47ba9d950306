-- The greatest number that passes a test: there is one at most, and bit by bit it is found.
use mathlib.Core.Path.{◌≡◌, refl, sym, ap, subst, ◌∙◌}
use mathlib.Core.Bool.{Bool, true, false, cond}
use Prim.Native.Nat.{ℕ, zero, suc, ◌+◌, ◌-◌, ◌^◌, ◌≤◌, ◌<◌}
use native.Mathlib.Decide.{dec_le}
use native.Mathlib.Nat.{add_assoc, le_antisymm, two-pow-succ, zero-add}
use native.Mathlib.Omega.{arith}
use lib.Dec.{T}
use Rattle.laws.proofs.Halves.{power_doubles}
use Rattle.laws.specs.Greatest.{Greatest, bit_by_bit, greatest}

pub one_greatest : {test : ℕ → Bool} {r s : ℕ} → Greatest test r → Greatest test s → r ≡ s
one_greatest {r = r} {s = s} first second = le_antisymm (second.most r first.passes) (first.most s second.passes)

-- of a test that, once failed, stays failed
module _ (test : ℕ → Bool) (down : (m n : ℕ) → m ≤ n → T (test n) → T (test m)) where
  -- a number that passes and whose successor does not
  pub last_is_greatest : (r : ℕ) → T (test r) → (T (test (r + 1)) → ⊥) → Greatest test r
  last_is_greatest r pass fail = record { passes = pass; most = λ n later. go n later (dec_le n r) }
    where
      go : (n : ℕ) → T (test n) → Dec (n ≤ r) → n ≤ r
      go n later (yes under) = under
      go n later (no over) = absurd (fail (down (r + 1) n (omega arith) later))

  -- where `base` passes and `base + 2 * step` does not, the chosen one of `base` and `base + step` passes and `step` more does not
  chosen_passes : (base step : ℕ) (t : Bool) → test (base + step) ≡ t → T (test base) → T (test (cond t (base + step) base))
  chosen_passes base step true e pass = subst T (sym e) tt
  chosen_passes base step false e pass = pass

  chosen_ends : (base step : ℕ) (t : Bool) → test (base + step) ≡ t → (T (test (base + (step + step))) → ⊥) → T (test (cond t (base + step) base + step)) → ⊥
  chosen_ends base step true e fail later = fail (rw add_assoc at later)
  chosen_ends base step false e fail later = subst T e later

  bits_find : (k base : ℕ) → T (test base) → (T (test (base + 2 ^ k)) → ⊥) → Greatest test (bit_by_bit test k base)
  unfolding bit_by_bit
  bits_find zero base pass fail = last_is_greatest base pass fail
  bits_find (suc k) base pass fail =
      bits_find k (cond (test (base + 2 ^ k)) (base + 2 ^ k) base)
      (chosen_passes base (2 ^ k) (test (base + 2 ^ k)) refl pass)
      (chosen_ends base (2 ^ k) (test (base + 2 ^ k)) refl (rw two-pow-succ at fail))

  pub greatest_is : (k : ℕ) → T (test 0) → (T (test (2 ^ k)) → ⊥) → Greatest test (greatest k test)
  greatest_is k pass fail = bits_find k 0 pass (rw zero-add fail)

-- ---- one bit, from 2^k to 2^(k-1)
module _ (k : ℕ) (some : 0 < k) where
  pub next_bit :
      (test : ℕ → Bool) (base : ℕ) →
      bit_by_bit test k base ≡ bit_by_bit test (k - 1) (cond (test (base + 2 ^ (k - 1))) (base + 2 ^ (k - 1)) base)
  unfolding bit_by_bit
  next_bit test base =
      let more : k ≡ suc (k - 1) = omega arith in
      ap (λ (t : ℕ). bit_by_bit test t base) more

  -- what is kept leaves room for the bits below
  pub chosen_room : (t : Bool) (base limit : ℕ) → base + 2 ^ k ≤ limit → cond t (base + 2 ^ (k - 1)) base + 2 ^ (k - 1) ≤ limit
  chosen_room true base limit room = omega (arith, power_doubles k some)
  chosen_room false base limit room = omega (arith, power_doubles k some)

-- ---- one turn of a loop over the bits: `bit` is 2^(left-1), and `next` is what is kept
module _
    (test : ℕ → Bool) (left : ℕ) (some : 0 < left) (r : ℕ) {bit next : ℕ}
    (bit_is : bit ≡ 2 ^ (left - 1)) (next_is : next ≡ cond (test (r + bit)) (r + bit) r) where
  kept : next ≡ cond (test (r + 2 ^ (left - 1))) (r + 2 ^ (left - 1)) r
  kept = next_is ∙ ap (λ (u : ℕ). cond (test (r + u)) (r + u) r) bit_is

  pub turn_leaves_room : (limit : ℕ) → r + 2 ^ left ≤ limit → next + 2 ^ (left - 1) ≤ limit
  turn_leaves_room limit room = rw kept (chosen_room left some (test (r + 2 ^ (left - 1))) r limit room)

  pub turn_keeps_bits : bit_by_bit test (left - 1) next ≡ bit_by_bit test left r
  turn_keeps_bits = ap (bit_by_bit test (left - 1)) kept ∙ sym (next_bit left some test r)

pub no_bits_left : (test : ℕ → Bool) (left r : ℕ) → left ≡ 0 → r ≡ bit_by_bit test left r
unfolding bit_by_bit
no_bits_left test left r none = sym (ap (λ (t : ℕ). bit_by_bit test t r) none)
