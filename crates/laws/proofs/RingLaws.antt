-- A ring of p slots, number k in slot k mod p: the slot of an earlier number, and what the ring keeps as the next number is written.
use mathlib.Core.Path.{◌≡◌, sym, ap, ◌∙◌}
use mathlib.Core.Bool.{cond}
use mathlib.Core.List.{List}
use Prim.Native.Nat.{ℕ, ◌+◌, ◌-◌, ◌*◌, ◌/◌, ◌%◌, ◌≤◌, ◌<◌}
use native.Mathlib.Decide.{dec_le}
use native.Mathlib.Nat.{mul-le-mul_right, mul-add-mod_self_right, div-add-mod', mod-lt, mod-eq_of_lt}
use native.Mathlib.Omega.{arith}
use borrow.Author.Count.{below_more}
use lib.Dec.{leb}
use lib.IntN.{ℤ, pos}
use lib.ListN.{length, set}
use lib.Seq.{get_or-set_same, get_or-set_other}
use Rattle.laws.specs.Lists.{at}
use Rattle.laws.proofs.Tests.{choice_by_order}

-- two numbers less than p apart have two slots
pub slots_apart : (p k n : ℕ) → k < n → n < k + p → k % p ≡ n % p → ⊥
slots_apart p k n after near same = by_turn (dec_le (n / p) (k / p))
  where
    by_turn : Dec (n / p ≤ k / p) → ⊥
    by_turn (yes low) = omega (arith, mul-le-mul_right p low, div-add-mod' k p, div-add-mod' n p)
    by_turn (no high) =
        let next : k / p + 1 ≤ n / p = omega arith in
        omega (arith, mul-le-mul_right p next, div-add-mod' k p, div-add-mod' n p)

-- the slot of the number that comes d before n, at most once round, by the slot of n and one comparison
module _ (p d n : ℕ) (some : 0 < p) (near : d ≤ n) where
  slot_before_own : d ≤ n % p → (n - d) % p ≡ n % p - d
  slot_before_own inside =
      let same : n - d ≡ n / p * p + (n % p - d) = omega (arith, div-add-mod' n p) in
      ap (λ (k : ℕ). k % p) same ∙ mul-add-mod_self_right (n / p) p (n % p - d) ∙ mod-eq_of_lt (omega (arith, mod-lt n some))

  slot_before_round : d ≤ p → n % p < d → (n - d) % p ≡ n % p + p - d
  slot_before_round once outside = by_turn (dec_le 1 (n / p))
    where
      by_turn : Dec (1 ≤ n / p) → (n - d) % p ≡ n % p + p - d
      by_turn (yes turned) =
          let q : ℕ = n / p - 1 in
          let turns : n / p ≡ q + 1 = omega arith in
          let whole : (q + 1) * p + n % p ≡ n = ap (λ (t : ℕ). t * p + n % p) (sym turns) ∙ div-add-mod' n p in
          let same : n - d ≡ q * p + (n % p + p - d) = omega arith in
          ap (λ (k : ℕ). k % p) same ∙ mul-add-mod_self_right q p (n % p + p - d) ∙ mod-eq_of_lt (omega arith)
      by_turn (no never) =
          let none : n / p ≤ 0 = omega arith in
          absurd (omega (arith, mul-le-mul_right p none, div-add-mod' n p))

  pub slot_before : d ≤ p → cond (leb d (n % p)) (n % p - d) (n % p + p - d) ≡ (n - d) % p
  slot_before once = choice_by_order d (n % p) (λ inside. sym (slot_before_own inside)) (λ outside. sym (slot_before_round once outside))

-- of the numbers below n the ring has the latest p, f k in the slot of k
abbrev pub Keeps : ℕ → ℕ → List ℤ → (ℕ → ℤ) → Type 0
Keeps p n ring f = (k : ℕ) → k < n → n ≤ k + p → at ring (k % p) ≡ f k

-- number n is written to its slot
pub keeps_on : (p n : ℕ) (ring : List ℤ) (v : ℤ) {f g : ℕ → ℤ} → 0 < p → p ≤ length ring → Keeps p n ring f →
    ((k : ℕ) → k < n → n < k + p → g k ≡ f k) → g n ≡ v → Keeps p (n + 1) (set ring (n % p) v) g
keeps_on p n ring v {f} {g} some long kept old new =
    below_more (λ k. n + 1 ≤ k + p → at (set ring (n % p) v) (k % p) ≡ g k) n
    (λ k before near.
    get_or-set_other ring (n % p) (k % p) v (pos 0) (slots_apart p k n before (omega arith)) ∙ kept k before (omega arith) ∙ sym (old k before (omega arith)))
    (λ near. get_or-set_same ring (n % p) v (pos 0) (omega (arith, mod-lt n some)) ∙ sym new)
