-- The greatest number that passes a test: what it means, and a definition that computes it.
use Rattle.std.specs.Prelude.{Bool, cond, ℕ, zero, suc, ◌+◌, ◌^◌, ◌≤◌, T}

-- r passes the test, and no number that passes it is greater
pub record Greatest (test : ℕ → Bool) (r : ℕ) : Type 0 where
  pub passes : T (test r)
  pub most : (n : ℕ) → T (test n) → n ≤ r

-- the bits of the greatest number, from 2^(k-1) down to 1, each kept on top of `base` where the test still passes
unfoldable pub bit_by_bit : (ℕ → Bool) → ℕ → ℕ → ℕ
bit_by_bit test zero base = base
bit_by_bit test (suc k) base = bit_by_bit test k (cond (test (base + 2 ^ k)) (base + 2 ^ k) base)

-- the greatest number below 2^k that passes a test which, once failed, stays failed (laws: greatest-is)
abbrev pub greatest : ℕ → (ℕ → Bool) → ℕ
greatest k test = bit_by_bit test k 0
