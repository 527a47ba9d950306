-- `readings::reading::rest` meets its contract.
use mathlib.Core.Path.{◌≡◌, ap, ◌∙◌}
use Prim.Native.Nat.{ℕ, ◌+◌, ◌-◌, ◌*◌, ◌%◌, ◌^◌}
use native.Mathlib.Omega.{arith}
use lib.Pow.{pow-add, pow_pos}
use Rattle.laws.proofs.Halves.{remainder_scaled}
use Rattle.readings.proofs.reading.rest.Goals as goal

pub returns : goal.returns
returns c =
    let n = c.args.n in
    let k = c.args.k in
    let word : 2 ^ 64 ≡ 2 ^ k * 2 ^ (64 - k) = ap (λ (t : ℕ). 2 ^ t) (let same : 64 ≡ k + (64 - k) = omega (arith, c.requires) in same) ∙ pow-add 2 k (64 - k) in
    ap (λ (t : ℕ). n * 2 ^ (64 - k) % t) word ∙ remainder_scaled n (2 ^ k) (2 ^ (64 - k)) (pow_pos k) (pow_pos (64 - k))
