-- `readings::reading::rounded` meets its contract.
use mathlib.Core.Path.{◌≡◌, sym, ap, ◌∙◌}
use Prim.Native.Nat.{ℕ, ◌+◌, ◌-◌, ◌*◌, ◌^◌}
use native.Mathlib.Omega.{arith}
use lib.Pow.{pow-add, pow_pos}
use Rattle.laws.proofs.Halves.{power_doubles}
use Rattle.laws.proofs.Rounding.{closest_above, closest_not_above}
use Rattle.readings.proofs.reading.rounded.Goals as goal
use Rattle.readings.proofs.reading.rounded.Goals.{Start}

-- a half, 2^(k - 1) parts of 2^k, in parts of 2^64
half_is : (c : Start) → 2 ^ (c.args.k - 1) * 2 ^ (64 - c.args.k) ≡ 2 ^ 63
half_is c =
    let k = c.args.k in
    sym (pow-add 2 (k - 1) (64 - k)) ∙ ap (λ (t : ℕ). 2 ^ t) (let same : k - 1 + (64 - k) ≡ 63 = omega (arith, c.requires) in same)

pub returns-then-whole-rest : goal.returns-then-whole-rest
returns-then-whole-rest c =
    let n = c.args.n in
    let k = c.args.k in
    closest_above n (2 ^ k) (2 ^ (k - 1)) (2 ^ (64 - k)) (power_doubles k c.requires.1) (pow_pos (k - 1)) (pow_pos (64 - k))
    (omega (arith, half_is (goal.at.returns-then-whole-rest c).Start, c.rest.ensures, c.if-whole-rest.true))

pub returns : goal.returns
returns c =
    let n = c.args.n in
    let k = c.args.k in
    closest_not_above n (2 ^ k) (2 ^ (k - 1)) (2 ^ (64 - k)) (power_doubles k c.requires.1) (pow_pos (k - 1)) (pow_pos (64 - k))
    (omega (arith, half_is (goal.at.returns c).Start, c.rest.ensures, c.if-whole-rest.false))
