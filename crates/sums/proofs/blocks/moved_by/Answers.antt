-- `sums::blocks::moved_by` meets its contract.
use mathlib.Core.Path.{◌≡◌}
use Prim.Native.Nat.{ℕ, ◌+◌, ◌-◌, ◌^◌, ◌<◌}
use native.Mathlib.Omega.{arith}
use lib.IntN.{ℤ, pos, nat_abs}
use mir.Syntax.{w64}
use Rattle.laws.proofs.Parts.{plus, minus, size_is}
use Rattle.laws.proofs.Expressions.{Expression, $◌, ◌∋◌, ◌⊕◌}
use Rattle.laws.proofs.Machine.{Fit, machine, operation_fits, cast_fits, cast_is}
use Rattle.sums.proofs.blocks.moved_by.Goals as goal

abbrev moving : ℕ → ℤ → Expression
moving high gain = high ∋ pos high ⊕ $ gain

moving_fits : (high : ℕ) (gain : ℤ) → high + nat_abs gain < 2 ^ 63 → Fit w64 (moving high gain)
moving_fits high gain small = omega (arith, size_is gain)

pub overflow_add-result : goal.overflow_add-result
overflow_add-result c = operation_fits w64 (moving c.args.high c.args.gain) (moving_fits c.args.high c.args.gain c.requires.0)

pub overflow_cast-result-2 : goal.overflow_cast-result-2
overflow_cast-result-2 c = cast_fits w64 w64 (moving c.args.high c.args.gain) (moving_fits c.args.high c.args.gain c.requires.0) (omega (arith, size_is c.args.gain))

pub returns : goal.returns
returns c =
    let high = c.args.high in
    let gain = c.args.gain in
    let moved : nat_abs (machine w64 (moving high gain)) ≡ high + plus gain - minus gain =
    cast_is w64 (moving high gain) (high + plus gain - minus gain) (moving_fits high gain c.requires.0) (omega arith) in
    omega arith
