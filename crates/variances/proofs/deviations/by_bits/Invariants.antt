-- `variances::deviations::by_bits` meets its contract. The loop's invariant: `r` leaves room for the bits below 2^bit, and with them it is the greatest
-- of 63 bits.
use mathlib.Core.Path.{◌≡◌}
use Prim.Native.Nat.{◌+◌, ◌^◌, ◌≤◌}
use Rattle.laws.specs.Greatest.{bit_by_bit, greatest}
use Rattle.wide.specs.Wide.{value}
use Rattle.variances.specs.Deviations.{within}
use Rattle.variances.proofs.deviations.by_bits.Given as goal

abbrev pub invariant-loop-bit : goal.invariant-loop-bit
invariant-loop-bit l =
    (l.r + 2 ^ l.bit ≤ 2 ^ 63) × (bit_by_bit (within (value l.sum) l.d) l.bit l.r ≡ greatest 63 (within (value l.sum) l.d))
