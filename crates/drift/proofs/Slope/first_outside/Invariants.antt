-- `drift::Slope::first_outside` meets its contract. The loop's invariant: no result below `i` lies outside the sample range.
use mathlib.Core.Path.{◌≡◌}
use Prim.Native.Nat.{◌≤◌, ◌+◌}
use lib.ListN.{length, drop}
use Rattle.laws.specs.Lists.{first_failing}
use Rattle.record.specs.Refusals.{in_range}
use Rattle.drift.specs.Drift.{without_drift}
use Rattle.drift.proofs.Slope.first_outside.Given as goal

abbrev pub invariant-loop-i : goal.invariant-loop-i
invariant-loop-i l =
    (l.i ≤ length l.self.samples.now) × (first_failing in_range (without_drift l.self.samples.now) ≡ l.i + first_failing in_range (drop l.i (without_drift l.self.samples.now)))
