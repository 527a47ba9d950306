-- `readings::check_readings` meets its contract. The loop's invariant: every reading below `i` is a sample.
use mathlib.Core.Path.{◌≡◌}
use Prim.Native.Nat.{◌≤◌, ◌+◌}
use lib.ListN.{length, drop}
use Rattle.laws.specs.Lists.{first_failing}
use Rattle.readings.proofs.RefusalLaws.{is_sample}
use Rattle.readings.proofs.check_readings.Given as goal

abbrev pub invariant-loop-i : goal.invariant-loop-i
invariant-loop-i l = (l.i ≤ length l.readings) × (first_failing is_sample l.readings ≡ l.i + first_failing is_sample (drop l.i l.readings))
