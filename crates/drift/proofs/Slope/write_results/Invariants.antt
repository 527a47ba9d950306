-- `drift::Slope::write_results` meets its contract. The loop's invariant: the results below `i` are written, and the entries past them are as
-- they came.
use mathlib.Core.Path.{◌≡◌}
use Rattle.laws.proofs.ListLaws.{written_so_far}
use Rattle.drift.specs.Drift.{without_drift}
use Rattle.drift.proofs.Slope.write_results.Given as goal

abbrev pub invariant-loop-i : goal.invariant-loop-i
invariant-loop-i l = l.place-items ≡ written_so_far l.i (without_drift l.self.samples.now) l.initial.place-items
