-- `sums::totals::Record::modified_total` meets its contract. The loop's invariant: the window holds S_j, and the total holds the squares of S_0 to S_j.
use mathlib.Core.Path.{◌≡◌}
use Prim.Native.Nat.{◌+◌}
use Rattle.wide.specs.Wide.{halves}
use Rattle.sums.specs.Published.{window_sum}
use Rattle.sums.proofs.PublishedLaws.{modified_so_far}
use Rattle.sums.proofs.totals.Record.modified_total.Given as goal

abbrev pub invariant-loop-j : goal.invariant-loop-j
invariant-loop-j l =
    (l.window ≡ window_sum l.self.m l.self.samples.now l.j) × (l.total ≡ halves (modified_so_far l.self.m l.self.samples.now (l.j + 1)))
