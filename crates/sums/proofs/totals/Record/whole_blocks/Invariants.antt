-- `sums::totals::Record::whole_blocks` meets its contract. The loop's invariant: the window holds S_j, and the total holds the squares of S_0 to S_j.
use mathlib.Core.Path.{◌≡◌}
use Prim.Native.Nat.{◌+◌, ◌*◌}
use lib.ListN.{length}
use Rattle.wide.specs.Wide.{halves}
use Rattle.sums.specs.Published.{window_sum}
use Rattle.sums.proofs.PublishedLaws.{modified_so_far}
use Rattle.sums.proofs.totals.Record.whole_blocks.Given as goal

abbrev pub invariant-loop-b : goal.invariant-loop-b
invariant-loop-b l =
    (l.window ≡ window_sum l.self.m l.self.samples.now (128 * l.b)) × (l.total ≡ halves (modified_so_far l.self.m l.self.samples.now (128 * l.b + 1))) × (length l.gains ≡ 128)
