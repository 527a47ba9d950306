-- `sums::totals::Record::first_window` meets its contract. The loop's invariant: the window holds the first i second differences.
use mathlib.Core.Path.{◌≡◌}
use Rattle.sums.proofs.PublishedLaws.{first_so_far}
use Rattle.sums.proofs.totals.Record.first_window.Given as goal

abbrev pub invariant-loop-i : goal.invariant-loop-i
invariant-loop-i l = l.window ≡ first_so_far l.self.m l.self.samples.now l.i
