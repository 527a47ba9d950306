-- `sums::totals::Record::write_gains` meets its contract. The loop's invariant: the first k gains are written.
use mathlib.Core.Path.{◌≡◌}
use Rattle.laws.proofs.ListLaws.{written_so_far}
use Rattle.sums.proofs.TotalLaws.{gains_from}
use Rattle.sums.proofs.totals.Record.write_gains.Given as goal

abbrev pub invariant-loop-k : goal.invariant-loop-k
invariant-loop-k l = l.gains ≡ written_so_far l.k (gains_from l.self.m l.self.samples.now l.j) l.initial.gains
