-- `sums::totals::Record::allan_parts` meets its contract. The loop's invariant: the sums are those over the first i raised second differences.
use mathlib.Core.Path.{◌≡◌}
use Rattle.sums.proofs.SquareLaws.{parts_of}
use Rattle.sums.proofs.TotalLaws.{raised_difference}
use Rattle.sums.proofs.totals.Record.allan_parts.Given as goal

abbrev pub invariant-loop-i : goal.invariant-loop-i
invariant-loop-i l = l.parts ≡ parts_of (raised_difference l.self.m l.self.samples.now) l.i
