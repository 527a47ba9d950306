-- `record::first_outside` meets its contract. The loop's invariant: no sample below `i` lies outside its range.
use Rattle.std.proofs.Common.{◌≡◌, ◌+◌, drop}
use Rattle.laws.specs.Lists.{first_failing}
use Rattle.record.specs.Refusals.{in_range}
use Rattle.record.proofs.first_outside.Given as goal

abbrev pub invariant-loop-i : goal.invariant-loop-i
invariant-loop-i l = first_failing in_range l.samples ≡ l.i + first_failing in_range (drop l.i l.samples)
