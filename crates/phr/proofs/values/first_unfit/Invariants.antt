-- `phr::values::first_unfit` meets its contract. The loop's invariant: no value below `i` lies outside its range.
use Rattle.std.proofs.Common.{◌≡◌, ◌+◌, drop}
use Rattle.laws.specs.Lists.{first_failing}
use Rattle.phr.specs.File.{value_in_range}
use Rattle.phr.specs.Kinds.{number_of_kind}
use Rattle.phr.proofs.values.first_unfit.Given as goal

abbrev pub invariant-loop-i : goal.invariant-loop-i
invariant-loop-i l = first_failing (value_in_range (number_of_kind l.kind)) l.values ≡ l.i + first_failing (value_in_range (number_of_kind l.kind)) (drop l.i l.values)
