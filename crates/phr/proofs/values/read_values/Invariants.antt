-- `phr::values::read_values` meets its contract. The loop's invariant: the first `i` values are written.
use Rattle.std.proofs.Common.{◌≡◌}
use Rattle.laws.proofs.ListLaws.{written_so_far}
use Rattle.phr.specs.Bytes.{values_from}
use Rattle.phr.proofs.values.read_values.Given as goal

abbrev pub invariant-loop-i : goal.invariant-loop-i
invariant-loop-i l = l.buffer ≡ written_so_far l.i (values_from l.place l.count l.bytes) l.initial.buffer
