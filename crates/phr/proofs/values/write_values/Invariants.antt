-- `phr::values::write_values` meets its contract. The loop's invariant: the bytes of the first `i` values are written.
use Rattle.std.proofs.Common.{◌≡◌, take}
use Rattle.phr.specs.Bytes.{values_bytes}
use Rattle.phr.proofs.ByteLaws.{written_from}
use Rattle.phr.proofs.values.write_values.Given as goal

abbrev pub invariant-loop-i : goal.invariant-loop-i
invariant-loop-i l = l.buffer ≡ written_from l.place (values_bytes (take l.i l.values)) l.initial.buffer
