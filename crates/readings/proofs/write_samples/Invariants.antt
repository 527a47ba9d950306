-- `readings::write_samples` meets its contract. The loop's invariant: the first `i` samples are written, and the fractions before `i` are counted.
use mathlib.Core.Path.{◌≡◌}
use Prim.Native.Nat.{◌≤◌, ◌+◌}
use lib.ListN.{length, drop}
use Rattle.laws.specs.Lists.{how_many}
use Rattle.laws.proofs.ListLaws.{written_so_far}
use Rattle.readings.specs.Readings.{has_fraction}
use Rattle.readings.proofs.RefusalLaws.{samples_of}
use Rattle.readings.proofs.write_samples.Given as goal

abbrev pub invariant-loop-i : goal.invariant-loop-i
invariant-loop-i l =
    (l.i ≤ length l.readings) × (length l.buffer ≡ length l.initial.buffer) × (l.buffer ≡ written_so_far l.i (samples_of l.readings) l.initial.buffer) ×
    (l.changed ≤ l.i) × (how_many has_fraction l.readings ≡ l.changed + how_many has_fraction (drop l.i l.readings))
