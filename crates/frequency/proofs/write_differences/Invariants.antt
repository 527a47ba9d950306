-- `frequency::write_differences` meets its contract. The loop's invariant: the differences of the windows so far are written, and what is left of
-- the samples is their end.
use Rattle.std.specs.Iterator.Adapters.{enumerate_source, enumerate_count}
use Rattle.std.specs.Slice.Iter.{windows_rest, windows_size}
use Rattle.frequency.proofs.FrequencyLaws.{DifferencesWritten}
use Rattle.frequency.proofs.write_differences.Given as goal

abbrev pub invariant-loop-i : goal.invariant-loop-i
invariant-loop-i l =
    let windows = enumerate_source l.i-iterator in
    DifferencesWritten l.samples l.initial.buffer l.buffer (windows_rest windows) (windows_size windows) (enumerate_count l.i-iterator)
