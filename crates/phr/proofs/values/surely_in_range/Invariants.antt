-- `phr::values::surely_in_range` meets its contract. The loop's invariant: what is reached is at least the word of every chunk so far, moved up.
use Rattle.laws.proofs.Words.{Reached}
use Rattle.phr.proofs.RangePass.{moved_up}
use Rattle.phr.proofs.values.surely_in_range.Given as goal

abbrev pub invariant-loop-chunk : goal.invariant-loop-chunk
invariant-loop-chunk l = Reached (moved_up l.end l.place l.bytes) l.chunk-index l.reached
