-- `frequency::stays` meets its contract: a reading within 2^41 is added in a word, and one beyond it leaves the range unadded.
use mathlib.Core.Path.{sym}
use native.Mathlib.Omega.{arith}
use Rattle.frequency.proofs.FrequencyLaws.{below_leaves, above_leaves}
use Rattle.frequency.proofs.stays.Goals as goal

pub returns-then-reading : goal.returns-then-reading
returns-then-reading c =
    sym (below_leaves c.args.phase c.args.reading c.requires c.ranges.reading _ (omega arith) (omega arith) c.if-reading.true)

pub returns-then-reading-gt-LARGEST_FREQUENCY : goal.returns-then-reading-gt-LARGEST_FREQUENCY
returns-then-reading-gt-LARGEST_FREQUENCY c =
    sym (above_leaves c.args.phase c.args.reading c.requires c.ranges.reading _ (omega arith) (omega arith) c.if-reading-gt-LARGEST_FREQUENCY.true)
