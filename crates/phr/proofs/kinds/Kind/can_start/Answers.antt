-- `phr::kinds::Kind::can_start` meets its contract.
use Rattle.phr.specs.File.{start_fits}
use Rattle.laws.proofs.Words.{nought_word}
use Rattle.phr.proofs.kinds.Kind.can_start.Goals as goal

pub returns-in-Phase : goal.returns-in-Phase
unfolding start_fits
returns-in-Phase c = rw c.in-Phase.is (nought_word c.args.start c.ranges.start)

pub returns-in-Frequency : goal.returns-in-Frequency
unfolding start_fits
returns-in-Frequency c = rw c.in-Frequency.is
