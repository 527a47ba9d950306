-- `phr::header::kind_of` meets its contract.
use Rattle.std.proofs.Common.{arith}
use Rattle.phr.specs.Reading.{kind_of}
use Rattle.phr.proofs.header.kind_of.Goals as goal

pub returns-then-bytes-eq0 : goal.returns-then-bytes-eq0
unfolding kind_of
returns-then-bytes-eq0 c = omega arith

pub returns-else-bytes-eq0 : goal.returns-else-bytes-eq0
unfolding kind_of
returns-else-bytes-eq0 c = omega arith
