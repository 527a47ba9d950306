-- `phr::header::count_of` meets its contract.
use Rattle.std.proofs.Common.{arith}
use Rattle.phr.specs.Reading.{count_of}
use Rattle.phr.proofs.header.count_of.Goals as goal

pub returns : goal.returns
unfolding count_of
returns c = omega arith
