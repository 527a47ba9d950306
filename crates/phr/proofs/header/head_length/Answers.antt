-- `phr::header::head_length` meets its contract.
use Rattle.std.proofs.Common.{sym}
use Rattle.phr.specs.Reading.{version_of}
use Rattle.phr.proofs.ReadCases.{first_head, second_head}
use Rattle.phr.proofs.header.head_length.Goals as goal

pub returns-then-bytes-eq2 : goal.returns-then-bytes-eq2
unfolding version_of
returns-then-bytes-eq2 c = sym (second_head _ c.if-bytes-eq2.true)

pub returns : goal.returns
unfolding version_of
returns c = sym (first_head _ c.if-bytes-eq2.false)
