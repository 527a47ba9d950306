-- `phr::header::version_of` meets its contract.
use Rattle.phr.specs.Reading.{version_of}
use Rattle.phr.proofs.header.version_of.Goals as goal

pub returns : goal.returns
unfolding version_of
returns c = c.from.ensures
