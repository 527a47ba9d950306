-- `phr::kinds::Kind::most_values` meets its contract.
use Rattle.phr.specs.File.{most_values}
use Rattle.phr.proofs.kinds.Kind.most_values.Goals as goal

pub returns-in-Phase : goal.returns-in-Phase
unfolding most_values
returns-in-Phase c = rw c.in-Phase.is

pub returns-in-Frequency : goal.returns-in-Frequency
unfolding most_values
returns-in-Frequency c = rw c.in-Frequency.is
