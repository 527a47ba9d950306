-- `plot::dots::dot_of` meets its contract.
use Rattle.plot.proofs.dots.dot_of.Goals as goal

pub returns-in-Ok : goal.returns-in-Ok
returns-in-Ok c = rw c.in-Ok.is c.of_units.ensures

pub returns-in-Err : goal.returns-in-Err
returns-in-Err c = rw c.in-Err.is c.too_few_or.ensures
