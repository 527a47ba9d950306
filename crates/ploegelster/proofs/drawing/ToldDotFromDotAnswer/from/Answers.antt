-- `ToldDot::from` of `ploegelster::drawing` says what its impl does: each arm is a line of each table.
use lib.Ieee
use Rattle.plot.specs.Dots.{dot_value}
use Rattle.ploegelster.specs.Boundary.{dot_kind}
use Rattle.ploegelster.proofs.Told.{known_dot_told}
use Rattle.ploegelster.proofs.drawing.ToldDotFromDotAnswer.from.Goals as goal

pub returns-in-Drawn : goal.returns-in-Drawn
unfolding dot_kind dot_value
returns-in-Drawn c = known_dot_told _ _ c.in-Drawn.is

pub returns-in-Nought : goal.returns-in-Nought
unfolding dot_kind dot_value Ieee.of_bits
returns-in-Nought c = known_dot_told _ _ c.in-Nought.is

pub returns-in-TooFew : goal.returns-in-TooFew
unfolding dot_kind dot_value Ieee.of_bits
returns-in-TooFew c = known_dot_told _ _ c.in-TooFew.is
