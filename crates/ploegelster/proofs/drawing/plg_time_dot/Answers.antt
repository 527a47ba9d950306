-- `ploegelster::drawing::plg_time_dot` meets its contract.
use mathlib.Core.Path.{ap, ◌∙◌}
use Rattle.ploegelster.specs.Boundary.{told_dot}
use Rattle.ploegelster.proofs.drawing.plg_time_dot.Goals as goal

pub returns : goal.returns
returns c = c.from.ensures ∙ ap told_dot c.time_dot.ensures
