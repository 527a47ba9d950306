-- `ploegelster::drawing::plg_allan_dot` meets its contract.
use mathlib.Core.Path.{ap, ◌∙◌}
use Rattle.ploegelster.specs.Boundary.{told_dot}
use Rattle.ploegelster.proofs.drawing.plg_allan_dot.Goals as goal

pub returns : goal.returns
returns c = c.from.ensures ∙ ap told_dot c.allan_dot.ensures
