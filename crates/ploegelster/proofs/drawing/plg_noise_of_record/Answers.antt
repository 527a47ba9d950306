-- `ploegelster::drawing::plg_noise_of_record` meets its contract.
use mathlib.Core.Path.{ap, ◌∙◌}
use Rattle.ploegelster.specs.Boundary.{told_noise}
use Rattle.ploegelster.proofs.drawing.plg_noise_of_record.Goals as goal

pub returns : goal.returns
returns c = c.from.ensures ∙ ap told_noise c.of_record.ensures
