-- `drift::triangle` meets its contract: one of two neighbours is even.
use Rattle.drift.proofs.DriftLaws.{triangle_is}
use Rattle.drift.proofs.triangle.Goals as goal

pub returns : goal.returns
returns c = triangle_is c.args.i
