-- `ploegelster::meters::plg_meter_sample` meets its contract.
use mir.Syntax.{w64}
use mir.ValLaws.{to_z-of_z}
use Rattle.ploegelster.proofs.meters.plg_meter_sample.Goals as goal

pub returns : goal.returns
returns c =
    rw (to_z-of_z w64 c.args.x c.ranges.x) at c.sample.ensures
