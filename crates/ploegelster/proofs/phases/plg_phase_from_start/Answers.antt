-- `ploegelster::phases::plg_phase_from_start` meets its contract.
use mir.Syntax.{w64}
use mir.ValLaws.{to_z-of_z}
use Rattle.ploegelster.proofs.phases.plg_phase_from_start.Goals as goal

pub returns : goal.returns
returns c =
    record { value = rw (to_z-of_z w64 c.args.start c.ranges.start) at c.phase_from_start.ensures.value; buffer_after = rw (to_z-of_z w64 c.args.start c.ranges.start) at c.phase_from_start.ensures.buffer_after }
