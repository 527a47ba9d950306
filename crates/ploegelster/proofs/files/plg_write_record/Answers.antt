-- `ploegelster::files::plg_write_record` meets its contract.
use mir.Syntax.{w64}
use mir.ValLaws.{to_z-of_z}
use Rattle.ploegelster.proofs.files.plg_write_record.Goals as goal

pub returns : goal.returns
returns c =
    record { value = rw (to_z-of_z w64 c.args.start c.ranges.start) at c.write_record.ensures.value; buffer_after = rw (to_z-of_z w64 c.args.start c.ranges.start) at c.write_record.ensures.buffer_after }
