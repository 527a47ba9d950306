-- `phr::values::write_value` meets its contract.
use Rattle.std.proofs.Common.{ap, ◌∙◌, to_z-of_z, w64, of_z}
use Rattle.std.specs.Int.{to_le_bytes}
use Rattle.phr.proofs.ChunkLaws.{chunk_stored}
use Rattle.phr.proofs.values.write_value.Goals as goal

pub returns : goal.returns
returns c = chunk_stored c.args.buffer.now c.args.place c.args.z (c.copy_from_slice.ensures.after ∙ c.to_le_bytes.ensures ∙ ap (to_le_bytes w64) (ap (of_z w64) (to_z-of_z c.ranges.z)))
