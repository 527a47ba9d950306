-- `phr::values::value_at` meets its contract.
use Rattle.phr.proofs.ChunkLaws.{one_chunk_value}
use Rattle.phr.proofs.values.value_at.Goals as goal

pub returns : goal.returns
returns c = one_chunk_value c.args.place c.args.bytes.now c.requires c.chunks_from.ensures.1 c.from_le_bytes.ensures c.from_le_bytes.type_inv
