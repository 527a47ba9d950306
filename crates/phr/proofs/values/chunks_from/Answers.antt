-- `phr::values::chunks_from` meets its contract.
use Rattle.std.proofs.Common.{◌*◌, drop, ◌∙◌, arith, length-drop, length-take-le}
use Rattle.phr.proofs.ChunkLaws.{chunks_of_part}
use Rattle.phr.proofs.values.chunks_from.Goals as goal

pub returns : goal.returns
returns c =
    let a = c.args in
    (omega (arith, c.as_chunks.ensures.front_len, length-take-le (8 * a.count) (drop a.place a.bytes.now) (omega (arith, length-drop a.place a.bytes.now))), c.as_chunks.ensures.front ∙ chunks_of_part a.place a.count a.bytes.now c.requires)
