-- `phr::values::read_values` meets its contract, what its invariant leaves to show.
use Rattle.std.proofs.Common.{pos, ◌∙◌, arith}
use Rattle.laws.proofs.ListLaws.{written_one_more, written_whole}
use Rattle.phr.proofs.ChunkLaws.{chunk_value}
use Rattle.phr.proofs.ValueLaws.{values_from_length, values_from_inside}
use Rattle.phr.proofs.values.read_values.Goals as goal

pub loop-i-preserved : goal.loop-i-preserved
loop-i-preserved c =
    let a = c.args in
    let entry = chunk_value a.place a.count a.bytes.now c.requires.0 c.chunks_from-chunk-items.ensures.1 c.loop-i.i (omega arith) c.from_le_bytes.ensures c.from_le_bytes.type_inv in
    written_one_more _ _ c.loop-i.i (pos 0) (values_from_inside a.place a.count a.bytes.now c.loop-i.i (omega arith)) (omega arith) c.loop-i.invariant entry

pub returns : goal.returns
returns c =
    let a = c.args in
    c.loop-i.invariant ∙ written_whole _ _ c.loop-i.i (omega (arith, values_from_length a.place a.count a.bytes.now))
