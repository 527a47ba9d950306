-- `phr::values::surely_in_range` meets its contract, what its invariant leaves to show.
use Rattle.std.proofs.Common.{◌^◌, ◌%◌, ◌+◌, ap, ◌∙◌, arith, leb-true}
use Rattle.laws.proofs.Words.{one_more_reached}
use Rattle.phr.specs.Kinds.{number_of_kind}
use Rattle.phr.proofs.ChunkLaws.{chunk_word}
use Rattle.phr.proofs.RangeCases.{end_within}
use Rattle.phr.proofs.RangePass.{moved_up, all_in_range}
use Rattle.phr.proofs.values.surely_in_range.Goals as goal

pub loop-chunk-preserved : goal.loop-chunk-preserved
loop-chunk-preserved c =
    let a = c.args in
    let word = chunk_word a.place a.count a.bytes.now c.requires c.chunks_from-chunk-items.ensures.1 c.loop-chunk.chunk-index (omega arith) in
    one_more_reached (moved_up c.end-end.result a.place a.bytes.now) c.loop-chunk.chunk-index c.loop-chunk.reached c.loop-chunk.invariant
    (ap (λ n. (n + c.end-end.result) % 2 ^ 64) (c.from_le_bytes.ensures ∙ word))

pub overflow_mul-result : goal.overflow_mul-result
overflow_mul-result c = omega (arith, end_within (number_of_kind c.args.kind))

pub returns : goal.returns
returns c t =
    all_in_range (number_of_kind c.args.kind) c.args.place c.args.count c.args.bytes.now (λ k. (c.type_inv.bytes k).fits) c.requires c.end-end.ensures c.loop-chunk.chunk-index c.loop-chunk.reached (omega arith) c.loop-chunk.invariant (leb-true _ _ t)
