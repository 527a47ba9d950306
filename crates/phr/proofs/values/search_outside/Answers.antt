-- `phr::values::search_outside` meets its contract, what its invariant leaves to show.
use Rattle.std.proofs.Common.{◌≡◌, sym, arith}
use Rattle.phr.specs.Bytes.{values_from}
use Rattle.phr.proofs.ChunkLaws.{chunk_value}
use Rattle.phr.specs.Kinds.{number_of_kind}
use Rattle.phr.proofs.RangeSearch.{value_passes, value_fails, no_value_fails}
use Rattle.phr.proofs.ValueLaws.{values_from_length, values_from_inside}
use Rattle.phr.proofs.values.search_outside.Goals as goal

pub loop-i-preserved : goal.loop-i-preserved
loop-i-preserved c =
    let a = c.args in
    let inside = values_from_inside a.place a.count a.bytes.now c.loop-i.i (omega arith) in
    let entry = chunk_value a.place a.count a.bytes.now c.requires c.chunks_from-chunk-items.ensures.1 c.loop-i.i (omega arith) c.from_le_bytes.ensures c.from_le_bytes.type_inv in
    value_passes (number_of_kind a.kind) (values_from a.place a.count a.bytes.now) c.loop-i.i inside c.loop-i.invariant entry c.has.ensures c.if-not-has.false

pub returns-then-not-has : goal.returns-then-not-has
returns-then-not-has c =
    let a = c.args in
    let inside = values_from_inside a.place a.count a.bytes.now c.loop-i.i (omega arith) in
    let entry = chunk_value a.place a.count a.bytes.now c.requires c.chunks_from-chunk-items.ensures.1 c.loop-i.i (omega arith) c.from_le_bytes.ensures c.from_le_bytes.type_inv in
    value_fails (number_of_kind a.kind) (values_from a.place a.count a.bytes.now) c.loop-i.i inside c.loop-i.invariant entry c.has.ensures c.if-not-has.true

pub returns : goal.returns
returns c =
    let a = c.args in
    no_value_fails (number_of_kind a.kind) (values_from a.place a.count a.bytes.now) c.args.count (sym (values_from_length a.place a.count a.bytes.now))
    (let whole : c.loop-i.i ≡ a.count = omega arith in rw whole at c.loop-i.invariant)
