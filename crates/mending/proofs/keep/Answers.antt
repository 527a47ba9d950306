-- `mending::keep` meets its contract.
use Rattle.std.proofs.Common.{◌-◌, length, ltb, refl, sym, ap, ap₂, ◌∙◌, arith}
use Rattle.mending.proofs.KeptLaws.{kept_length, present_length}
use Rattle.mending.proofs.KeepCases.{head_inside, present_is, present_inside, kept_is, end_is, end_inside}
use Rattle.mending.proofs.keep.Goals as goal

pub whole_values-whole-requires : goal.whole_values-whole-requires
whole_values-whole-requires c = head_inside _ c.args.contents c.requires.0 c.requires.1 c.head_length-head.ensures

pub slice_bounds-good-end : goal.slice_bounds-good-end
slice_bounds-good-end c = present_inside _ c.args.contents c.requires.0 c.requires.1 c.head_length-head.ensures c.whole_values-whole.ensures c.min-present.ensures

pub overflow_mul-length : goal.overflow_mul-length
overflow_mul-length c =
    omega (arith, end_inside _ c.args.contents c.requires.0 c.requires.1 c.head_length-head.ensures c.whole_values-whole.ensures c.min-present.ensures refl c.good-kept.ensures)

pub overflow_add-length : goal.overflow_add-length
overflow_add-length c =
    omega (arith, end_inside _ c.args.contents c.requires.0 c.requires.1 c.head_length-head.ensures c.whole_values-whole.ensures c.min-present.ensures refl c.good-kept.ensures)

pub overflow_sub-result : goal.overflow_sub-result
overflow_sub-result c =
    end_inside _ c.args.contents c.requires.0 c.requires.1 c.head_length-head.ensures c.whole_values-whole.ensures c.min-present.ensures refl c.good-kept.ensures

pub returns-clause-kept : goal.returns-clause-kept
returns-clause-kept c =
    kept_is _ c.args.contents c.requires.0 c.requires.1 c.head_length-head.ensures c.whole_values-whole.ensures c.min-present.ensures refl c.good-kept.ensures
    ∙ sym (kept_length _)

pub returns-clause-left : goal.returns-clause-left
returns-clause-left c =
    ap (λ n. length c.args.bytes.now - n)
    (end_is _ c.args.contents c.requires.0 c.requires.1 c.head_length-head.ensures c.whole_values-whole.ensures c.min-present.ensures refl c.good-kept.ensures)

pub returns-clause-met : goal.returns-clause-met
returns-clause-met c =
    ap₂ ltb
    (kept_is _ c.args.contents c.requires.0 c.requires.1 c.head_length-head.ensures c.whole_values-whole.ensures c.min-present.ensures refl c.good-kept.ensures)
    (present_is _ c.args.contents c.requires.0 c.requires.1 c.head_length-head.ensures c.whole_values-whole.ensures c.min-present.ensures ∙ sym (present_length _))
