-- `record::moved_up` meets its contract: below nought and above it the cast makes the sample's word.
use Rattle.std.proofs.Common.{ℕ, ◌+◌, ◌%◌, ◌^◌, ap, ◌∙◌, w64}
use Rattle.laws.proofs.Machine.{operation_fits, right_of}
use Rattle.laws.proofs.Words.{past_nought, past_nought_fits, past_nought_cast, past_nought_within, below_nought_word, above_nought_cast, above_nought_word}
use Rattle.record.proofs.moved_up.Goals as goal

-- what is moved up, modulo 2^64
abbrev up : ℕ → ℕ
up n = (n + 2 ^ 40) % 2 ^ 64

pub overflow_add-x : goal.overflow_add-x
overflow_add-x c = operation_fits w64 (right_of (past_nought c.args.x)) (past_nought_fits c.args.x c.ranges.x c.if-x-lt0.true).1

pub overflow_sub-x : goal.overflow_sub-x
overflow_sub-x c = operation_fits w64 (past_nought c.args.x) (past_nought_fits c.args.x c.ranges.x c.if-x-lt0.true)

pub overflow_cast-x : goal.overflow_cast-x
overflow_cast-x c = past_nought_cast c.args.x c.ranges.x c.if-x-lt0.true

pub overflow_sub-x-then-x-lt0 : goal.overflow_sub-x-then-x-lt0
overflow_sub-x-then-x-lt0 c = past_nought_within c.args.x c.ranges.x c.if-x-lt0.true

pub returns-then-x-lt0 : goal.returns-then-x-lt0
returns-then-x-lt0 c =
    c.wrapping_add_u64.ensures.value ∙ ap up (below_nought_word c.args.x c.ranges.x c.if-x-lt0.true)

pub overflow_cast-x-2 : goal.overflow_cast-x-2
overflow_cast-x-2 c = above_nought_cast c.args.x c.ranges.x c.if-x-lt0.false

pub returns : goal.returns
returns c =
    c.wrapping_add_u64-2.ensures.value ∙ ap up (above_nought_word c.args.x c.ranges.x c.if-x-lt0.false)
