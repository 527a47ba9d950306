-- `phr::refusals::check_count` meets its contract: each test that is left narrows what is known of the bytes.
use Rattle.std.proofs.Common.{◌≡◌, ℕ, ◌+◌, ◌*◌, ◌≤◌, sym, ap, ◌∙◌, arith}
use Rattle.record.specs.Refusals.{refused}
use Rattle.phr.specs.File.{most_values}
use Rattle.phr.specs.Reading.{kind_of, count_of}
use Rattle.phr.proofs.ReadCases.{most_values_bounded, too_many_values, file_too_short, file_too_long, no_room_for_values, room_for_values}
use Rattle.phr.proofs.refusals.check_count.Goals as goal
use Rattle.phr.proofs.refusals.check_count.Goals.{After-most_values, Else-most_values-count}

most_there : (c : After-most_values) → c.most_values.result ≡ most_values (kind_of c.args.bytes.now)
most_there c = c.most_values.ensures ∙ ap most_values c.kind_of.ensures

count_there : (c : Else-most_values-count) → c.count_of-count.result ≡ count_of c.args.bytes.now
count_there c = c.count_of-count.ensures

few_there : (c : Else-most_values-count) → let bytes = c.args.bytes.now in count_of bytes ≤ most_values (kind_of bytes)
few_there c =
    let most_there_here : c.most_values.result ≡ most_values (kind_of c.args.bytes.now) = c.most_values.ensures ∙ ap most_values c.kind_of.ensures in
    omega (arith, most_there_here, count_there c)

pub returns-then-most_values-count : goal.returns-then-most_values-count
returns-then-most_values-count c = rw c.at.ensures (sym (too_many_values _ _ _ (omega (arith, most_there (goal.at.returns-then-most_values-count c).After-most_values, c.count_of-count.ensures))))

pub overflow_mul-right : goal.overflow_mul-right
overflow_mul-right c = omega (arith, few_there (goal.at.overflow_mul-right c).Else-most_values-count, count_there (goal.at.overflow_mul-right c).Else-most_values-count, most_values_bounded (kind_of c.args.bytes.now))

pub overflow_add-right : goal.overflow_add-right
overflow_add-right c = omega (arith, few_there (goal.at.overflow_add-right c).Else-most_values-count, count_there (goal.at.overflow_add-right c).Else-most_values-count, most_values_bounded (kind_of c.args.bytes.now), c.requires.1)

pub returns-then-bytes-right : goal.returns-then-bytes-right
returns-then-bytes-right c =
    rw c.at-then-bytes-right.ensures (sym (file_too_short _ _ _ (few_there (goal.at.returns-then-bytes-right c).Else-most_values-count) (omega (arith, count_there (goal.at.returns-then-bytes-right c).Else-most_values-count))))

pub returns-then-right-bytes : goal.returns-then-right-bytes
returns-then-right-bytes c =
    rw c.at-then-right-bytes.ensures (ap (λ (n : ℕ). refused 9 (c.args.head + 8 * n)) (count_there (goal.at.returns-then-right-bytes c).Else-most_values-count) ∙ sym (file_too_long _ _ _ (few_there (goal.at.returns-then-right-bytes c).Else-most_values-count) (omega (arith, count_there (goal.at.returns-then-right-bytes c).Else-most_values-count))))

pub returns-then-room-count : goal.returns-then-room-count
returns-then-room-count c =
    rw c.at-then-room-count.ensures (sym (no_room_for_values _ _ _ (few_there (goal.at.returns-then-room-count c).Else-most_values-count) (omega (arith, count_there (goal.at.returns-then-room-count c).Else-most_values-count)) (omega (arith, count_there (goal.at.returns-then-room-count c).Else-most_values-count))))

pub returns : goal.returns
returns c =
    sym (room_for_values _ _ _ (few_there (goal.at.returns c).Else-most_values-count) (omega (arith, count_there (goal.at.returns c).Else-most_values-count)) (omega (arith, count_there (goal.at.returns c).Else-most_values-count)))
