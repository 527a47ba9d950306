-- `phr::refusals::check_room` meets its contract.
use Rattle.std.proofs.Common.{sym, arith}
use Rattle.phr.specs.Kinds.{number_of_kind}
use Rattle.phr.proofs.ReadCases.{most_values_bounded}
use Rattle.phr.proofs.WriteCases.{too_many_to_write, no_room_for_file, room_for_file}
use Rattle.phr.proofs.refusals.check_room.Goals as goal

pub returns-then-most_values-count : goal.returns-then-most_values-count
returns-then-most_values-count c = rw c.at.ensures (sym (too_many_to_write _ _ _ _ (omega (arith, c.most_values.ensures))))

pub overflow_mul-count : goal.overflow_mul-count
overflow_mul-count c = omega (arith, c.most_values.ensures, most_values_bounded (number_of_kind c.args.kind))

pub overflow_add-head : goal.overflow_add-head
overflow_add-head c = omega (arith, c.most_values.ensures, most_values_bounded (number_of_kind c.args.kind), c.requires)

pub returns-then-room-head : goal.returns-then-room-head
returns-then-room-head c = rw c.at-then-room-head.ensures (sym (no_room_for_file _ _ _ _ (omega (arith, c.most_values.ensures)) (omega arith)))

pub returns : goal.returns
returns c = sym (room_for_file _ _ _ _ (omega (arith, c.most_values.ensures)) (omega arith))
