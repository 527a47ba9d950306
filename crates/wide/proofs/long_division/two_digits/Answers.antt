-- `wide::long_division::two_digits` meets its contract. The number below 2^64 times the divisor leaves a quotient below 2^64.
use Rattle.std.proofs.Common.{◌/◌, ◌^◌, ◌<◌, arith}
use Rattle.laws.proofs.Halves.{high_part_below}
use Rattle.wide.proofs.Divisions.{quotient_by_digits, remainder_by_digits}
use Rattle.wide.proofs.long_division.two_digits.Goals as goal

pub overflow_add-result : goal.overflow_add-result
overflow_add-result c =
    let first = c.one_digit-first.ensures in
    let below : c.args.n / c.args.d < 2 ^ 64 = high_part_below (2 ^ 64) c.args.d c.args.n (omega arith) (omega arith) in
    omega (arith, quotient_by_digits (2 ^ 32) c.args.n (omega arith) first.0 first.1 c.one_digit-second.ensures.0)

pub returns : goal.returns
returns c =
    let first = c.one_digit-first.ensures in
    let second = c.one_digit-second.ensures in
    (quotient_by_digits (2 ^ 32) c.args.n (omega arith) first.0 first.1 second.0, remainder_by_digits (2 ^ 32) c.args.n (omega arith) first.0 first.1 second.1)
