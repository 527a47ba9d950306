-- `wide::long_division::low_word` meets its contract.
use Rattle.std.proofs.Common.{ℕ, ◌-◌, ◌*◌, ◌/◌, ◌%◌, ◌^◌, ◌<◌, ap, ◌∙◌, arith}
use Rattle.laws.proofs.Halves.{two_digits_below}
use Rattle.wide.proofs.Divisions.{scaled_top, scaled_below, scaled_quotient, scaled_remainder}
use Rattle.wide.proofs.long_division.low_word.Goals as goal

pub two_digits-scaled-requires : goal.two_digits-scaled-requires
two_digits-scaled-requires c =
    let x = c.args in
    let log = c.ilog2-shift.ensures in
    let below : c.from.result < x.d * 2 ^ 64 = omega (arith, two_digits_below x.d (2 ^ 64) x.rest x.lo c.requires (omega arith)) in
    (scaled_top log.power_le log.next_power_gt log.bound below, scaled_below log.power_le log.next_power_gt log.bound below)

pub returns : goal.returns
returns c =
    let x = c.args in
    let log = c.ilog2-shift.ensures in
    let scaled = c.two_digits-scaled.ensures in
    let below : c.from.result < x.d * 2 ^ 64 = omega (arith, two_digits_below x.d (2 ^ 64) x.rest x.lo c.requires (omega arith)) in (
      scaled.0 ∙ scaled_quotient log.power_le log.next_power_gt log.bound below ∙ ap (λ (n : ℕ). n / x.d) c.from.ensures,
      ap (λ (r : ℕ). r / 2 ^ (63 - c.ilog2-shift.result)) scaled.1
          ∙ scaled_remainder log.power_le log.next_power_gt log.bound below
          ∙ ap (λ (n : ℕ). n % x.d) c.from.ensures,
    )
