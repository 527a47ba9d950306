-- `sums::totals::Record::allan_total` meets its contract.
use mathlib.Core.Path.{ap, ◌∙◌}
use Prim.Native.Nat.{ℕ, ◌-◌, ◌*◌, ◌^◌, ◌≤◌, ◌<◌}
use native.Mathlib.Omega.{arith}
use lib.IntN.{nat_abs}
use lib.ListN.{length}
use Rattle.wide.specs.Wide.{value, halves}
use Rattle.wide.proofs.WideLaws.{value_of_halves}
use Rattle.record.proofs.RefusalLaws.{none_sound}
use Rattle.sums.specs.Answers.{allan_demand}
use Rattle.sums.specs.Published.{difference, allan_count, allan_sum}
use Rattle.sums.proofs.SquareLaws.{lowered_under, lowered_below, lowered_is}
use Rattle.sums.proofs.TotalLaws.{allan_difference_within}
use Rattle.sums.proofs.totals.Record.allan_total.Goals as goal

pub overflow_mul-count : goal.overflow_mul-count
overflow_mul-count c = omega (arith, (none_sound allan_demand _ _ c.args.self.now.unrefused).enough)

pub overflow_sub-count : goal.overflow_sub-count
overflow_sub-count c = omega (arith, (none_sound allan_demand _ _ c.args.self.now.unrefused).enough)

pub lowered-requires : goal.lowered-requires
unfolding allan_count
lowered-requires c =
    let few : length c.args.self.now.samples.now - 2 * c.args.self.now.m ≤ 32768 = omega (arith, (none_sound allan_demand _ _ c.args.self.now.unrefused).not_too_many) in
    let d = difference c.args.self.now.m c.args.self.now.samples.now in
    let within : (i : ℕ) → i < length c.args.self.now.samples.now - 2 * c.args.self.now.m → nat_abs (d i) ≤ 2 ^ 42 = λ i below. allan_difference_within _ _ c.args.self.now.unrefused i in
    let squares = ap value c.joined.ensures ∙ value_of_halves _ ∙ c.allan_parts-parts.ensures.0 in
    let sum = c.allan_parts-parts.ensures.1 in
    (omega arith, few, lowered_below 1 _ d within _ _ squares sum (omega arith), lowered_under 1 _ d within _ _ squares sum)

pub returns : goal.returns
unfolding allan_count allan_sum
returns c =
    let d = difference c.args.self.now.m c.args.self.now.samples.now in
    let within : (i : ℕ) → i < length c.args.self.now.samples.now - 2 * c.args.self.now.m → nat_abs (d i) ≤ 2 ^ 42 = λ i below. allan_difference_within _ _ c.args.self.now.unrefused i in
    let squares = ap value c.joined.ensures ∙ value_of_halves _ ∙ c.allan_parts-parts.ensures.0 in
    c.lowered.ensures ∙ ap halves (lowered_is 1 _ d within _ _ squares c.allan_parts-parts.ensures.1)
