-- `sums::totals::Record::allan_parts` meets its contract, what its invariant leaves to show.
use mathlib.Core.Path.{ap, ◌∙◌}
use native.Mathlib.Omega.{arith}
use Rattle.record.proofs.RefusalLaws.{none_sound}
use Rattle.sums.specs.Answers.{allan_demand}
use Rattle.sums.proofs.SquareLaws.{parts_of, no_parts, parts_step, parts_of_squares, parts_small}
use Rattle.sums.proofs.TotalLaws.{raised_difference, raised_difference_small, allan_count_is}
use Rattle.sums.proofs.totals.Record.allan_parts.Goals as goal

pub overflow_mul-i-end : goal.overflow_mul-i-end
overflow_mul-i-end c = omega (arith, (none_sound allan_demand _ _ c.args.self.now.unrefused).enough)

pub overflow_sub-i-end : goal.overflow_sub-i-end
overflow_sub-i-end c = omega (arith, (none_sound allan_demand _ _ c.args.self.now.unrefused).enough)

pub loop-i-init : goal.loop-i-init
loop-i-init c = no_parts (raised_difference c.args.self.now.m c.args.self.now.samples.now)

pub with_number-parts-requires : goal.with_number-parts-requires
with_number-parts-requires c =
    let small = parts_small (raised_difference c.args.self.now.m c.args.self.now.samples.now) c.loop-i.i (omega (arith, (none_sound allan_demand _ _ c.args.self.now.unrefused).not_too_many))
    (λ i below. raised_difference_small _ _ c.args.self.now.unrefused i) c.loop-i.invariant in
    (c.raised_difference.ensures.1, small.0, small.1, small.2, small.3)

pub loop-i-preserved : goal.loop-i-preserved
loop-i-preserved c =
    (parts_step (raised_difference c.args.self.now.m c.args.self.now.samples.now) c.loop-i.i c.loop-i.invariant c.raised_difference.ensures.0 c.with_number-parts.ensures)

pub returns : goal.returns
returns c =
    let u = raised_difference c.args.self.now.m c.args.self.now.samples.now in
    let whole = c.loop-i.invariant ∙ ap (parts_of u) (allan_count_is c.args.self.now.m c.args.self.now.samples.now c.loop-i.i (omega arith)) in
    (parts_of_squares u _ whole, ap (λ p. p.raised) whole)
