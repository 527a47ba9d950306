-- `sums::blocks::windows` meets its contract, what its invariant leaves to show.
use mathlib.Core.Path.{refl, sym, ap, ◌∙◌}
use Prim.Native.Nat.{◌+◌}
use native.Mathlib.Omega.{arith}
use lib.IntN.{ℤ}
use mir.Syntax.{w64}
use mir.Facts.{to_z-of_z}
use Rattle.laws.specs.Sums.{sum, square}
use Rattle.laws.proofs.Machine.{operation_fits}
use Rattle.laws.proofs.SumLaws.{sum_zero}
use Rattle.wide.specs.Wide.{halves}
use Rattle.sums.proofs.BlockLaws.{window_at, bounded_read, lowering, last_small, last_fits, last_is, start_fits, start_is, gain_moves, moved_is, raised_grows, raised_fits, squares_grow, block_below, block_under, block_is}
use Rattle.sums.proofs.blocks.windows.Goals as goal

pub moved_by-high-requires : goal.moved_by-high-requires
moved_by-high-requires c = start_fits (bounded_read _ _ c.args.gains.now c.ranges.window c.requires.0 c.requires.1)

pub loop-gain-init : goal.loop-gain-init
loop-gain-init c =
    let b = bounded_read _ _ c.args.gains.now c.ranges.window c.requires.0 c.requires.1 in
    (start_is b _ c.moved_by-high.ensures, ap halves (sym (sum_zero _)), sym (sum_zero _))

pub moved_by-high-requires-in-loop-gain : goal.moved_by-high-requires-in-loop-gain
moved_by-high-requires-in-loop-gain c =
    let b = bounded_read _ _ c.args.gains.now c.ranges.window c.requires.0 c.requires.1 in
    gain_moves b c.loop-gain.gain-index (omega arith) c.loop-gain.invariant.0 c.moved_by-arg-1.given refl

pub overflow_add-raised : goal.overflow_add-raised
overflow_add-raised c =
    let b = bounded_read _ _ c.args.gains.now c.ranges.window c.requires.0 c.requires.1 in
    let next = moved_is b c.loop-gain.gain-index (omega arith) c.loop-gain.invariant.0 c.moved_by-arg-1.given refl _ c.moved_by-high-in-loop-gain.ensures in
    omega (arith, raised_grows b c.loop-gain.gain-index (omega arith) c.loop-gain.invariant.2 next, raised_fits b (c.loop-gain.gain-index + 1) (omega arith))

pub loop-gain-preserved : goal.loop-gain-preserved
loop-gain-preserved c =
    let b = bounded_read _ _ c.args.gains.now c.ranges.window c.requires.0 c.requires.1 in
    let next = moved_is b c.loop-gain.gain-index (omega arith) c.loop-gain.invariant.0 c.moved_by-arg-1.given refl _ c.moved_by-high-in-loop-gain.ensures in
    (next, squares_grow b c.loop-gain.gain-index (omega arith) c.loop-gain.invariant.1 next c.with_square-total.ensures, raised_grows b c.loop-gain.gain-index (omega arith) c.loop-gain.invariant.2 next)

pub overflow_cast-result : goal.overflow_cast-result
overflow_cast-result c =
    let b = bounded_read _ _ c.args.gains.now c.ranges.window c.requires.0 c.requires.1 in
    record { sfits = last_small b c.loop-gain.gain-index (omega arith) c.loop-gain.high c.loop-gain.invariant.0 }

pub overflow_sub-result : goal.overflow_sub-result
overflow_sub-result c =
    let b = bounded_read _ _ c.args.gains.now c.ranges.window c.requires.0 c.requires.1 in
    operation_fits w64 (lowering c.args.m c.loop-gain.high) (last_fits b c.loop-gain.gain-index (omega arith) c.loop-gain.high c.loop-gain.invariant.0)

pub lowered-requires : goal.lowered-requires
lowered-requires c =
    let b = bounded_read _ _ c.args.gains.now c.ranges.window c.requires.0 c.requires.1 in (
      c.requires.0,
      omega arith,
      block_below b c.loop-gain.gain-index (omega arith) c.loop-gain.total c.loop-gain.raised c.loop-gain.invariant.1 c.loop-gain.invariant.2,
      block_under b c.loop-gain.gain-index (omega arith) c.loop-gain.total c.loop-gain.raised c.loop-gain.invariant.1 c.loop-gain.invariant.2,
    )

pub returns : goal.returns
returns c =
    let gs = c.args.gains.now in
    let b = bounded_read _ _ gs c.ranges.window c.requires.0 c.requires.1 in
    let read = to_z-of_z {w = w64} c.ranges.window in (
      last_is b c.loop-gain.gain-index (omega arith) c.loop-gain.high c.loop-gain.invariant.0 ∙ ap (λ (w : ℤ). window_at w gs 128) read,
      c.lowered.ensures ∙ ap halves (block_is b c.loop-gain.gain-index (omega arith) c.loop-gain.total c.loop-gain.raised c.loop-gain.invariant.1 c.loop-gain.invariant.2
          ∙ ap (λ (w : ℤ). sum 128 (λ i. square (window_at w gs (i + 1)))) read),
    )
