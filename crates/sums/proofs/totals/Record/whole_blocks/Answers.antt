-- `sums::totals::Record::whole_blocks` meets its contract, what its invariant leaves to show.
use mathlib.Core.Path.{◌≡◌, refl, sym, ap, ◌∙◌}
use Prim.Native.Nat.{◌+◌, ◌-◌, ◌*◌, ◌/◌, ◌≤◌}
use native.Mathlib.Omega.{arith}
use lib.ListN.{length}
use Rattle.laws.proofs.SumLaws.{sum_zero}
use Rattle.wide.specs.Wide.{halves}
use Rattle.record.proofs.RefusalLaws.{none_sound}
use Rattle.sums.specs.Answers.{allan_demand}
use Rattle.sums.proofs.TotalLaws.{gains_length, window_read, modified_grows, block_window, block_within, block_grows}
use Rattle.sums.proofs.totals.Record.whole_blocks.Goals as goal

pub loop-b-init : goal.loop-b-init
loop-b-init c =
    let p = c.args.self.now.unrefused in (
      window_read _ _ p 0 c.first_window-window.ensures,
      modified_grows _ _ p 0 (omega arith) (ap halves (sym (sum_zero _))) c.first_window-window.ensures c.with_square-total.ensures,
      refl,
    )

pub windows-block-requires : goal.windows-block-requires
windows-block-requires c =
    let window = c.loop-b.invariant.0 in
    ((none_sound allan_demand _ _ c.args.self.now.unrefused).factor_most, block_within c.args.self.now.m c.args.self.now.samples.now c.args.self.now.unrefused (128 * c.loop-b.b) (omega arith) window c.write_gains.ensures)

pub loop-b-preserved : goal.loop-b-preserved
loop-b-preserved c =
    let j = 128 * c.loop-b.b in
    let next : 128 * (c.loop-b.b + 1) ≡ j + 128 = omega arith in
    let inside : j + 128 + 3 * c.args.self.now.m ≤ length c.args.self.now.samples.now = omega arith in
    let window = c.loop-b.invariant.0 in
    let gains = c.write_gains.ensures in
    rw next (
      window_read _ _ c.args.self.now.unrefused (j + 128) (c.windows-block.ensures.0 ∙ block_window c.args.self.now.m c.args.self.now.samples.now c.args.self.now.unrefused j inside window gains 128 (omega arith)),
      block_grows c.args.self.now.m c.args.self.now.samples.now c.args.self.now.unrefused j inside window gains c.loop-b.invariant.1 c.windows-block.ensures.1 c.sum-total.ensures,
      ap length gains ∙ gains_length c.args.self.now.m c.args.self.now.samples.now j,
    )

pub returns : goal.returns
returns c =
    let whole : (length c.args.self.now.samples.now - 3 * c.args.self.now.m) / 128 ≡ c.loop-b.b = omega arith in
    rw whole (omega arith, c.loop-b.invariant.0, c.loop-b.invariant.1)
