-- `sums::totals::Record::modified_total` meets its contract, what its invariant leaves to show.
use mathlib.Core.Path.{ap, ◌∙◌}
use Prim.Native.Nat.{◌+◌}
use native.Mathlib.Omega.{arith}
use Rattle.wide.specs.Wide.{halves}
use Rattle.sums.proofs.PublishedLaws.{modified_sum_is}
use Rattle.sums.proofs.TotalLaws.{window_read, modified_grows}
use Rattle.sums.proofs.totals.Record.modified_total.Goals as goal

pub loop-j-init : goal.loop-j-init
loop-j-init c = let done = c.whole_blocks-blocks.ensures in (window_read _ _ c.args.self.now.unrefused _ done.1, done.2)

pub loop-j-preserved : goal.loop-j-preserved
loop-j-preserved c = (
  window_read _ _ c.args.self.now.unrefused (c.loop-j.j + 1) c.slid-window.ensures,
  modified_grows _ _ c.args.self.now.unrefused (c.loop-j.j + 1) (omega arith) c.loop-j.invariant.1 c.slid-window.ensures c.with_square-total.ensures,
)

pub returns : goal.returns
returns c =
    c.loop-j.invariant.1 ∙ ap halves (modified_sum_is _ _ (c.loop-j.j + 1) (omega arith))
