-- `sums::blocks::windows` meets its contract. The loop's invariant: the window after k gains is held raised, and the sums are those over k windows.
use mathlib.Core.Path.{◌≡◌}
use Rattle.wide.specs.Wide.{halves}
use Rattle.sums.proofs.BlockLaws.{raised_at, raised_so_far, squares_so_far}
use Rattle.sums.proofs.blocks.windows.Given as goal

abbrev pub invariant-loop-gain : goal.invariant-loop-gain
invariant-loop-gain l =
    (l.high ≡ raised_at l.m l.window l.gains l.gain-index) × (l.total ≡ halves (squares_so_far l.m l.window l.gains l.gain-index)) × (l.raised ≡ raised_so_far l.m l.window l.gains l.gain-index)
