-- `sums::totals::Record::first_window` meets its contract, what its invariant leaves to show.
use mathlib.Core.Path.{◌≡◌, sym, ap, ◌∙◌}
use native.Mathlib.Omega.{arith}
use mir.Syntax.{w64}
use mir.Val.{of_z}
use mir.Facts.{of_z-to_z}
use Rattle.laws.proofs.Machine.{operation_fits}
use Rattle.laws.proofs.SumLaws.{sum_ℤ_zero}
use Rattle.sums.proofs.PublishedLaws.{first_so_far}
use Rattle.sums.proofs.TotalLaws.{grown, first_grows_fits, first_grows, first_grown}
use Rattle.sums.proofs.totals.Record.first_window.Goals as goal
use Rattle.sums.proofs.totals.Record.first_window.Goals.{At-loop-i}

-- the bits of the window
bits_are : (c : At-loop-i) → c.loop-i.window-bits ≡ of_z w64 (first_so_far c.args.self.now.m c.args.self.now.samples.now c.loop-i.i)
bits_are c = sym (of_z-to_z c.loop-i.auto.window) ∙ ap (of_z w64) c.loop-i.invariant

pub loop-i-init : goal.loop-i-init
loop-i-init c = sym (sum_ℤ_zero _)

pub overflow_add-window : goal.overflow_add-window
overflow_add-window c =
    operation_fits w64 (grown c.args.self.now.m c.args.self.now.samples.now c.loop-i.i c.loop-i.window-bits c.difference-window.result)
    (first_grows_fits _ _ c.args.self.now.unrefused c.loop-i.i c.loop-i.window-bits (omega arith) (bits_are (goal.at.overflow_add-window c).At-loop-i) c.difference-window.ensures)

pub loop-i-preserved : goal.loop-i-preserved
loop-i-preserved c =
    (first_grows c.args.self.now.m c.args.self.now.samples.now c.args.self.now.unrefused c.loop-i.i c.loop-i.window-bits (omega arith) (bits_are (goal.at.loop-i-preserved c).At-loop-i) c.difference-window.ensures)

pub returns : goal.returns
returns c =
    first_grown _ _ c.args.self.now.unrefused c.loop-i.i c.loop-i.window-bits (omega arith) (bits_are (goal.at.returns c).At-loop-i) (omega arith)
