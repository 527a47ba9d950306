-- `meter::tests::window_within` meets its contract: its two comparisons are the range of the window sum.
use mathlib.Core.Path.{sym}
use mir.Syntax.{w64}
use Rattle.laws.proofs.Expressions.{⊝◌}
use Rattle.laws.proofs.Machine.{operation_fits}
use Rattle.meter.proofs.TestLaws.{window_end, window_end_fits, window_below_its_range, window_not_below_its_range}
use Rattle.meter.proofs.tests.window_within.Goals as goal

pub overflow_mul-end : goal.overflow_mul-end
overflow_mul-end c = operation_fits w64 (window_end c.args.m) (window_end_fits _ c.requires).0

pub overflow_sub-end : goal.overflow_sub-end
overflow_sub-end c = operation_fits w64 (⊝ window_end c.args.m) (window_end_fits _ c.requires)

pub returns-then-window-end : goal.returns-then-window-end
returns-then-window-end c = sym (window_below_its_range c.args.m c.requires c.args.window c.ranges.window c.if-window-end.true)

pub returns : goal.returns
returns c = window_not_below_its_range c.args.m c.requires c.args.window c.ranges.window c.if-window-end.false
