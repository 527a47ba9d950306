-- `sums::totals::Record::raised_difference` meets its contract.
use mathlib.Core.Path.{ap}
use Prim.Native.Nat.{◌^◌, ◌≤◌}
use native.Mathlib.Omega.{arith}
use lib.IntN.{nat_abs}
use mir.Syntax.{w64}
use mir.Val.{of_z}
use Rattle.laws.proofs.Squares.{raised_within, raise_fits, raise_casts, raise_is}
use Rattle.sums.specs.Published.{difference}
use Rattle.sums.proofs.TotalLaws.{allan_difference_within}
use Rattle.sums.proofs.totals.Record.raised_difference.Goals as goal

pub overflow_add-result : goal.overflow_add-result
overflow_add-result c =
    let d = difference c.args.self.now.m c.args.self.now.samples.now c.args.i in
    raise_fits (2 ^ 42) d (allan_difference_within _ _ c.args.self.now.unrefused c.args.i) (omega arith) _ (ap (of_z w64) c.difference.ensures)

pub overflow_cast-result : goal.overflow_cast-result
overflow_cast-result c =
    let d = difference c.args.self.now.m c.args.self.now.samples.now c.args.i in
    raise_casts (2 ^ 42) d (allan_difference_within _ _ c.args.self.now.unrefused c.args.i) (omega arith) _ (ap (of_z w64) c.difference.ensures)

pub returns : goal.returns
returns c =
    let d = difference c.args.self.now.m c.args.self.now.samples.now c.args.i in
    let near : nat_abs d ≤ 2 ^ 42 = allan_difference_within _ _ c.args.self.now.unrefused c.args.i in
    let same = raise_is (2 ^ 42) d near (omega arith) (of_z w64 c.difference.result) (ap (of_z w64) c.difference.ensures) in
    (same, omega (arith, raised_within (2 ^ 42) d near))
