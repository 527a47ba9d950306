-- `sums::totals::Record::slid` meets its contract.
use mir.Syntax.{w64}
use Rattle.laws.proofs.Machine.{operation_fits}
use Rattle.sums.proofs.TotalLaws.{moved, window_moves_fits, window_moves}
use Rattle.sums.proofs.totals.Record.slid.Goals as goal

pub overflow_add-result : goal.overflow_add-result
overflow_add-result c =
    operation_fits w64 (moved c.args.self.now.m c.args.self.now.samples.now c.args.j c.args.window c.gain.result)
    (window_moves_fits _ _ c.args.self.now.unrefused c.args.j c.requires.1 c.gain.ensures)

pub returns : goal.returns
returns c =
    window_moves c.args.self.now.m c.args.self.now.samples.now c.args.self.now.unrefused c.args.j c.requires.1 c.gain.ensures
