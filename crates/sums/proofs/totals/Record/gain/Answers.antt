-- `sums::totals::Record::gain` meets its contract: samples in range keep each step within a word.
use mir.Syntax.{w64}
use Rattle.laws.proofs.Machine.{operation_fits, left_of, right_of}
use Rattle.sums.proofs.PublishedLaws.{gain_of}
use Rattle.sums.proofs.TotalLaws.{gain_fits, gain_is}
use Rattle.sums.proofs.totals.Record.gain.Goals as goal

pub overflow_mul-result-3 : goal.overflow_mul-result-3
overflow_mul-result-3 c =
    let e = gain_of c.args.self.now.m c.args.self.now.samples.now c.args.j in
    operation_fits w64 (right_of (left_of (left_of e))) (gain_fits _ _ c.args.j c.args.self.now.unrefused).0.0.1

pub overflow_sub-result : goal.overflow_sub-result
overflow_sub-result c =
    let e = gain_of c.args.self.now.m c.args.self.now.samples.now c.args.j in
    operation_fits w64 (left_of (left_of e)) (gain_fits _ _ c.args.j c.args.self.now.unrefused).0.0

pub overflow_mul-result-4 : goal.overflow_mul-result-4
overflow_mul-result-4 c =
    let e = gain_of c.args.self.now.m c.args.self.now.samples.now c.args.j in
    operation_fits w64 (right_of (left_of e)) (gain_fits _ _ c.args.j c.args.self.now.unrefused).0.1

pub overflow_add-result-4 : goal.overflow_add-result-4
overflow_add-result-4 c =
    let e = gain_of c.args.self.now.m c.args.self.now.samples.now c.args.j in
    operation_fits w64 (left_of e) (gain_fits _ _ c.args.j c.args.self.now.unrefused).0

pub overflow_sub-result-2 : goal.overflow_sub-result-2
overflow_sub-result-2 c =
    operation_fits w64 (gain_of c.args.self.now.m c.args.self.now.samples.now c.args.j) (gain_fits _ _ c.args.j c.args.self.now.unrefused)

pub returns : goal.returns
returns c =
    gain_is c.args.self.now.m c.args.self.now.samples.now c.args.j c.args.self.now.unrefused
