-- `sums::totals::Record::difference` meets its contract: samples in range keep each step within a word.
use mir.Syntax.{w64}
use Rattle.laws.proofs.Machine.{operation_fits, left_of, right_of}
use Rattle.record.proofs.RefusalLaws.{record_in_range}
use Rattle.sums.specs.Answers.{allan_demand}
use Rattle.sums.proofs.PublishedLaws.{difference_of}
use Rattle.sums.proofs.TotalLaws.{difference_fits, difference_is}
use Rattle.sums.proofs.totals.Record.difference.Goals as goal

pub overflow_mul-result-2 : goal.overflow_mul-result-2
overflow_mul-result-2 c =
    let e = difference_of c.args.self.now.m c.args.self.now.samples.now c.args.i in
    operation_fits w64 (right_of (left_of e)) (difference_fits _ _ c.args.i (record_in_range allan_demand _ _ c.args.self.now.unrefused)).0.1

pub overflow_sub-result : goal.overflow_sub-result
overflow_sub-result c =
    let e = difference_of c.args.self.now.m c.args.self.now.samples.now c.args.i in
    operation_fits w64 (left_of e) (difference_fits _ _ c.args.i (record_in_range allan_demand _ _ c.args.self.now.unrefused)).0

pub overflow_add-result-3 : goal.overflow_add-result-3
overflow_add-result-3 c =
    operation_fits w64 (difference_of c.args.self.now.m c.args.self.now.samples.now c.args.i) (difference_fits _ _ c.args.i (record_in_range allan_demand _ _ c.args.self.now.unrefused))

pub returns : goal.returns
returns c =
    difference_is c.args.self.now.m c.args.self.now.samples.now c.args.i (record_in_range allan_demand _ _ c.args.self.now.unrefused)
