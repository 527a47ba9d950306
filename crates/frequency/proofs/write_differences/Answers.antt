-- `frequency::write_differences` meets its contract, what its invariant leaves to show.
use native.Mathlib.Omega.{arith}
use mir.Syntax.{w64}
use Rattle.laws.proofs.Machine.{operation_fits}
use Rattle.frequency.proofs.FrequencyLaws.{difference_of, window_fits, one_difference_more, differences_written}
use Rattle.frequency.proofs.write_differences.Goals as goal

pub overflow_sub-buffer : goal.overflow_sub-buffer
overflow_sub-buffer c =
    let turn = c.in-Some.ensures.steps.0.1 in
    operation_fits w64 (difference_of c.in-Some.pair.now _ _) (window_fits c.loop-i.invariant c.requires.0 turn.0 turn.1 _ _ (omega arith) (omega arith))

pub loop-i-preserved : goal.loop-i-preserved
loop-i-preserved c =
    let steps = c.in-Some.ensures.steps in
    let turn = steps.0.1 in
    one_difference_more c.loop-i.invariant c.requires.0 turn.0 turn.1 c.requires.1 steps.0.0 turn.2 steps.1 steps.2

pub returns : goal.returns
returns c = differences_written c.loop-i.invariant c.in-None.ensures.steps.0.1.0
