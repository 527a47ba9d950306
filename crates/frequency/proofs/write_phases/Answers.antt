-- `frequency::write_phases` meets its contract, what its invariant leaves to show.
use native.Mathlib.Omega.{arith}
use lib.ListN.{length}
use mathlib.Core.Path.{◌≡◌}
use mir.Syntax.{w64}
use mir.Facts.{to_z-of_z, of_z-to_z, Fits-of_z}
use Rattle.frequency.proofs.FrequencyLaws.{PhasesWritten, no_phase_written, next_phase_fits, one_phase_more, all_phases_written}
use Rattle.frequency.proofs.write_phases.Goals as goal
use Rattle.frequency.proofs.write_phases.Goals.{At-loop-i}

-- the invariant, of the start and of the bits of the phase
known : (c : At-loop-i) → PhasesWritten c.args.start c.args.readings.now c.args.buffer.now c.loop-i.buffer c.loop-i.phase-bits c.loop-i.i
known c = rw (to_z-of_z {w = w64} c.ranges.start, of_z-to_z c.loop-i.auto.phase) at c.loop-i.invariant

pub loop-i-init : goal.loop-i-init
loop-i-init c = rw (to_z-of_z {w = w64} c.ranges.start) (no_phase_written c.args.start _ _)

pub overflow_add-phase : goal.overflow_add-phase
overflow_add-phase c = next_phase_fits c.requires.0 c.requires.1 c.requires.2 (known (goal.at.overflow_add-phase c).At-loop-i) (omega arith)

pub loop-i-preserved : goal.loop-i-preserved
loop-i-preserved c =
    let here = known (goal.at.loop-i-preserved c).At-loop-i in
    rw (to_z-of_z {w = w64} c.ranges.start, of_z-to_z (Fits-of_z (next_phase_fits c.requires.0 c.requires.1 c.requires.2 here (omega arith))))
    (one_phase_more c.requires.0 c.requires.1 c.requires.2 here (omega arith))

pub returns : goal.returns
returns c =
    let here = known (goal.at.returns c).At-loop-i in
    let end : c.loop-i.i ≡ length c.args.readings.now = omega (arith, here.within) in
    rw end at (all_phases_written c.requires.0 c.requires.1 c.requires.2 here end)
