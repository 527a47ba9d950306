-- `frequency::write_phases` meets its contract. The loop's invariant: the phase is the start with the readings below `i` added, and
-- the first `i` phases are written.
use mir.Syntax.{w64}
use mir.Val.{of_z}
use Rattle.frequency.proofs.FrequencyLaws.{PhasesWritten}
use Rattle.frequency.proofs.write_phases.Given as goal

abbrev pub invariant-loop-i : goal.invariant-loop-i
invariant-loop-i l = PhasesWritten l.start l.readings l.initial.buffer l.buffer (of_z w64 l.phase) l.i
