-- `frequency::first_leaving` meets its contract. The loop's invariant: the phase is the start with the readings below `i` added, and
-- none of them took it out of its range.
use mir.Syntax.{w64}
use mir.Val.{of_z}
use Rattle.frequency.proofs.FrequencyLaws.{NoneLeft}
use Rattle.frequency.proofs.first_leaving.Given as goal

abbrev pub invariant-loop-i : goal.invariant-loop-i
invariant-loop-i l = NoneLeft l.start l.readings (of_z w64 l.phase) l.i
