use Rattle.std.proofs.Common.{◌≤◌, length}
use Rattle.files.proofs.filled.Given as goal

-- What was read lies in the room.
abbrev pub invariant-loop : goal.invariant-loop
invariant-loop g l = l.done ≤ length l.bytes
