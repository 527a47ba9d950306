-- `phr::header::sound_up_to` meets its contract. The loop's invariant: no byte before the place is wrong.
use Rattle.std.proofs.Common.{◌≡◌, ◌+◌, drop}
use Rattle.phr.specs.Reading.{sound_up_to}
use Rattle.phr.proofs.HeaderLaws.{tests_up_to}
use Rattle.phr.proofs.header.sound_up_to.Given as goal

abbrev pub invariant-loop-place : goal.invariant-loop-place
invariant-loop-place l =
    let tests = tests_up_to l.newest in sound_up_to tests l.bytes ≡ l.place + sound_up_to (drop l.place tests) (drop l.place l.bytes)
