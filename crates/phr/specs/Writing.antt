-- What writing a file answers: version 1, and version 2 with a starting phase.
use Rattle.std.specs.Prelude.{ℕ, ◌+◌, ◌*◌, not, List, length, ℤ, nat_le, nat_lt}
use Rattle.record.specs.Refusals.{refused_if, ◌then◌, in_range}
use Rattle.record.specs.declared.Refusal.{Refusal}
use Rattle.phr.specs.File.{most_values, start_fits, values_refusal}

-- a header of so many bytes and so many values: 2 for more than the kind allows; 6 for a buffer shorter than the file
unfoldable pub room_refusal : ℕ → ℕ → ℕ → ℕ → Refusal
room_refusal head kind count room =
    refused_if (nat_lt (most_values kind) count) 2 0
    then refused_if (nat_lt room (head + 8 * count)) 6 0

-- version 1: 9 at place 5 for a kind that is not 0 or 1; 2; 6; 3 at the first value outside its range
unfoldable pub write_refusal : ℕ → List ℤ → ℕ → Refusal
write_refusal kind values room =
    refused_if (not (nat_le kind 1)) 9 5
    then room_refusal 8 kind (length values) room
    then values_refusal kind values

-- version 2: 9 at place 5 for a kind that is not 0 or 1; 9 at place 8 for a start that the kind cannot have; 2; 6; 3 at place 0 for a start outside
-- the sample range; 3 at the first value outside its range
unfoldable pub write_record_refusal : ℕ → ℤ → List ℤ → ℕ → Refusal
write_record_refusal kind start values room =
    refused_if (not (nat_le kind 1)) 9 5
    then refused_if (not (start_fits kind start)) 9 8
    then room_refusal 16 kind (length values) room
    then refused_if (not (in_range start)) 3 0
    then values_refusal kind values
