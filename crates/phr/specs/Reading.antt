-- What reading a file answers: of version 1 alone, and of either version.
use Rattle.std.specs.Prelude.{ℕ, suc, ◌+◌, ◌*◌, min, Bool, true, cond, not, ◌||◌, List, [], ◌∷◌, length, ℤ, pos, ◌==◌, nat_eq, nat_le, nat_lt, slice_index}
use Rattle.record.specs.Refusals.{refused_if, ◌then◌, in_range}
use Rattle.record.specs.declared.Refusal.{Refusal}
use Rattle.phr.specs.Bytes.{value_at, values_from}
use Rattle.phr.specs.File.{most_values, start_fits, values_refusal}
use Rattle.phr.specs.declared.ReadAnswer.{ReadAnswer}
use Rattle.phr.specs.declared.RecordAnswer.{RecordAnswer}

-- what may stand at each of the first 8 bytes, byte 3 being a version that the reader knows; the count's two bytes are never wrong
unfoldable pub tests_of : (ℕ → Bool) → List (ℕ → Bool)
tests_of known = (λ b. nat_eq b 0x50) ∷ (λ b. nat_eq b 0x48) ∷ (λ b. nat_eq b 0x52) ∷ known ∷ (λ b. nat_eq b 0)
    ∷ (λ b. nat_le b 1) ∷ (λ b. true) ∷ (λ b. true) ∷ []

-- the place of the first byte that fails its test, else where the bytes or the tests end
unfoldable pub sound_up_to : List (ℕ → Bool) → List ℕ → ℕ
sound_up_to [] bytes = 0
sound_up_to (test ∷ tests) [] = 0
sound_up_to (test ∷ tests) (b ∷ bytes) = cond (test b) (suc (sound_up_to tests bytes)) 0

-- the kind, at byte 5
unfoldable pub kind_of : List ℕ → ℕ
kind_of bytes = slice_index bytes 5

-- the count, at bytes 6 and 7, low byte first
unfoldable pub count_of : List ℕ → ℕ
count_of bytes = slice_index bytes 6 + 256 * slice_index bytes 7

-- after a header of so many bytes: 2 for a count above the kind's; 9 at the shorter of the true and right lengths, the right one the header's and
-- 8 times the count; 6 for a buffer shorter than the count
unfoldable pub count_refusal : ℕ → List ℕ → ℕ → Refusal
count_refusal head bytes room =
    refused_if (nat_lt (most_values (kind_of bytes)) (count_of bytes)) 2 0
    then refused_if (not (length bytes == head + 8 * count_of bytes)) 9 (min (length bytes) (head + 8 * count_of bytes))
    then refused_if (nat_lt room (count_of bytes)) 6 0

-- ---- version 1 alone

unfoldable pub header_tests : List (ℕ → Bool)
header_tests = tests_of (λ b. nat_eq b 1)

-- the values, from byte 8 on
unfoldable pub values_of : List ℕ → List ℤ
values_of bytes = values_from 8 (count_of bytes) bytes

-- the header's 8 bytes: 9 at the lowest wrong byte among those present, else at the length if short; 2, 9 and 6 by the count; 3 at the first value
-- outside its range
unfoldable pub read_refusal : List ℕ → ℕ → Refusal
read_refusal bytes room =
    refused_if (nat_lt (sound_up_to header_tests bytes) 8) 9 (sound_up_to header_tests bytes)
    then count_refusal 8 bytes room
    then values_refusal (kind_of bytes) (values_of bytes)

-- kind and count, or the refusal and noughts
unfoldable pub read_answer : List ℕ → ℕ → ReadAnswer
read_answer bytes room =
    cond ((read_refusal bytes room).number == 0) (record { number = 0; place = 0; kind = kind_of bytes; count = count_of bytes })
    (record { number = (read_refusal bytes room).number; place = (read_refusal bytes room).place; kind = 0; count = 0 })

-- ---- either version

unfoldable pub either_tests : List (ℕ → Bool)
either_tests = tests_of (λ b. (b == 1) || b == 2)

-- the version, at byte 3
unfoldable pub version_of : List ℕ → ℕ
version_of bytes = slice_index bytes 3

-- the header has 8 bytes in version 1, 16 in version 2
unfoldable pub head_length : List ℕ → ℕ
head_length bytes = cond (version_of bytes == 2) 16 8

-- the starting phase: 0 in version 1, the value at byte 8 in version 2
unfoldable pub start_of : List ℕ → ℤ
start_of bytes = cond (version_of bytes == 2) (value_at bytes 8) (pos 0)

-- the values, from the header's end on
unfoldable pub record_values : List ℕ → List ℤ
record_values bytes = values_from (head_length bytes) (count_of bytes) bytes

-- 9 at the lowest wrong byte among the first 8 that are present, else at the length if they are short or the header is; only then is the start read:
-- 9 at 8 for one that the kind cannot have
unfoldable pub header_refusal : List ℕ → Refusal
header_refusal bytes =
    refused_if (nat_lt (sound_up_to either_tests bytes) 8) 9 (sound_up_to either_tests bytes)
    then refused_if (nat_lt (length bytes) (head_length bytes)) 9 (length bytes)
    then refused_if (not (start_fits (kind_of bytes) (start_of bytes))) 9 8

-- the header; 2 for a count above the kind's, whatever follows
unfoldable pub counted_header_refusal : List ℕ → Refusal
counted_header_refusal bytes = header_refusal bytes then refused_if (nat_lt (most_values (kind_of bytes)) (count_of bytes)) 2 0

-- the header; 2, 9 and 6 by the count; 3 at place 0 for a start outside the sample range; 3 at the first value outside its range
unfoldable pub read_record_refusal : List ℕ → ℕ → Refusal
read_record_refusal bytes room =
    header_refusal bytes
    then count_refusal (head_length bytes) bytes room
    then refused_if (not (in_range (start_of bytes))) 3 0
    then values_refusal (kind_of bytes) (record_values bytes)

-- version, kind, start and count, or the refusal and noughts
abbrev pub record_answer : Refusal → List ℕ → RecordAnswer
record_answer refusal bytes =
    cond (refusal.number == 0)
    (record { number = 0; place = 0; version = version_of bytes; kind = kind_of bytes; start = start_of bytes; count = count_of bytes })
    (record { number = refusal.number; place = refusal.place; version = 0; kind = 0; start = pos 0; count = 0 })

-- of the file, and of the header alone
unfoldable pub read_record_answer : List ℕ → ℕ → RecordAnswer
read_record_answer bytes room = record_answer (read_record_refusal bytes room) bytes

unfoldable pub header_answer : List ℕ → RecordAnswer
header_answer bytes = record_answer (counted_header_refusal bytes) bytes
