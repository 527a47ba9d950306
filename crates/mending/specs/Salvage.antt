-- Salvage of a damaged file: the values that are kept, the file that is written, what is refused and what is answered.
use Rattle.std.specs.Prelude.{true, cond, not, List, ◌≡◌, ℕ, ◌-◌, ◌/◌, ◌≤◌, ◌<◌, min, ltb, eqb, ℤ, length, take}
use Rattle.laws.specs.Lists.{at, first_failing}
use Rattle.record.specs.Refusals.{refused_if, ◌then◌, in_range}
use Rattle.record.specs.declared.Refusal.{Refusal}
use Rattle.phr.specs.Bytes.{values_from}
use Rattle.phr.specs.File.{file_of, file_from, value_in_range}
use Rattle.phr.specs.Reading.{kind_of, count_of, version_of, head_length, start_of, counted_header_refusal}
use Rattle.mending.specs.declared.SalvageAnswer.{SalvageAnswer}

-- the values present, from the header's end on: up to the lesser of the written count and the whole values that follow the header
unfoldable pub present_values : List ℕ → List ℤ
present_values bytes = values_from (head_length bytes) (min (count_of bytes) ((length bytes - head_length bytes) / 8)) bytes

-- the first of them that is outside the range of its kind; how many there are where none is
unfoldable pub first_bad : List ℕ → ℕ
first_bad bytes = first_failing (value_in_range (kind_of bytes)) (present_values bytes)

-- the values kept, before that one
unfoldable pub kept_values : List ℕ → List ℤ
kept_values bytes = take (first_bad bytes) (present_values bytes)

-- the new file, of the same version, kind and start
unfoldable pub salvaged_file : List ℕ → List ℕ
salvaged_file bytes =
    cond (eqb (version_of bytes) 2) (file_from (kind_of bytes) (start_of bytes) (kept_values bytes)) (file_of (kind_of bytes) (kept_values bytes))

-- 9 for the header, 2 for a written count above the kind's; 6 for a buffer shorter than the new file; 3 at place 0 for a start outside the sample range
unfoldable pub salvage_refusal : List ℕ → ℕ → Refusal
salvage_refusal bytes room =
    counted_header_refusal bytes
    then refused_if (ltb room (length (salvaged_file bytes))) 6 0
    then refused_if (not (in_range (start_of bytes))) 3 0

-- the written count, how many values are kept, the input's length less the new file's, and 1 if a value present is outside its range, else 0; or the
-- refusal and noughts
unfoldable pub salvage_answer : List ℕ → ℕ → SalvageAnswer
salvage_answer bytes room =
    let refusal : Refusal = salvage_refusal bytes room in
    cond (eqb refusal.number 0)
    (record {
      number = 0;
      place = 0;
      old_count = count_of bytes;
      new_count = length (kept_values bytes);
      left_over = length bytes - length (salvaged_file bytes);
      met = cond (ltb (first_bad bytes) (length (present_values bytes))) 1 0;
    })
    (record { number = refusal.number; place = refusal.place; old_count = 0; new_count = 0; left_over = 0; met = 0 })

-- ---- what the values kept are

-- the longest beginning of some values that are all in the range of a kind
pub record LongestGood (kind : ℕ) (values kept : List ℤ) : Type 0 where
  pub beginning : kept ≡ take (length kept) values
  pub good : (i : ℕ) → i < length kept → value_in_range kind (at kept i) ≡ true
  pub longest : (n : ℕ) → n ≤ length values → ((i : ℕ) → i < n → value_in_range kind (at values i) ≡ true) → n ≤ length kept
