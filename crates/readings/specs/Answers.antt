-- What the sums of float readings answer.
use Rattle.std.specs.Prelude.{true, cond, List, map, ℕ, ◌*◌, leb, ltb, eqb, Float, ℤ, length}
use Rattle.laws.specs.Lists.{how_many}
use Rattle.record.specs.Refusals.{refused_if, ◌then◌, size_refusal}
use Rattle.record.specs.declared.Refusal.{Refusal}
use Rattle.sums.specs.Published.{allan_sum, allan_count, modified_sum, modified_count}
use Rattle.sums.specs.Answers.{allan_demand, part_of, no_part}
use Rattle.sums.specs.declared.Part.{Part}
use Rattle.readings.specs.Readings.{sample_of, has_fraction, reading_refusal}
use Rattle.readings.specs.declared.FloatSums.{FloatSums}

-- 5, 2, 1 (N under 2m+1), 6 (a buffer shorter than N), then 3 or 4 at the lowest index
unfoldable pub float_refusal : ℕ → List Float → ℕ → Refusal
float_refusal m xs room = size_refusal allan_demand m (length xs) then refused_if (ltb room (length xs)) 6 0 then reading_refusal xs

-- the Allan and modified sums of the samples, and how many readings were changed; N under 3m gives 1 for the modified part alone
unfoldable pub float_answer : ℕ → List Float → ℕ → FloatSums
float_answer m xs room =
    let s : List ℤ = map sample_of xs in
    let modified : Part = part_of (leb (3 * m) (length xs)) (modified_sum m s) (modified_count m s) in
    cond (eqb (float_refusal m xs room).number 0)
    (record { number = 0; place = 0; allan = part_of true (allan_sum m s) (allan_count m s); modified = modified; changed = how_many has_fraction xs })
    (record { number = (float_refusal m xs room).number; place = (float_refusal m xs room).place; allan = no_part; modified = no_part; changed = 0 })
