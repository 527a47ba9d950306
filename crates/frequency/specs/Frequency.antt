-- Phase from frequency and back.
use Rattle.std.specs.Prelude.{not, List, ℕ, ◌+◌, ◌-◌, ltb, eqb, ℤ, pos, ◌+ℤ◌, ◌-ℤ◌, length, drop}
use Rattle.laws.specs.Lists.{at, tabulate, first_failing}
use Rattle.laws.specs.Sums.{sum_ℤ}
use Rattle.record.specs.Refusals.{refused_if, ◌then◌, in_range, range_refusal}
use Rattle.record.specs.declared.Refusal.{Refusal}

-- phases begin at a start and each reading is added: M readings give M+1 phases
unfoldable pub phases_from : ℤ → List ℤ → List ℤ
phases_from start ys = tabulate (length ys + 1) (λ i. start +ℤ sum_ℤ i (at ys))

-- at 0 where no start is handed in
unfoldable pub phases : List ℤ → List ℤ
phases ys = phases_from (pos 0) ys

-- the first reading whose running phase leaves the sample range; the number of readings where none does
unfoldable pub first_leaving : ℤ → List ℤ → ℕ
first_leaving start ys = first_failing in_range (drop 1 (phases_from start ys))

-- 2 over 32,767 readings; 6 where the buffer is shorter than M+1; 3 at that reading
unfoldable pub phase_refusal : List ℤ → ℕ → Refusal
phase_refusal ys room =
    refused_if (ltb 32767 (length ys)) 2 0
    then refused_if (ltb room (length ys + 1)) 6 0
    then refused_if (ltb (first_leaving (pos 0) ys) (length ys)) 3 (first_leaving (pos 0) ys)

-- from a start: the same, but 3 at place 0 for a start out of the sample range before the readings are looked at
unfoldable pub phase_refusal_from : ℤ → List ℤ → ℕ → Refusal
phase_refusal_from start ys room =
    refused_if (ltb 32767 (length ys)) 2 0
    then refused_if (ltb room (length ys + 1)) 6 0
    then refused_if (not (in_range start)) 3 0
    then refused_if (ltb (first_leaving start ys) (length ys)) 3 (first_leaving start ys)

-- N samples give N-1 differences
unfoldable pub differences : List ℤ → List ℤ
differences xs = tabulate (length xs - 1) (λ i. at xs (i + 1) -ℤ at xs i)

-- 2 over 32,768 samples; 1 for none; 6 where the buffer is shorter than N-1; 3 at the lowest index
unfoldable pub frequency_refusal : List ℤ → ℕ → Refusal
frequency_refusal xs room =
    refused_if (ltb 32768 (length xs)) 2 0
    then refused_if (eqb (length xs) 0) 1 0
    then refused_if (ltb room (length xs - 1)) 6 0
    then range_refusal xs
