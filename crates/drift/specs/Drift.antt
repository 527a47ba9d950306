-- The drift figure P over R, and a record without its drift.
use Rattle.std.specs.Prelude.{cond, List, ℕ, ◌-◌, ◌*◌, ◌/◌, ltb, eqb, ℤ, pos, negsuc, ◌-ℤ◌, ◌*ℤ◌, length}
use Rattle.laws.specs.Lists.{at, tabulate, first_failing}
use Rattle.record.specs.Refusals.{refused_if, ◌then◌, in_range, range_refusal}
use Rattle.record.specs.declared.Refusal.{Refusal}
use Rattle.sums.specs.Published.{difference}
use Rattle.drift.specs.declared.DriftAnswer.{DriftAnswer}

-- h is the whole part of (N-1)/2
unfoldable pub drift_h : List ℤ → ℕ
drift_h xs = (length xs - 1) / 2

-- P = x_(2h) - 2 x_h + x_0, the second difference at factor h and place 0
unfoldable pub drift_p : List ℤ → ℤ
drift_p xs = difference (drift_h xs) xs 0

-- R = h^2
unfoldable pub drift_r : List ℤ → ℕ
drift_r xs = drift_h xs * drift_h xs

-- 2 over 32,768 samples; 1 under 3; 3 at the lowest index
unfoldable pub drift_refusal : List ℤ → Refusal
drift_refusal xs = refused_if (ltb 32768 (length xs)) 2 0 then refused_if (ltb (length xs) 3) 1 0 then range_refusal xs

-- P and R, or the refusal and noughts
unfoldable pub drift_answer : List ℤ → DriftAnswer
drift_answer xs =
    cond (eqb (drift_refusal xs).number 0) (record { number = 0; place = 0; p = drift_p xs; r = drift_r xs })
    (record { number = (drift_refusal xs).number; place = (drift_refusal xs).place; p = pos 0; r = 0 })

-- z / d, floored toward minus infinity
unfoldable pub floored : ℤ → ℕ → ℤ
floored (pos n) d = pos (n / d)
floored (negsuc n) d = negsuc (n / d)

-- removal gives x_i - floor(P i (i-1) / (2R)), floored once
unfoldable pub without_drift : List ℤ → List ℤ
without_drift xs = tabulate (length xs) (λ i. at xs i -ℤ floored (drift_p xs *ℤ pos (i * (i - 1))) (2 * drift_r xs))

-- 2, 1, 6 where the buffer is shorter than N; all samples are tested first; then 3 at the first result outside the sample range
unfoldable pub removal_refusal : List ℤ → ℕ → Refusal
removal_refusal xs room =
    refused_if (ltb 32768 (length xs)) 2 0
    then refused_if (ltb (length xs) 3) 1 0
    then refused_if (ltb room (length xs)) 6 0
    then range_refusal xs
    then refused_if (ltb (first_failing in_range (without_drift xs)) (length xs)) 3 (first_failing in_range (without_drift xs))
