-- Float readings: which become samples, and which samples; what the others are refused for. By cases on the float: a finite one is m * 2^e, that is
-- m * up e / down e, and negative where s is true.
use Rattle.std.specs.Prelude.{◌≡◌, Bool, false, not, cond, List, ℕ, ◌*◌, ◌%◌, ◌^◌, ltb, eqb, ℤ, pos, nat_abs, Float, length, get_or}
use Rattle.std.specs.Float.{nan, inf, fin}
use Rattle.std.specs.Float.Ieee.{up, down}
use Rattle.std.specs.Float.Ieee.Exact.{HasValue}
use Rattle.std.specs.Float.Ieee.Nearest.{closest}
use Rattle.laws.specs.Lists.{first_failing}
use Rattle.laws.specs.Nearest.{with_sign, NearestTo}
use Rattle.record.specs.Refusals.{refused_if}
use Rattle.record.specs.declared.Refusal.{Refusal}

-- 0 for a sample; 3 for an infinite reading or one beyond the sample range, before rounding; 4 for what is not a number
unfoldable pub reading_number : Float → ℕ
reading_number nan = 4
reading_number (inf s) = 3
reading_number (fin s m e) = cond (ltb (2 ^ 40 * down e) (m * up e)) 3 0

-- the sample that a reading in range becomes: the nearest whole number, on a tie the even one; minus zero becomes 0
unfoldable pub sample_of : Float → ℤ
sample_of nan = pos 0
sample_of (inf s) = pos 0
sample_of (fin s m e) = with_sign s (closest (m * up e) (down e))

-- a reading with a fraction is changed
unfoldable pub has_fraction : Float → Bool
has_fraction nan = false
has_fraction (inf s) = false
has_fraction (fin s m e) = not (eqb (m * up e % down e) 0)

-- what nearest means: z is nearest to the exact value of a float
pub record Nearest (x : Float) (z : ℤ) : Type 0 where
  pub sign : Bool
  pub over : ℕ
  pub under : ℕ
  pub value : HasValue x sign over under
  pub nearest : NearestTo sign over under z

-- what exact means: z is the value of a float itself; nought is that of both its noughts
pub record Exactly (x : Float) (z : ℤ) : Type 0 where
  pub sign : Bool
  pub value : HasValue x sign (nat_abs z) 1
  pub signed : z ≡ with_sign sign (nat_abs z)

-- 3 or 4 at the first reading that becomes no sample
unfoldable pub reading_refusal : List Float → Refusal
reading_refusal xs =
    let first : ℕ = first_failing (λ x. eqb (reading_number x) 0) xs in refused_if (ltb first (length xs)) (reading_number (get_or xs first nan)) first
