-- How long the texts of a sheet can be: 4,608 bytes are enough for each.
use mathlib.Core.Path.{ap}
use mathlib.Core.Bool.{Bool, true, false, cond}
use mathlib.Core.List.{List, [], ◌∷◌, ◌++◌}
use Prim.Native.Nat.{ℕ, zero, suc, ◌+◌, ◌*◌, ◌≤◌}
use native.Mathlib.Omega.{arith}
use lib.Dec.{leb, eqb}
use lib.IntN.{ℤ, pos, negsuc}
use lib.ListN.{length, length-append}
use Rattle.wide.specs.Wide.{value}
use Rattle.record.specs.declared.Refusal.{Refusal}
use Rattle.decimal.specs.Decimal.{decimal}
use Rattle.decimal.proofs.DigitLaws.{decimal_within}
use Rattle.sums.specs.Answers.{allan_sum_answer, modified_sum_answer}
use Rattle.sums.specs.declared.SumAnswer.{SumAnswer}
use Rattle.variances.specs.Answers.{allan_fraction_answer, time_fraction_answer, allan_deviation_answer, time_deviation_answer}
use Rattle.variances.specs.declared.FractionAnswer.{FractionAnswer}
use Rattle.variances.specs.declared.DeviationAnswer.{DeviationAnswer}
use Rattle.noise.specs.Noise.{alpha_of, record_type_answer}
use Rattle.noise.specs.declared.NoiseAnswer.{NoiseAnswer}
use Rattle.listing.specs.Columns.{signed_decimal, told_or, fraction_column, count_column, deviation_column, alpha_column, factor_line}
use Rattle.listing.specs.Sheet.{factors_from, factors, lines_of, samples_of, sheet_refusal, refused_line, factors_of, record_text, total_line}
use Rattle.listing.specs.declared.Totals.{Totals}
use Rattle.listing.proofs.ColumnLaws.{figure_columns, allan_columns, time_columns, factor_line_is}
use Rattle.listing.proofs.LineLaws.{refused_line_is, total_line_is}

-- ---- columns

told_within : (number : ℕ) (figure : List ℕ) (most : ℕ) → 40 ≤ most → length figure ≤ most → length (told_or number figure) ≤ most
unfolding told_or
told_within number figure most h f = by_number (eqb number 0)
  where
    by_number : (nought : Bool) → length (cond nought figure (0x72 ∷ decimal number)) ≤ most
    by_number true = f
    by_number false = omega (arith, decimal_within number)

fraction_within : (a : FractionAnswer) → length (fraction_column a) ≤ 79
unfolding fraction_column
fraction_within a =
    let above = decimal (value a.numerator) in
    let below = decimal a.denominator in
    told_within a.number (above ++ (0x2F ∷ below)) 79 (omega arith) (omega (arith, length-append above (0x2F ∷ below), decimal_within (value a.numerator), decimal_within a.denominator))

count_within : (a : SumAnswer) → length (count_column a) ≤ 40
unfolding count_column
count_within a = told_within a.number (decimal a.count) 40 (omega arith) (omega (arith, decimal_within a.count))

deviation_within : (a : DeviationAnswer) → length (deviation_column a) ≤ 40
unfolding deviation_column
deviation_within a = told_within a.number (decimal a.deviation) 40 (omega arith) (omega (arith, decimal_within a.deviation))

signed_within : (z : ℤ) → length (signed_decimal z) ≤ 40
unfolding signed_decimal
signed_within (pos n) = omega (arith, decimal_within n)
signed_within (negsuc n) = omega (arith, decimal_within (suc n))

alpha_within : (a : NoiseAnswer) → length (alpha_column a) ≤ 40
unfolding alpha_column
alpha_within a = by_number (eqb a.number 1)
  where
    by_number : (few : Bool) → length (cond few (0x2D ∷ []) (told_or a.number (signed_decimal (alpha_of a.noise)))) ≤ 40
    by_number true = omega arith
    by_number false = told_within a.number (signed_decimal (alpha_of a.noise)) 40 (omega arith) (signed_within (alpha_of a.noise))

-- ---- lines

-- a column with the byte after it, and what follows
both_within : (column rest : List ℕ) (b n k : ℕ) → length column ≤ n → length rest ≤ k → length ((column ++ (b ∷ [])) ++ rest) ≤ n + 1 + k
both_within column rest b n k h l = omega (arith, length-append (column ++ (b ∷ [])) rest, length-append column (b ∷ []))

last_within : (column : List ℕ) (b n : ℕ) → length column ≤ n → length (column ++ (b ∷ [])) ≤ n + 1
last_within column b n h = omega (arith, length-append column (b ∷ []))

-- a variance, a count and a deviation, each with a space
figures_within : (f : FractionAnswer) (s : SumAnswer) (d : DeviationAnswer) → length (figure_columns f s d) ≤ 162
figures_within f s d =
    let deviation = deviation_column d ++ (0x20 ∷ []) in
    let count = (count_column s ++ (0x20 ∷ [])) ++ deviation in
    both_within (fraction_column f) count 0x20 79 82 (fraction_within f)
    (both_within (count_column s) deviation 0x20 40 41 (count_within s) (last_within (deviation_column d) 0x20 40 (deviation_within d)))

factor_line_within : (xs : List ℤ) (m : ℕ) → length (factor_line xs m) ≤ 405
factor_line_within xs m =
    let a = allan_sum_answer m xs in
    let b = modified_sum_answer m xs in
    let allan = allan_columns m a in
    let time = time_columns m b in
    let alpha = alpha_column (record_type_answer m xs) ++ (0x0A ∷ []) in
    let figures = figures_within (allan_fraction_answer (value a.sum) m a.count) a (allan_deviation_answer (value a.sum) m a.count) in
    let allan_within : length allan ≤ 202 = both_within (decimal m) _ 0x20 39 162 (decimal_within m) figures in
    let time_within : length time ≤ 162 = figures_within (time_fraction_answer (value b.sum) m b.count) b (time_deviation_answer (value b.sum) m b.count) in
    let last : length alpha ≤ 41 = last_within (alpha_column (record_type_answer m xs)) 0x0A 40 (alpha_within (record_type_answer m xs)) in
    omega (arith, ap length (factor_line_is xs m), length-append allan (time ++ alpha), length-append time alpha)

lines_within : (xs : List ℤ) (ms : List ℕ) → length (lines_of xs ms) ≤ 405 * length ms
unfolding lines_of
lines_within xs [] = omega arith
lines_within xs (m ∷ ms) = omega (arith, length-append (factor_line xs m) (lines_of xs ms), factor_line_within xs m, lines_within xs ms)

factors_within : (k m n : ℕ) → length (factors_from k m n) ≤ k
unfolding factors_from
factors_within zero m n = omega arith
factors_within (suc k) m n = by_length (leb (2 * m + 1) n) (factors_within k (2 * m) n)
  where
    by_length : (due : Bool) → length (factors_from k (2 * m) n) ≤ k → length (cond due (m ∷ factors_from k (2 * m) n) []) ≤ suc k
    by_length true h = omega arith
    by_length false h = omega arith

refused_line_within : (r : Refusal) → length (refused_line r) ≤ 4608
refused_line_within r =
    let number = decimal r.number ++ (0x20 ∷ []) in
    let place = decimal r.place ++ (0x0A ∷ []) in
    omega (arith, ap length (refused_line_is r.number r.place), length-append number ((0x61 ∷ 0x74 ∷ 0x20 ∷ []) ++ place), length-append (decimal r.number) (0x20 ∷ []), length-append (decimal r.place) (0x0A ∷ []), decimal_within r.number, decimal_within r.place)

-- ---- the texts of the two entries

pub text_within : (bytes : List ℕ) → length (record_text bytes) ≤ 4608
unfolding record_text factors_of factors
text_within bytes = by_refusal (eqb (sheet_refusal bytes).number 0)
  where
    xs : List ℤ
    xs = samples_of bytes

    by_refusal : (nought : Bool) → length (cond nought (lines_of xs (cond nought (factors_from 11 1 (length xs)) [])) (refused_line (sheet_refusal bytes))) ≤ 4608
    by_refusal true = omega (arith, lines_within xs (factors_from 11 1 (length xs)), factors_within 11 1 (length xs))
    by_refusal false = refused_line_within (sheet_refusal bytes)

pub total_within : (t : Totals) → length (total_line t) ≤ 4608
total_within t =
    let k = decimal t.k ++ (0x20 ∷ []) in
    let c = decimal t.c ++ (0x0A ∷ []) in
    omega (arith, ap length (total_line_is t), length-append k c, length-append (decimal t.k) (0x20 ∷ []), length-append (decimal t.c) (0x0A ∷ []), decimal_within t.k, decimal_within t.c)
