-- The text of a line of the sheet: its columns, and what each of them reads. Bytes are those of ASCII.
use Rattle.std.specs.Prelude.{cond, List, [], ◌∷◌, ◌++◌, ℕ, suc, eqb, ℤ, pos, negsuc}
use Rattle.wide.specs.Wide.{value}
use Rattle.decimal.specs.Decimal.{decimal}
use Rattle.sums.specs.Answers.{allan_sum_answer, modified_sum_answer}
use Rattle.sums.specs.declared.SumAnswer.{SumAnswer}
use Rattle.variances.specs.Answers.{allan_fraction_answer, time_fraction_answer, allan_deviation_answer, time_deviation_answer}
use Rattle.variances.specs.declared.FractionAnswer.{FractionAnswer}
use Rattle.variances.specs.declared.DeviationAnswer.{DeviationAnswer}
use Rattle.noise.specs.Noise.{alpha_of, record_type_answer}
use Rattle.noise.specs.declared.NoiseAnswer.{NoiseAnswer}

-- a line: one space, 0x20, between two columns, and a line feed, 0x0A, at its end
unfoldable pub line : List (List ℕ) → List ℕ
line [] = []
line (column ∷ []) = column ++ (0x0A ∷ [])
line (column ∷ next ∷ more) = column ++ (0x20 ∷ line (next ∷ more))

-- columns, each with one space after it
abbrev pub spaced : List (List ℕ) → List ℕ
spaced [] = []
spaced (column ∷ more) = column ++ (0x20 ∷ spaced more)

-- a number with `-`, 0x2D, before its digits where it is below nought
unfoldable pub signed_decimal : ℤ → List ℕ
signed_decimal (pos n) = decimal n
signed_decimal (negsuc n) = 0x2D ∷ decimal (suc n)

-- a figure where it is answered; where it is refused `r`, 0x72, and the refusal's number
unfoldable pub told_or : ℕ → List ℕ → List ℕ
told_or number figure = cond (eqb number 0) figure (0x72 ∷ decimal number)

-- a fraction: numerator, `/`, 0x2F, and denominator
unfoldable pub fraction_column : FractionAnswer → List ℕ
fraction_column a = told_or a.number (decimal (value a.numerator) ++ (0x2F ∷ decimal a.denominator))

-- the count of a sum, K or C
unfoldable pub count_column : SumAnswer → List ℕ
count_column a = told_or a.number (decimal a.count)

unfoldable pub deviation_column : DeviationAnswer → List ℕ
deviation_column a = told_or a.number (decimal a.deviation)

-- alpha; `-` where there are too few samples for it
unfoldable pub alpha_column : NoiseAnswer → List ℕ
alpha_column a = cond (eqb a.number 1) (0x2D ∷ []) (told_or a.number (signed_decimal (alpha_of a.noise)))

-- the line of a factor: m; Allan variance, K, Allan deviation; time variance, C, time deviation; alpha: each as the entry of its name answers
unfoldable pub factor_line : List ℤ → ℕ → List ℕ
factor_line xs m =
    let allan : SumAnswer = allan_sum_answer m xs in let modified : SumAnswer = modified_sum_answer m xs in
    line (decimal m
    ∷ fraction_column (allan_fraction_answer (value allan.sum) m allan.count)
    ∷ count_column allan
    ∷ deviation_column (allan_deviation_answer (value allan.sum) m allan.count)
    ∷ fraction_column (time_fraction_answer (value modified.sum) m modified.count)
    ∷ count_column modified
    ∷ deviation_column (time_deviation_answer (value modified.sum) m modified.count)
    ∷ alpha_column (record_type_answer m xs)
    ∷ [])
