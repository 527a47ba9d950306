-- The line of a factor in three pieces: the Allan figures, the time figures, and alpha with the end of the line. And bytes that are copied to a part
-- of a buffer.
use mathlib.Core.Path.{◌≡◌}
use mathlib.Core.List.{List, [], ◌∷◌, ◌++◌, append_assoc, append-nil}
use Prim.Native.Nat.{ℕ, ◌-◌}
use native.Mathlib.Omega.{arith}
use lib.IntN.{ℤ}
use lib.ListN.{length, take, drop, length-drop, drop_of_length-le}
use lib.Seq.{take_all}
use Rattle.wide.specs.Wide.{value}
use Rattle.decimal.specs.Decimal.{decimal}
use Rattle.sums.specs.Answers.{allan_sum_answer, modified_sum_answer}
use Rattle.sums.specs.declared.SumAnswer.{SumAnswer}
use Rattle.variances.specs.Answers.{allan_fraction_answer, time_fraction_answer, allan_deviation_answer, time_deviation_answer}
use Rattle.variances.specs.declared.FractionAnswer.{FractionAnswer}
use Rattle.variances.specs.declared.DeviationAnswer.{DeviationAnswer}
use Rattle.noise.specs.Noise.{record_type_answer}
use Rattle.listing.specs.Columns.{line, fraction_column, count_column, deviation_column, alpha_column, factor_line}

-- with the byte after each: a variance, the count of its sum and its deviation
abbrev pub figure_columns : FractionAnswer → SumAnswer → DeviationAnswer → List ℕ
figure_columns variance answer root = (fraction_column variance ++ (0x20 ∷ [])) ++ ((count_column answer ++ (0x20 ∷ [])) ++ (deviation_column root ++ (0x20 ∷ [])))

-- the factor and the Allan figures; the time figures
module _ (m : ℕ) (answer : SumAnswer) where
  abbrev pub allan_columns : List ℕ
  allan_columns =
      (decimal m ++ (0x20 ∷ []))
      ++ figure_columns (allan_fraction_answer (value answer.sum) m answer.count) answer (allan_deviation_answer (value answer.sum) m answer.count)

  abbrev pub time_columns : List ℕ
  time_columns = figure_columns (time_fraction_answer (value answer.sum) m answer.count) answer (time_deviation_answer (value answer.sum) m answer.count)

pub factor_line_is : (xs : List ℤ) (m : ℕ) →
    allan_columns m (allan_sum_answer m xs) ++ (time_columns m (modified_sum_answer m xs) ++ (alpha_column (record_type_answer m xs) ++ (0x0A ∷ []))) ≡ factor_line xs m
unfolding factor_line line
factor_line_is xs m = simp append_assoc

-- bytes that are copied to the part of a buffer from a place on
pub part_copied : (out before : List ℕ) (at : ℕ) {part : List ℕ} → part ≡ out ++ drop (length out) (take (length before - at) (drop at before)) →
    take at before ++ (part ++ drop (length before - at) (drop at before)) ≡ take at before ++ (out ++ drop (length out) (drop at before))
part_copied out before at e =
    let room = length before - at in
    let all = take_all room (drop at before) (omega (arith, length-drop at before)) in
    let none = drop_of_length-le (drop at before) {i = room} (omega (arith, length-drop at before)) in
    rw (e, all, none, append-nil)
