-- What each entry answers, refusals too: noughts beside every refusal.
use Rattle.std.specs.Prelude.{Bool, cond, List, ℕ, eqb, ℤ}
use Rattle.wide.specs.Wide.{halves}
use Rattle.record.specs.Refusals.{record_refusal}
use Rattle.record.specs.declared.Refusal.{Refusal}
use Rattle.record.specs.declared.Demand.{Demand}
use Rattle.sums.specs.Published.{allan_sum, allan_count, modified_sum, modified_count}
use Rattle.sums.specs.declared.SumAnswer.{SumAnswer}
use Rattle.sums.specs.declared.Part.{Part}

-- what each sum asks of a record: m from 1 to 10,922, and N at least 2m+1, or 3m
abbrev pub allan_demand : Demand
allan_demand = record { largest = 10922; each = 2; besides = 1 }

abbrev pub modified_demand : Demand
modified_demand = record { largest = 10922; each = 3; besides = 0 }

-- a sum with its count, or the refusal and noughts
unfoldable pub sum_answer : Refusal → ℕ → ℕ → SumAnswer
sum_answer r s count =
    cond (eqb r.number 0) (record { number = 0; place = 0; sum = halves s; count = count })
    (record { number = r.number; place = r.place; sum = halves 0; count = 0 })

-- a sum as a part of an answer: with its count, or 1 and noughts where it is not due
unfoldable pub part_of : Bool → ℕ → ℕ → Part
part_of due s count = cond due (record { number = 0; sum = halves s; count = count }) (record { number = 1; sum = halves 0; count = 0 })

-- a part of an answer that is refused as a whole: noughts
unfoldable pub no_part : Part
no_part = record { number = 0; sum = halves 0; count = 0 }

-- Allan sum: 5, 2, 1, then 3 at the lowest index
unfoldable pub allan_sum_answer : ℕ → List ℤ → SumAnswer
allan_sum_answer m xs = sum_answer (record_refusal allan_demand m xs) (allan_sum m xs) (allan_count m xs)

-- modified sum: the same
unfoldable pub modified_sum_answer : ℕ → List ℤ → SumAnswer
modified_sum_answer m xs = sum_answer (record_refusal modified_demand m xs) (modified_sum m xs) (modified_count m xs)
