-- The quieter of two records at factor m: the one with the smaller Allan variance, on equality the first.
use Rattle.std.specs.Prelude.{Bool, cond, List, [], ℕ, ◌*◌, leb, eqb, ℤ}
use Rattle.std.specs.Borrow.{Bor}
use Rattle.record.specs.Refusals.{record_refusal, ◌then◌}
use Rattle.record.specs.declared.Refusal.{Refusal}
use Rattle.sums.specs.Published.{allan_sum, allan_count, allan_denominator}
use Rattle.sums.specs.Answers.{allan_demand}
use Rattle.compare.specs.declared.QuieterAnswer.{QuieterAnswer}

-- 5, then the first record's 2, 1, 3 before the second's
unfoldable pub quieter_refusal : ℕ → List ℤ → List ℤ → Refusal
quieter_refusal m first second = record_refusal allan_demand m first then record_refusal allan_demand m second

-- the first record's Allan variance A / (2 m^2 K) is not above the second's: two fractions, compared crosswise
unfoldable pub not_above : ℕ → List ℤ → List ℤ → Bool
not_above m first second =
    leb (allan_sum m first * allan_denominator m (allan_count m second)) (allan_sum m second * allan_denominator m (allan_count m first))

-- 1 for the first record, 2 for the second, 0 beside a refusal
unfoldable pub quieter_answer : ℕ → List ℤ → List ℤ → QuieterAnswer
quieter_answer m first second =
    let r : Refusal = quieter_refusal m first second in
    cond (eqb r.number 0) (record { number = 0; place = 0; which = cond (not_above m first second) 1 2 })
    (record { number = r.number; place = r.place; which = 0 })

-- the empty part of a slice: it lies where the slice begins and holds nothing
unfoldable pub empty_part : Bor (List ℤ) → Bor (List ℤ)
empty_part x = record { ref_ptr = x.ref_ptr; now = [] }

-- the record itself that was lent, the first or the second, or the empty part where either is refused
unfoldable pub quieter_record : ℕ → Bor (List ℤ) → Bor (List ℤ) → Bor (List ℤ)
quieter_record m first second =
    let which : ℕ = (quieter_answer m first.now second.now).which in
    cond (eqb which 1) first (cond (eqb which 2) second (empty_part first))
