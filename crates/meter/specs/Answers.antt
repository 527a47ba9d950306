-- What the meter's calls answer, refusals too.
use Rattle.std.specs.Prelude.{cond, not, ◌&&◌, List, ℕ, ◌*◌, leb, ltb, eqb, ℤ, length}
use Rattle.wide.specs.Wide.{value}
use Rattle.record.specs.Refusals.{refused_if, ◌then◌, in_range}
use Rattle.record.specs.declared.Refusal.{Refusal}
use Rattle.sums.specs.Answers.{part_of, no_part}
use Rattle.sums.specs.declared.Part.{Part}
use Rattle.meter.specs.Meter.{factor_fits, holds_together, ring_holds, with_sample, ring_with, with_gap, started}
use Rattle.meter.specs.declared.Meter.{Meter}
use Rattle.meter.specs.declared.MeterAnswer.{MeterAnswer}
use Rattle.meter.specs.declared.Report.{Report}

-- a new meter, or the refusal and the meter as it came
unfoldable pub meter_answer : Refusal → Meter → Meter → MeterAnswer
meter_answer r old new =
    cond (eqb r.number 0) (record { number = 0; place = 0; meter = new }) (record { number = r.number; place = r.place; meter = old })

-- a start refuses 5, then 6, never 7
unfoldable pub start_refusal : ℕ → List ℤ → Refusal
start_refusal m ring = refused_if (not (factor_fits m)) 5 0 then refused_if (ltb (length ring) (3 * m)) 6 0

unfoldable pub start_answer : Meter → ℕ → List ℤ → MeterAnswer
start_answer old m ring = meter_answer (start_refusal m ring) old (started m)

-- a sample call refuses 7, 2 (n, the samples of all stretches, is already 32,768), 3
unfoldable pub sample_refusal : Meter → List ℤ → ℤ → Refusal
sample_refusal x ring v =
    refused_if (not (holds_together x && ring_holds x ring)) 7 0
    then refused_if (eqb x.n 32768) 2 0
    then refused_if (not (in_range v)) 3 0

unfoldable pub sample_answer : Meter → List ℤ → ℤ → MeterAnswer
sample_answer x ring v = meter_answer (sample_refusal x ring v) x (with_sample x ring v)

-- the ring as a sample call leaves it
unfoldable pub ring_left : Meter → List ℤ → ℤ → List ℤ
ring_left x ring v = cond (eqb (sample_refusal x ring v).number 0) (ring_with x ring v) ring

-- a gap refuses 7
unfoldable pub gap_answer : Meter → MeterAnswer
gap_answer x = meter_answer (refused_if (not (holds_together x)) 7 0) x (with_gap x)

-- a report refuses 7; else A with K and B with C, each apart, or 1 for the one whose term count is 0
unfoldable pub report_answer : Meter → Report
report_answer x =
    let allan : Part = part_of (leb 1 x.k) (value x.a) x.k in
    let modified : Part = part_of (leb 1 x.c) (value x.b) x.c in
    cond (holds_together x) (record { number = 0; place = 0; allan = allan; modified = modified })
    (record { number = 7; place = 0; allan = no_part; modified = no_part })
