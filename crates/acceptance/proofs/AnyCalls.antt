-- After any sequence of calls that the contracts of the meter's functions allow, the report is the totals of the published sums over the stretches of the
-- samples accepted since the latest accepted start, every sample in range is taken, every gap too, and refused calls change nothing.
use mathlib.Core.Path.{◌≡◌, refl, sym, ap, ap₂, ◌∙◌}
use mathlib.Core.Bool.{Bool, true, false, cond}
use mathlib.Core.List.{List, [], ◌∷◌, ◌++◌}
use Prim.Native.Nat.{ℕ, ◌+◌, ◌-◌, ◌*◌, ◌^◌, ◌≤◌, ◌<◌}
use native.Mathlib.Omega.{arith}
use borrow.Author.Tests.{eqb-true, eq-eqb, ne_eqb, le-leb, lt-ltb}
use lib.Dec.{leb, eqb}
use lib.IntN.{ℤ, pos}
use lib.ListN.{length}
use Rattle.laws.specs.Sums.{total_over}
use Rattle.laws.proofs.Tests.{choice_true, choice_false}
use Rattle.record.specs.Refusals.{in_range}
use Rattle.record.specs.declared.Refusal.{Refusal}
use Rattle.sums.specs.Published.{allan_count, allan_sum, modified_count, modified_sum}
use Rattle.sums.proofs.Shifted.{Shifted, shifted_allan_sum, shifted_modified_sum}
use Rattle.meter.specs.Meter.{factor_fits, counts_fit, holds_together, with_sample, ring_with, with_gap, started}
use Rattle.sums.specs.Answers.{part_of, no_part}
use Rattle.meter.specs.Answers.{meter_answer, start_refusal, start_answer, sample_refusal, sample_answer, ring_left, gap_answer, report_answer}
use Rattle.meter.specs.declared.Meter.{Meter}
use Rattle.meter.specs.declared.MeterAnswer.{MeterAnswer}
use Rattle.meter.specs.declared.Report.{Report}
use Rattle.meter.proofs.TestLaws.{holds_together_lem}
use Rattle.meter.proofs.Running.{meter_after, published_report, Running, start_unrefused, starts_running, started_is, takes, taken_was_allowed, holds, reports, with_gap_is, runs_on_after_gap, with_sample_is, runs_on}
use Rattle.acceptance.specs.Noughts.{Refused}
use Rattle.acceptance.specs.Calls.{Starts, Samples, Gaps, Reports, Trace, Alike, by_contract, begin, start_accepted, start_refused, sample_accepted, sample_refused, gap_accepted, gap_refused, reported, no_stretch, one_more}

-- ---- one call, by its contract alone

pub start_answers : {x : Meter} {m : ℕ} {ring : List ℤ} {z : MeterAnswer} → Starts x m ring z → z ≡ start_answer x m ring
start_answers (by_contract κs place allowed) = allowed

pub sample_answers : {x : Meter} {ring : List ℤ} {v : ℤ} {z : MeterAnswer} {left : List ℤ} → Samples x ring v z left →
    (z ≡ sample_answer x ring v) × (left ≡ ring_left x ring v)
sample_answers (by_contract κs place name allowed) = allowed

pub gap_answers : {x : Meter} {z : MeterAnswer} → Gaps x z → z ≡ gap_answer x
gap_answers (by_contract κs allowed) = allowed

pub report_answers : {x : Meter} {z : Report} → Reports x z → z ≡ report_answer x
report_answers (by_contract κs allowed) = allowed

-- ---- what an answer's number tells: the meter is the new one, or the one that came

module _ (z : MeterAnswer) (r : Refusal) (old new : Meter) (answer : z ≡ meter_answer r old new) where
  same_number : z.number ≡ r.number
  unfolding meter_answer
  same_number = ap (λ (y : MeterAnswer). y.number) answer ∙ by_number (eqb r.number 0) refl
    where
      by_number : (t : Bool) → eqb r.number 0 ≡ t →
          let given : MeterAnswer = cond t (record { number = 0; place = 0; meter = new }) (record { number = r.number; place = r.place; meter = old }) in
          given.number ≡ r.number
      by_number true e = sym (eqb-true r.number 0 e)
      by_number false e = refl

  accepted_new : r.number ≡ 0 → z.meter ≡ new
  unfolding meter_answer
  accepted_new e = ap (λ (y : MeterAnswer). y.meter) answer ∙ rw (eq-eqb r.number 0 e)

  refused_old : (r.number ≡ 0 → ⊥) → z.meter ≡ old
  unfolding meter_answer
  refused_old f = ap (λ (y : MeterAnswer). y.meter) answer ∙ rw (ne_eqb r.number 0 f)

-- ---- a refused call changes nothing

-- A refused start gives the meter back as it came. The ring is lent to a start for reading alone.
pub refused_start_changes_nothing : {x : Meter} {m : ℕ} {ring : List ℤ} {z : MeterAnswer} → Starts x m ring z → Refused z.number → z.meter ≡ x
unfolding start_answer
refused_start_changes_nothing {z = z} call refused =
    let answer = start_answers call in
    refused_old z _ _ _ answer (λ e. refused (same_number z _ _ _ answer ∙ e))

-- A refused sample call gives the meter back as it came, and leaves the ring as it was.
pub refused_sample_changes_nothing : {x : Meter} {ring left : List ℤ} {v : ℤ} {z : MeterAnswer} → Samples x ring v z left → Refused z.number →
    (z.meter ≡ x) × (left ≡ ring)
unfolding sample_answer ring_left
refused_sample_changes_nothing {x} {ring} {v = v} {z} call refused =
    let answer = (sample_answers call).0 in
    let number : (sample_refusal x ring v).number ≡ 0 → ⊥ = λ e. refused (same_number z _ _ _ answer ∙ e) in
    (refused_old z _ _ _ answer number, (sample_answers call).1 ∙ choice_false _ _ (ne_eqb _ 0 number))

-- A refused gap gives the meter back as it came.
pub refused_gap_changes_nothing : {x : Meter} {z : MeterAnswer} → Gaps x z → Refused z.number → z.meter ≡ x
unfolding gap_answer
refused_gap_changes_nothing {z = z} call refused =
    let answer = gap_answers call in
    refused_old z _ _ _ answer (λ e. refused (same_number z _ _ _ answer ∙ e))

-- ---- an accepted call

pub accepted_fresh : {x : Meter} {m : ℕ} {ring : List ℤ} {z : MeterAnswer} → Starts x m ring z → z.number ≡ 0 → z.meter ≡ started m
unfolding start_answer
accepted_fresh {z = z} call accepted =
    let answer = start_answers call in accepted_new z _ _ _ answer (sym (same_number z _ _ _ answer) ∙ accepted)

pub accepted_worked : {x : Meter} {ring left : List ℤ} {v : ℤ} {z : MeterAnswer} → Samples x ring v z left → z.number ≡ 0 → z.meter ≡ with_sample x ring v
unfolding sample_answer
accepted_worked {z = z} call accepted =
    let answer = (sample_answers call).0 in accepted_new z _ _ _ answer (sym (same_number z _ _ _ answer) ∙ accepted)

pub accepted_apart : {x : Meter} {z : MeterAnswer} → Gaps x z → z.number ≡ 0 → z.meter ≡ with_gap x
unfolding gap_answer
accepted_apart {z = z} call accepted =
    let answer = gap_answers call in accepted_new z _ _ _ answer (sym (same_number z _ _ _ answer) ∙ accepted)

-- ---- two gaps

-- a meter that holds together does so after a gap
apart_holds : (x : Meter) → holds_together x ≡ true → holds_together (with_gap x) ≡ true
unfolding holds_together factor_fits counts_fit with_gap
apart_holds x e =
    let known = holds_together_lem x e in
    simp (
      le-leb 1 x.m known.factor_least,
      le-leb x.m 10922 known.factor_most,
      le-leb x.n 32768 known.not_too_many,
      le-leb 0 x.n (omega arith),
      le-leb x.k x.n known.k_within,
      le-leb x.c x.n known.c_within,
      le-leb 0 (x.m * 2 ^ 42) (omega arith),
      lt-ltb x.a.hi (2 ^ 62) known.a_below,
      lt-ltb x.b.hi (2 ^ 62) known.b_below,
    )

-- a gap after a gap answers as the first did
gap_again : (x : Meter) → gap_answer (gap_answer x).meter ≡ gap_answer x
unfolding gap_answer meter_answer with_gap
gap_again x = by_test (holds_together x) refl
  where
    by_test : (t : Bool) → holds_together x ≡ t → gap_answer (gap_answer x).meter ≡ gap_answer x
    by_test true e = simp (e, apart_holds x e)
    by_test false e = simp e

pub two_gaps_one : {x : Meter} {z z' : MeterAnswer} → Gaps x z → Gaps z.meter z' → z' ≡ z
two_gaps_one {x} call call' =
    gap_answers call' ∙ ap (λ (y : MeterAnswer). gap_answer y.meter) (gap_answers call) ∙ gap_again x ∙ sym (gap_answers call)

-- ---- before the first start

abbrev pub noughts : Meter
noughts = record { m = 0; n = 0; stretch = 0; k = 0; c = 0; a = record { hi = 0; lo = 0 }; b = record { hi = 0; lo = 0 }; window = pos 0 }

-- A meter of all noughts refuses every sample by 7 and comes back as it was.
pub noughts_refuse_samples : {ring left : List ℤ} {v : ℤ} {z : MeterAnswer} → Samples noughts ring v z left →
    z ≡ record { number = 7; place = 0; meter = noughts }
unfolding sample_answer meter_answer sample_refusal holds_together factor_fits
noughts_refuse_samples call = (sample_answers call).0

-- It refuses every gap by 7.
pub noughts_refuse_gaps : {z : MeterAnswer} → Gaps noughts z → z ≡ record { number = 7; place = 0; meter = noughts }
unfolding gap_answer meter_answer holds_together factor_fits
noughts_refuse_gaps call = gap_answers call

-- It refuses every report by 7.
pub noughts_refuse_reports : {z : Report} → Reports noughts z → z ≡ record { number = 7; place = 0; allan = no_part; modified = no_part }
unfolding report_answer holds_together factor_fits
noughts_refuse_reports call = report_answers call

-- ---- from an accepted start on, the meter is the one function of the factor and the stretches

module _ {x : Meter} {m : ℕ} {ring : List ℤ} {z : MeterAnswer} (call : Starts x m ring z) (accepted : z.number ≡ 0) where
  accepted_start : (z.meter ≡ meter_after m [] []) × Running m ring [] []
  unfolding start_answer
  accepted_start =
      let answer = start_answers call in
      let unrefused : (start_refusal m ring).number ≡ 0 = sym (same_number z _ _ _ answer) ∙ accepted in
      let run = starts_running m ring unrefused in
      (accepted_new z _ _ _ answer unrefused ∙ started_is m run.factor_least, run)

  -- So the factor of an accepted start is at least 1, which the theorems below ask for.
  pub started_factor : 1 ≤ m
  started_factor = accepted_start.1.factor_least

module _ {m : ℕ} {ring h : List ℤ} {past : List (List ℤ)} (run : Running m ring h past) {z : MeterAnswer} where
  module _ {left : List ℤ} {v : ℤ} (call : Samples (meter_after m h past) ring v z left) (accepted : z.number ≡ 0) where
    accepted_sample : (z.meter ≡ meter_after m (h ++ v ∷ []) past) × Running m left (h ++ v ∷ []) past
    unfolding sample_answer ring_left
    accepted_sample =
        let answer = (sample_answers call).0 in
        let unrefused : (sample_refusal (meter_after m h past) ring v).number ≡ 0 = sym (same_number z _ _ _ answer) ∙ accepted in
        let allowed = taken_was_allowed run v unrefused in
        let written : left ≡ ring_with (meter_after m h past) ring v = (sample_answers call).1 ∙ choice_true _ _ (eq-eqb _ 0 unrefused) in
        (accepted_new z _ _ _ answer unrefused ∙ with_sample_is run v, rw written (runs_on run v allowed.0 allowed.1))

  accepted_gap : Gaps (meter_after m h past) z → z.number ≡ 0 → (z.meter ≡ meter_after m [] (h ∷ past)) × Running m ring [] (h ∷ past)
  accepted_gap call accepted = (accepted_apart call accepted ∙ with_gap_is run, runs_on_after_gap run)

pub trace_runs : {x : Meter} {ring h : List ℤ} {past : List (List ℤ)} {m : ℕ} → Trace x ring m h past → 1 ≤ m →
    (x ≡ meter_after m h past) × Running m ring h past
trace_runs (begin x ring) started = absurd (omega arith)
trace_runs (start_accepted t call accepted) started = accepted_start call accepted
trace_runs (start_refused t call refused) started = rw (refused_start_changes_nothing call refused) (trace_runs t started)
trace_runs (sample_accepted t call accepted) started =
    let before = trace_runs t started in accepted_sample before.1 (rw before.0 at call) accepted
trace_runs (sample_refused t call refused) started =
    let same = refused_sample_changes_nothing call refused in rw (same.0, same.1) (trace_runs t started)
trace_runs (gap_accepted t call accepted) started =
    let before = trace_runs t started in accepted_gap before.1 (rw before.0 at call) accepted
trace_runs (gap_refused t call refused) started = rw (refused_gap_changes_nothing call refused) (trace_runs t started)
trace_runs (reported t call) started = trace_runs t started

-- ---- the report, and what is taken

-- After any sequence of starts, samples, gaps, reports and refused calls, each lent its own ring and given the meter as the call before gave it back, the
-- report equals the totals of the published sums and counts, worked directly over each stretch alone of the samples accepted since the latest accepted
-- start.
pub reports_published : {x : Meter} {ring h : List ℤ} {past : List (List ℤ)} {m : ℕ} → Trace x ring m h past → 1 ≤ m →
    {z : Report} → Reports x z → z ≡ published_report m (h ∷ past)
reports_published t started call =
    let now = trace_runs t started in report_answers call ∙ ap report_answer now.0 ∙ reports now.1

-- No start at a factor from 1 to 10,922 is refused if its ring has 3m entries or more.
pub takes_every_start : {x : Meter} {m : ℕ} {ring : List ℤ} {z : MeterAnswer} → Starts x m ring z → 1 ≤ m → m ≤ 10922 → 3 * m ≤ length ring → z.number ≡ 0
unfolding start_answer
takes_every_start {m = m} {ring} {z} call least most long =
    same_number z _ _ _ (start_answers call) ∙ ap (λ (r : Refusal). r.number) (start_unrefused m ring least most long)

-- Once started and until 32,768 are in, no sample in range is refused.
pub takes_every_sample : {x : Meter} {ring h : List ℤ} {past : List (List ℤ)} {m : ℕ} → Trace x ring m h past → 1 ≤ m →
    {left : List ℤ} {v : ℤ} {z : MeterAnswer} → Samples x ring v z left → in_range v ≡ true → total_over length (h ∷ past) < 32768 → z.number ≡ 0
unfolding sample_answer
takes_every_sample {ring = ring} t started {v = v} {z} call inside room =
    let now = trace_runs t started in
    same_number z _ _ _ (sample_answers call).0
    ∙ ap (λ (y : Meter). (sample_refusal y ring v).number) now.0
    ∙ ap (λ (r : Refusal). r.number) (takes now.1 v inside room)

-- Once started no gap is refused.
pub takes_every_gap : {x : Meter} {ring h : List ℤ} {past : List (List ℤ)} {m : ℕ} → Trace x ring m h past → 1 ≤ m →
    {z : MeterAnswer} → Gaps x z → z.number ≡ 0
unfolding gap_answer meter_answer
takes_every_gap t started call =
    let now = trace_runs t started in
    ap (λ (y : MeterAnswer). y.number) (gap_answers call ∙ ap gap_answer now.0) ∙ simp (holds now.1)

-- A gap before the first sample changes nothing.
pub early_gap_changes_nothing : {x : Meter} {m : ℕ} {ring : List ℤ} {z z' : MeterAnswer} → Starts x m ring z → z.number ≡ 0 → Gaps z.meter z' →
    (z'.number ≡ 0) × (z'.meter ≡ z.meter)
unfolding with_gap started
early_gap_changes_nothing {x} {ring = ring} call accepted call' =
    let taken = takes_every_gap (start_accepted (begin x ring) call accepted) (started_factor call accepted) call' in
    let fresh = accepted_fresh call accepted in
    (taken, accepted_apart call' taken ∙ ap with_gap fresh ∙ sym fresh)

-- ---- streams that differ stretch by stretch by an offset and a rate

pub alike_totals : {stretches stretches' : List (List ℤ)} (m : ℕ) → Alike stretches stretches' →
    (total_over (allan_count m) stretches' ≡ total_over (allan_count m) stretches)
    × (total_over (allan_sum m) stretches' ≡ total_over (allan_sum m) stretches)
    × (total_over (modified_count m) stretches' ≡ total_over (modified_count m) stretches)
    × (total_over (modified_sum m) stretches' ≡ total_over (modified_sum m) stretches)
unfolding total_over allan_count modified_count
alike_totals m no_stretch = (refl, refl, refl, refl)
alike_totals m (one_more offset rate same moved rest) =
    let shifted : Shifted offset rate _ _ = record { same_length = same; moved = moved } in
    let before = alike_totals m rest in (
      ap₂ ◌+◌ (ap (λ (N : ℕ). N - 2 * m) same) before.0,
      ap₂ ◌+◌ (shifted_allan_sum shifted m) before.1,
      ap₂ ◌+◌ (ap (λ (N : ℕ). N + 1 - 3 * m) same) before.2,
      ap₂ ◌+◌ (shifted_modified_sum shifted m) before.3,
    )

-- Two such streams at one factor, all accepted in both, get equal sums, and equal counts with them.
pub alike_streams_agree : {x x' : Meter} {ring ring' h h' : List ℤ} {past past' : List (List ℤ)} {m : ℕ} → Trace x ring m h past → Trace x' ring' m h' past' →
    1 ≤ m → Alike (h ∷ past) (h' ∷ past') → {z z' : Report} → Reports x z → Reports x' z' → z' ≡ z
unfolding published_report
alike_streams_agree {m = m} t t' started alike call call' =
    let same = alike_totals m alike in
    reports_published t' started call'
    ∙ (λ i. record {
      number = 0;
      place = 0;
      allan = part_of (leb 1 (same.0 i)) (same.1 i) (same.0 i);
      modified = part_of (leb 1 (same.2 i)) (same.3 i) (same.2 i);
    })
    ∙ sym (reports_published t started call)
