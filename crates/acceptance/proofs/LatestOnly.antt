-- Only the latest 3m samples of the present stretch matter: of the ring, a sample call's answer depends on the slots that it reads alone, and the answers
-- of a run of sample and gap calls on the slots of the latest 3m samples of the stretch alone. What stands in a slot that the stretch has not yet written,
-- or past the first 3m entries, changes no answer.
use mathlib.Core.Path.{◌≡◌, refl, sym, ap, ap₂, ◌∙◌}
use mathlib.Core.Bool.{Bool, true, false, cond, ◌&&◌}
use mathlib.Core.List.{List, ◌∷◌}
use Prim.Native.Nat.{ℕ, ◌+◌, ◌-◌, ◌*◌, ◌%◌, ◌≤◌, ◌<◌}
use native.Mathlib.Nat.{mod-lt}
use native.Mathlib.Omega.{arith}
use borrow.Author.Tests.{le-leb}
use lib.Dec.{leb, eqb}
use lib.IntN.{ℤ, pos, ◌+ℤ◌, ◌-ℤ◌}
use lib.ListN.{length, length-set}
use lib.Seq.{get_or-set_same, get_or-set_other}
use Rattle.laws.specs.Sums.{square}
use Rattle.laws.proofs.RingLaws.{slots_apart, keeps_on}
use Rattle.laws.proofs.Tests.{choices_agree}
use Rattle.wide.specs.Wide.{value, halves}
use Rattle.record.specs.Refusals.{in_range}
use Rattle.record.specs.declared.Refusal.{Refusal}
use Rattle.meter.specs.Meter.{holds_together, slot, ring_holds, new_difference, old_difference, window_with, with_terms, with_sample, ring_with, with_gap}
use Rattle.meter.specs.Answers.{meter_answer, sample_refusal, sample_answer, ring_left, gap_answer}
use Rattle.meter.specs.declared.Meter.{Meter}
use Rattle.meter.specs.declared.MeterAnswer.{MeterAnswer}
use Rattle.meter.proofs.Running.{meter_after, Running}
use Rattle.acceptance.specs.Calls.{Samples, Trace, Call, Run, done, next, across}
use Rattle.acceptance.proofs.AnyCalls.{sample_answers, gap_answers, trace_runs}

-- ---- one call

-- two rings, neither shorter than 3m, agree on the slots that a sample call reads: of numbers s-m and s-2m from s = 2m on, and of s-3m from s = 3m on
pub record SameRead (x : Meter) (ring ring' : List ℤ) : Type 0 where
  pub long : 3 * x.m ≤ length ring
  pub long' : 3 * x.m ≤ length ring'
  pub once : 2 * x.m ≤ x.stretch → slot x ring (x.stretch - x.m) ≡ slot x ring' (x.stretch - x.m)
  pub twice : 2 * x.m ≤ x.stretch → slot x ring (x.stretch - 2 * x.m) ≡ slot x ring' (x.stretch - 2 * x.m)
  pub thrice : 3 * x.m ≤ x.stretch → slot x ring (x.stretch - 3 * x.m) ≡ slot x ring' (x.stretch - 3 * x.m)

module _ {x : Meter} {ring ring' : List ℤ} (same : SameRead x ring ring') where
  same_ring_holds : ring_holds x ring ≡ ring_holds x ring'
  unfolding ring_holds
  same_ring_holds =
      ap₂ ◌&&◌ (le-leb _ _ same.long ∙ sym (le-leb _ _ same.long'))
      (ap₂ ◌&&◌
      (choices_agree (2 * x.m) x.stretch (λ many. ap₂ (λ (u w : ℤ). in_range u && in_range w) (same.once many) (same.twice many)) (λ few. refl))
      (choices_agree (3 * x.m) x.stretch (λ many. ap in_range (same.thrice many)) (λ few. refl)))

  module _ (v : ℤ) where
    same_refusal : sample_refusal x ring v ≡ sample_refusal x ring' v
    unfolding sample_refusal
    same_refusal = rw same_ring_holds

    same_new_difference : 2 * x.m ≤ x.stretch → new_difference x ring v ≡ new_difference x ring' v
    unfolding new_difference
    same_new_difference many = rw (same.once many, same.twice many)

    same_old_difference : 3 * x.m ≤ x.stretch → old_difference x ring ≡ old_difference x ring'
    unfolding old_difference
    same_old_difference many = rw (same.once (omega arith), same.twice (omega arith), same.thrice many)

    same_window : window_with x (new_difference x ring v) (old_difference x ring) ≡ window_with x (new_difference x ring' v) (old_difference x ring')
    unfolding window_with
    same_window =
        choices_agree (3 * x.m) x.stretch (λ many. ap₂ (λ (d e : ℤ). x.window +ℤ d -ℤ e) (same_new_difference (omega arith)) (same_old_difference many))
        (λ few. choices_agree (2 * x.m) x.stretch (λ many. ap (λ (d : ℤ). x.window +ℤ d) (same_new_difference many)) (λ none. refl))

    same_meter : with_sample x ring v ≡ with_sample x ring' v
    unfolding with_sample with_terms
    same_meter =
        let new-a = choices_agree (2 * x.m) x.stretch (λ many. ap (λ (d : ℤ). halves (value x.a + square d)) (same_new_difference many)) (λ few. refl) in
        λ i. record {
          m = x.m;
          n = x.n + 1;
          stretch = x.stretch + 1;
          k = cond (leb (2 * x.m) x.stretch) (x.k + 1) x.k;
          c = cond (leb (3 * x.m) (x.stretch + 1)) (x.c + 1) x.c;
          a = new-a i;
          b = cond (leb (3 * x.m) (x.stretch + 1)) (halves (value x.b + square (same_window i))) x.b;
          window = same_window i;
        }

    -- a sample call answers the same
    pub same_read_same_answer : sample_answer x ring v ≡ sample_answer x ring' v
    unfolding sample_answer
    same_read_same_answer = ap₂ (λ (r : Refusal) (new : Meter). meter_answer r x new) same_refusal same_meter

-- ---- a run of calls

-- two rings, neither shorter than 3m, agree on the slots of the latest 3m samples of the stretch, all of them while there are fewer
pub record SameLatest (x : Meter) (ring ring' : List ℤ) : Type 0 where
  pub factor_least : 1 ≤ x.m
  pub long : 3 * x.m ≤ length ring
  pub long' : 3 * x.m ≤ length ring'
  pub kept : (k : ℕ) → k < x.stretch → x.stretch ≤ k + 3 * x.m → slot x ring k ≡ slot x ring' k

module _ {x : Meter} {ring ring' : List ℤ} (same : SameLatest x ring ring') where
  same_latest_same_read : SameRead x ring ring'
  same_latest_same_read = record {
    long = same.long;
    long' = same.long';
    once = λ many. same.kept (x.stretch - x.m) (omega (arith, same.factor_least)) (omega arith);
    twice = λ many. same.kept (x.stretch - 2 * x.m) (omega (arith, same.factor_least)) (omega arith);
    thrice = λ many. same.kept (x.stretch - 3 * x.m) (omega (arith, same.factor_least)) (omega arith);
  }

  module _ (v : ℤ) where
    accepted_same_latest : SameLatest (with_sample x ring v) (ring_with x ring v) (ring_with x ring' v)
    unfolding with_sample with_terms ring_with slot
    accepted_same_latest =
        let own : ℕ = x.stretch % (3 * x.m) in
        let some : 0 < 3 * x.m = omega (arith, same.factor_least) in record {
          factor_least = same.factor_least;
          long = omega (arith, length-set ring own v, same.long);
          long' = omega (arith, length-set ring' own v, same.long');
          kept =
              keeps_on (3 * x.m) x.stretch ring v some same.long same.kept
              (λ k before near. get_or-set_other ring' own (k % (3 * x.m)) v (pos 0) (slots_apart (3 * x.m) k x.stretch before near))
              (get_or-set_same ring' own v (pos 0) (omega (arith, mod-lt x.stretch some, same.long')));
        }

    next_same_latest : SameLatest (sample_answer x ring v).meter (ring_left x ring v) (ring_left x ring' v)
    unfolding sample_answer meter_answer ring_left
    next_same_latest = rw (← same_refusal same_latest_same_read v) (by_test (eqb (sample_refusal x ring v).number 0))
      where
        by_test : (t : Bool) →
            let accepted : MeterAnswer = record { number = 0; place = 0; meter = with_sample x ring v } in
            let refused : MeterAnswer = record { number = (sample_refusal x ring v).number; place = (sample_refusal x ring v).place; meter = x } in
            SameLatest (cond t accepted refused).meter (cond t (ring_with x ring v) ring) (cond t (ring_with x ring' v) ring')
        by_test true = accepted_same_latest
        by_test false = same

  -- after a gap there is no sample whose slot matters
  next_after_gap : SameLatest (gap_answer x).meter ring ring'
  unfolding gap_answer meter_answer with_gap
  next_after_gap = by_test (holds_together x) refl
    where
      by_test : (t : Bool) → holds_together x ≡ t → SameLatest (gap_answer x).meter ring ring'
      by_test true e = rw e (record { factor_least = same.factor_least; long = same.long; long' = same.long'; kept = λ k before near. absurd (omega arith) })
      by_test false e = rw e same

-- ---- by the contracts

-- A sample call answers the same of two rings that agree on the slots that it reads.
pub only_read_slots_matter : {x : Meter} {ring ring' left left' : List ℤ} {v : ℤ} {z z' : MeterAnswer} → SameRead x ring ring' →
    Samples x ring v z left → Samples x ring' v z' left' → z ≡ z'
only_read_slots_matter {v = v} same call call' = (sample_answers call).0 ∙ same_read_same_answer same v ∙ sym (sample_answers call').0

-- Every sample and gap call from then on answers the same.
pub same_latest_same_answers : {x : Meter} {ring ring' : List ℤ} {calls : List Call} {zs zs' : List MeterAnswer} → SameLatest x ring ring' →
    Run x ring calls zs → Run x ring' calls zs' → zs ≡ zs'
same_latest_same_answers same done done = refl
same_latest_same_answers {x} {ring} {ring'} same (next {v = v} call later) (next call' later') =
    let first = only_read_slots_matter (same_latest_same_read same) call call' in
    let after = next_same_latest same v in
    ap₂ ◌∷◌ first
    (same_latest_same_answers (rw (← (sample_answers call).0, ← (sample_answers call).1, ← (sample_answers call').1) at after) later (rw (← first) at later'))
same_latest_same_answers {x} {ring} {ring'} same (across call later) (across call' later') =
    let first = gap_answers call ∙ sym (gap_answers call') in
    let after = next_after_gap same in
    ap₂ ◌∷◌ first (same_latest_same_answers (rw (← gap_answers call) at after) later (rw (← first) at later'))

running_same_latest : {m : ℕ} {ring ring' h : List ℤ} {past : List (List ℤ)} → Running m ring h past → Running m ring' h past →
    SameLatest (meter_after m h past) ring ring'
unfolding slot
running_same_latest run run' = record {
  factor_least = run.factor_least;
  long = run.long;
  long' = run'.long;
  kept = λ k before near. run.kept k before near ∙ sym (run'.kept k before near);
}

-- Two meters that were started at one factor and have accepted the same samples since, with gaps at the same places, are equal, and answer all later
-- samples and gaps the same, whatever calls came before and whatever else stands in their rings.
pub same_samples_same_answers : {x x' : Meter} {ring ring' h : List ℤ} {past : List (List ℤ)} {m : ℕ} → Trace x ring m h past → Trace x' ring' m h past → 1 ≤ m →
    (x ≡ x') × ((calls : List Call) (zs zs' : List MeterAnswer) → Run x ring calls zs → Run x' ring' calls zs' → zs ≡ zs')
same_samples_same_answers {m = m} t t' started =
    let now = trace_runs t started in
    let now' = trace_runs t' started in (
      now.0 ∙ sym now'.0,
      λ calls zs zs' run run'. same_latest_same_answers (running_same_latest now.1 now'.1) (rw now.0 at run) (rw now'.0 at run'),
    )
