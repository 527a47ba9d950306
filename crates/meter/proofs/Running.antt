-- A meter that was started at factor m, has taken samples h since the latest gap and stretches before it is one function of m, h and these: it takes every
-- sample in range, and its report is the totals of the published sums over the stretches.
use mathlib.Core.Path.{◌≡◌, refl, sym, ap, ap₂, ◌∙◌}
use mathlib.Core.Bool.{true, not}
use mathlib.Core.List.{List, [], ◌∷◌, ◌++◌}
use Prim.Native.Nat.{ℕ, ◌+◌, ◌-◌, ◌*◌, ◌%◌, ◌^◌, ◌≤◌, ◌<◌}
use native.Mathlib.Nat.{mul-le-mul, mul-le-mul_right}
use native.Mathlib.Omega.{arith}
use borrow.Author.Count.{below_more}
use borrow.Author.Tests.{le-leb, lt-ltb, le-ltb, leb-true, ltb-false, eqb-false, ne_eqb, not-false}
use lib.Dec.{leb, ltb, eqb}
use lib.IntN.{ℤ, nat_abs, ◌+ℤ◌, ◌-ℤ◌}
use lib.ListN.{length, length-set}
use Rattle.laws.specs.Sums.{square, total_over}
use Rattle.laws.specs.Lists.{at}
use Rattle.laws.proofs.Halves.{high_part_below}
use Rattle.laws.proofs.RingLaws.{Keeps, keeps_on}
use Rattle.laws.proofs.Tests.{choice_by_order, both_true, first_true, second_true}
use Rattle.wide.specs.Wide.{halves}
use Rattle.wide.proofs.WideLaws.{value_of_halves}
use Rattle.record.specs.Refusals.{none, refused_if, ◌then◌, in_range}
use Rattle.record.proofs.RefusalLaws.{in_range_bounded, first_refuses_nothing, rest_refuses_nothing, test_fails}
use Rattle.sums.specs.Published.{difference, allan_sum, allan_count, modified_sum, modified_count}
use Rattle.sums.specs.Answers.{part_of}
use Rattle.sums.proofs.PublishedLaws.{allan_within, modified_within, allan_sum_is, modified_sum_is}
use Rattle.meter.specs.Meter.{factor_fits, counts_fit, holds_together, slot, ring_holds, new_difference, old_difference, window_with, with_terms, with_sample, ring_with, with_gap, started}
use Rattle.meter.specs.Answers.{start_refusal, sample_refusal, report_answer}
use Rattle.meter.specs.declared.Meter.{Meter}
use Rattle.meter.specs.declared.Report.{Report}
use Rattle.meter.proofs.Stream.{latest, latest_within, no_allan_sum, no_modified_sum, none_latest, one_longer, old_sample, new_sample, allan_waits, allan_grows, modified_waits, modified_grows, latest_waits, latest_grows, latest_slides}

-- the meter that was started at factor m, has taken samples h since the latest gap, and the stretches `past` before it
abbrev pub meter_after : ℕ → List ℤ → List (List ℤ) → Meter
meter_after m h past = record {
  m = m;
  n = total_over length (h ∷ past);
  stretch = length h;
  k = total_over (allan_count m) (h ∷ past);
  c = total_over (modified_count m) (h ∷ past);
  a = halves (total_over (allan_sum m) (h ∷ past));
  b = halves (total_over (modified_sum m) (h ∷ past));
  window = latest m h;
}

-- the totals of what the published formulas give of each stretch alone at factor m, in a report's form
unfoldable pub published_report : ℕ → List (List ℤ) → Report
published_report m stretches = record {
  number = 0;
  place = 0;
  allan = part_of (leb 1 (total_over (allan_count m) stretches)) (total_over (allan_sum m) stretches) (total_over (allan_count m) stretches);
  modified = part_of (leb 1 (total_over (modified_count m) stretches)) (total_over (modified_sum m) stretches) (total_over (modified_count m) stretches);
}

-- stretches give no more terms than they have samples, each within what samples in range give
pub record Bounded (m : ℕ) (past : List (List ℤ)) : Type 0 where
  pub few_k : total_over (allan_count m) past ≤ total_over length past
  pub few_c : total_over (modified_count m) past ≤ total_over length past
  pub small_a : total_over (allan_sum m) past ≤ total_over length past * 2 ^ 84
  pub small_b : total_over (modified_sum m) past ≤ total_over length past * (m * m * 2 ^ 84)

-- what is known of m and the stretches, and of the ring: it keeps the latest 3m samples of the present one
pub record Running (m : ℕ) (ring h : List ℤ) (past : List (List ℤ)) : Type 0 where
  pub factor_least : 1 ≤ m
  pub factor_most : m ≤ 10922
  pub not_too_many : total_over length (h ∷ past) ≤ 32768
  pub bounded_past : Bounded m past
  pub in_range_lem : (k : ℕ) → k < length h → in_range (at h k) ≡ true
  pub long : 3 * m ≤ length ring
  pub kept : Keeps (3 * m) (length h) ring (at h)

-- ---- a start

pub start_unrefused : (m : ℕ) (ring : List ℤ) → 1 ≤ m → m ≤ 10922 → 3 * m ≤ length ring → start_refusal m ring ≡ none
unfolding start_refusal factor_fits
start_unrefused m ring least most long = simp (le-leb 1 m least, le-leb m 10922 most, le-ltb (length ring) (3 * m) long)

module _ (m : ℕ) (ring : List ℤ) (unrefused : (start_refusal m ring).number ≡ 0) where
  pub starts_running : Running m ring [] []
  unfolding start_refusal factor_fits total_over
  starts_running =
      let factor = refused_if (not (factor_fits m)) 5 0 in
      let short = refused_if (ltb (length ring) (3 * m)) 6 0 in
      let fits : factor_fits m ≡ true = not-false _ (test_fails _ 5 0 (omega arith) (first_refuses_nothing factor short unrefused)) in record {
        factor_least = leb-true 1 m (first_true (leb 1 m) _ fits);
        factor_most = leb-true m 10922 (second_true (leb 1 m) _ fits);
        not_too_many = omega arith;
        bounded_past = record { few_k = omega arith; few_c = omega arith; small_a = omega arith; small_b = omega arith };
        in_range_lem = λ k before. absurd (omega arith);
        long = ltb-false (length ring) (3 * m) (test_fails _ 6 0 (omega arith) (rest_refuses_nothing factor short unrefused));
        kept = λ k before near. absurd (omega arith);
      }

-- ---- a stretch of no samples

-- it gives nothing to the totals over the stretches before it
module _ (m : ℕ) (least : 1 ≤ m) (past : List (List ℤ)) where
  no_samples : total_over length past ≡ total_over length ([] ∷ past)
  unfolding total_over
  no_samples = omega arith

  no_k : total_over (allan_count m) past ≡ total_over (allan_count m) ([] ∷ past)
  unfolding total_over allan_count
  no_k = omega arith

  no_c : total_over (modified_count m) past ≡ total_over (modified_count m) ([] ∷ past)
  unfolding total_over modified_count
  no_c = omega arith

  no_a : total_over (allan_sum m) past ≡ total_over (allan_sum m) ([] ∷ past)
  unfolding total_over
  no_a = omega (arith, no_allan_sum m)

  no_b : total_over (modified_sum m) past ≡ total_over (modified_sum m) ([] ∷ past)
  unfolding total_over
  no_b = omega (arith, no_modified_sum m least)

pub started_is : (m : ℕ) → 1 ≤ m → started m ≡ meter_after m [] []
unfolding started total_over
started_is m least = λ i. record {
  m = m;
  n = no_samples m least [] i;
  stretch = 0;
  k = no_k m least [] i;
  c = no_c m least [] i;
  a = halves (no_a m least [] i);
  b = halves (no_b m least [] i);
  window = sym (none_latest m) i;
}

module _ {m : ℕ} {ring h : List ℤ} {past : List (List ℤ)} (run : Running m ring h past) where
  -- ---- the stretches with the present one

  bounded : (k : ℕ) → nat_abs (at h k) ≤ 2 ^ 40
  bounded = in_range_bounded h run.in_range_lem

  bounded_all : Bounded m (h ∷ past)
  unfolding total_over allan_count modified_count
  bounded_all =
      let least = run.factor_least in
      let before = run.bounded_past in
      let N : ℕ = length h in
      let a_few : (N - 2 * m) * 2 ^ 84 ≤ N * 2 ^ 84 = mul-le-mul_right (2 ^ 84) (omega arith) in
      let b_few : (N + 1 - 3 * m) * (m * m * 2 ^ 84) ≤ N * (m * m * 2 ^ 84) = mul-le-mul_right (m * m * 2 ^ 84) (omega arith) in
      let a_small : allan_sum m h ≤ (N - 2 * m) * 2 ^ 84 = rw (← allan_sum_is m h _ refl) (allan_within m h bounded (N - 2 * m)) in
      let b_small : modified_sum m h ≤ (N + 1 - 3 * m) * (m * m * 2 ^ 84) = rw (← modified_sum_is m h _ refl) (modified_within m h bounded (N + 1 - 3 * m)) in
      record {
        few_k = omega (arith, before.few_k);
        few_c = omega (arith, before.few_c);
        small_a = omega (arith, before.small_a, a_few, a_small);
        small_b = omega (arith, before.small_b, b_few, b_small);
      }

  -- ---- the meter holds together

  allan_high_below : ltb (meter_after m h past).a.hi (2 ^ 62) ≡ true
  allan_high_below =
      let total : ℕ = total_over (allan_sum m) (h ∷ past) in
      lt-ltb _ (2 ^ 62) (high_part_below (2 ^ 62) (2 ^ 64) total (omega arith) (omega (arith, bounded_all.small_a, run.not_too_many)))

  modified_high_below : ltb (meter_after m h past).b.hi (2 ^ 62) ≡ true
  modified_high_below =
      let total : ℕ = total_over (modified_sum m) (h ∷ past) in
      let most = run.factor_most in
      let below = mul-le-mul run.not_too_many (mul-le-mul_right (2 ^ 84) (mul-le-mul most most)) in
      lt-ltb _ (2 ^ 62) (high_part_below (2 ^ 62) (2 ^ 64) total (omega arith) (omega (arith, bounded_all.small_b, below)))

  stretch_within : length h ≤ total_over length (h ∷ past)
  unfolding total_over
  stretch_within = omega arith

  counts_fit_lem : counts_fit (meter_after m h past) ≡ true
  unfolding counts_fit
  counts_fit_lem = both_true (le-leb _ _ stretch_within) (both_true (le-leb _ _ bounded_all.few_k) (le-leb _ _ bounded_all.few_c))

  -- so that a gap is never refused
  pub holds : holds_together (meter_after m h past) ≡ true
  unfolding holds_together factor_fits
  holds =
      simp (
        le-leb 1 m run.factor_least,
        le-leb m 10922 run.factor_most,
        le-leb (total_over length (h ∷ past)) 32768 run.not_too_many,
        counts_fit_lem,
        le-leb (nat_abs (latest m h)) (m * 2 ^ 42) (latest_within m h bounded),
        allan_high_below,
        modified_high_below,
      )

  slot_has : (k : ℕ) → k < length h → length h ≤ k + 3 * m → slot (meter_after m h past) ring k ≡ at h k
  unfolding slot
  slot_has k before near = run.kept k before near

  slot_in_range : (k : ℕ) → k < length h → length h ≤ k + 3 * m → in_range (slot (meter_after m h past) ring k) ≡ true
  slot_in_range k before near = ap in_range (slot_has k before near) ∙ run.in_range_lem k before

  ring_holds_lem : ring_holds (meter_after m h past) ring ≡ true
  unfolding ring_holds
  ring_holds_lem =
      let some = run.factor_least in
      both_true (le-leb (3 * m) (length ring) run.long)
      (both_true
      (choice_by_order (2 * m) (length h)
      (λ many. both_true (slot_in_range _ (omega arith) (omega arith)) (slot_in_range _ (omega arith) (omega arith)))
      (λ few. refl))
      (choice_by_order (3 * m) (length h) (λ many. slot_in_range _ (omega arith) (omega arith)) (λ few. refl)))

  -- ---- what it refuses, and what it reports

  -- 7 is never given: 2 and 3 are left
  refusal_is : (v : ℤ) →
      sample_refusal (meter_after m h past) ring v ≡ (refused_if (eqb (total_over length (h ∷ past)) 32768) 2 0 then refused_if (not (in_range v)) 3 0)
  unfolding sample_refusal
  refusal_is v = simp (holds, ring_holds_lem)

  pub takes : (v : ℤ) → in_range v ≡ true → total_over length (h ∷ past) < 32768 → sample_refusal (meter_after m h past) ring v ≡ none
  takes v inside room = refusal_is v ∙ simp (inside, ne_eqb (total_over length (h ∷ past)) 32768 (λ e. omega arith))

  pub taken_was_allowed : (v : ℤ) → (sample_refusal (meter_after m h past) ring v).number ≡ 0 → (in_range v ≡ true) × (total_over length (h ∷ past) < 32768)
  taken_was_allowed v unrefused =
      let n : ℕ = total_over length (h ∷ past) in
      let full = refused_if (eqb n 32768) 2 0 in
      let outside = refused_if (not (in_range v)) 3 0 in
      let left : (full then outside).number ≡ 0 = rw (refusal_is v) at unrefused in
      let room = eqb-false n 32768 (test_fails _ 2 0 (omega arith) (first_refuses_nothing full outside left)) in
      (not-false (in_range v) (test_fails _ 3 0 (omega arith) (rest_refuses_nothing full outside left)), omega (arith, run.not_too_many))

  pub reports : report_answer (meter_after m h past) ≡ published_report m (h ∷ past)
  unfolding report_answer published_report
  reports = simp (holds, value_of_halves (total_over (allan_sum m) (h ∷ past)), value_of_halves (total_over (modified_sum m) (h ∷ past)))

  -- ---- a gap

  pub with_gap_is : with_gap (meter_after m h past) ≡ meter_after m [] (h ∷ past)
  unfolding with_gap
  with_gap_is =
      let least = run.factor_least in λ i. record {
        m = m;
        n = no_samples m least (h ∷ past) i;
        stretch = 0;
        k = no_k m least (h ∷ past) i;
        c = no_c m least (h ∷ past) i;
        a = halves (no_a m least (h ∷ past) i);
        b = halves (no_b m least (h ∷ past) i);
        window = sym (none_latest m) i;
      }

  pub runs_on_after_gap : Running m ring [] (h ∷ past)
  runs_on_after_gap = record {
    factor_least = run.factor_least;
    factor_most = run.factor_most;
    not_too_many = rw (← no_samples m run.factor_least (h ∷ past)) run.not_too_many;
    bounded_past = bounded_all;
    in_range_lem = λ k before. absurd (omega arith);
    long = run.long;
    kept = λ k before near. absurd (omega arith);
  }

  -- ---- one sample more

  module _ (v : ℤ) where
    abbrev longer : List ℤ
    longer = h ++ v ∷ []

    old_slot : (k i : ℕ) → k ≡ i → k < length h → length h ≤ k + 3 * m → slot (meter_after m h past) ring k ≡ at longer i
    old_slot k i e before near = slot_has k before near ∙ sym (old_sample h v k before) ∙ ap (at longer) e

    new_difference_is : 2 * m ≤ length h → new_difference (meter_after m h past) ring v ≡ difference m longer (length h - 2 * m)
    unfolding new_difference difference
    new_difference_is many =
        let some = run.factor_least in
        let i : ℕ = length h - 2 * m in
        let last : at longer (i + 2 * m) ≡ v = ap (at longer) (omega arith) ∙ new_sample h v in
        rw (
          old_slot (length h - m) (i + m) (omega arith) (omega arith) (omega arith),
          old_slot (length h - 2 * m) i (omega arith) (omega arith) (omega arith),
          last,
        )

    old_difference_is : 3 * m ≤ length h → old_difference (meter_after m h past) ring ≡ difference m longer (length h - 3 * m)
    unfolding old_difference difference
    old_difference_is many =
        let some = run.factor_least in
        let i : ℕ = length h - 3 * m in
        rw (
          old_slot (length h - m) (i + 2 * m) (omega arith) (omega arith) (omega arith),
          old_slot (length h - 2 * m) (i + m) (omega arith) (omega arith) (omega arith),
          old_slot (length h - 3 * m) i (omega arith) (omega arith) (omega arith),
        )

    new_window_is : window_with (meter_after m h past) (new_difference (meter_after m h past) ring v) (old_difference (meter_after m h past) ring) ≡ latest m longer
    unfolding window_with
    new_window_is =
        choice_by_order (3 * m) (length h)
        (λ many. ap₂ (λ (d e : ℤ). latest m h +ℤ d -ℤ e) (new_difference_is (omega arith)) (old_difference_is many) ∙ sym (latest_slides h v m many))
        (λ few.
        choice_by_order (2 * m) (length h)
        (λ many. ap (λ (d : ℤ). latest m h +ℤ d) (new_difference_is many) ∙ sym (latest_grows h v m many few))
        (λ none. sym (latest_waits h v m none)))

    new_n_is : total_over length (h ∷ past) + 1 ≡ total_over length (longer ∷ past)
    unfolding total_over
    new_n_is = omega (arith, one_longer h v)

    new_k_is : (with_sample (meter_after m h past) ring v).k ≡ total_over (allan_count m) (longer ∷ past)
    unfolding with_sample with_terms total_over allan_count
    new_k_is = choice_by_order (2 * m) (length h) (λ many. omega (arith, one_longer h v)) (λ few. omega (arith, one_longer h v))

    new_c_is : (with_sample (meter_after m h past) ring v).c ≡ total_over (modified_count m) (longer ∷ past)
    unfolding with_sample with_terms total_over modified_count
    new_c_is = choice_by_order (3 * m) (length h + 1) (λ many. omega (arith, one_longer h v)) (λ few. omega (arith, one_longer h v))

    new_allan_is : (with_sample (meter_after m h past) ring v).a ≡ halves (total_over (allan_sum m) (longer ∷ past))
    unfolding with_sample with_terms total_over
    new_allan_is =
        choice_by_order (2 * m) (length h)
        (λ many.
        ap halves (ap₂ (λ (s : ℕ) (d : ℤ). s + square d) (value_of_halves _) (new_difference_is many) ∙ omega (arith, allan_grows h v m many)))
        (λ few. ap halves (omega (arith, allan_waits h v m few)))

    new_modified_is : (with_sample (meter_after m h past) ring v).b ≡ halves (total_over (modified_sum m) (longer ∷ past))
    unfolding with_sample with_terms total_over
    new_modified_is =
        choice_by_order (3 * m) (length h + 1)
        (λ many. ap halves (ap₂ (λ (s : ℕ) (w : ℤ). s + square w) (value_of_halves _) new_window_is ∙ omega (arith, modified_grows h v m many)))
        (λ few. ap halves (omega (arith, modified_waits h v m few)))

    pub with_sample_is : with_sample (meter_after m h past) ring v ≡ meter_after m longer past
    unfolding with_sample with_terms
    with_sample_is = λ i. record {
      m = m;
      n = new_n_is i;
      stretch = sym (one_longer h v) i;
      k = new_k_is i;
      c = new_c_is i;
      a = new_allan_is i;
      b = new_modified_is i;
      window = new_window_is i;
    }

    pub runs_on : in_range v ≡ true → total_over length (h ∷ past) < 32768 → Running m (ring_with (meter_after m h past) ring v) longer past
    unfolding ring_with
    runs_on inside room = record {
      factor_least = run.factor_least;
      factor_most = run.factor_most;
      not_too_many = omega (arith, new_n_is);
      bounded_past = run.bounded_past;
      in_range_lem =
          rw (one_longer h v) (below_more (λ k. in_range (at longer k) ≡ true) (length h)
          (λ k before. ap in_range (old_sample h v k before) ∙ run.in_range_lem k before)
          (ap in_range (new_sample h v) ∙ inside));
      long = omega (arith, length-set ring (length h % (3 * m)) v, run.long);
      kept =
          rw (one_longer h v) (keeps_on (3 * m) (length h) ring v (omega (arith, run.factor_least)) run.long run.kept
          (λ k before near. old_sample h v k before) (new_sample h v));
    }
