-- What the tests of a meter and of its ring tell, taken in the order in which the code makes them.
use mathlib.Core.Path.{◌≡◌, refl, sym, ap, ◌∙◌}
use mathlib.Core.Bool.{Bool, true, false, cond, not, ◌&&◌, true≢false}
use mathlib.Core.List.{List}
use Prim.Native.Nat.{ℕ, ◌-◌, ◌*◌, ◌%◌, ◌^◌, ◌≤◌, ◌<◌}
use native.Mathlib.Nat.{mod-lt}
use native.Mathlib.Omega.{arith}
use borrow.Author.Tests.{ltb-true, leb-true, lt-ltb, le-ltb, le-leb, lt-leb, eq-eqb, ne_eqb, not-false, eqb-false}
use lib.Dec.{leb, ltb, eqb}
use lib.IntN.{ℤ, pos, nat_abs}
use lib.Signed.{mag, lt_z, le_z}
use lib.ListN.{length}
use mir.Syntax.{w64}
use mir.Val.{SFits, of_z, to_z}
use Rattle.laws.proofs.Expressions.{Expression, $◌, #◌, ◌⊗◌, ⊝◌}
use Rattle.laws.proofs.Machine.{Fit, machine, machine_is, test_is}
use Rattle.laws.proofs.Tests.{choice_true, both_true, first_true, second_true}
use Rattle.record.specs.Refusals.{none, refused, refused_if, ◌then◌, in_range}
use Rattle.record.specs.declared.Refusal.{Refusal}
use Rattle.record.proofs.RangeLaws.{below_low_end, above_low_end, sample_bounded}
use Rattle.record.proofs.RefusalLaws.{first_refuses_nothing, rest_refuses_nothing, test_fails}
use Rattle.meter.specs.Meter.{factor_fits, counts_fit, holds_together, slot, ring_holds}
use Rattle.meter.specs.Answers.{sample_refusal}
use Rattle.meter.specs.declared.Meter.{Meter}

-- ---- the window sum

-- the end of its range, as the code has it
abbrev pub window_end : ℕ → Expression
window_end m = $ pos m ⊗ # (2 ^ 42)

module _ (m : ℕ) (most : m ≤ 10922) where
  pub window_end_fits : Fit w64 (⊝ window_end m)
  window_end_fits = omega arith

  module _ (window : ℤ) (fits : SFits w64 window) where
    pub window_below_its_range : lt_z (machine w64 ($ window)) (machine w64 (⊝ window_end m)) ≡ true → leb (nat_abs window) (m * 2 ^ 42) ≡ false
    window_below_its_range t =
        below_low_end (m * 2 ^ 42) window (sym (test_is w64 ($ window) (⊝ window_end m) fits window_end_fits lt_z) ∙ t)

    pub window_not_below_its_range : lt_z (machine w64 ($ window)) (machine w64 (⊝ window_end m)) ≡ false →
        le_z (machine w64 ($ window)) (machine w64 (window_end m)) ≡ leb (nat_abs window) (m * 2 ^ 42)
    window_not_below_its_range t =
        test_is w64 ($ window) (window_end m) fits window_end_fits.0 le_z
        ∙ above_low_end (m * 2 ^ 42) window (sym (test_is w64 ($ window) (⊝ window_end m) fits window_end_fits lt_z) ∙ t)

-- what the test's answer tells of a window sum that a field held
pub window_decided : (window : ℤ) → mag window < 2 ^ 63 → (limit : ℕ) {answer t : Bool} →
    answer ≡ leb (nat_abs (to_z w64 (of_z w64 window))) limit → answer ≡ t → leb (nat_abs window) limit ≡ t
window_decided window fits limit e t = ap (λ (z : ℤ). leb (nat_abs z) limit) (sym (machine_is w64 ($ window) (record { sfits = fits }))) ∙ sym e ∙ t

-- ---- the meter alone

-- what is known of a meter that holds together
pub record Together (x : Meter) : Type 0 where
  pub factor_least : 1 ≤ x.m
  pub factor_most : x.m ≤ 10922
  pub not_too_many : x.n ≤ 32768
  pub stretch_within : x.stretch ≤ x.n
  pub k_within : x.k ≤ x.n
  pub c_within : x.c ≤ x.n
  pub window_within : nat_abs x.window ≤ x.m * 2 ^ 42
  pub a_below : x.a.hi < 2 ^ 62
  pub b_below : x.b.hi < 2 ^ 62

module _ (x : Meter) where
  abbrev halves_below : Bool
  halves_below = ltb x.a.hi (2 ^ 62) && ltb x.b.hi (2 ^ 62)

  pub high_of_a_fails : 2 ^ 62 ≤ x.a.hi → halves_below ≡ false
  high_of_a_fails h = simp (le-ltb x.a.hi (2 ^ 62) h)

  pub high_of_b_decides : x.a.hi < 2 ^ 62 → halves_below ≡ ltb x.b.hi (2 ^ 62)
  high_of_b_decides h = simp (lt-ltb x.a.hi (2 ^ 62) h)

  -- the counts, in the order of the code
  pub stretch_fails : x.n < x.stretch → counts_fit x ≡ false
  unfolding counts_fit
  stretch_fails h = simp (lt-leb x.stretch x.n h)

  module _ (stretch : x.stretch ≤ x.n) where
    pub k_fails : x.n < x.k → counts_fit x ≡ false
    unfolding counts_fit
    k_fails h = simp (le-leb x.stretch x.n stretch, lt-leb x.k x.n h)

    pub c_decides : x.k ≤ x.n → counts_fit x ≡ leb x.c x.n
    unfolding counts_fit
    c_decides h = simp (le-leb x.stretch x.n stretch, le-leb x.k x.n h)

  pub factor_nought_fails : x.m < 1 → holds_together x ≡ false
  unfolding holds_together factor_fits
  factor_nought_fails h = simp (lt-leb 1 x.m h)

  module _ (least : 1 ≤ x.m) where
    pub factor_too_large_fails : 10922 < x.m → holds_together x ≡ false
    unfolding holds_together factor_fits
    factor_too_large_fails h = simp (le-leb 1 x.m least, lt-leb x.m 10922 h)

    module _ (most : x.m ≤ 10922) where
      pub too_many_fails : 32768 < x.n → holds_together x ≡ false
      unfolding holds_together factor_fits
      too_many_fails h = simp (le-leb 1 x.m least, le-leb x.m 10922 most, lt-leb x.n 32768 h)

      module _ (few : x.n ≤ 32768) where
        pub counts_fail : counts_fit x ≡ false → holds_together x ≡ false
        unfolding holds_together factor_fits
        counts_fail e = simp (le-leb 1 x.m least, le-leb x.m 10922 most, le-leb x.n 32768 few, e)

        module _ (counts : counts_fit x ≡ true) {within : Bool} (window : leb (nat_abs x.window) (x.m * 2 ^ 42) ≡ within) where
          pub window_and_halves_decide : holds_together x ≡ (within && halves_below)
          unfolding holds_together factor_fits
          window_and_halves_decide = simp (le-leb 1 x.m least, le-leb x.m 10922 most, le-leb x.n 32768 few, counts, window)

  pub holds_together_lem : holds_together x ≡ true → Together x
  unfolding holds_together factor_fits counts_fit
  holds_together_lem e =
      let window = leb (nat_abs x.window) (x.m * 2 ^ 42) in
      let fits = leb 1 x.m && leb x.m 10922 in
      let factor = first_true fits _ e in
      let after-factor = second_true fits _ e in
      let after_count = second_true (leb x.n 32768) _ after-factor in
      let terms = leb x.k x.n && leb x.c x.n in
      let counts = leb x.stretch x.n && terms in
      let all-counts = first_true counts _ after_count in
      let both-terms = second_true (leb x.stretch x.n) terms all-counts in
      let after-counts = second_true counts _ after_count in
      let halves = second_true window _ after-counts in record {
        factor_least = leb-true 1 x.m (first_true (leb 1 x.m) _ factor);
        factor_most = leb-true x.m 10922 (second_true (leb 1 x.m) _ factor);
        not_too_many = leb-true x.n 32768 (first_true (leb x.n 32768) _ after-factor);
        stretch_within = leb-true x.stretch x.n (first_true (leb x.stretch x.n) terms all-counts);
        k_within = leb-true x.k x.n (first_true (leb x.k x.n) _ both-terms);
        c_within = leb-true x.c x.n (second_true (leb x.k x.n) _ both-terms);
        window_within = leb-true (nat_abs x.window) (x.m * 2 ^ 42) (first_true window _ after-counts);
        a_below = ltb-true x.a.hi (2 ^ 62) (first_true (ltb x.a.hi (2 ^ 62)) _ halves);
        b_below = ltb-true x.b.hi (2 ^ 62) (second_true (ltb x.a.hi (2 ^ 62)) _ halves);
      }

-- ---- the ring

-- a slot of a ring that is not shorter than 3m lies in the ring
pub slot_inside : (m k length : ℕ) → 1 ≤ m → 3 * m ≤ length → k % (3 * m) < length
slot_inside m k length least long = omega (arith, mod-lt k {m = 3 * m} (omega arith))

-- samples s-m, s-2m and s-3m of the stretch
abbrev pub one_back : Meter → List ℤ → ℤ
one_back x ring = slot x ring (x.stretch - x.m)

abbrev pub two_back : Meter → List ℤ → ℤ
two_back x ring = slot x ring (x.stretch - 2 * x.m)

abbrev pub three_back : Meter → List ℤ → ℤ
three_back x ring = slot x ring (x.stretch - 3 * x.m)

-- the same as they are read: 0 for one that is not due
abbrev pub read_one : Meter → List ℤ → ℤ
read_one x ring = cond (leb (2 * x.m) x.stretch) (one_back x ring) (pos 0)

abbrev pub read_two : Meter → List ℤ → ℤ
read_two x ring = cond (leb (2 * x.m) x.stretch) (two_back x ring) (pos 0)

abbrev pub read_three : Meter → List ℤ → ℤ
read_three x ring = cond (leb (3 * x.m) x.stretch) (three_back x ring) (pos 0)

module _ (x : Meter) (ring : List ℤ) where
  -- what is tested before a slot is read
  abbrev pub slots_lie : Bool
  slots_lie = holds_together x && leb (3 * x.m) (length ring)

  pub length_decides : holds_together x ≡ true → slots_lie ≡ leb (3 * x.m) (length ring)
  length_decides e = simp e

  pub meter_decides : holds_together x ≡ false → slots_lie ≡ false
  meter_decides e = simp e

  pub slots_lie_lem : slots_lie ≡ true → (holds_together x ≡ true) × (3 * x.m ≤ length ring)
  slots_lie_lem e =
      let long = leb (3 * x.m) (length ring) in
      (first_true (holds_together x) long e, leb-true (3 * x.m) (length ring) (second_true (holds_together x) long e))

  -- the ring holds where the samples that are read are in range
  abbrev pub read_good : Bool
  read_good = in_range (read_one x ring) && (in_range (read_two x ring) && in_range (read_three x ring))

  pub ring_by_what_is_read : 3 * x.m ≤ length ring → ring_holds x ring ≡ read_good
  unfolding ring_holds in_range
  ring_by_what_is_read long =
      ap (λ (t : Bool). t && (cond due (p && q) true && cond full r true)) (le-leb (3 * x.m) (length ring) long) ∙ by_test due full
    where
      due : Bool
      due = leb (2 * x.m) x.stretch

      full : Bool
      full = leb (3 * x.m) x.stretch

      p : Bool
      p = in_range (one_back x ring)

      q : Bool
      q = in_range (two_back x ring)

      r : Bool
      r = in_range (three_back x ring)

      three_tests : (s t u : Bool) → ((s && t) && u) ≡ (s && (t && u))
      three_tests true t u = refl
      three_tests false t u = refl

      by_test : (s t : Bool) → (cond s (p && q) true && cond t r true) ≡
          (in_range (cond s (one_back x ring) (pos 0)) && (in_range (cond s (two_back x ring) (pos 0)) && in_range (cond t (three_back x ring) (pos 0))))
      by_test true true = three_tests p q r
      by_test true false = three_tests p q true
      by_test false true = refl
      by_test false false = refl

-- what is known of a ring that holds
pub record Slots (x : Meter) (ring : List ℤ) : Type 0 where
  pub long : 3 * x.m ≤ length ring
  pub latest : 2 * x.m ≤ x.stretch → (nat_abs (one_back x ring) ≤ 2 ^ 40) × (nat_abs (two_back x ring) ≤ 2 ^ 40)
  pub oldest : 3 * x.m ≤ x.stretch → nat_abs (three_back x ring) ≤ 2 ^ 40

pub ring_holds_lem : (x : Meter) (ring : List ℤ) → ring_holds x ring ≡ true → Slots x ring
unfolding ring_holds
ring_holds_lem x ring e =
    let first = in_range (one_back x ring) in
    let second = in_range (two_back x ring) in
    let third = in_range (three_back x ring) in
    let two = cond (leb (2 * x.m) x.stretch) (first && second) true in
    let all = second_true (leb (3 * x.m) (length ring)) _ e in
    let both : 2 * x.m ≤ x.stretch → (first && second) ≡ true = λ due. sym (choice_true _ _ (le-leb (2 * x.m) x.stretch due)) ∙ first_true two _ all in
    let last : 3 * x.m ≤ x.stretch → third ≡ true = λ full. sym (choice_true _ _ (le-leb (3 * x.m) x.stretch full)) ∙ second_true two _ all in record {
      long = leb-true (3 * x.m) (length ring) (first_true (leb (3 * x.m) (length ring)) _ e);
      latest = λ due. (sample_bounded _ (first_true first second (both due)), sample_bounded _ (second_true first second (both due)));
      oldest = λ full. sample_bounded _ (last full);
    }

-- ---- a sample call: 7, 2, 3

-- its number, by the tests in their order
abbrev pub number_of : Bool → Bool → Bool → ℕ
number_of good full inside = cond good (cond full 2 (cond inside 0 3)) 7

module _ (x : Meter) (ring : List ℤ) (v : ℤ) where
  pub sample_refusal_is : {good : Bool} → (holds_together x && ring_holds x ring) ≡ good →
      sample_refusal x ring v ≡ refused (number_of good (eqb x.n 32768) (in_range v)) 0
  unfolding sample_refusal
  sample_refusal_is {good} e = rw e (by_test good (eqb x.n 32768) (in_range v))
    where
      by_test : (g u w : Bool) → (refused_if (not g) 7 0 then refused_if u 2 0 then refused_if (not w) 3 0) ≡ refused (number_of g u w) 0
      by_test true true w = refl
      by_test true false true = refl
      by_test true false false = refl
      by_test false u w = refl

  pub count_refused : holds_together x ≡ true → ring_holds x ring ≡ true → x.n ≡ 32768 → sample_refusal x ring v ≡ refused 2 0
  count_refused meter ring full = sample_refusal_is (both_true meter ring) ∙ simp (eq-eqb x.n 32768 full)

  pub sample_refused : holds_together x ≡ true → ring_holds x ring ≡ true → (x.n ≡ 32768 → ⊥) → in_range v ≡ false → sample_refusal x ring v ≡ refused 3 0
  sample_refused meter ring room outside = sample_refusal_is (both_true meter ring) ∙ simp (ne_eqb x.n 32768 room, outside)

  -- where a slot does not lie 7 is given; else the samples that are read decide
  pub no_slot_refused : slots_lie x ring ≡ false → sample_refusal x ring v ≡ refused 7 0
  unfolding ring_holds
  no_slot_refused e = sample_refusal_is (by_test (holds_together x) (leb (3 * x.m) (length ring)) refl refl e)
    where
      by_test : (s t : Bool) → holds_together x ≡ s → leb (3 * x.m) (length ring) ≡ t → (s && t) ≡ false → (s && ring_holds x ring) ≡ false
      by_test true true meter long none = absurd (true≢false none)
      by_test true false meter short none = simp short
      by_test false t meter long none = refl

  pub slots_refusal_is : slots_lie x ring ≡ true → sample_refusal x ring v ≡ refused (number_of (read_good x ring) (eqb x.n 32768) (in_range v)) 0
  slots_refusal_is e =
      let lies = slots_lie_lem x ring e in
      let good : (holds_together x && ring_holds x ring) ≡ read_good x ring = rw lies.0 (ring_by_what_is_read x ring lies.1) in
      sample_refusal_is good

-- what is known where a sample is let in
pub record LetIn (x : Meter) (ring : List ℤ) (v : ℤ) : Type 0 where
  pub meter_holds : holds_together x ≡ true
  pub ring_holds_lem : ring_holds x ring ≡ true
  pub room : x.n < 32768
  pub sample_within : nat_abs v ≤ 2 ^ 40

pub let_in_by_number : (x : Meter) (ring : List ℤ) (v : ℤ) → (sample_refusal x ring v).number ≡ 0 → LetIn x ring v
unfolding sample_refusal
let_in_by_number x ring v unrefused =
    let good = holds_together x && ring_holds x ring in
    let bad = refused_if (not good) 7 0 in
    let full = refused_if (eqb x.n 32768) 2 0 in
    let out = refused_if (not (in_range v)) 3 0 in
    let rest = rest_refuses_nothing bad (full then out) unrefused in
    let both = not-false good (test_fails (not good) 7 0 (omega arith) (first_refuses_nothing bad (full then out) unrefused)) in
    let meter = first_true (holds_together x) (ring_holds x ring) both in
    let not_full : x.n ≡ 32768 → ⊥ = eqb-false x.n 32768 (test_fails _ 2 0 (omega arith) (first_refuses_nothing full out rest)) in record {
      meter_holds = meter;
      ring_holds_lem = second_true (holds_together x) (ring_holds x ring) both;
      room = omega (arith, (holds_together_lem x meter).not_too_many);
      sample_within = sample_bounded v (not-false (in_range v) (test_fails _ 3 0 (omega arith) (rest_refuses_nothing full out rest)));
    }

pub let_in : (x : Meter) (ring : List ℤ) (v : ℤ) → sample_refusal x ring v ≡ none → LetIn x ring v
let_in x ring v nothing = let_in_by_number x ring v (ap (λ (r : Refusal). r.number) nothing)
