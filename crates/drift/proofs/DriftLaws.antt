-- The cases of the refusals of drift in their order, what is known of a record that is not refused, and each step of the code: h, the figures P and
-- R, P taken apart by R, the result at i.
use mathlib.Core.Path.{◌≡◌, refl, sym, ap, ◌∙◌}
use mathlib.Core.Bool.{Bool, true, false}
use mathlib.Core.List.{List}
use Prim.Native.Nat.{ℕ, zero, suc, ◌+◌, ◌-◌, ◌*◌, ◌/◌, ◌%◌, ◌^◌, ◌≤◌, ◌<◌}
use native.Mathlib.Nat.{mul-le-mul, mul-le-mul_left, mul-le-mul_right, div-add-mod', mod-lt, div-le_of_le-mul, le-mul_of_pos_right, zero-add}
use native.Mathlib.Omega.{arith}
use borrow.Author.Tests.{lt-ltb, le-ltb, ltb-false, ne_eqb}
use lib.Dec.{ltb}
use lib.IntN.{ℤ, pos, negsuc, nat_abs, ◌+ℤ◌, ◌-ℤ◌, ◌*ℤ◌}
use lib.ListN.{length}
use lib.Signed.{mag}
use mir.Syntax.{w64}
use mir.Val.{of_z, to_z}
use Rattle.laws.specs.Lists.{at, first_failing}
use Rattle.laws.proofs.Tests.{choice_false}
use Rattle.laws.proofs.ListLaws.{tabulate_length, tabulate_entry, none_fails}
use Rattle.laws.proofs.Parts.{plus, minus, size_is, small_fits, parts_of_equal}
use Rattle.laws.proofs.Expressions.{Expression, $◌, ±◌, #◌, ◌∋◌, ◌⊕◌, ◌⊖◌, ◌⊗◌, ⟦◌⟧, sound, equation}
use Rattle.laws.proofs.Machine.{Fit, machine, read_back, machine_is}
use Rattle.record.specs.Refusals.{none, refused, refused_if, ◌then◌, in_range, range_refusal}
use Rattle.record.specs.declared.Refusal.{Refusal}
use Rattle.sums.specs.Published.{difference}
use Rattle.drift.specs.Drift.{drift_h, drift_p, drift_r, drift_refusal, drift_answer, floored, without_drift, removal_refusal}
use Rattle.std.proofs.Common.{Err, cond, eqb}
use Rattle.std.specs.Int.{int_div_euclid, int_rem_euclid}
use Rattle.record.specs.Told.{number_of}
use Rattle.record.specs.declared.grounds.Refused.{Refused}
use Rattle.record.proofs.ToldLaws.{answered_not, refuses_nothing}
use Rattle.drift.specs.Told.{drift_told}
use Rattle.record.proofs.RefusalLaws.{refusal_stands, none_gives_way, first_refuses_nothing, rest_refuses_nothing, test_fails, all_in_range, unrefused_in_range, in_range_bounded}
use Rattle.sums.proofs.PublishedLaws.{difference_means, difference_within}
use Rattle.sums.proofs.TotalLaws.{difference_fits}
use Rattle.drift.proofs.Floors.{floor_taken_apart}

-- ---- 2, 1, 3: the record

-- 2, 1: the number of samples alone
abbrev pub sized : ℕ → Refusal
sized n = refused_if (ltb 32768 n) 2 0 then refused_if (ltb n 3) 1 0

-- where these refuse nothing
pub sized_bounds : (n : ℕ) → none ≡ sized n → (n ≤ 32768) × (3 ≤ n)
sized_bounds n is =
    let many = refused_if (ltb 32768 n) 2 0 in
    let few = refused_if (ltb n 3) 1 0 in
    let nothing = refuses_nothing is in
    (ltb-false 32768 n (test_fails _ 2 0 (omega arith) (first_refuses_nothing many few nothing)), ltb-false n 3 (test_fails _ 1 0 (omega arith) (rest_refuses_nothing many few nothing)))

-- where one of the first two refuses, what comes after them does not matter
first_two_stand : (first second rest : Refusal) → ((first then second).number ≡ 0 → ⊥) → (first then second then rest) ≡ (first then second)
first_two_stand first second rest = by_number (eqb first.number 0)
  where
    by_number : (nought : Bool) → ((cond nought second first).number ≡ 0 → ⊥) → cond nought (second then rest) first ≡ cond nought second first
    by_number true some = refusal_stands second rest some
    by_number false some = refl

-- what is known where these refuse nothing
pub record Drifting (xs : List ℤ) : Type 0 where
  pub not_too_many : length xs ≤ 32768
  pub enough : 3 ≤ length xs
  pub in_range_lem : (k : ℕ) → k < length xs → in_range (at xs k) ≡ true
  pub bounded : (k : ℕ) → nat_abs (at xs k) ≤ 2 ^ 40

module _ (xs : List ℤ) where
  pub drift_too_many : 32768 < length xs → drift_refusal xs ≡ refused 2 0
  unfolding drift_refusal
  drift_too_many h = simp (lt-ltb 32768 (length xs) h)

  module _ (not_too_many : length xs ≤ 32768) where
    pub drift_too_few : length xs < 3 → drift_refusal xs ≡ refused 1 0
    unfolding drift_refusal
    drift_too_few h = simp (le-ltb 32768 (length xs) not_too_many, lt-ltb (length xs) 3 h)

    pub drift_by_range : 3 ≤ length xs → drift_refusal xs ≡ range_refusal xs
    unfolding drift_refusal
    drift_by_range h = simp (le-ltb 32768 (length xs) not_too_many, le-ltb (length xs) 3 h)

  pub drift_size_refuses : ((sized (length xs)).number ≡ 0 → ⊥) → drift_refusal xs ≡ sized (length xs)
  unfolding drift_refusal
  drift_size_refuses some = first_two_stand (refused_if (ltb 32768 (length xs)) 2 0) (refused_if (ltb (length xs) 3) 1 0) (range_refusal xs) some

  pub unrefused_drifting : (drift_refusal xs).number ≡ 0 → Drifting xs
  unfolding drift_refusal
  unrefused_drifting e =
      let many = refused_if (ltb 32768 (length xs)) 2 0 in
      let few = refused_if (ltb (length xs) 3) 1 0 in
      let rest = rest_refuses_nothing many (few then range_refusal xs) e in
      let all = unrefused_in_range xs (rest_refuses_nothing few (range_refusal xs) rest) in record {
        not_too_many = ltb-false 32768 (length xs) (test_fails _ 2 0 (omega arith) (first_refuses_nothing many (few then range_refusal xs) e));
        enough = ltb-false (length xs) 3 (test_fails _ 1 0 (omega arith) (first_refuses_nothing few (range_refusal xs) rest));
        in_range_lem = all;
        bounded = in_range_bounded xs all;
      }

  pub none_drifting : drift_refusal xs ≡ none → Drifting xs
  none_drifting e = unrefused_drifting (ap (λ (r : Refusal). r.number) e)

  pub unrefused_drift_none : (drift_refusal xs).number ≡ 0 → drift_refusal xs ≡ none
  unrefused_drift_none e =
      let s = unrefused_drifting e in
      drift_by_range s.not_too_many s.enough ∙ all_in_range xs (none_fails in_range (pos 0) xs s.in_range_lem)

  pub range_none_drift_none : length xs ≤ 32768 → 3 ≤ length xs → {r : Refusal} → r ≡ range_refusal xs → r.number ≡ 0 → drift_refusal xs ≡ none
  range_none_drift_none few enough e unrefused =
      unrefused_drift_none (ap (λ (s : Refusal). s.number) (drift_by_range few enough ∙ sym e) ∙ unrefused)

-- ---- h, P and R

-- h is the whole part of (N-1)/2: N is 2h+1 or 2h+2
pub half_way : (xs : List ℤ) → 1 ≤ length xs → (2 * drift_h xs + 1 ≤ length xs) × (length xs ≤ 2 * drift_h xs + 2)
unfolding drift_h
half_way xs some = omega arith

pub half_is : (xs : List ℤ) → (length xs - 1) / 2 ≡ drift_h xs
unfolding drift_h
half_is xs = refl

pub square_is : (xs : List ℤ) {h : ℕ} → h ≡ drift_h xs → h * h ≡ drift_r xs
unfolding drift_r
square_is xs h-is = ap (λ (k : ℕ). k * k) h-is

-- P written out, as the code works it out
abbrev pub figure_of : ℕ → List ℤ → Expression
figure_of h xs = $ at xs (2 * h) ⊖ # 2 ⊗ $ at xs h ⊕ $ at xs 0

pub written_out : (h : ℕ) (xs : List ℤ) → ⟦ figure_of h xs ⟧ ≡ difference h xs 0
written_out h xs = rw (zero-add (2 * h), zero-add h) at (difference_means h xs 0)

module _ (xs : List ℤ) (unrefused : drift_refusal xs ≡ none) where
  abbrev drifting : Drifting xs
  drifting = none_drifting xs unrefused

  sample_small : (k : ℕ) → (plus (at xs k) + minus (at xs k) ≤ 2 ^ 40) × (mag (at xs k) ≤ 2 ^ 40)
  sample_small k = omega (arith, drifting.bounded k, size_is (at xs k))

  range_none : range_refusal xs ≡ none
  range_none = sym (drift_by_range xs drifting.not_too_many drifting.enough) ∙ unrefused

  pub h_within : (1 ≤ drift_h xs) × (drift_h xs < 2 ^ 14) × (2 * drift_h xs < length xs) × (length xs ≤ 2 * drift_h xs + 2)
  h_within = omega (arith, half_way xs (omega (arith, drifting.enough)), drifting.enough, drifting.not_too_many)

  pub figure_fits : (h : ℕ) → Fit w64 (figure_of h xs)
  figure_fits h = rw (zero-add (2 * h), zero-add h) at (difference_fits h xs 0 range_none)

  pub figure_is : {h : ℕ} → h ≡ drift_h xs → machine w64 (figure_of h xs) ≡ drift_p xs
  unfolding drift_p
  figure_is {h} h-is = machine_is w64 (figure_of h xs) (figure_fits h) ∙ written_out h xs ∙ ap (λ (k : ℕ). difference k xs 0) h-is

  pub figure_within : nat_abs (drift_p xs) ≤ 2 ^ 42
  unfolding drift_p
  figure_within = difference_within (drift_h xs) xs drifting.bounded 0

  pub r_within : (0 < drift_r xs) × (drift_r xs < 2 ^ 28)
  unfolding drift_r
  r_within =
      let some : 1 ≤ drift_h xs = omega (arith, h_within) in
      let few : drift_h xs ≤ 2 ^ 14 - 1 = omega (arith, h_within) in
      omega (arith, mul-le-mul some some, mul-le-mul few few)

-- ---- P taken apart by R, rounded down

-- a natural as a signed number
abbrev pub signed_of : ℕ → Expression
signed_of q = q ∋ pos q

-- the quotient times the divisor, and the remainder, which is below the divisor
rounded_down : (z : ℤ) (r : ℕ) → 0 < r →
    let rest = nat_abs (int_rem_euclid z (pos r)) in
    (rest < r) × (z ≡ int_div_euclid z (pos r) *ℤ pos r +ℤ pos rest)
rounded_down (pos n) r some = (mod-lt n some, equation (# n) (# (n / r) ⊗ # r ⊕ # (n % r)) (omega (arith, div-add-mod' n r)))
rounded_down (negsuc n) r some =
    (omega (arith, some), equation (± negsuc n) (± negsuc (n / r) ⊗ # r ⊕ # (r - 1 - n % r)) (omega (arith, div-add-mod' n r, mod-lt n some)))

module _ (xs : List ℤ) (unrefused : drift_refusal xs ≡ none) {r : ℕ} (r-is : r ≡ drift_r xs) where
  pub r_bounds : (0 < r) × (r < 2 ^ 28)
  r_bounds = rw r-is (r_within xs unrefused)

  r_signed : to_z w64 r ≡ pos r
  r_signed = machine_is w64 (signed_of r) (omega (arith, r_bounds))

  pub divisor_some : 0 < of_z w64 (to_z w64 r)
  divisor_some = rw r_signed (omega (arith, r_bounds))

  pub divisor_no_minus_one : of_z w64 (to_z w64 r) ≡ 18446744073709551615 → ⊥
  divisor_no_minus_one = rw r_signed (λ e. absurd (omega (arith, e, r_bounds)))

  module _ {p : ℤ} (p-is : p ≡ drift_p xs) where
    p_read : to_z w64 (of_z w64 p) ≡ drift_p xs
    p_read = read_back {w = w64} p-is (small_fits (drift_p xs) (omega (arith, figure_within xs unrefused)))

    pub taken_apart : {q s : ℤ} → q ≡ int_div_euclid (to_z w64 (of_z w64 p)) (to_z w64 r) → s ≡ int_rem_euclid (to_z w64 (of_z w64 p)) (to_z w64 r) →
        mag q < 2 ^ 63 → mag s < 2 ^ 63 →
        let rest = nat_abs (to_z w64 (of_z w64 s)) in
        (rest < drift_r xs) × (drift_p xs ≡ to_z w64 (of_z w64 q) *ℤ pos (drift_r xs) +ℤ pos rest)
    taken_apart {q} {s} q-is s-is q_fits s_fits =
        rw (read_back {w = w64} {y = q} refl (record { sfits = q_fits }), read_back {w = w64} {y = s} refl (record { sfits = s_fits }), q-is, s-is, p_read, r_signed, ← r-is)
        (rounded_down (drift_p xs) r r_bounds.0)

-- ---- T = i (i-1) / 2

-- one of two neighbours is even
neighbours_even : (n : ℕ) → suc n * n % 2 ≡ 0
neighbours_even zero = refl
neighbours_even (suc n) = omega (arith, neighbours_even n)

pub triangle_is : (i : ℕ) → 2 * (i * (i - 1) / 2) ≡ i * (i - 1)
triangle_is zero = refl
triangle_is (suc n) =
    let before : suc n - 1 ≡ n = omega arith in
    rw before (omega (arith, neighbours_even n))

-- T at 2h is twice T at h, and h^2
pub triangle_double : (h : ℕ) → 2 * h * (2 * h - 1) / 2 ≡ 2 * (h * (h - 1) / 2) + h * h
triangle_double zero = refl
triangle_double (suc n) =
    let one : suc n - 1 ≡ n = omega arith in
    let other : 2 * suc n - 1 ≡ 2 * n + 1 = omega arith in
    rw (other, one) (omega (arith, rw other at (triangle_is (2 * suc n)), rw one at (triangle_is (suc n))))

pub neighbours_below : (i : ℕ) → i ≤ 2 ^ 15 → i * (i - 1) < 2 ^ 30
neighbours_below i few =
    let less : i - 1 ≤ 2 ^ 15 - 1 = omega arith in
    omega (arith, mul-le-mul few less)

-- where i is not above 2h+1, T is not above 3 h^2
triangle_within : (i h t : ℕ) → 1 ≤ h → i ≤ 2 * h + 1 → 2 * t ≡ i * (i - 1) → t ≤ 3 * (h * h)
triangle_within i h t some below twice =
    let less : i - 1 ≤ 2 * h = omega arith in
    omega (arith, mul-le-mul below less, mul-le-mul_left h some)

-- ---- the result at i

-- floor(P T / R), as the code works it out
abbrev pub down_of : ℤ → ℕ → ℕ → ℕ → Expression
down_of whole rest r t = $ whole ⊗ signed_of t ⊕ signed_of (rest * t / r)

module _ (p whole : ℤ) (rest r t : ℕ) (p_within : nat_abs p ≤ 2 ^ 42) (few : r < 2 ^ 28) (below : rest < r) (split : p ≡ whole *ℤ pos r +ℤ pos rest)
    (t-few : t < 2 ^ 29) (t_within : t ≤ 3 * r) where
  whole_within : nat_abs whole * r ≤ 2 ^ 42 + 2 ^ 28
  whole_within = by_sign whole split
    where
      by_sign : (z : ℤ) → p ≡ z *ℤ pos r +ℤ pos rest → nat_abs z * r ≤ 2 ^ 42 + 2 ^ 28
      by_sign (pos n) e = omega (arith, parts_of_equal e, sound (# n ⊗ # r ⊕ # rest), size_is p)
      by_sign (negsuc n) e = omega (arith, parts_of_equal e, sound (± negsuc n ⊗ # r ⊕ # rest), size_is p)

  pub whole_times_t : nat_abs whole * t ≤ 2 ^ 44
  whole_times_t = omega (arith, mul-le-mul_left (nat_abs whole) t_within, whole_within)

  pub rest_times_t : rest * t < 2 ^ 57
  rest_times_t =
      let rest_few : rest ≤ 2 ^ 28 - 1 = omega arith in
      let t_most : t ≤ 2 ^ 29 = omega arith in
      omega (arith, mul-le-mul rest_few t_most)

  rest_share : rest * t / r ≤ t
  rest_share = div-le_of_le-mul r (omega (arith, mul-le-mul_right t below))

  -- a sample less the floor
  pub lowered_fits : (x : ℤ) → (plus x + minus x ≤ 2 ^ 40) × (mag x ≤ 2 ^ 40) → Fit w64 ($ x ⊖ down_of whole rest r t)
  lowered_fits x small =
      let some : 0 < r = omega arith in
      let least = le-mul_of_pos_right (nat_abs whole) some in
      omega (arith, size_is whole, ap (λ (n : ℕ). n * t) (size_is whole).0, whole_times_t, whole_within, least, rest_share)

-- the result at i, as the code works it out
abbrev pub result_of : List ℤ → ℤ → ℕ → ℕ → ℕ → ℕ → Expression
result_of xs whole rest i r t = $ at xs i ⊖ down_of whole rest r t

-- what the code asks where it works out the result at i
abbrev pub ResultAsked : List ℤ → ℤ → ℕ → ℕ → Type 0
ResultAsked xs whole rest i =
    (drift_refusal xs ≡ none) × (rest < drift_r xs) × (drift_p xs ≡ whole *ℤ pos (drift_r xs) +ℤ pos rest) × (i < length xs)

module _ (xs : List ℤ) (whole : ℤ) (rest i : ℕ) {r : ℕ} (t : ℕ) (asked : ResultAsked xs whole rest i) (r-is : r ≡ drift_r xs) (twice : 2 * t ≡ i * (i - 1)) where
  t_below : t < 2 ^ 29
  t_below = omega (arith, neighbours_below i (omega (arith, (none_drifting xs asked.0).not_too_many, asked.3)), twice)

  t_share : t ≤ 3 * drift_r xs
  unfolding drift_r
  t_share =
      let h = h_within xs asked.0 in
      triangle_within i (drift_h xs) t h.0 (omega (arith, h, asked.3)) twice

  pub product_below : rest * t < 2 ^ 57
  product_below =
      rest_times_t (drift_p xs) whole rest (drift_r xs) t (figure_within xs asked.0) (r_within xs asked.0).1 asked.1 asked.2 t_below t_share

  pub result_fits : Fit w64 (result_of xs whole rest i r t)
  result_fits =
      rw r-is
      (lowered_fits (drift_p xs) whole rest (drift_r xs) t (figure_within xs asked.0) (r_within xs asked.0).1 asked.1 asked.2 t_below t_share (at xs i)
      (sample_small xs asked.0 i))

  pub result_is : machine w64 (result_of xs whole rest i r t) ≡ at (without_drift xs) i
  unfolding without_drift
  result_is =
      machine_is w64 (result_of xs whole rest i r t) result_fits
      ∙ ap (λ (n : ℕ). at xs i -ℤ (whole *ℤ pos t +ℤ pos (rest * t / n))) r-is
      ∙ ap (λ (z : ℤ). at xs i -ℤ z)
      (sym (floor_taken_apart (drift_p xs) whole rest (drift_r xs) t asked.1 asked.2)
      ∙ ap (λ (n : ℕ). floored (drift_p xs *ℤ pos n) (2 * drift_r xs)) twice)
      ∙ sym (tabulate_entry (length xs) _ (pos 0) i asked.3)

-- ---- the results

module _ (xs : List ℤ) where
  pub without_drift_length : length (without_drift xs) ≡ length xs
  unfolding without_drift
  without_drift_length = tabulate_length (length xs) _

  -- what the machine reads of a result that a call gave, and what its test tells
  module _ (i : ℕ) {y : ℤ} (y-is : y ≡ at (without_drift xs) i) (fits : mag y < 2 ^ 63) where
    pub result_read : to_z w64 (of_z w64 y) ≡ at (without_drift xs) i
    result_read = read_back {w = w64} refl (record { sfits = fits }) ∙ y-is

    pub result_tells : {answer b : Bool} → answer ≡ in_range (to_z w64 (of_z w64 y)) → answer ≡ b → in_range (at (without_drift xs) i) ≡ b
    result_tells e t = ap in_range (sym result_read) ∙ sym e ∙ t

-- ---- the answer of the drift figure

module _ (xs : List ℤ) where
  pub figure_refused : {r : Refusal} → r ≡ drift_refusal xs → (r.number ≡ 0 → ⊥) →
      record { number = r.number; place = r.place; p = pos 0; r = 0 } ≡ drift_answer xs
  unfolding drift_answer
  figure_refused {r} e refuses = rw (← e) (sym (choice_false _ _ (ne_eqb r.number 0 refuses)))

  pub figure_error : (e : Refused) → refused (number_of e.why) e.place ≡ drift_refusal xs → drift_told (Err e) ≡ drift_answer xs
  unfolding drift_answer
  figure_error e is = rw (← is) (sym (choice_false _ _ (ne_eqb (number_of e.why) 0 (answered_not e))))

  pub figure_answered : drift_refusal xs ≡ none → {y : ℤ} {r : ℕ} → y ≡ drift_p xs → r ≡ drift_r xs →
      record { number = 0; place = 0; p = to_z w64 (of_z w64 y); r = r } ≡ drift_answer xs
  unfolding drift_answer
  figure_answered unrefused y-is r-is =
      rw (unrefused, r-is) (ap (λ (z : ℤ). record { number = 0; place = 0; p = z; r = drift_r xs }) (read_back {w = w64} y-is (small_fits (drift_p xs) (omega (arith, figure_within xs unrefused)))))

-- ---- 2, 1, 6, 3 at a sample, 3 at a result: removal

-- 3 at a result
abbrev pub results_refusal : List ℤ → Refusal
results_refusal xs = let outside = first_failing in_range (without_drift xs) in refused_if (ltb outside (length xs)) 3 outside

module _ (xs : List ℤ) (room : ℕ) where
  pub removal_too_many : 32768 < length xs → removal_refusal xs room ≡ refused 2 0
  unfolding removal_refusal
  removal_too_many h = simp (lt-ltb 32768 (length xs) h)

  module _ (not_too_many : length xs ≤ 32768) where
    pub removal_too_few : length xs < 3 → removal_refusal xs room ≡ refused 1 0
    unfolding removal_refusal
    removal_too_few h = simp (le-ltb 32768 (length xs) not_too_many, lt-ltb (length xs) 3 h)

    module _ (enough : 3 ≤ length xs) where
      pub removal_no_room : room < length xs → removal_refusal xs room ≡ refused 6 0
      unfolding removal_refusal
      removal_no_room h = simp (le-ltb 32768 (length xs) not_too_many, le-ltb (length xs) 3 enough, lt-ltb room (length xs) h)

      module _ (has_room : length xs ≤ room) {r : Refusal} (r-is : r ≡ range_refusal xs) where
        abbrev outside : ℕ
        outside = first_failing in_range (without_drift xs)

        -- where the counts refuse nothing, the samples decide, and then the results
        by_values : removal_refusal xs room ≡ (r then refused_if (ltb outside (length xs)) 3 outside)
        unfolding removal_refusal
        by_values = simp (le-ltb 32768 (length xs) not_too_many, le-ltb (length xs) 3 enough, le-ltb room (length xs) has_room, r-is)

        pub removal_sample_outside : (r.number ≡ 0 → ⊥) → removal_refusal xs room ≡ r
        removal_sample_outside f = by_values ∙ refusal_stands r _ f

        module _ (unrefused : r.number ≡ 0) where
          pub removal_result_outside : (i : ℕ) → i ≡ outside → i < length xs → removal_refusal xs room ≡ refused 3 i
          removal_result_outside i e h = by_values ∙ none_gives_way r _ unrefused ∙ simp (← e, lt-ltb i (length xs) h)

          pub removal_none : (i : ℕ) → i ≡ outside → length xs ≤ i → removal_refusal xs room ≡ none
          removal_none i e h = by_values ∙ none_gives_way r _ unrefused ∙ simp (← e, le-ltb i (length xs) h)

  pub removal_size_refuses : ((sized (length xs)).number ≡ 0 → ⊥) → removal_refusal xs room ≡ sized (length xs)
  unfolding removal_refusal
  removal_size_refuses some =
      let outside = first_failing in_range (without_drift xs) in
      first_two_stand (refused_if (ltb 32768 (length xs)) 2 0) (refused_if (ltb (length xs) 3) 1 0)
      (refused_if (ltb room (length xs)) 6 0 then range_refusal xs then refused_if (ltb outside (length xs)) 3 outside) some

  -- where the samples refuse nothing and there is room, the results decide
  pub removal_by_results : drift_refusal xs ≡ none → length xs ≤ room → removal_refusal xs room ≡ results_refusal xs
  removal_by_results unrefused has_room =
      let known = none_drifting xs unrefused in
      by_values known.not_too_many known.enough has_room {r = none} (sym unrefused ∙ drift_by_range xs known.not_too_many known.enough)
