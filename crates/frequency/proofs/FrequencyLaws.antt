-- What the code of phase from frequency and back asks: a running phase that stays in range or leaves it, one turn of each loop, and the cases of
-- the refusals in their order.
use mathlib.Core.Path.{◌≡◌, refl, sym, ap, ◌∙◌}
use mathlib.Core.Bool.{Bool, true, false, not}
use mathlib.Core.List.{List}
use Prim.Native.Nat.{ℕ, zero, suc, ◌+◌, ◌-◌, ◌^◌, ◌≤◌, ◌<◌}
use native.Mathlib.Numerals.{add-one}
use native.Mathlib.Omega.{arith}
use borrow.Author.Tests.{ltb-false, not-false, lt-leb, lt-ltb, le-ltb, eq-eqb, ne_eqb, eqb-false}
use lib.Dec.{ltb, eqb}
use lib.IntN.{ℤ, pos, negsuc, nat_abs, ◌+ℤ◌, ◌-ℤ◌, +ℤ_idr, +ℤ_assoc}
use lib.ListN.{length, take, drop, set, length-drop, length-set}
use lib.Seq.{get_or-drop}
use Rattle.std.proofs.Common.{get_or-take, drop-drop}
use lib.Signed.{mag, lt_z}
use mir.Syntax.{w64}
use mir.Val.{of_z, to_z, SFits}
use Rattle.laws.specs.Lists.{at, first_failing, written}
use Rattle.laws.specs.Sums.{sum_ℤ}
use Rattle.laws.proofs.ListLaws.{tabulate_length, tabulate_entry, search_goes_on, search_ends_here, search_ends, first_failing_within, all_pass, written_so_far, written_one_more, written_whole}
use Rattle.laws.proofs.SumLaws.{sum_ℤ_zero, sum_ℤ_step}
use Rattle.laws.proofs.Parts.{one_part, +ℤ_parts, size_is, small_fits}
use Rattle.laws.proofs.Expressions.{Expression, $◌, ±◌, ◌∋◌, ◌⊕◌, ◌⊖◌}
use Rattle.laws.proofs.Machine.{Fit, machine, result, machine_is, result_is, operation_fits, argument, LeavesFit, argument_is, lt_taken}
use Rattle.record.specs.Refusals.{none, refused, refused_if, ◌then◌, in_range, range_refusal}
use Rattle.record.specs.declared.Refusal.{Refusal}
use Rattle.frequency.specs.Frequency.{phases_from, first_leaving, phase_refusal, phase_refusal_from, differences, frequency_refusal}
use Rattle.record.proofs.RangeLaws.{sample_bounded}
use Rattle.record.proofs.RefusalLaws.{first_refuses_nothing, rest_refuses_nothing, test_fails, range_bounded, unrefused_range_none}

-- ---- one reading more, beyond the ends -(low + 1) and high

module _ (x y : ℤ) (in_range_lem : nat_abs x ≤ 2 ^ 40) (fits : SFits w64 y) where
  -- a reading beyond 2^41 takes any phase out of its range
  beyond_leaves : 2 ^ 41 < nat_abs y → in_range (x +ℤ y) ≡ false
  unfolding in_range
  beyond_leaves beyond =
      lt-leb (nat_abs (x +ℤ y)) (2 ^ 40) (omega (arith, +ℤ_parts x y, one_part y, size_is x, size_is y, size_is (x +ℤ y)))

  pub below_leaves : (low : ℕ) → 2 ^ 41 ≤ low + 1 → low < 2 ^ 63 → lt_z (machine w64 ($ y)) (negsuc low) ≡ true → in_range (x +ℤ y) ≡ false
  below_leaves low far fit t = beyond_leaves (omega (arith, size_is y, lt_taken w64 ($ y) (± negsuc low) fits (omega arith) t))

  pub above_leaves : (high : ℕ) → 2 ^ 41 ≤ high → high < 2 ^ 63 → lt_z (pos high) (machine w64 ($ y)) ≡ true → in_range (x +ℤ y) ≡ false
  above_leaves high far fit t = beyond_leaves (omega (arith, size_is y, lt_taken w64 (± pos high) ($ y) (omega arith) fits t))

-- ---- the running phase

module _ (start : ℤ) (ys : List ℤ) where
  -- the start with the first i readings added
  abbrev pub running : ℕ → ℤ
  running i = start +ℤ sum_ℤ i (at ys)

  -- the phases that the readings lead to: all but the first
  abbrev pub later : List ℤ
  later = drop 1 (phases_from start ys)

  running_first : running 0 ≡ start
  running_first = ap (λ (t : ℤ). start +ℤ t) (sum_ℤ_zero (at ys)) ∙ +ℤ_idr start

  pub running_step : (i : ℕ) → running (i + 1) ≡ running i +ℤ at ys i
  running_step i = ap (λ (t : ℤ). start +ℤ t) (sum_ℤ_step i (at ys)) ∙ sym (+ℤ_assoc start (sum_ℤ i (at ys)) (at ys i))

  pub phases_from_length : length (phases_from start ys) ≡ length ys + 1
  unfolding phases_from
  phases_from_length = tabulate_length _ _

  pub phase_from_is : (i : ℕ) → i ≤ length ys → at (phases_from start ys) i ≡ running i
  unfolding phases_from
  phase_from_is i h = tabulate_entry (length ys + 1) running (pos 0) i (omega arith)

  pub later_length : length later ≡ length ys
  later_length = omega (arith, length-drop 1 (phases_from start ys), phases_from_length)

  pub later_is : (i : ℕ) → i < length ys → at later i ≡ running (i + 1)
  later_is i h =
      let next : 1 + i ≡ i + 1 = omega arith in
      get_or-drop 1 (phases_from start ys) i (pos 0) ∙ phase_from_is (1 + i) (omega arith) ∙ ap running next

  -- ---- one turn of a loop that adds a reading: s is the running phase's bits

  -- the phase with one reading more
  abbrev pub grown : ℕ → ℕ → Expression
  grown i s = s ∋ running i ⊕ $ at ys i

  module _ (i s : ℕ) (in_range_lem : nat_abs (running i) ≤ 2 ^ 40) (s-is : s ≡ of_z w64 (running i)) (stays : in_range (running (i + 1)) ≡ true) where
    grown_fits : Fit w64 (grown i s)
    grown_fits =
        let x = running i in
        let y = at ys i in
        let next = x +ℤ y in
        let bounded : nat_abs next ≤ 2 ^ 40 = rw (running_step i) at (sample_bounded _ stays) in
        omega (arith, s-is, bounded, +ℤ_parts x y, one_part x, one_part y, one_part next, size_is x, size_is y, size_is next)

    grows_in_word : SFits w64 (result w64 (grown i s))
    grows_in_word = operation_fits w64 (grown i s) grown_fits

    grows : of_z w64 (result w64 (grown i s)) ≡ of_z w64 (running (i + 1))
    grows = ap (of_z w64) (result_is w64 (grown i s) grown_fits ∙ sym (running_step i))

-- ---- the first reading whose phase leaves the range

-- what the search knows after i readings
pub record NoneLeft (start : ℤ) (ys : List ℤ) (s i : ℕ) : Type 0 where
  pub within : i ≤ length ys
  pub in_range_lem : nat_abs (running start ys i) ≤ 2 ^ 40
  pub phase : s ≡ of_z w64 (running start ys i)
  pub none_left : first_leaving start ys ≡ i + first_failing in_range (drop i (later start ys))

pub none_left_yet : (start : ℤ) (ys : List ℤ) → nat_abs start ≤ 2 ^ 40 → NoneLeft start ys (of_z w64 start) 0
unfolding first_leaving
none_left_yet start ys in_range_lem = record {
  within = omega arith;
  in_range_lem = rw (running_first start ys) in_range_lem;
  phase = ap (of_z w64) (sym (running_first start ys));
  none_left = omega arith;
}

module _ {start : ℤ} {ys : List ℤ} {s i : ℕ} (so_far : NoneLeft start ys s i) where
  -- what the test of a loaded reading tells
  pub reading_tells : mag (at ys i) < 2 ^ 63 → {answer b : Bool} → answer ≡ in_range (argument w64 (grown start ys i s)) → answer ≡ b →
      in_range (running start ys (i + 1)) ≡ b
  reading_tells fits e t =
      let known : LeavesFit w64 (grown start ys i s) = ((so_far.phase, small_fits (running start ys i) (omega arith)), record { sfits = fits }) in
      ap in_range (running_step start ys i ∙ sym (argument_is w64 (grown start ys i s) known)) ∙ sym e ∙ t

  pub staying_fits : in_range (running start ys (i + 1)) ≡ true → SFits w64 (result w64 (grown start ys i s))
  staying_fits = grows_in_word start ys i s so_far.in_range_lem so_far.phase

  module _ (inside : i < length ys) where
    pub stays_on : in_range (running start ys (i + 1)) ≡ true → NoneLeft start ys (of_z w64 (result w64 (grown start ys i s))) (i + 1)
    unfolding first_leaving
    stays_on stays = record {
      within = omega arith;
      in_range_lem = sample_bounded _ stays;
      phase = grows start ys i s so_far.in_range_lem so_far.phase stays;
      none_left =
          search_goes_on in_range (pos 0) (later start ys) i (omega (arith, later_length start ys)) so_far.none_left (rw (later_is start ys i inside) stays);
    }

    pub leaves_here : in_range (running start ys (i + 1)) ≡ false → first_leaving start ys ≡ i
    unfolding first_leaving
    leaves_here leaves =
        search_ends_here in_range (pos 0) (later start ys) i (omega (arith, later_length start ys)) so_far.none_left (rw (later_is start ys i inside) leaves)

  pub none_leaves : i ≡ length ys → first_leaving start ys ≡ i
  unfolding first_leaving
  none_leaves whole =
      let end : i ≡ length (later start ys) = omega (arith, later_length start ys) in
      search_ends in_range (later start ys) i end so_far.none_left ∙ sym end

-- ---- the phases where no reading leaves the range

pub no_reading_leaves : (start : ℤ) (ys : List ℤ) → length ys ≤ first_leaving start ys → first_leaving start ys ≡ length ys
unfolding first_leaving
no_reading_leaves start ys h = omega (arith, first_failing_within in_range (later start ys), later_length start ys)

module _ (start : ℤ) (ys : List ℤ) (stay : first_leaving start ys ≡ length ys) where
  pub reading_stays : (i : ℕ) → i < length ys → in_range (running start ys (i + 1)) ≡ true
  unfolding first_leaving
  reading_stays i h =
      let all = all_pass in_range (pos 0) (later start ys) (stay ∙ sym (later_length start ys)) in
      rw (later_is start ys i h) at (all i (omega (arith, later_length start ys)))

  pub phase_in_range : nat_abs start ≤ 2 ^ 40 → (i : ℕ) → i ≤ length ys → nat_abs (running start ys i) ≤ 2 ^ 40
  phase_in_range in_range_lem zero h = rw (running_first start ys) in_range_lem
  phase_in_range in_range_lem (suc i) h = rw (← add-one i) (sample_bounded _ (reading_stays i (omega arith)))

-- what the loop knows with i phases written at the front of the buffer
pub record PhasesWritten (start : ℤ) (ys before now : List ℤ) (s i : ℕ) : Type 0 where
  pub within : i ≤ length ys
  pub phase : s ≡ of_z w64 (running start ys i)
  pub same_length : length now ≡ length before
  pub front : now ≡ written_so_far i (phases_from start ys) before

pub no_phase_written : (start : ℤ) (ys before : List ℤ) → PhasesWritten start ys before before (of_z w64 start) 0
no_phase_written start ys before =
    record { within = omega arith; phase = ap (of_z w64) (sym (running_first start ys)); same_length = refl; front = refl }

module _ {start : ℤ} {ys before now : List ℤ} {s i : ℕ} (in_range_lem : nat_abs start ≤ 2 ^ 40) (stay : first_leaving start ys ≡ length ys)
    (room : length ys < length before) (so_far : PhasesWritten start ys before now s i) where
  phase_here : nat_abs (running start ys i) ≤ 2 ^ 40
  phase_here = phase_in_range start ys stay in_range_lem i so_far.within

  phase_stored : set now i (to_z w64 s) ≡ written_so_far (i + 1) (phases_from start ys) before
  phase_stored =
      let fits : SFits w64 (running start ys i) = small_fits (running start ys i) (omega (arith, phase_here)) in
      let read : to_z w64 s ≡ running start ys i = machine_is w64 (s ∋ running start ys i) (so_far.phase, fits) in
      let inside : i < length (phases_from start ys) = omega (arith, phases_from_length start ys, so_far.within) in
      written_one_more (phases_from start ys) before i (pos 0) inside (omega (arith, so_far.within)) so_far.front
      (read ∙ sym (phase_from_is start ys i so_far.within))

  module _ (inside : i < length ys) where
    pub next_phase_fits : SFits w64 (result w64 (grown start ys i s))
    next_phase_fits = grows_in_word start ys i s phase_here so_far.phase (reading_stays start ys stay i inside)

    pub one_phase_more : PhasesWritten start ys before (set now i (to_z w64 s)) (of_z w64 (result w64 (grown start ys i s))) (i + 1)
    one_phase_more = record {
      within = omega arith;
      phase = grows start ys i s phase_here so_far.phase (reading_stays start ys stay i inside);
      same_length = length-set now i (to_z w64 s) ∙ so_far.same_length;
      front = phase_stored;
    }

  pub all_phases_written : i ≡ length ys → set now i (to_z w64 s) ≡ written (phases_from start ys) before
  all_phases_written whole = phase_stored ∙ written_whole (phases_from start ys) before (i + 1) (omega (arith, phases_from_length start ys))

-- ---- the differences of a record in range

-- the difference of two samples, as an expression
abbrev pub difference_of : List ℤ → ℕ → ℕ → Expression
difference_of xs k i = $ at xs k ⊖ $ at xs i

module _ (xs : List ℤ) where
  pub differences_length : length (differences xs) ≡ length xs - 1
  unfolding differences
  differences_length = tabulate_length _ _

  pub difference_is : (i : ℕ) → i + 1 < length xs → at (differences xs) i ≡ at xs (i + 1) -ℤ at xs i
  unfolding differences
  difference_is i h = tabulate_entry (length xs - 1) (λ k. at xs (k + 1) -ℤ at xs k) (pos 0) i (omega arith)

  pub difference_fits : range_refusal xs ≡ none → (k i : ℕ) → Fit w64 (difference_of xs k i)
  difference_fits unrefused k i =
      let bounded = range_bounded xs unrefused in
      omega (arith, bounded k, bounded i, size_is (at xs k), size_is (at xs i))

  pub difference_stored : range_refusal xs ≡ none → (before : List ℤ) (i : ℕ) → i + 1 < length xs → i < length before → {now : List ℤ} →
      now ≡ written_so_far i (differences xs) before → set now i (machine w64 (difference_of xs (i + 1) i)) ≡ written_so_far (i + 1) (differences xs) before
  difference_stored unrefused before i inside room front =
      written_one_more (differences xs) before i (pos 0) (omega (arith, differences_length)) room front
      (machine_is w64 (difference_of xs (i + 1) i) (difference_fits unrefused (i + 1) i) ∙ sym (difference_is i inside))

  pub all_differences_written : (before : List ℤ) (i : ℕ) → i ≡ length xs - 1 → written_so_far i (differences xs) before ≡ written (differences xs) before
  all_differences_written before i whole = written_whole (differences xs) before i (omega (arith, differences_length))

-- what the loop knows with i differences written at the front of the buffer, of a window's size and of the samples that are left
pub record DifferencesWritten (xs before now rest : List ℤ) (size i : ℕ) : Type 0 where
  pub within : i ≤ length xs - 1
  pub two : size ≡ 2
  pub end : rest ≡ drop i xs
  pub same_length : length now ≡ length before
  pub front : now ≡ written_so_far i (differences xs) before

module _ {xs before now rest : List ℤ} {size i : ℕ} (so_far : DifferencesWritten xs before now rest size i) where
  left_over : length rest ≡ length xs - i
  left_over = ap length so_far.end ∙ length-drop i xs

  -- the turn's window
  module _ (unrefused : range_refusal xs ≡ none) {window : List ℤ} (whole : size ≤ length rest) (window-is : window ≡ take size rest) where
    window_entry : (k : ℕ) → k < 2 → at window k ≡ at xs (i + k)
    window_entry k h =
        let below : k < size = omega (arith, so_far.two) in
        ap (λ (w : List ℤ). at w k) window-is ∙ get_or-take size rest k (pos 0) below ∙ ap (λ (w : List ℤ). at w k) so_far.end ∙ get_or-drop i xs k (pos 0)

    window_first : at window 0 ≡ at xs i
    window_first = window_entry 0 (omega arith) ∙ ap (at xs) (let same : i + 0 ≡ i = omega arith in same)

    pub window_fits : (k j : ℕ) → k < 2 → j < 2 → Fit w64 (difference_of window k j)
    window_fits k j k-below j-below = rw (window_entry k k-below, window_entry j j-below) (difference_fits xs unrefused (i + k) (i + j))

    pub one_difference_more : length xs ≤ length before + 1 → {rest' : List ℤ} {size' i' j : ℕ} → size' ≡ size → rest' ≡ drop 1 rest → j ≡ i → i' ≡ i + 1 →
        DifferencesWritten xs before (set now j (machine w64 (difference_of window 1 0))) rest' size' i'
    one_difference_more room size-is rest-is j-is i-is =
        let inside : i + 1 < length xs = omega (arith, left_over, so_far.two) in
        rw (j-is, i-is) (record {
          within = omega arith;
          two = size-is ∙ so_far.two;
          end = rest-is ∙ ap (drop 1) so_far.end ∙ drop-drop 1 i xs;
          same_length = length-set now i _ ∙ so_far.same_length;
          front = rw (window_entry 1 (omega arith), window_first) (difference_stored xs unrefused before i inside (omega arith) so_far.front);
        })

  pub differences_written : length rest < size → now ≡ written (differences xs) before
  differences_written short = so_far.front ∙ all_differences_written xs before i (omega (arith, left_over, so_far.two, so_far.within))

-- ---- 2, 6, 3 of the start, 3 of a reading: the refusal of phase from a start, with a buffer of so many entries

module _ (start : ℤ) (ys : List ℤ) (room : ℕ) where
  pub readings_too_many : 32767 < length ys → phase_refusal_from start ys room ≡ refused 2 0
  unfolding phase_refusal_from
  readings_too_many h = simp (lt-ltb 32767 (length ys) h)

  module _ (few : length ys ≤ 32767) where
    pub no_room_for_phases : room < length ys + 1 → phase_refusal_from start ys room ≡ refused 6 0
    unfolding phase_refusal_from
    no_room_for_phases h = simp (le-ltb 32767 (length ys) few, lt-ltb room (length ys + 1) h)

    module _ (enough : length ys + 1 ≤ room) where
      pub start_outside : in_range start ≡ false → phase_refusal_from start ys room ≡ refused 3 0
      unfolding phase_refusal_from
      start_outside t = simp (le-ltb 32767 (length ys) few, le-ltb room (length ys + 1) enough, t)

      module _ (inside : in_range start ≡ true) where
        pub reading_leaves : (i : ℕ) → i < length ys → i ≡ first_leaving start ys → phase_refusal_from start ys room ≡ refused 3 i
        unfolding phase_refusal_from
        reading_leaves i h e =
            simp (le-ltb 32767 (length ys) few, le-ltb room (length ys + 1) enough, inside, sym e, lt-ltb i (length ys) h)

        pub phases_unrefused : first_leaving start ys ≡ length ys → phase_refusal_from start ys room ≡ none
        unfolding phase_refusal_from
        phases_unrefused e =
            simp (le-ltb 32767 (length ys) few, le-ltb room (length ys + 1) enough, inside, e, le-ltb (length ys) (length ys) (omega arith))

-- what is known where nothing is refused
pub record Staying (start : ℤ) (ys : List ℤ) : Type 0 where
  pub few : length ys ≤ 32767
  pub in_range_lem : nat_abs start ≤ 2 ^ 40
  pub stay : first_leaving start ys ≡ length ys

pub unrefused_stays : (start : ℤ) (ys : List ℤ) (room : ℕ) → phase_refusal_from start ys room ≡ none → Staying start ys
unfolding phase_refusal_from
unrefused_stays start ys room nothing =
    let many = refused_if (ltb 32767 (length ys)) 2 0 in
    let no_room = refused_if (ltb room (length ys + 1)) 6 0 in
    let outside = refused_if (not (in_range start)) 3 0 in
    let leaves = refused_if (ltb (first_leaving start ys) (length ys)) 3 (first_leaving start ys) in
    let all = ap (λ (r : Refusal). r.number) nothing in
    let phases = rest_refuses_nothing no_room (outside then leaves) (rest_refuses_nothing many (no_room then outside then leaves) all) in record {
      few = ltb-false 32767 (length ys) (test_fails _ 2 0 (omega arith) (first_refuses_nothing many (no_room then outside then leaves) all));
      in_range_lem = sample_bounded start (not-false _ (test_fails _ 3 0 (omega arith) (first_refuses_nothing outside leaves phases)));
      stay = no_reading_leaves start ys (ltb-false _ (length ys) (test_fails _ 3 _ (omega arith) (rest_refuses_nothing outside leaves phases)));
    }

pub phases_have_room : (start : ℤ) (ys : List ℤ) (room : ℕ) → phase_refusal_from start ys room ≡ none → length ys < room
unfolding phase_refusal_from
phases_have_room start ys room nothing =
    let many = refused_if (ltb 32767 (length ys)) 2 0 in
    let no_room = refused_if (ltb room (length ys + 1)) 6 0 in
    let rest = refused_if (not (in_range start)) 3 0 then refused_if (ltb (first_leaving start ys) (length ys)) 3 (first_leaving start ys) in
    let all = ap (λ (r : Refusal). r.number) nothing in
    let enough : length ys + 1 ≤ room = ltb-false room (length ys + 1) (test_fails _ 6 0 (omega arith) (first_refuses_nothing no_room rest (rest_refuses_nothing many (no_room then rest) all))) in
    omega arith

-- 0 is in range: from there phases are refused as phase from frequency is
pub refusal_from_nought : (ys : List ℤ) (room : ℕ) → phase_refusal_from (pos 0) ys room ≡ phase_refusal ys room
unfolding phase_refusal_from phase_refusal in_range
refusal_from_nought ys room = refl

-- ---- 2, 1, 6, 3: the refusal of frequency from phase

module _ (xs : List ℤ) (room : ℕ) where
  pub samples_too_many : 32768 < length xs → frequency_refusal xs room ≡ refused 2 0
  unfolding frequency_refusal
  samples_too_many h = simp (lt-ltb 32768 (length xs) h)

  module _ (few : length xs ≤ 32768) where
    pub no_sample : length xs ≡ 0 → frequency_refusal xs room ≡ refused 1 0
    unfolding frequency_refusal
    no_sample e = simp (le-ltb 32768 (length xs) few, eq-eqb (length xs) 0 e)

    module _ (some : length xs ≡ 0 → ⊥) where
      pub no_room_for_differences : room < length xs - 1 → frequency_refusal xs room ≡ refused 6 0
      unfolding frequency_refusal
      no_room_for_differences h = simp (le-ltb 32768 (length xs) few, ne_eqb (length xs) 0 some, lt-ltb room (length xs - 1) h)

      pub range_decides : length xs - 1 ≤ room → frequency_refusal xs room ≡ range_refusal xs
      unfolding frequency_refusal
      range_decides h = simp (le-ltb 32768 (length xs) few, ne_eqb (length xs) 0 some, le-ltb room (length xs - 1) h)

-- what is known where nothing is refused
pub record Differing (xs : List ℤ) (room : ℕ) : Type 0 where
  pub some : 1 ≤ length xs
  pub room_enough : length xs ≤ room + 1
  pub in_range_lem : range_refusal xs ≡ none

pub unrefused_differs : (xs : List ℤ) (room : ℕ) → frequency_refusal xs room ≡ none → Differing xs room
unfolding frequency_refusal
unrefused_differs xs room nothing =
    let many = refused_if (ltb 32768 (length xs)) 2 0 in
    let no_sample = refused_if (eqb (length xs) 0) 1 0 in
    let no_room = refused_if (ltb room (length xs - 1)) 6 0 in
    let range = range_refusal xs in
    let first = rest_refuses_nothing many (no_sample then no_room then range) (ap (λ (r : Refusal). r.number) nothing) in
    let second = rest_refuses_nothing no_sample (no_room then range) first in
    let empty = eqb-false (length xs) 0 (test_fails _ 1 0 (omega arith) (first_refuses_nothing no_sample (no_room then range) first)) in
    let enough : length xs - 1 ≤ room = ltb-false room (length xs - 1) (test_fails _ 6 0 (omega arith) (first_refuses_nothing no_room range second)) in
    record { some = omega arith; room_enough = omega arith; in_range_lem = unrefused_range_none xs (rest_refuses_nothing no_room range second) }
