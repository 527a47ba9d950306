-- What one sample does to a meter that lets it in: each number on the way fits a word, no sum reaches the top, and the code's cases are those of
-- the definition.
use mathlib.Core.Path.{◌≡◌, refl, sym, ap, ap₂, ◌∙◌}
use mathlib.Core.Bool.{Bool, true, false, cond}
use mathlib.Core.List.{List}
use Prim.Native.Nat.{ℕ, ◌+◌, ◌*◌, ◌^◌, ◌≤◌, ◌<◌}
use native.Mathlib.Nat.{lt_of_lt_of_le}
use native.Mathlib.Omega.{arith}
use borrow.Author.Tests.{le-leb, lt-leb}
use lib.Dec.{leb, lit≤}
use lib.IntN.{ℤ, pos, nat_abs, ◌+ℤ◌, ◌-ℤ◌, ◌*ℤ◌}
use mir.Syntax.{w64}
use Rattle.laws.specs.Sums.{square}
use Rattle.laws.proofs.Parts.{size_is, small_fits, square_within_lem}
use Rattle.laws.proofs.Expressions.{Expression, $◌, #◌, ◌⊕◌, ◌⊖◌, ◌⊗◌, size_within}
use Rattle.laws.proofs.Machine.{Fit, machine, machine_is, read_back}
use Rattle.laws.proofs.Tests.{choice_true, choices_agree}
use Rattle.wide.specs.Wide.{value, halves, wide_sum}
use Rattle.wide.specs.declared.Wide.{Wide}
use Rattle.wide.proofs.WideLaws.{value_of_halves, sum_is_halves}
use Rattle.sums.proofs.TotalLaws.{read}
use Rattle.meter.specs.Meter.{holds_together, new_difference, old_difference, window_with, with_terms, with_sample}
use Rattle.meter.specs.declared.Meter.{Meter}
use Rattle.meter.proofs.TestLaws.{holds_together_lem, one_back, two_back, three_back, read_one, read_two, read_three}

-- ---- the second difference of three samples in range

abbrev pub difference_of : ℤ → ℤ → ℤ → Expression
difference_of x y z = $ x ⊖ # 2 ⊗ $ y ⊕ $ z

abbrev Samples : ℤ → ℤ → ℤ → Type 0
Samples x y z = (nat_abs x ≤ 2 ^ 40) × (nat_abs y ≤ 2 ^ 40) × (nat_abs z ≤ 2 ^ 40)

module _ (x y z : ℤ) (within : Samples x y z) where
  pub difference_fits : Fit w64 (difference_of x y z)
  difference_fits = omega (arith, size_is x, size_is y, size_is z)

  pub difference_within : nat_abs (x -ℤ pos 2 *ℤ y +ℤ z) ≤ 2 ^ 42
  difference_within = size_within (difference_of x y z) (2 ^ 42) (omega (arith, size_is x, size_is y, size_is z))

-- ---- the window with a new difference d, and without e

abbrev pub grown_of : Meter → ℤ → Expression
grown_of x d = $ x.window ⊕ $ d

abbrev pub slid_of : Meter → ℤ → ℤ → Expression
slid_of x d e = grown_of x d ⊖ $ e

window_small : (x : Meter) → holds_together x ≡ true → nat_abs x.window ≤ 10922 * 2 ^ 42
window_small x together = let known = holds_together_lem x together in omega (arith, known.factor_most, known.window_within)

module _ (x : Meter) (together : holds_together x ≡ true) (d e : ℤ) (d-within : nat_abs d ≤ 2 ^ 42) (e-within : nat_abs e ≤ 2 ^ 42) where
  pub window_grows_fits : Fit w64 (grown_of x d)
  window_grows_fits = omega (arith, window_small x together, size_is x.window, size_is d)

  pub window_slides_fits : Fit w64 (slid_of x d e)
  window_slides_fits = omega (arith, window_small x together, size_is x.window, size_is d, size_is e)

  pub window_waits : x.stretch < 2 * x.m → read x.window ≡ window_with x d e
  unfolding window_with
  window_waits few =
      machine_is w64 ($ x.window) (small_fits x.window (omega (arith, window_small x together)))
      ∙ simp (lt-leb (3 * x.m) x.stretch (omega arith), lt-leb (2 * x.m) x.stretch few)

  pub window_grows : 2 * x.m ≤ x.stretch → x.stretch < 3 * x.m → machine w64 (grown_of x d) ≡ window_with x d e
  unfolding window_with
  window_grows due few =
      machine_is w64 (grown_of x d) window_grows_fits ∙ sym (simp (lt-leb (3 * x.m) x.stretch few, le-leb (2 * x.m) x.stretch due))

  pub window_slides : 3 * x.m ≤ x.stretch → machine w64 (slid_of x d e) ≡ window_with x d e
  unfolding window_with
  window_slides full = machine_is w64 (slid_of x d e) window_slides_fits ∙ sym (choice_true _ _ (le-leb (3 * x.m) x.stretch full))

  pub window_within : nat_abs (window_with x d e) ≤ 2 ^ 56
  unfolding window_with
  window_within = by_count (leb (3 * x.m) x.stretch) (leb (2 * x.m) x.stretch)
    where
      by_count : (full due : Bool) → nat_abs (cond full (x.window +ℤ d -ℤ e) (cond due (x.window +ℤ d) x.window)) ≤ 2 ^ 56
      by_count true due =
          size_within ($ x.window ⊕ $ d ⊖ $ e) (2 ^ 56) (omega (arith, window_small x together, size_is x.window, size_is d, size_is e))
      by_count false true = size_within ($ x.window ⊕ $ d) (2 ^ 56) (omega (arith, window_small x together, size_is x.window, size_is d))
      by_count false false = omega (arith, window_small x together)

-- ---- squares in two halves

-- a sum whose high half is below 2^62 takes in a square of at most 2^112
sum_takes_square : (total : Wide) → total.hi < 2 ^ 62 → total.lo < 2 ^ 64 → (z : ℤ) → nat_abs z ≤ 2 ^ 56 → {next : Wide} →
    next ≡ wide_sum total (halves (square (read z))) → next ≡ halves (value total + square z)
sum_takes_square total high low z small next_is =
    let read_is : read z ≡ z = read_back {w = w64} refl (small_fits z (omega arith)) in
    let same : value total + value (halves (square z)) ≡ value total + square z = ap (λ (t : ℕ). value total + t) (value_of_halves (square z)) in
    let below : value total + square z < 2 ^ 126 + 2 ^ 112 = omega (arith, square_within_lem z small) in
    next_is ∙ ap (λ (t : ℤ). wide_sum total (halves (square t))) read_is
    ∙ sum_is_halves total (halves (square z)) (rw same (lt_of_lt_of_le below (lit≤ tt)))
    ∙ ap halves same

-- ---- the meter with one sample more

-- with the term counts, sums and window that are given
abbrev new_meter : Meter → ℕ → ℕ → Wide → Wide → ℤ → Meter
new_meter x k c a b window = record { m = x.m; n = x.n + 1; stretch = x.stretch + 1; k = k; c = c; a = a; b = b; window = window }

-- the same as the code leaves it, which holds the window in a word
abbrev pub meter_of : Meter → ℕ → ℕ → Wide → Wide → ℤ → Meter
meter_of x k c a b window = new_meter x k c a b (read window)

module _ (x : Meter) (together : holds_together x ≡ true) where
  pub next_fits : x.n < 32768 → (x.stretch < 32768) × (x.k < 32768) × (x.c < 32768) × (x.m ≤ 10922)
  next_fits room =
      let known = holds_together_lem x together in
      (omega (arith, known.stretch_within), omega (arith, known.k_within), omega (arith, known.c_within), known.factor_most)

  module _ (d w : ℤ) (d-within : nat_abs d ≤ 2 ^ 42) (w-within : nat_abs w ≤ 2 ^ 56) where
    window_read : read w ≡ w
    window_read = read_back {w = w64} refl (small_fits w (omega arith))

    -- before there is a second difference a sample is counted
    pub sample_counted : x.stretch < 2 * x.m → meter_of x x.k x.c x.a x.b w ≡ with_terms x d w
    unfolding with_terms
    sample_counted few =
        let no_difference = lt-leb (2 * x.m) x.stretch few in
        let not_full = lt-leb (3 * x.m) (x.stretch + 1) (omega (arith, (holds_together_lem x together).factor_least)) in
        rw (no_difference, not_full) (ap (new_meter x x.k x.c x.a x.b) window_read)

    -- more is the sum A that a call gave
    module _ (due : 2 * x.m ≤ x.stretch) (a-low : x.a.lo < 2 ^ 64) {more : Wide} (more-is : more ≡ wide_sum x.a (halves (square (read d)))) where
      a_grows : more ≡ halves (value x.a + square d)
      a_grows = sum_takes_square x.a (holds_together_lem x together).a_below a-low d (omega arith) more-is

      -- before the window is full A takes in a square
      pub difference_taken_in : x.stretch + 1 < 3 * x.m → meter_of x (x.k + 1) x.c more x.b w ≡ with_terms x d w
      unfolding with_terms
      difference_taken_in few =
          rw (le-leb (2 * x.m) x.stretch due, lt-leb (3 * x.m) (x.stretch + 1) few)
          (λ i. new_meter x (x.k + 1) x.c (a_grows i) x.b (window_read i))

      -- from then on B takes in a square too
      pub window_taken_in : 3 * x.m ≤ x.stretch + 1 → x.b.lo < 2 ^ 64 → {last : Wide} → last ≡ wide_sum x.b (halves (square (read w))) →
          meter_of x (x.k + 1) (x.c + 1) more last w ≡ with_terms x d w
      unfolding with_terms
      window_taken_in full b-low {last} last_is =
          let b_grows : last ≡ halves (value x.b + square w) = sum_takes_square x.b (holds_together_lem x together).b_below b-low w w-within last_is in
          rw (le-leb (2 * x.m) x.stretch due, le-leb (3 * x.m) (x.stretch + 1) full)
          (λ i. new_meter x (x.k + 1) (x.c + 1) (a_grows i) (b_grows i) (window_read i))

-- ---- a sample by the old samples that were read

sample_read : (z : ℤ) → nat_abs z ≤ 2 ^ 40 → read z ≡ z
sample_read z within = read_back {w = w64} refl (small_fits z (omega arith))

pub samples_read : (x y z : ℤ) → Samples x y z → Samples (read x) (read y) (read z)
samples_read x y z within = rw (sample_read x within.0, sample_read y within.1, sample_read z within.2) within

module _ (x y z : ℤ) (within : Samples x y z) {d : ℤ} (d-is : d ≡ read x -ℤ pos 2 *ℤ read y +ℤ read z) where
  difference_is : d ≡ x -ℤ pos 2 *ℤ y +ℤ z
  difference_is = d-is ∙ rw (sample_read x within.0, sample_read y within.1, sample_read z within.2)

  difference_read : read d ≡ x -ℤ pos 2 *ℤ y +ℤ z
  difference_read = read_back {w = w64} difference_is (small_fits _ (omega (arith, difference_within x y z within)))

  pub read_difference_within : nat_abs (read d) ≤ 2 ^ 42
  read_difference_within = rw difference_read (difference_within x y z within)

module _ (x : Meter) (together : holds_together x ≡ true) (v one two three : ℤ) (latest : Samples v one two) (oldest : Samples one two three) {d e : ℤ}
    (d-is : d ≡ read v -ℤ pos 2 *ℤ read one +ℤ read two) (e-is : e ≡ read one -ℤ pos 2 *ℤ read two +ℤ read three) {w : ℤ}
    (w-is : w ≡ window_with x (read d) (read e)) where
  -- the two differences and the window, as the definition has them
  abbrev D : ℤ
  D = v -ℤ pos 2 *ℤ one +ℤ two

  abbrev E : ℤ
  E = one -ℤ pos 2 *ℤ two +ℤ three

  window_is : w ≡ window_with x D E
  window_is = w-is ∙ ap₂ (window_with x) (difference_read v one two latest d-is) (difference_read one two three oldest e-is)

  D_within : nat_abs D ≤ 2 ^ 42
  D_within = difference_within v one two latest

  E_within : nat_abs E ≤ 2 ^ 42
  E_within = difference_within one two three oldest

  read_window : read w ≡ window_with x D E
  read_window = read_back {w = w64} window_is (small_fits _ (omega (arith, window_within x together D E D_within E_within)))

  pub read_window_within : nat_abs (read w) ≤ 2 ^ 56
  read_window_within = rw read_window (window_within x together D E D_within E_within)

  pub terms_are : {next : Meter} → next ≡ with_terms x (read d) (read w) → next ≡ with_terms x D (window_with x D E)
  terms_are next_is = next_is ∙ ap₂ (with_terms x) (difference_read v one two latest d-is) read_window

-- the samples that were read are those that the definition reads, wherever it uses them
module _ (x : Meter) (ring : List ℤ) (v : ℤ) where
  abbrev read_new : ℤ
  read_new = v -ℤ pos 2 *ℤ read_one x ring +ℤ read_two x ring

  abbrev read_old : ℤ
  read_old = read_one x ring -ℤ pos 2 *ℤ read_two x ring +ℤ read_three x ring

  one_due : 2 * x.m ≤ x.stretch → read_one x ring ≡ one_back x ring
  one_due due = choice_true _ _ (le-leb (2 * x.m) x.stretch due)

  two_due : 2 * x.m ≤ x.stretch → read_two x ring ≡ two_back x ring
  two_due due = choice_true _ _ (le-leb (2 * x.m) x.stretch due)

  three_due : 3 * x.m ≤ x.stretch → read_three x ring ≡ three_back x ring
  three_due full = choice_true _ _ (le-leb (3 * x.m) x.stretch full)

  new_is : 2 * x.m ≤ x.stretch → read_new ≡ new_difference x ring v
  unfolding new_difference
  new_is due = rw (one_due due, two_due due)

  old_is : 3 * x.m ≤ x.stretch → read_old ≡ old_difference x ring
  unfolding old_difference
  old_is full = rw (one_due (omega arith), two_due (omega arith), three_due full)

  same_window : window_with x read_new read_old ≡ window_with x (new_difference x ring v) (old_difference x ring)
  unfolding window_with
  same_window =
      choices_agree (3 * x.m) x.stretch (λ full. ap₂ (λ (d e : ℤ). x.window +ℤ d -ℤ e) (new_is (omega arith)) (old_is full))
      (λ few. choices_agree (2 * x.m) x.stretch (λ due. ap (λ (d : ℤ). x.window +ℤ d) (new_is due)) (λ none. refl))

  pub sample_by_what_was_read : with_terms x read_new (window_with x read_new read_old) ≡ with_sample x ring v
  unfolding with_sample with_terms
  sample_by_what_was_read =
      let new-a = choices_agree (2 * x.m) x.stretch (λ due. ap (λ (d : ℤ). halves (value x.a + square d)) (new_is due)) (λ few. refl) in λ i.
      new_meter x (cond (leb (2 * x.m) x.stretch) (x.k + 1) x.k) (cond (leb (3 * x.m) (x.stretch + 1)) (x.c + 1) x.c) (new-a i)
      (cond (leb (3 * x.m) (x.stretch + 1)) (halves (value x.b + square (same_window i))) x.b) (same_window i)
