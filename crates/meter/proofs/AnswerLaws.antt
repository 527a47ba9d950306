-- The cases of the meter's answers.
use mathlib.Core.Path.{◌≡◌, refl, sym, ap, ◌∙◌}
use mathlib.Core.Bool.{true, false, ◌&&◌}
use mathlib.Core.List.{List}
use Prim.Native.Nat.{ℕ, ◌*◌, ◌%◌, ◌^◌, ◌≤◌, ◌<◌}
use native.Mathlib.Omega.{arith}
use borrow.Author.Tests.{lt-ltb, le-ltb, le-leb, lt-leb, ne_eqb}
use lib.Dec.{leb, eqb}
use lib.IntN.{ℤ, pos, nat_abs, ◌+ℤ◌, ◌-ℤ◌, ◌*ℤ◌}
use lib.ListN.{length, set}
use mir.Syntax.{w64}
use mir.Val.{SFits}
use Rattle.laws.proofs.Machine.{read_back}
use Rattle.laws.proofs.Tests.{choice_true, choice_false, first_true, second_true}
use Rattle.wide.specs.Wide.{value, halves}
use Rattle.wide.specs.declared.Wide.{Wide}
use Rattle.wide.proofs.WideLaws.{halves_of_value}
use Rattle.record.specs.Refusals.{none, refused, in_range}
use Rattle.record.proofs.RangeLaws.{sample_bounded}
use Rattle.sums.proofs.TotalLaws.{read}
use Rattle.meter.specs.Meter.{factor_fits, holds_together, started, window_with, with_terms, with_sample, ring_with, with_gap}
use Rattle.sums.specs.Answers.{part_of, no_part}
use Rattle.meter.specs.Answers.{meter_answer, start_refusal, start_answer, sample_refusal, sample_answer, ring_left, gap_answer, report_answer}
use Rattle.meter.specs.declared.Meter.{Meter}
use Rattle.meter.specs.declared.MeterAnswer.{MeterAnswer}
use Rattle.sums.specs.declared.Part.{Part}
use Rattle.meter.specs.declared.Report.{Report}
use Rattle.meter.proofs.TestLaws.{let_in, read_one, read_two, read_three, slots_lie, slots_lie_lem, read_good, ring_by_what_is_read, number_of, no_slot_refused, slots_refusal_is}
use Rattle.meter.proofs.ArithmeticLaws.{sample_by_what_was_read}

-- ---- a part of a report

module _ (s : Wide) (count : ℕ) where
  pub part_given : 1 ≤ count → s.lo < 2 ^ 64 → ◌≡◌ {A = Part} (record { number = 0; sum = s; count = count }) (part_of (leb 1 count) (value s) count)
  unfolding part_of
  part_given some low =
      (λ i. record { number = 0; sum = sym (halves_of_value s low) i; count = count }) ∙ sym (choice_true _ _ (le-leb 1 count some))

  pub part_refused : count < 1 → ◌≡◌ {A = Part} (record { number = 1; sum = halves 0; count = 0 }) (part_of (leb 1 count) (value s) count)
  unfolding part_of
  part_refused none = sym (choice_false _ _ (lt-leb 1 count none))

-- ---- a report

module _ (x : Meter) where
  pub report_refused : holds_together x ≡ false → {noughts : Part} → noughts ≡ no_part →
      ◌≡◌ {A = Report} (record { number = 7; place = 0; allan = noughts; modified = noughts }) (report_answer x)
  unfolding report_answer
  report_refused e noughts-are = (λ i. record { number = 7; place = 0; allan = noughts-are i; modified = noughts-are i }) ∙ sym (choice_false _ _ e)

  pub report_given : holds_together x ≡ true → {allan modified : Part} →
      allan ≡ part_of (leb 1 x.k) (value x.a) x.k → modified ≡ part_of (leb 1 x.c) (value x.b) x.c →
      ◌≡◌ {A = Report} (record { number = 0; place = 0; allan = allan; modified = modified }) (report_answer x)
  unfolding report_answer
  report_given e allan-is modified-is = (λ i. record { number = 0; place = 0; allan = allan-is i; modified = modified-is i }) ∙ sym (choice_true _ _ e)

-- ---- a start

-- a refusal leaves the meter as it came
abbrev pub refused_answer : ℕ → Meter → MeterAnswer
refused_answer number old = record { number = number; place = 0; meter = old }

-- the new meter
abbrev pub given_answer : Meter → MeterAnswer
given_answer new = record { number = 0; place = 0; meter = new }

module _ (old : Meter) (m : ℕ) (ring : List ℤ) where
  pub start_at_too_large : 10922 < m → start_answer old m ring ≡ refused_answer 5 old
  unfolding start_answer meter_answer start_refusal factor_fits
  start_at_too_large h = simp (le-leb 1 m (omega arith), lt-leb m 10922 h)

  pub start_at_nought : m < 1 → start_answer old m ring ≡ refused_answer 5 old
  unfolding start_answer meter_answer start_refusal factor_fits
  start_at_nought h = simp (lt-leb 1 m h)

  module _ (least : 1 ≤ m) (most : m ≤ 10922) where
    pub start_without_room : length ring < 3 * m → start_answer old m ring ≡ refused_answer 6 old
    unfolding start_answer meter_answer start_refusal factor_fits
    start_without_room h = simp (le-leb 1 m least, le-leb m 10922 most, lt-ltb (length ring) (3 * m) h)

    pub start_given : 3 * m ≤ length ring → {new : Meter} → new ≡ started m → given_answer new ≡ start_answer old m ring
    unfolding start_answer meter_answer start_refusal factor_fits
    start_given h New-is = ap given_answer New-is ∙ simp (le-leb 1 m least, le-leb m 10922 most, le-ltb (length ring) (3 * m) h)

-- ---- a gap

module _ (x : Meter) where
  pub gap_refused : holds_together x ≡ false → refused_answer 7 x ≡ gap_answer x
  unfolding gap_answer meter_answer
  gap_refused e = sym (simp e)

  pub gap_given : holds_together x ≡ true → {new : Meter} → new ≡ with_gap x → given_answer new ≡ gap_answer x
  unfolding gap_answer meter_answer
  gap_given e New-is = ap given_answer New-is ∙ sym (simp e)

-- ---- a sample call

-- where no slot lies
pub bad_meter_refused : (x : Meter) (ring : List ℤ) (v : ℤ) → slots_lie x ring ≡ false → (refused_answer 7 x ≡ sample_answer x ring v) × (ring ≡ ring_left x ring v)
unfolding sample_answer meter_answer ring_left
bad_meter_refused x ring v none-lies = let refuses = no_slot_refused x ring v none-lies in (sym (simp refuses), sym (simp refuses))

-- else: what the call does by the number that the tests gave, the old samples being as they were read
pub record SampleCall (x : Meter) (ring : List ℤ) (v one two three : ℤ) (number : ℕ) : Type 0 where
  -- a refusal leaves the meter and the ring as they came
  pub refuses : (number ≡ 0 → ⊥) → (refused_answer number x ≡ sample_answer x ring v) × (ring ≡ ring_left x ring v)
  -- else the meter takes the sample, and the ring holds it in its own slot
  pub lets_in : number ≡ 0 → (holds_together x ≡ true) × (x.n < 32768)
      × (nat_abs (read one) ≤ 2 ^ 40) × (nat_abs (read two) ≤ 2 ^ 40) × (nat_abs (read three) ≤ 2 ^ 40) × (nat_abs (read v) ≤ 2 ^ 40)
  pub gives : number ≡ 0 → {new : Meter} →
      new ≡ with_terms x (read v -ℤ pos 2 *ℤ read one +ℤ read two)
      (window_with x (read v -ℤ pos 2 *ℤ read one +ℤ read two) (read one -ℤ pos 2 *ℤ read two +ℤ read three)) →
      (given_answer new ≡ sample_answer x ring v) × (set ring (x.stretch % (3 * x.m)) (read v) ≡ ring_left x ring v)

module _ (x : Meter) (ring : List ℤ) (v : ℤ) (fits : SFits w64 v) (lies : slots_lie x ring ≡ true) {one two three : ℤ}
    (one-is : one ≡ read_one x ring) (two_is : two ≡ read_two x ring) (three-is : three ≡ read_three x ring)
    (one-fits : SFits w64 one) (two_fits : SFits w64 two) (three-fits : SFits w64 three) {number : ℕ}
    (given : number ≡ number_of (in_range (read one) && (in_range (read two) && in_range (read three))) (eqb x.n 32768) (in_range (read v))) where
  sample_read : read v ≡ v
  sample_read = read_back {w = w64} refl fits

  one_read : read one ≡ read_one x ring
  one_read = read_back {w = w64} refl one-fits ∙ one-is

  two_read : read two ≡ read_two x ring
  two_read = read_back {w = w64} refl two_fits ∙ two_is

  three_read : read three ≡ read_three x ring
  three_read = read_back {w = w64} refl three-fits ∙ three-is

  refusal_is : sample_refusal x ring v ≡ refused number 0
  refusal_is =
      slots_refusal_is x ring v lies ∙ ap (λ (k : ℕ). refused k 0) (sym (given ∙ rw (one_read, two_read, three_read, sample_read)))

  pub sample_call : SampleCall x ring v one two three number
  unfolding sample_answer meter_answer ring_left ring_with
  sample_call = record {
    refuses = λ some. let fails = ne_eqb number 0 some in (sym (simp (refusal_is, fails)), sym (simp (refusal_is, fails)));
    lets_in = λ nothing.
        let known = let_in x ring v (unrefused nothing) in
        let good : read_good x ring ≡ true = sym (ring_by_what_is_read x ring (slots_lie_lem x ring lies).1) ∙ known.ring_holds_lem in
        let both = second_true (in_range (read_one x ring)) _ good in
        rw (one_read, two_read, three_read, sample_read) (
          known.meter_holds,
          known.room,
          sample_bounded _ (first_true (in_range (read_one x ring)) _ good),
          sample_bounded _ (first_true (in_range (read_two x ring)) _ both),
          sample_bounded _ (second_true (in_range (read_two x ring)) _ both),
          known.sample_within,
        );
    gives = λ nothing {new} New-is.
        let taken : new ≡ with_sample x ring v = New-is ∙ rw (one_read, two_read, three_read, sample_read) (sample_by_what_was_read x ring v) in (
          ap given_answer taken ∙ sym (simp (unrefused nothing)),
          ap (set ring (x.stretch % (3 * x.m))) sample_read ∙ sym (simp (unrefused nothing)),
        );
  }
    where
      unrefused : number ≡ 0 → sample_refusal x ring v ≡ none
      unrefused nothing = refusal_is ∙ ap (λ (t : ℕ). refused t 0) nothing
