-- The two cases of an answer to float readings: refused, with the buffer as it came, and given.
use mathlib.Core.Path.{◌≡◌, refl, sym, ap, ◌∙◌}
use mathlib.Core.Bool.{Bool, true, false}
use mathlib.Core.List.{List, []}
use Prim.Native.Nat.{ℕ, ◌*◌, ◌≤◌, ◌<◌}
use native.Mathlib.Omega.{arith}
use borrow.Author.Tests.{eq-eqb, ne_eqb, leb-true, leb-false}
use lib.Dec.{leb}
use lib.IntN.{ℤ}
use lib.Ieee.{Float}
use lib.ListN.{length}
use Rattle.laws.specs.Lists.{how_many}
use Rattle.laws.proofs.Tests.{choice_true, choice_false}
use Rattle.std.proofs.Common.{Some, None, Result, Ok, Err}
use Rattle.std.specs.Result.{result_ok}
use Rattle.wide.specs.Wide.{halves}
use Rattle.record.specs.Refusals.{none, refused, record_refusal}
use Rattle.record.specs.Told.{number_of}
use Rattle.record.specs.declared.grounds.Refused.{Refused}
use Rattle.record.proofs.ToldLaws.{answered_not, refuses_nothing}
use Rattle.sums.specs.Told.{sum_told, part_told}
use Rattle.sums.specs.declared.Sum.{Sum}
use Rattle.sums.proofs.Unique.{same_sum}
use Rattle.readings.specs.Told.{sums_told}
use Rattle.record.specs.Answers.{buffer_left}
use Rattle.record.specs.declared.Refusal.{Refusal}
use Rattle.record.proofs.RefusalLaws.{Sound, too_few, size_refuses}
use Rattle.sums.specs.Published.{allan_sum, allan_count, modified_sum, modified_count}
use Rattle.sums.specs.Answers.{allan_demand, modified_demand, allan_sum_answer, modified_sum_answer, part_of, no_part}
use Rattle.sums.specs.declared.Part.{Part}
use Rattle.sums.specs.declared.SumAnswer.{SumAnswer}
use Rattle.sums.proofs.AnswerLaws.{no_sum, allan_sum_given, modified_sum_given, modified_sum_refused}
use Rattle.readings.specs.Readings.{has_fraction}
use Rattle.readings.specs.Answers.{float_refusal, float_answer}
use Rattle.readings.specs.declared.FloatSums.{FloatSums}
use Rattle.readings.proofs.RefusalLaws.{samples_of, samples_length, samples_sound}

-- a sum's answer without its place
abbrev pub as_part : SumAnswer → Part
as_part a = record { number = a.number; sum = a.sum; count = a.count }

-- the lent buffer as it is left
abbrev pub float_buffer : ℕ → List Float → List ℤ → List ℤ
float_buffer m xs buffer = buffer_left (float_refusal m xs (length buffer)) (samples_of xs) buffer

-- the Allan sum of the samples
abbrev pub allan_of : ℕ → List Float → Sum
allan_of m xs = record { total = halves (allan_sum m (samples_of xs)); count = allan_count m (samples_of xs) }

-- a part that is refused is not due
not_due : (e : Refused) (due : Bool) (b count : ℕ) → as_part (sum_told (Err e)) ≡ part_of due b count → part_told None ≡ part_of due b count
unfolding part_of
not_due e true b count told = absurd (answered_not e (ap (λ (p : Part). p.number) told))
not_due e false b count told = refl

module _ (m : ℕ) (xs : List Float) (room : ℕ) where
  -- ---- the parts of an answer that is not refused

  module _ (unrefused : (float_refusal m xs room).number ≡ 0) where
    abbrev sound : Sound allan_demand m (samples_of xs)
    sound = samples_sound m xs room unrefused

    -- 3m samples or more: the modified sum is due too
    modified_sound : 3 * m ≤ length xs → Sound modified_demand m (samples_of xs)
    modified_sound due = record {
      factor_least = sound.factor_least;
      factor_most = sound.factor_most;
      not_too_many = sound.not_too_many;
      enough = omega (arith, samples_length xs);
      in_range_lem = sound.in_range_lem;
      bounded = sound.bounded;
    }

    -- fewer: 1 is all that it is refused for
    modified_one : length xs < 3 * m → record_refusal modified_demand m (samples_of xs) ≡ refused 1 0
    modified_one few =
        let one = too_few modified_demand m (length (samples_of xs)) sound.factor_least sound.factor_most sound.not_too_many (omega (arith, samples_length xs)) in
        size_refuses modified_demand m (samples_of xs) (λ z. omega (arith, ap (λ (r : Refusal). r.number) one)) ∙ one

    pub modified_part : as_part (modified_sum_answer m (samples_of xs)) ≡ part_of (leb (3 * m) (length xs)) (modified_sum m (samples_of xs)) (modified_count m (samples_of xs))
    unfolding part_of
    modified_part = by_length (leb (3 * m) (length xs)) refl
      where
        by_length : (due : Bool) → leb (3 * m) (length xs) ≡ due → as_part (modified_sum_answer m (samples_of xs)) ≡ part_of due (modified_sum m (samples_of xs)) (modified_count m (samples_of xs))
        by_length true t = ap as_part (modified_sum_given m (samples_of xs) (modified_sound (leb-true (3 * m) (length xs) t)))
        by_length false t =
            let one = modified_one (leb-false (3 * m) (length xs) t) in
            ap as_part (modified_sum_refused m (samples_of xs) (λ z. omega (arith, ap (λ (r : Refusal). r.number) one)))
            ∙ ap (λ (r : Refusal). as_part (no_sum r)) one

  -- ---- the answer and the buffer

  pub sums_error : (e : Refused) → refused (number_of e.why) e.place ≡ float_refusal m xs room → sums_told (Err e) ≡ float_answer m xs room
  unfolding float_answer
  sums_error e is = rw (← is) (sym (choice_false _ _ (ne_eqb (number_of e.why) 0 (answered_not e))))

  module _ (nothing : none ≡ float_refusal m xs room) where
    abbrev unrefused_lem : (float_refusal m xs room).number ≡ 0
    unrefused_lem = refuses_nothing nothing

    -- the Allan sum of the samples is not refused
    pub allan_given : {x : Result Sum Refused} {samples : List ℤ} → samples ≡ samples_of xs → sum_told x ≡ allan_sum_answer m samples → x ≡ Ok (allan_of m xs)
    allan_given {x} whole is =
        same_sum x (Ok (allan_of m xs)) (is ∙ ap (allan_sum_answer m) whole ∙ allan_sum_given m (samples_of xs) (sound unrefused_lem))

    -- nor is the modified one but by 1, where it is not due
    pub modified_given : (x : Result Sum Refused) {samples : List ℤ} → samples ≡ samples_of xs → sum_told x ≡ modified_sum_answer m samples →
        part_told (result_ok x) ≡ part_of (leb (3 * m) (length xs)) (modified_sum m (samples_of xs)) (modified_count m (samples_of xs))
    modified_given x whole is = by_result x (ap as_part (is ∙ ap (modified_sum_answer m) whole) ∙ modified_part unrefused_lem)
      where
        by_result : (x : Result Sum Refused) → as_part (sum_told x) ≡ part_of (leb (3 * m) (length xs)) (modified_sum m (samples_of xs)) (modified_count m (samples_of xs)) →
            part_told (result_ok x) ≡ part_of (leb (3 * m) (length xs)) (modified_sum m (samples_of xs)) (modified_count m (samples_of xs))
        by_result (Ok s) told = told
        by_result (Err e) told = not_due e _ _ _ told

    pub sums_given : {allan : Sum} {modified : Part} {changed : ℕ} → allan ≡ allan_of m xs →
        modified ≡ part_of (leb (3 * m) (length xs)) (modified_sum m (samples_of xs)) (modified_count m (samples_of xs)) → changed ≡ how_many has_fraction xs →
        record { number = 0; place = 0; allan = part_told (Some allan); modified = modified; changed = changed } ≡ float_answer m xs room
    unfolding float_answer part_of
    sums_given allan-is modified-is changed-is =
        (λ i. record { number = 0; place = 0; allan = part_told (Some (allan-is i)); modified = modified-is i; changed = changed-is i })
        ∙ sym (choice_true _ _ (eq-eqb (float_refusal m xs room).number 0 unrefused_lem))

-- ---- an answer that is refused, in numbers, and the buffer with it

abbrev pub no_sums : Refusal → FloatSums
no_sums r = record { number = r.number; place = r.place; allan = no_part; modified = no_part; changed = 0 }

module _ (m : ℕ) (xs : List Float) (room : ℕ) where
  pub call_refused : {refusal : Refusal} {answer : FloatSums} (buffer : List ℤ) → refusal ≡ float_refusal m xs room → (refusal.number ≡ 0 → ⊥) →
      answer ≡ no_sums refusal → (answer ≡ float_answer m xs room) × (buffer ≡ buffer_left (float_refusal m xs room) (samples_of xs) buffer)
  unfolding float_answer buffer_left
  call_refused buffer is some noughts =
      let numbered = ne_eqb (float_refusal m xs room).number 0 (rw is at some) in
      (noughts ∙ ap no_sums is ∙ sym (choice_false _ _ numbered), sym (choice_false _ _ numbered))

  -- the same, what is returned and what is left in the buffer each by itself
  pub value_refused : {refusal : Refusal} {answer : FloatSums} → refusal ≡ float_refusal m xs room → (refusal.number ≡ 0 → ⊥) → answer ≡ no_sums refusal → answer ≡ float_answer m xs room
  value_refused is some noughts = (call_refused [] is some noughts).0

  pub left_refused : {refusal : Refusal} (buffer : List ℤ) → refusal ≡ float_refusal m xs room → (refusal.number ≡ 0 → ⊥) →
      buffer ≡ buffer_left (float_refusal m xs room) (samples_of xs) buffer
  left_refused {refusal} buffer is some = (call_refused {refusal = refusal} buffer is some refl).1
