-- The cases of salvage's refusals in their order, what is known where nothing is refused, and the two cases of the call.
use Rattle.std.proofs.Common.{◌≡◌, ℕ, ◌-◌, ◌≤◌, ◌<◌, true, false, not, ltb, List, length, ℤ, Ok, Err, sym, ap, ◌∙◌, arith, ltb-false, lt-ltb, le-ltb, ne_eqb}
use borrow.Author.Tests.{not-false}
use Rattle.record.specs.Refusals.{none, refused, refused_if, ◌then◌, in_range}
use Rattle.record.specs.Told.{number_of}
use Rattle.record.specs.declared.Refusal.{Refusal}
use Rattle.record.specs.declared.grounds.Refused.{Refused}
use Rattle.record.proofs.ToldLaws.{answered_not}
use Rattle.record.proofs.RefusalLaws.{refusal_stands, none_gives_way, first_refuses_nothing, rest_refuses_nothing, test_fails}
use Rattle.phr.specs.File.{most_values}
use Rattle.phr.specs.Reading.{kind_of, count_of, head_length, start_of, counted_header_refusal, header_answer}
use Rattle.phr.specs.Told.{record_told}
use Rattle.phr.proofs.AnswerCases.{header_told_refused}
use Rattle.phr.proofs.ReadCases.{SoundHeader, unrefused_counted_header}
use Rattle.mending.specs.Salvage.{present_values, first_bad, kept_values, salvaged_file, salvage_refusal, salvage_answer}
use Rattle.mending.specs.Told.{salvage_told}
use Rattle.mending.specs.declared.Kept.{Kept}
use Rattle.mending.proofs.KeptLaws.{salvaged_within}

-- ---- 9, 2, 6, 3

module _ (bytes : List ℕ) (room : ℕ) where
  pub header_refuses : ((counted_header_refusal bytes).number ≡ 0 → ⊥) → salvage_refusal bytes room ≡ counted_header_refusal bytes
  unfolding salvage_refusal
  header_refuses numbered = refusal_stands _ _ numbered

  -- of the header, as it is told
  pub header_error : (e : Refused) → record_told (Err e) ≡ header_answer bytes → refused (number_of e.why) e.place ≡ salvage_refusal bytes room
  header_error e is =
      let header = header_told_refused bytes is (answered_not e) in
      sym header ∙ sym (header_refuses (λ nought. answered_not e (ap (λ (r : Refusal). r.number) (sym header) ∙ nought)))

  module _ (header : (counted_header_refusal bytes).number ≡ 0) where
    after_header : salvage_refusal bytes room ≡ (refused_if (ltb room (length (salvaged_file bytes))) 6 0 then refused_if (not (in_range (start_of bytes))) 3 0)
    unfolding salvage_refusal
    after_header = none_gives_way _ _ header

    pub no_room_for_salvaged : room < length (salvaged_file bytes) → salvage_refusal bytes room ≡ refused 6 0
    no_room_for_salvaged h = after_header ∙ rw (lt-ltb room (length (salvaged_file bytes)) h)

    module _ (enough : length (salvaged_file bytes) ≤ room) where
      pub start_outside : in_range (start_of bytes) ≡ false → salvage_refusal bytes room ≡ refused 3 0
      start_outside far = after_header ∙ rw (le-ltb room (length (salvaged_file bytes)) enough, far)

    -- of the new file, by what is left over of the input, and the start
    pub new_refusal : head_length bytes ≤ length bytes → {left : ℕ} {start : ℤ} → left ≡ length bytes - length (salvaged_file bytes) → start ≡ start_of bytes →
        (refused_if (ltb room (length bytes - left)) 6 0 then refused_if (not (in_range start)) 3 0) ≡ salvage_refusal bytes room
    new_refusal there {left} left_is start_is =
        let long : length bytes - left ≡ length (salvaged_file bytes) = omega (arith, left_is, salvaged_within bytes there) in
        rw (long, start_is) (sym after_header)

    pub start_inside : length (salvaged_file bytes) ≤ room → in_range (start_of bytes) ≡ true → salvage_refusal bytes room ≡ none
    start_inside enough near = after_header ∙ rw (le-ltb room (length (salvaged_file bytes)) enough, near)

-- what is known where nothing is refused
pub record Salvageable (bytes : List ℕ) (room : ℕ) : Type 0 where
  pub header : SoundHeader bytes
  pub few : count_of bytes ≤ most_values (kind_of bytes)
  pub enough : length (salvaged_file bytes) ≤ room
  pub start_in_range : in_range (start_of bytes) ≡ true

pub unrefused_salvageable : (bytes : List ℕ) (room : ℕ) → (salvage_refusal bytes room).number ≡ 0 → Salvageable bytes room
unfolding salvage_refusal
unrefused_salvageable bytes room e =
    let header = counted_header_refusal bytes in
    let cramped = refused_if (ltb room (length (salvaged_file bytes))) 6 0 in
    let far = refused_if (not (in_range (start_of bytes))) 3 0 in
    let known = unrefused_counted_header bytes (first_refuses_nothing header (cramped then far) e) in
    let after_header = rest_refuses_nothing header (cramped then far) e in record {
      header = known.0;
      few = known.1;
      enough = ltb-false room (length (salvaged_file bytes)) (test_fails _ 6 0 (omega arith) (first_refuses_nothing cramped far after_header));
      start_in_range = not-false (in_range (start_of bytes)) (test_fails _ 3 0 (omega arith) (rest_refuses_nothing cramped far after_header));
    }

-- ---- the call

module _ (bytes : List ℕ) (room : ℕ) where
  pub salvage_error : (e : Refused) → refused (number_of e.why) e.place ≡ salvage_refusal bytes room → salvage_told (Err e) ≡ salvage_answer bytes room
  unfolding salvage_answer
  salvage_error e is = rw (← is, ne_eqb (number_of e.why) 0 (answered_not e))

  pub salvage_value : none ≡ salvage_refusal bytes room → (k : Kept) → k.old_count ≡ count_of bytes → k.new_count ≡ length (kept_values bytes) →
      k.left_over ≡ length bytes - length (salvaged_file bytes) → k.met ≡ ltb (first_bad bytes) (length (present_values bytes)) →
      salvage_told (Ok k) ≡ salvage_answer bytes room
  unfolding salvage_answer
  salvage_value is k old new left met = rw (← is, old, new, left, met)
