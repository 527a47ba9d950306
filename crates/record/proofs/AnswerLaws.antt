-- The two cases of a call that fills a lent buffer: refused, with the buffer as it came, and answered, with the output at its front.
use Rattle.std.proofs.Common.{◌≡◌, ℕ, ◌<◌, ◌≤◌, Bool, true, false, cond, eqb, List, [], length, get_or, Ok, Err, refl, sym, ◌∙◌, arith, ne_eqb}
use Rattle.laws.specs.Lists.{written}
use Rattle.laws.proofs.ListLaws.{written_past}
use Rattle.record.specs.Refusals.{none, refused}
use Rattle.record.specs.Answers.{count_answer, buffer_left}
use Rattle.record.specs.declared.Refusal.{Refusal}
use Rattle.record.specs.declared.CountAnswer.{CountAnswer}
use Rattle.record.specs.declared.grounds.Refused.{Refused}
use Rattle.record.specs.Told.{number_of, count_told}
use Rattle.record.proofs.ToldLaws.{numbered}

module _ {A : Type 0} (count : ℕ) (out buffer : List A) where
  -- refused by a number at a place: the answer is the refusal and nought
  pub call_refused : {r : Refusal} {answer : CountAnswer} (n p : ℕ) → 0 < n → r ≡ refused n p → answer ≡ record { number = n; place = p; count = 0 } →
      (answer ≡ count_answer r count) × (buffer ≡ buffer_left r out buffer)
  unfolding count_answer buffer_left
  call_refused n p h e a = let numbered = ne_eqb n 0 (λ z. omega arith) in (a ∙ rw (e, numbered), rw (e, numbered))

  -- not refused: the answer counts what was written
  pub call_answered : {r : Refusal} {left : List A} → r ≡ none → left ≡ written out buffer →
      (record { number = 0; place = 0; count = count } ≡ count_answer r count) × (left ≡ buffer_left r out buffer)
  unfolding count_answer buffer_left
  call_answered e w = (rw e, w ∙ rw e)

-- the same of what is returned alone
module _ (count : ℕ) where
  pub value_refused : {r : Refusal} {answer : CountAnswer} (n p : ℕ) → 0 < n → r ≡ refused n p → answer ≡ record { number = n; place = p; count = 0 } → answer ≡ count_answer r count
  value_refused n p h e a = (call_refused {A = ℕ} count [] [] n p h e a).0

  pub value_answered : {r : Refusal} → r ≡ none → record { number = 0; place = 0; count = count } ≡ count_answer r count
  value_answered e = (call_answered {A = ℕ} count [] [] e refl).0

-- and of what is left in the buffer
module _ {A : Type 0} (out buffer : List A) where
  pub left_refused : {r : Refusal} (n p : ℕ) → 0 < n → r ≡ refused n p → buffer ≡ buffer_left r out buffer
  left_refused n p h e = (call_refused 0 out buffer n p h e refl).1

  pub left_answered : {r : Refusal} {left : List A} → r ≡ none → left ≡ written out buffer → left ≡ buffer_left r out buffer
  left_answered e w = (call_answered 0 out buffer e w).1

-- a call that ends in an error, as it is told, and one that does not
module _ (count : ℕ) where
  pub error_value : (e : Refused) {r : Refusal} → refused (number_of e.why) e.place ≡ r → count_told (Err e) ≡ count_answer r count
  error_value e is = value_refused count (number_of e.why) e.place (numbered e.why) (sym is) refl

  pub count_value : {r : Refusal} → none ≡ r → count_told (Ok count) ≡ count_answer r count
  count_value is = value_answered count (sym is)

module _ {A : Type 0} (out buffer : List A) where
  pub error_left : (e : Refused) {r : Refusal} → refused (number_of e.why) e.place ≡ r → buffer ≡ buffer_left r out buffer
  error_left e is = left_refused out buffer (number_of e.why) e.place (numbered e.why) (sym is)

-- ---- entries of the buffer

module _ {A : Type 0} (r : Refusal) (out buffer : List A) where
  -- the entries past the output are as they were, refused or not
  pub past_unchanged : (i : ℕ) (z : A) → length out ≤ i → get_or (buffer_left r out buffer) i z ≡ get_or buffer i z
  unfolding buffer_left
  past_unchanged i z h = by_number (eqb r.number 0)
    where
      by_number : (nought : Bool) → get_or (cond nought (written out buffer) buffer) i z ≡ get_or buffer i z
      by_number true = written_past out buffer i z h
      by_number false = refl
