-- A sum's answer where it is refused and where it is given.
use mathlib.Core.Path.{◌≡◌, ap, sym, ◌∙◌}
use Rattle.std.proofs.Common.{Err}
use mathlib.Core.List.{List}
use Prim.Native.Nat.{ℕ}
use native.Mathlib.Omega.{arith}
use borrow.Author.Tests.{eq-eqb, ne_eqb}
use lib.IntN.{ℤ}
use Rattle.laws.proofs.Tests.{choice_true, choice_false}
use Rattle.wide.specs.Wide.{halves}
use Rattle.wide.specs.declared.Wide.{Wide}
use Rattle.record.specs.Refusals.{none, refused, record_refusal}
use Rattle.record.specs.Told.{number_of}
use Rattle.record.specs.declared.grounds.Refused.{Refused}
use Rattle.record.proofs.ToldLaws.{refuses, refuses_nothing}
use Rattle.sums.specs.Told.{sum_told}
use Rattle.record.specs.declared.Demand.{Demand}
use Rattle.record.specs.declared.Refusal.{Refusal}
use Rattle.record.proofs.RefusalLaws.{Sound, sound_none, unrefused_sound}
use Rattle.sums.specs.Published.{allan_sum, allan_count, modified_sum, modified_count}
use Rattle.sums.specs.Answers.{allan_demand, modified_demand, sum_answer, allan_sum_answer, modified_sum_answer}
use Rattle.sums.specs.declared.SumAnswer.{SumAnswer}

-- ---- what is given, and what stands beside a refusal

abbrev pub given_sum : ℕ → ℕ → SumAnswer
given_sum s count = record { number = 0; place = 0; sum = halves s; count = count }

abbrev pub no_sum : Refusal → SumAnswer
no_sum r = record { number = r.number; place = r.place; sum = halves 0; count = 0 }

-- ---- a sum

module _ (r : Refusal) (s count : ℕ) where
  pub sum_refused : (r.number ≡ 0 → ⊥) → sum_answer r s count ≡ no_sum r
  unfolding sum_answer
  sum_refused some = choice_false _ _ (ne_eqb r.number 0 some)

  pub sum_given : r.number ≡ 0 → sum_answer r s count ≡ given_sum s count
  unfolding sum_answer
  sum_given nothing = choice_true _ _ (eq-eqb r.number 0 nothing)

-- a total with its count
abbrev pub with_count : ℕ → Wide → SumAnswer
with_count count total = record { number = 0; place = 0; sum = total; count = count }

-- a record that is not refused is sound
pub record_sound : {d : Demand} {m : ℕ} {xs : List ℤ} → none ≡ record_refusal d m xs → Sound d m xs
record_sound {d} {m} {xs} is = unrefused_sound d m xs (refuses_nothing is)

-- what the modified sum does not refuse, the Allan sum does not refuse either: 3m is at least 2m + 1
pub modified_none : (m : ℕ) (xs : List ℤ) → Sound modified_demand m xs → record_refusal allan_demand m xs ≡ none
modified_none m xs sound =
    sound_none allan_demand m xs (record {
      factor_least = sound.factor_least;
      factor_most = sound.factor_most;
      not_too_many = sound.not_too_many;
      enough = omega (arith, sound.factor_least, sound.enough);
      in_range_lem = sound.in_range_lem;
      bounded = sound.bounded;
    })

-- an error, as it is told, is the answer where it is what refuses
pub error_told : (e : Refused) {r : Refusal} (s count : ℕ) → refused (number_of e.why) e.place ≡ r → sum_told (Err e) ≡ sum_answer r s count
error_told e {r} s count is = ap no_sum is ∙ sym (sum_refused r s count (refuses e is))

module _ (m : ℕ) (xs : List ℤ) where
  pub allan_error : (e : Refused) → refused (number_of e.why) e.place ≡ record_refusal allan_demand m xs → sum_told (Err e) ≡ allan_sum_answer m xs
  unfolding allan_sum_answer
  allan_error e is = error_told e _ _ is

  pub allan_sum_refused : ((record_refusal allan_demand m xs).number ≡ 0 → ⊥) → allan_sum_answer m xs ≡ no_sum (record_refusal allan_demand m xs)
  unfolding allan_sum_answer
  allan_sum_refused some = sum_refused _ _ _ some

  pub allan_sum_given : Sound allan_demand m xs → allan_sum_answer m xs ≡ given_sum (allan_sum m xs) (allan_count m xs)
  unfolding allan_sum_answer
  allan_sum_given sound = sum_given _ _ _ (ap (λ (r : Refusal). r.number) (sound_none allan_demand m xs sound))

  pub modified_error : (e : Refused) → refused (number_of e.why) e.place ≡ record_refusal modified_demand m xs → sum_told (Err e) ≡ modified_sum_answer m xs
  unfolding modified_sum_answer
  modified_error e is = error_told e _ _ is

  pub modified_sum_refused : ((record_refusal modified_demand m xs).number ≡ 0 → ⊥) → modified_sum_answer m xs ≡ no_sum (record_refusal modified_demand m xs)
  unfolding modified_sum_answer
  modified_sum_refused some = sum_refused _ _ _ some

  pub modified_sum_given : Sound modified_demand m xs → modified_sum_answer m xs ≡ given_sum (modified_sum m xs) (modified_count m xs)
  unfolding modified_sum_answer
  modified_sum_given sound = sum_given _ _ _ (ap (λ (r : Refusal). r.number) (sound_none modified_demand m xs sound))
