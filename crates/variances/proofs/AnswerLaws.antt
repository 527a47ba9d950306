-- Each answer where it is refused and where it is given.
use mathlib.Core.Path.{◌≡◌, refl, sym, ap, ◌∙◌}
use Rattle.std.proofs.Common.{Err}
use Rattle.record.specs.Told.{number_of}
use Rattle.record.specs.declared.grounds.Refused.{Refused}
use Rattle.record.proofs.ToldLaws.{refuses}
use Rattle.variances.specs.Told.{fraction_told, deviation_told}
use Prim.Native.Nat.{ℕ, ◌^◌, ◌≤◌, ◌<◌}
use borrow.Author.Tests.{eq-eqb, ne_eqb, lt-ltb, le-ltb}
use native.Mathlib.Omega.{arith}
use lib.Dec.{ltb}
use Rattle.laws.proofs.Tests.{choice_true, choice_false}
use Rattle.wide.specs.Wide.{halves}
use Rattle.record.specs.Refusals.{none, refused, refused_if, ◌then◌}
use Rattle.record.specs.declared.Refusal.{Refusal}
use Rattle.record.proofs.RefusalLaws.{refusal_stands, none_gives_way}
use Rattle.sums.specs.Published.{allan_denominator, time_denominator}
use Rattle.variances.specs.Deviations.{deviation}
use Rattle.variances.specs.Answers.{figure_refusal, fraction_answer, allan_fraction_answer, time_fraction_answer, deviation_answer, allan_deviation_answer, time_deviation_answer}
use Rattle.variances.specs.declared.FractionAnswer.{FractionAnswer}
use Rattle.variances.specs.declared.DeviationAnswer.{DeviationAnswer}
use Rattle.variances.proofs.FigureLaws.{Allowed, allowed_none}
use Rattle.variances.proofs.FractionLaws.{Fraction, lowest_terms}

-- ---- what is given, and what stands beside a refusal

abbrev pub given_fraction : Fraction → FractionAnswer
given_fraction f = record { number = 0; place = 0; numerator = halves f.numerator; denominator = f.denominator }

abbrev pub no_fraction : Refusal → FractionAnswer
no_fraction r = record { number = r.number; place = r.place; numerator = halves 0; denominator = 0 }

abbrev pub given_deviation : ℕ → DeviationAnswer
given_deviation r = record { number = 0; place = 0; deviation = r }

abbrev pub no_deviation : Refusal → DeviationAnswer
no_deviation refusal = record { number = refusal.number; place = refusal.place; deviation = 0 }

-- ---- a fraction

module _ (r : Refusal) (n d : ℕ) where
  pub fraction_refused : (r.number ≡ 0 → ⊥) → fraction_answer r n d ≡ no_fraction r
  unfolding fraction_answer
  fraction_refused some = choice_false _ _ (ne_eqb r.number 0 some)

  pub fraction_given : r.number ≡ 0 → fraction_answer r n d ≡ given_fraction (lowest_terms n d)
  unfolding fraction_answer
  fraction_given nothing = choice_true _ _ (eq-eqb r.number 0 nothing)

-- an error, as it is told, is the answer where it is what refuses
pub error_fraction : (e : Refused) {r : Refusal} (n d : ℕ) → refused (number_of e.why) e.place ≡ r → fraction_told (Err e) ≡ fraction_answer r n d
error_fraction e {r} n d is = ap no_fraction is ∙ sym (fraction_refused r n d (refuses e is))

module _ (s m count : ℕ) where
  -- where nothing is refused
  no_number : Allowed s m count → (figure_refusal s m count).number ≡ 0
  no_number allowed = ap (λ (r : Refusal). r.number) (allowed_none s m count allowed)

  pub fraction_allowed : (n d : ℕ) → Allowed s m count → fraction_answer (figure_refusal s m count) n d ≡ fraction_answer none n d
  fraction_allowed n d allowed = ap (λ (r : Refusal). fraction_answer r n d) (allowed_none s m count allowed)

  pub allan_fraction_given : Allowed s m count → allan_fraction_answer s m count ≡ given_fraction (lowest_terms s (allan_denominator m count))
  unfolding allan_fraction_answer
  allan_fraction_given allowed = fraction_given _ _ _ (no_number allowed)

  pub time_fraction_given : Allowed s m count → time_fraction_answer s m count ≡ given_fraction (lowest_terms s (time_denominator m count))
  unfolding time_fraction_answer
  time_fraction_given allowed = fraction_given _ _ _ (no_number allowed)

-- ---- a deviation

module _ (refusal : Refusal) (r : ℕ) where
  pub deviation_refused : (refusal.number ≡ 0 → ⊥) → deviation_answer refusal r ≡ no_deviation refusal
  unfolding deviation_answer
  deviation_refused some = choice_false _ _ (ne_eqb refusal.number 0 some)

  pub deviation_given : refusal.number ≡ 0 → deviation_answer refusal r ≡ given_deviation r
  unfolding deviation_answer
  deviation_given nothing = choice_true _ _ (eq-eqb refusal.number 0 nothing)

-- 3 where it would be above 2^62
module _ (r : ℕ) where
  abbrev pub large_refusal : Refusal
  large_refusal = refused_if (ltb (2 ^ 62) r) 3 0

  pub above_refused : 2 ^ 62 < r → deviation_answer large_refusal r ≡ no_deviation (refused 3 0)
  above_refused above = rw (lt-ltb (2 ^ 62) r above) (deviation_refused (refused 3 0) r (λ e. omega arith))

  pub not_above_given : r ≤ 2 ^ 62 → deviation_answer large_refusal r ≡ given_deviation r
  not_above_given most = rw (le-ltb (2 ^ 62) r most) (deviation_given none r refl)

-- what a deviation is refused for
abbrev pub deviation_refusal : ℕ → ℕ → ℕ → ℕ → Refusal
deviation_refusal s m count r = figure_refusal s m count then large_refusal r

module _ (s m count r : ℕ) where
  pub figure_refused : ((figure_refusal s m count).number ≡ 0 → ⊥) → deviation_answer (deviation_refusal s m count r) r ≡ no_deviation (figure_refusal s m count)
  figure_refused some = ap (λ (t : Refusal). deviation_answer t r) (refusal_stands (figure_refusal s m count) (large_refusal r) some) ∙ deviation_refused _ r some

  pub figure_error : (e : Refused) → refused (number_of e.why) e.place ≡ figure_refusal s m count → deviation_told (Err e) ≡ deviation_answer (deviation_refusal s m count r) r
  figure_error e is = ap no_deviation is ∙ sym (figure_refused (refuses e is))

  pub figure_allowed : Allowed s m count → deviation_answer (deviation_refusal s m count r) r ≡ deviation_answer (large_refusal r) r
  figure_allowed allowed = ap (λ (t : Refusal). deviation_answer t r) (none_gives_way (figure_refusal s m count) (large_refusal r) (no_number s m count allowed))

module _ (s m count : ℕ) where
  abbrev allan_deviation : ℕ
  allan_deviation = deviation s (allan_denominator m count)

  abbrev time_deviation : ℕ
  time_deviation = deviation s (time_denominator m count)

  pub allan_deviation_refused : ((figure_refusal s m count).number ≡ 0 → ⊥) → allan_deviation_answer s m count ≡ no_deviation (figure_refusal s m count)
  unfolding allan_deviation_answer
  allan_deviation_refused some = figure_refused s m count allan_deviation some

  pub allan_deviation_by_size : Allowed s m count → allan_deviation_answer s m count ≡ deviation_answer (large_refusal allan_deviation) allan_deviation
  unfolding allan_deviation_answer
  allan_deviation_by_size allowed = figure_allowed s m count allan_deviation allowed

  pub allan_deviation_given : Allowed s m count → allan_deviation ≤ 2 ^ 62 → allan_deviation_answer s m count ≡ given_deviation allan_deviation
  allan_deviation_given allowed most = allan_deviation_by_size allowed ∙ not_above_given allan_deviation most

  pub time_deviation_refused : ((figure_refusal s m count).number ≡ 0 → ⊥) → time_deviation_answer s m count ≡ no_deviation (figure_refusal s m count)
  unfolding time_deviation_answer
  time_deviation_refused some = figure_refused s m count time_deviation some

  pub time_deviation_by_size : Allowed s m count → time_deviation_answer s m count ≡ deviation_answer (large_refusal time_deviation) time_deviation
  unfolding time_deviation_answer
  time_deviation_by_size allowed = figure_allowed s m count time_deviation allowed

  pub time_deviation_given : Allowed s m count → time_deviation ≤ 2 ^ 62 → time_deviation_answer s m count ≡ given_deviation time_deviation
  time_deviation_given allowed most = time_deviation_by_size allowed ∙ not_above_given time_deviation most
