-- Each dot by the deviation's answer, which is never above 2^62.
use Rattle.std.proofs.Common.{◌≡◌, ℕ, ◌^◌, ◌≤◌, refl, ap, ◌∙◌, inl, inr, eq-zero-or-pos, arith, eq-eqb, ne_eqb, le-leb}
use lib.Ieee.{Float}
use Rattle.record.specs.Refusals.{refused, ◌then◌}
use Rattle.record.specs.declared.Refusal.{Refusal}
use Rattle.record.proofs.RefusalLaws.{refusal_stands, none_gives_way}
use Rattle.sums.specs.Published.{allan_denominator, time_denominator}
use Rattle.variances.specs.Deviations.{deviation}
use Rattle.variances.specs.Answers.{figure_refusal, deviation_answer, allan_deviation_answer, time_deviation_answer}
use Rattle.variances.specs.declared.DeviationAnswer.{DeviationAnswer}
use Rattle.variances.proofs.AnswerLaws.{no_deviation, large_refusal, above_refused, not_above_given, deviation_refused, allan_deviation_refused, time_deviation_refused}
use Rattle.plot.specs.Drawn.{plus_zero, drawn_number}
use Rattle.plot.specs.Dots.{dot_number, dot_value, dot_answer}
use Rattle.plot.specs.declared.dots.Dot.{Dot}
use Rattle.plot.specs.declared.dots.Dot.TheVariants.{Drawn, Nought, TooFew}
use Rattle.plot.specs.declared.dots.DotAnswer.{DotAnswer}
use Rattle.plot.proofs.Grid.{below_or_from}

-- ---- by the answer

abbrev pub given_dot : Dot → DotAnswer
given_dot dot = record { number = 0; place = 0; dot = dot }

module _ (d : DeviationAnswer) where
  pub nought_dot : d.number ≡ 0 → d.deviation ≡ 0 → dot_answer d ≡ given_dot Nought
  unfolding dot_answer
  nought_dot answered nought = rw (eq-eqb d.number 0 answered, eq-eqb d.deviation 0 nought)

  pub drawn_dot : d.number ≡ 0 → (d.deviation ≡ 0 → ⊥) → dot_answer d ≡ given_dot (Drawn (drawn_number d.deviation))
  unfolding dot_answer
  drawn_dot answered some = rw (eq-eqb d.number 0 answered, ne_eqb d.deviation 0 some)

  pub too_few_dot : d.number ≡ 1 → dot_answer d ≡ given_dot TooFew
  unfolding dot_answer
  too_few_dot few = rw (ne_eqb d.number 0 (omega arith), eq-eqb d.number 1 few)

  pub refused_dot : (d.number ≡ 0 → ⊥) → (d.number ≡ 1 → ⊥) → dot_answer d ≡ record { number = d.number; place = d.place; dot = Nought }
  unfolding dot_answer
  refused_dot refused other = rw (ne_eqb d.number 0 refused, ne_eqb d.number 1 other)

-- ---- the number and the value that each dot stands for

abbrev pub Told : Dot → ℕ → Float → Type 0
Told dot n v = (dot_number dot ≡ n) × (dot_value dot ≡ v)

module _ (d : DeviationAnswer) where
  pub nought_dot_told : d.number ≡ 0 → d.deviation ≡ 0 → Told (dot_answer d).dot 0 plus_zero
  unfolding dot_number dot_value
  nought_dot_told answered nought = rw (nought_dot d answered nought) (refl, refl)

  pub drawn_dot_told : d.number ≡ 0 → (d.deviation ≡ 0 → ⊥) → Told (dot_answer d).dot 0 (drawn_number d.deviation)
  unfolding dot_number dot_value
  drawn_dot_told answered some = rw (drawn_dot d answered some) (refl, refl)

  pub too_few_dot_told : d.number ≡ 1 → Told (dot_answer d).dot 1 plus_zero
  unfolding dot_number dot_value
  too_few_dot_told few = rw (too_few_dot d few) (refl, refl)

  pub refused_dot_told : (d.number ≡ 0 → ⊥) → (d.number ≡ 1 → ⊥) → Told (dot_answer d).dot 0 plus_zero
  unfolding dot_number dot_value
  refused_dot_told refused other = rw (refused_dot d refused other) (refl, refl)

-- ---- a deviation, answered or not, is at most 2^62

abbrev AtMost : DeviationAnswer → Type 0
AtMost d = d.deviation ≤ 2 ^ 62

carried : {d e : DeviationAnswer} → d ≡ e → AtMost e → AtMost d
carried same most = rw same most

by_size : (r : ℕ) → AtMost (deviation_answer (large_refusal r) r)
by_size r = elim (below_or_from (2 ^ 62) r) [
  | inl above ↦ carried (above_refused r above) (omega arith)
  | inr most ↦ carried (not_above_given r most) most
]

at_most : (figure : Refusal) (r : ℕ) → AtMost (deviation_answer (figure then large_refusal r) r)
at_most figure r = elim (eq-zero-or-pos figure.number) [
  | inl nothing ↦ carried (ap (λ (t : Refusal). deviation_answer t r) (none_gives_way figure (large_refusal r) nothing)) (by_size r)
  | inr some ↦
      let refuses : figure.number ≡ 0 → ⊥ = λ nothing. omega arith in
      carried (ap (λ (t : Refusal). deviation_answer t r) (refusal_stands figure (large_refusal r) refuses) ∙ deviation_refused figure r refuses) (omega arith)
]

module _ (s m count : ℕ) where
  pub allan_at_most : (allan_deviation_answer s m count).deviation ≤ 2 ^ 62
  unfolding allan_deviation_answer
  allan_at_most = at_most (figure_refusal s m count) (deviation s (allan_denominator m count))

  pub time_at_most : (time_deviation_answer s m count).deviation ≤ 2 ^ 62
  unfolding time_deviation_answer
  time_at_most = at_most (figure_refusal s m count) (deviation s (time_denominator m count))

-- ---- a count of 0 gives too few

module _ (s m : ℕ) (least : 1 ≤ m) (most : m ≤ 10922) where
  count_nought : figure_refusal s m 0 ≡ refused 1 0
  unfolding figure_refusal
  count_nought = rw (le-leb 1 m least, le-leb m 10922 most)

  some_refusal : (figure_refusal s m 0).number ≡ 0 → ⊥
  some_refusal nothing = omega (arith, ap (λ (r : Refusal). r.number) count_nought)

  pub allan_too_few : dot_answer (allan_deviation_answer s m 0) ≡ given_dot TooFew
  allan_too_few = ap dot_answer (allan_deviation_refused s m 0 some_refusal ∙ ap no_deviation count_nought) ∙ too_few_dot (no_deviation (refused 1 0)) refl

  pub time_too_few : dot_answer (time_deviation_answer s m 0) ≡ given_dot TooFew
  time_too_few = ap dot_answer (time_deviation_refused s m 0 some_refusal ∙ ap no_deviation count_nought) ∙ too_few_dot (no_deviation (refused 1 0)) refl
