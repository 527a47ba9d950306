-- The house rule and the two tables: kappa of a type, the row of a bound, the answers refused and given, and that scaling both deviations leaves
-- the type as it is.
use mathlib.Core.Path.{◌≡◌, refl, sym, ap, ◌∙◌}
use mathlib.Core.Bool.{Bool, true, false, cond, not}
use mathlib.Core.List.{List, [], ◌∷◌}
use Rattle.std.proofs.Common.{Result, Ok, Err}
use Prim.Native.Nat.{ℕ, zero, suc, ◌+◌, ◌*◌, ◌^◌, ◌≤◌, ◌<◌}
use native.Mathlib.Nat.{mul_assoc, mul_left_comm, mul-le-mul_left, le_of_mul-le-mul_left}
use native.Mathlib.Omega.{arith}
use borrow.Author.Tests.{eq-eqb, ne_eqb, le-leb, lt-leb, leb-true}
use lib.Dec.{leb}
use lib.IntN.{ℤ, pos, nat_abs, ◌-ℤ◌}
use lib.ListN.{get_or, drop}
use Rattle.laws.specs.Lists.{first_failing}
use Rattle.laws.proofs.ListLaws.{search_goes_on, search_ends_here, search_ends}
use Rattle.laws.proofs.Tests.{choice_true, choice_false, second_fails, tests_agree, negation_true, negation_false}
use Rattle.wide.specs.Wide.{value, halves}
use Rattle.wide.specs.declared.Wide.{Wide}
use Rattle.wide.proofs.WideLaws.{value_of_halves, at_most_of_halves}
use Rattle.record.specs.Refusals.{none, refused, record_refusal}
use Rattle.record.specs.declared.Refusal.{Refusal}
use Rattle.record.specs.declared.Demand.{Demand}
use Rattle.record.specs.Told.{number_of}
use Rattle.record.specs.declared.grounds.Refused.{Refused}
use Rattle.record.proofs.ToldLaws.{refuses, refuses_nothing}
use Rattle.record.proofs.RefusalLaws.{Sound, sound_none, none_sound, refusal_stands, none_gives_way}
use Rattle.sums.specs.Published.{modified_sum, modified_count, time_denominator}
use Rattle.sums.specs.Answers.{modified_demand, modified_sum_answer}
use Rattle.variances.specs.Answers.{time_deviation_answer}
use Rattle.sums.specs.declared.Sum.{Sum}
use Rattle.sums.specs.Told.{sum_told}
use Rattle.sums.proofs.Unique.{same_sum}
use Rattle.variances.specs.Deviations.{deviation}
use Rattle.variances.specs.Told.{deviation_told}
use Rattle.variances.proofs.Unique.{same_deviation}
use Rattle.sums.proofs.AnswerLaws.{modified_sum_given}
use Rattle.variances.proofs.AnswerLaws.{time_deviation_given}
use Rattle.variances.proofs.Bounds.{modified_allowed, time_deviation_within}
use Rattle.noise.specs.Noise.{alpha_of, kappa_of, noise_of, noise_refusal, noise_answer, type_answer, time_deviation, record_type_answer}
use Rattle.noise.specs.Told.{noise_told}
use Rattle.noise.specs.declared.Noise.{Noise}
use Rattle.noise.specs.declared.Noise.TheVariants.{WhitePhase, FlickerPhase, WhiteFrequency, FlickerFrequency, RandomWalkFrequency}
use Rattle.noise.specs.declared.NoiseAnswer.{NoiseAnswer}

-- ---- the types in their order

-- the place of a type in the table, whose alpha falls from 2 by one a row
abbrev pub index_of : Noise → ℕ
index_of t = nat_abs (pos 2 -ℤ alpha_of t)

-- the type at a place
unfoldable type_at : ℕ → Noise
type_at zero = WhitePhase
type_at (suc zero) = FlickerPhase
type_at (suc (suc zero)) = WhiteFrequency
type_at (suc (suc (suc zero))) = FlickerFrequency
type_at (suc (suc (suc (suc i)))) = RandomWalkFrequency

type_of_index : (t : Noise) → type_at (index_of t) ≡ t
unfolding type_at alpha_of
type_of_index WhitePhase = refl
type_of_index FlickerPhase = refl
type_of_index WhiteFrequency = refl
type_of_index FlickerFrequency = refl
type_of_index RandomWalkFrequency = refl

-- each place has one type
pub one_type : {t t' : Noise} {i : ℕ} → i ≡ index_of t → i ≡ index_of t' → t ≡ t'
one_type {t} {t'} first second = sym (type_of_index t) ∙ ap type_at (sym first ∙ second) ∙ type_of_index t'

pub index_within : (t : Noise) → index_of t < 5
unfolding alpha_of
index_within WhitePhase = omega arith
index_within FlickerPhase = omega arith
index_within WhiteFrequency = omega arith
index_within FlickerFrequency = omega arith
index_within RandomWalkFrequency = omega arith

pub place_within : (t : Noise) {i : ℕ} → i ≡ index_of t → i ≤ 4
place_within t is = omega (arith, index_within t)

-- ---- the table of kappa

abbrev pub kappas : List ℕ
kappas = 99 ∷ 99 ∷ 87 ∷ 77 ∷ 75 ∷ []

pub kappa_at : (t : Noise) {i : ℕ} → i ≡ index_of t → get_or kappas i 0 ≡ kappa_of t
unfolding alpha_of kappa_of
kappa_at t is = ap (λ (i : ℕ). get_or kappas i 0) is ∙ by_type t
  where
    by_type : (t : Noise) → get_or kappas (index_of t) 0 ≡ kappa_of t
    by_type WhitePhase = refl
    by_type FlickerPhase = refl
    by_type WhiteFrequency = refl
    by_type FlickerFrequency = refl
    by_type RandomWalkFrequency = refl

-- ---- the table of bounds

abbrev pub bounds : List ℕ
bounds = 3444 ∷ 4871 ∷ 6889 ∷ 9742 ∷ []

-- the types but the last, each with its bound
abbrev pub rows : List (Noise × ℕ)
rows = (WhitePhase, 3444) ∷ (FlickerPhase, 4871) ∷ (WhiteFrequency, 6889) ∷ (FlickerFrequency, 9742) ∷ []

abbrev pub row : ℕ → Noise × ℕ
row i = get_or rows i (WhitePhase, 0)

row_bound : (i : ℕ) → (row i).1 ≡ get_or bounds i 0
row_bound zero = refl
row_bound (suc zero) = refl
row_bound (suc (suc zero)) = refl
row_bound (suc (suc (suc zero))) = refl
row_bound (suc (suc (suc (suc i)))) = refl

-- a row's place is its type's, and the last type's is past the rows
row_type : (t : Noise) {i : ℕ} → i < 4 → i ≡ index_of t → (row i).0 ≡ t
unfolding alpha_of
row_type WhitePhase below is = ap (λ (i : ℕ). (row i).0) is
row_type FlickerPhase below is = ap (λ (i : ℕ). (row i).0) is
row_type WhiteFrequency below is = ap (λ (i : ℕ). (row i).0) is
row_type FlickerFrequency below is = ap (λ (i : ℕ). (row i).0) is
row_type RandomWalkFrequency below is = absurd (omega arith)

last_type : (t : Noise) {i : ℕ} → i ≡ 4 → i ≡ index_of t → RandomWalkFrequency ≡ t
unfolding alpha_of
last_type WhitePhase past is = absurd (omega arith)
last_type FlickerPhase past is = absurd (omega arith)
last_type WhiteFrequency past is = absurd (omega arith)
last_type FlickerFrequency past is = absurd (omega arith)
last_type RandomWalkFrequency past is = refl

-- 4096 r2 is above r1 times a bound
abbrev pub above : ℕ → ℕ → ℕ → Bool
above r1 r2 bound = not (leb (4096 * r2) (r1 * bound))

-- the search for the first bound, at place i
abbrev pub SearchAt : ℕ → ℕ → ℕ → Type 0
SearchAt r1 r2 i = first_failing (above r1 r2) bounds ≡ i + first_failing (above r1 r2) (drop i bounds)

module _ (r1 r2 : ℕ) where
  -- the place of the first bound is that of the type by the house rule
  pub first_bound : first_failing (above r1 r2) bounds ≡ index_of (noise_of r1 r2)
  unfolding first_failing noise_of alpha_of
  first_bound = by_tests (leb (4096 * r2) (r1 * 3444)) (leb (4096 * r2) (r1 * 4871)) (leb (4096 * r2) (r1 * 6889)) (leb (4096 * r2) (r1 * 9742))
    where
      by_tests : (a b c d : Bool) →
          cond (not a) (suc (cond (not b) (suc (cond (not c) (suc (cond (not d) (suc 0) 0)) 0)) 0)) 0
          ≡ index_of (cond a WhitePhase (cond b FlickerPhase (cond c WhiteFrequency (cond d FlickerFrequency RandomWalkFrequency))))
      by_tests true b c d = refl
      by_tests false true c d = refl
      by_tests false false true d = refl
      by_tests false false false true = refl
      by_tests false false false false = refl

  -- the test of the halves at place i is the test of the row's bound
  module _ {ratio reach : Wide} {answer : Bool} (i : ℕ) (inside : i < 4) (ratio-is : ratio ≡ halves (4096 * r2)) (reach-is : reach ≡ halves (r1 * (row i).1))
      (answer-is : answer ≡ leb (value ratio) (value reach)) where
    answer_of_bound : answer ≡ leb (4096 * r2) (r1 * get_or bounds i 0)
    answer_of_bound =
        at_most_of_halves (4096 * r2) (value reach) ratio-is answer-is
        ∙ ap (λ (limit : ℕ). leb (4096 * r2) limit) (ap value reach-is ∙ value_of_halves (r1 * (row i).1) ∙ ap (λ (bound : ℕ). r1 * bound) (row_bound i))

    pub type_found : SearchAt r1 r2 i → answer ≡ true → (row i).0 ≡ noise_of r1 r2
    type_found so_far holds =
        row_type (noise_of r1 r2) inside
        (sym (search_ends_here (above r1 r2) 0 bounds i inside so_far (negation_false (sym answer_of_bound ∙ holds))) ∙ first_bound)

    pub bound_passed : SearchAt r1 r2 i → answer ≡ false → SearchAt r1 r2 (i + 1)
    bound_passed so_far fails = search_goes_on (above r1 r2) 0 bounds i inside so_far (negation_true (sym answer_of_bound ∙ fails))

  pub last_is_left : (i : ℕ) → i ≡ 4 → SearchAt r1 r2 i → RandomWalkFrequency ≡ noise_of r1 r2
  last_is_left i past so_far = last_type (noise_of r1 r2) past (past ∙ sym (search_ends (above r1 r2) bounds i past so_far) ∙ first_bound)

-- ---- the refusals of two deviations

module _ (r1 r2 : ℕ) where
  pub second_too_large : 2 ^ 62 < r2 → noise_refusal r1 r2 ≡ refused 3 0
  unfolding noise_refusal
  second_too_large h = simp (lt-leb r2 (2 ^ 62) h, second_fails (leb r1 (2 ^ 62)))

  pub first_too_large : 2 ^ 62 < r1 → noise_refusal r1 r2 ≡ refused 3 0
  unfolding noise_refusal
  first_too_large h = simp (lt-leb r1 (2 ^ 62) h)

  module _ (first : r1 ≤ 2 ^ 62) (second : r2 ≤ 2 ^ 62) where
    pub first_nought : r1 ≡ 0 → noise_refusal r1 r2 ≡ refused 8 0
    unfolding noise_refusal
    first_nought e = simp (le-leb r1 (2 ^ 62) first, le-leb r2 (2 ^ 62) second, eq-eqb r1 0 e)

    pub no_refusal : (r1 ≡ 0 → ⊥) → noise_refusal r1 r2 ≡ none
    unfolding noise_refusal
    no_refusal some = simp (le-leb r1 (2 ^ 62) first, le-leb r2 (2 ^ 62) second, ne_eqb r1 0 some)

-- ---- the answers

abbrev pub given_type : Noise → NoiseAnswer
given_type t = record { number = 0; place = 0; noise = t }

abbrev pub no_type : Refusal → NoiseAnswer
no_type r = record { number = r.number; place = r.place; noise = WhitePhase }

module _ (r : Refusal) (t : Noise) where
  pub noise_refused : (r.number ≡ 0 → ⊥) → noise_answer r t ≡ no_type r
  unfolding noise_answer
  noise_refused some = choice_false _ _ (ne_eqb r.number 0 some)

  pub noise_given : r.number ≡ 0 → noise_answer r t ≡ given_type t
  unfolding noise_answer
  noise_given nothing = choice_true _ _ (eq-eqb r.number 0 nothing)

-- an error, as it is told, is the answer where it is what refuses
pub noise_error : (e : Refused) {r : Refusal} (t : Noise) → refused (number_of e.why) e.place ≡ r → noise_told (Err e) ≡ noise_answer r t
noise_error e {r} t is = ap no_type is ∙ sym (noise_refused r t (refuses e is))

module _ (r1 r2 : ℕ) where
  pub type_error : (e : Refused) → refused (number_of e.why) e.place ≡ noise_refusal r1 r2 → noise_told (Err e) ≡ type_answer r1 r2
  unfolding type_answer
  type_error e is = noise_error e _ is

  pub type_given : none ≡ noise_refusal r1 r2 → {t : Noise} → t ≡ noise_of r1 r2 → given_type t ≡ type_answer r1 r2
  unfolding type_answer
  type_given is t-is = ap given_type t-is ∙ sym (noise_given _ _ (refuses_nothing is))

-- ---- a record

-- what the type of a record asks of it
abbrev pub noise_demand : Demand
noise_demand = record { largest = 5461; each = 6; besides = 0 }

module _ (m : ℕ) (xs : List ℤ) where
  -- a record that is sound for the type is sound for the modified sum at m and at 2m
  module _ (sound : Sound noise_demand m xs) where
    pub sound_at_factor : record_refusal modified_demand m xs ≡ none
    sound_at_factor =
        sound_none _ _ _ (record {
          factor_least = sound.factor_least;
          factor_most = omega (arith, sound.factor_most);
          not_too_many = sound.not_too_many;
          enough = omega (arith, sound.enough);
          in_range_lem = sound.in_range_lem;
          bounded = sound.bounded;
        })

    pub sound_at_double : record_refusal modified_demand (2 * m) xs ≡ none
    sound_at_double =
        sound_none _ _ _ (record {
          factor_least = omega (arith, sound.factor_least);
          factor_most = omega (arith, sound.factor_most);
          not_too_many = sound.not_too_many;
          enough = omega (arith, sound.enough);
          in_range_lem = sound.in_range_lem;
          bounded = sound.bounded;
        })

  abbrev pub sum_of : Sum
  sum_of = record { total = halves (modified_sum m xs); count = modified_count m xs }

  -- what a sound record's modified sum and its deviation are
  module _ (unrefused : record_refusal modified_demand m xs ≡ none) where
    pub sum_given : {x : Result Sum Refused} → sum_told x ≡ modified_sum_answer m xs → x ≡ Ok sum_of
    sum_given {x} is = same_sum x (Ok sum_of) (is ∙ modified_sum_given m xs (none_sound modified_demand m xs unrefused))

    pub deviation_given : {x : Result ℕ Refused} {sum : Sum} → sum ≡ sum_of → deviation_told x ≡ time_deviation_answer (value sum.total) m sum.count →
        x ≡ Ok (time_deviation m xs)
    unfolding time_deviation
    deviation_given {x} sum_is is =
        same_deviation x (Ok (deviation (modified_sum m xs) (time_denominator m (modified_count m xs))))
        (is
        ∙ ap (λ (s : Sum). time_deviation_answer (value s.total) m s.count) sum_is
        ∙ ap (λ (b : ℕ). time_deviation_answer b m (modified_count m xs)) (value_of_halves (modified_sum m xs))
        ∙ time_deviation_given _ _ _ (modified_allowed m xs unrefused) (time_deviation_within m xs unrefused))

  abbrev pub rest : Refusal
  rest = noise_refusal (time_deviation m xs) (time_deviation (2 * m) xs)

  abbrev pub type_of_both : Noise
  type_of_both = noise_of (time_deviation m xs) (time_deviation (2 * m) xs)

  pub record_error : (e : Refused) → refused (number_of e.why) e.place ≡ record_refusal noise_demand m xs → noise_told (Err e) ≡ record_type_answer m xs
  unfolding record_type_answer
  record_error e is = noise_error e type_of_both (is ∙ sym (refusal_stands _ rest (refuses e is)))

  pub record_given : none ≡ record_refusal noise_demand m xs → record_type_answer m xs ≡ type_answer (time_deviation m xs) (time_deviation (2 * m) xs)
  unfolding record_type_answer type_answer
  record_given is = ap (λ (r : Refusal). noise_answer r type_of_both) (none_gives_way _ rest (refuses_nothing is))

-- ---- a type depends on the ratio of the deviations alone

pub test_scales : (k a b : ℕ) → 0 < k → leb (k * a) (k * b) ≡ leb a b
test_scales k a b some =
    tests_agree (leb (k * a) (k * b)) (leb a b)
    (λ passes. le-leb a b (le_of_mul-le-mul_left (leb-true (k * a) (k * b) passes) some))
    (λ passes. le-leb (k * a) (k * b) (mul-le-mul_left k (leb-true a b passes)))

-- both deviations scaled by one whole number above nought: the same type
pub scaled_type : (k r1 r2 : ℕ) → 0 < k → noise_of (k * r1) (k * r2) ≡ noise_of r1 r2
unfolding noise_of
scaled_type k r1 r2 some = simp (bound_scales 3444, bound_scales 4871, bound_scales 6889, bound_scales 9742)
  where
    bound_scales : (bound : ℕ) → leb (4096 * (k * r2)) (k * r1 * bound) ≡ leb (4096 * r2) (r1 * bound)
    bound_scales bound = rw (mul_left_comm 4096 k r2, mul_assoc k r1 bound) (test_scales k (4096 * r2) (r1 * bound) some)
