-- Noise types: the table of the rules, and the house rule.
use Rattle.std.specs.Prelude.{cond, not, ◌&&◌, List, ℕ, ◌*◌, ◌^◌, leb, eqb, ℤ, pos, negsuc, ◌≡◌, ◌≢◌, Result, MatchResult}
use Rattle.record.specs.Refusals.{refused_if, ◌then◌, record_refusal}
use Rattle.record.specs.declared.Refusal.{Refusal}
use Rattle.sums.specs.Published.{modified_sum, modified_count, time_denominator}
use Rattle.variances.specs.Deviations.{deviation}
use Rattle.noise.specs.declared.Noise.{Noise}
use Rattle.noise.specs.declared.Noise.TheVariants.{WhitePhase, FlickerPhase, WhiteFrequency, FlickerFrequency, RandomWalkFrequency}
use Rattle.noise.specs.declared.NoiseAnswer.{NoiseAnswer}
use Rattle.noise.specs.declared.UnknownAlpha.{UnknownAlpha}

-- alpha
unfoldable pub alpha_of : Noise → ℤ
alpha_of WhitePhase = pos 2
alpha_of FlickerPhase = pos 1
alpha_of WhiteFrequency = pos 0
alpha_of FlickerFrequency = negsuc 0
alpha_of RandomWalkFrequency = negsuc 1

-- the result is the type that has this alpha, or an error with an alpha that no type has
abbrev pub HasAlpha : ℤ → Result Noise UnknownAlpha → Type 0
HasAlpha alpha r = MatchResult r (λ t. alpha_of t ≡ alpha) (λ e. (e.0 ≡ alpha) × ((t : Noise) → alpha_of t ≢ alpha))

-- kappa in hundredths, from the definitions paper
unfoldable pub kappa_of : Noise → ℕ
kappa_of WhitePhase = 99
kappa_of FlickerPhase = 99
kappa_of WhiteFrequency = 87
kappa_of FlickerFrequency = 77
kappa_of RandomWalkFrequency = 75

-- house rule, r1 and r2 the time deviations at m and 2m: 4096 r2 against r1 times a bound
unfoldable pub noise_of : ℕ → ℕ → Noise
noise_of r1 r2 =
    cond (leb (4096 * r2) (r1 * 3444)) WhitePhase
    (cond (leb (4096 * r2) (r1 * 4871)) FlickerPhase
    (cond (leb (4096 * r2) (r1 * 6889)) WhiteFrequency
    (cond (leb (4096 * r2) (r1 * 9742)) FlickerFrequency
    RandomWalkFrequency)))

-- 3 for an input above 2^62, then 8 for r1 = 0
unfoldable pub noise_refusal : ℕ → ℕ → Refusal
noise_refusal r1 r2 = refused_if (not (leb r1 (2 ^ 62) && leb r2 (2 ^ 62))) 3 0 then refused_if (eqb r1 0) 8 0

-- a type, or the refusal beside the first type of the table
unfoldable pub noise_answer : Refusal → Noise → NoiseAnswer
noise_answer r t =
    cond (eqb r.number 0) (record { number = 0; place = 0; noise = t }) (record { number = r.number; place = r.place; noise = WhitePhase })

-- what an answer tells: the type's alpha; beside a refusal nought
unfoldable pub told_alpha : NoiseAnswer → ℤ
told_alpha a = cond (eqb a.number 0) (alpha_of a.noise) (pos 0)

-- from two time deviations
unfoldable pub type_answer : ℕ → ℕ → NoiseAnswer
type_answer r1 r2 = noise_answer (noise_refusal r1 r2) (noise_of r1 r2)

-- the time deviation of a record at factor m
unfoldable pub time_deviation : ℕ → List ℤ → ℕ
time_deviation m xs = deviation (modified_sum m xs) (time_denominator m (modified_count m xs))

-- from a record: m from 1 to 5,461 and N at least 6m
unfoldable pub record_type_answer : ℕ → List ℤ → NoiseAnswer
record_type_answer m xs =
    let r1 : ℕ = time_deviation m xs in let r2 : ℕ = time_deviation (2 * m) xs in
    noise_answer (record_refusal (record { largest = 5461; each = 6; besides = 0 }) m xs then noise_refusal r1 r2) (noise_of r1 r2)
