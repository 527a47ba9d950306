-- An answer's dot by its case, a type's alpha, and bars by alpha, as C has them.
use mathlib.Core.Path.{◌≡◌, refl, sym, ap}
use Prim.Native.Nat.{ℕ, zero, suc}
use native.Mathlib.Omega.{arith}
use lib.IntN.{ℤ, pos, negsuc}
use mir.Syntax.{w64}
use mir.Val.{SFits}
use Rattle.plot.specs.Dots.{dot_value}
use Rattle.noise.specs.Noise.{alpha_of}
use Rattle.noise.specs.Bars.{bars_answer}
use Rattle.plot.specs.declared.dots.Dot.{Dot}
use Rattle.plot.specs.declared.dots.DotAnswer.{DotAnswer}
use Rattle.noise.specs.declared.Noise.{Noise}
use Rattle.noise.specs.declared.Noise.TheVariants.{WhitePhase, FlickerPhase, WhiteFrequency, FlickerFrequency, RandomWalkFrequency}
use Rattle.ploegelster.specs.Boundary.{dot_kind, told_dot, no_such_type, bars_by_alpha}
use Rattle.ploegelster.specs.declared.drawing.ToldDot.{ToldDot}

-- a dot that is known is told by its kind and value
abbrev told : DotAnswer → Dot → ToldDot
told a d = record { number = a.number; place = a.place; kind = dot_kind d; value = dot_value d }

pub known_dot_told : (a : DotAnswer) (d : Dot) → a.dot ≡ d → told a d ≡ told_dot a
unfolding told_dot
known_dot_told a d e = sym (ap (told a) e)

-- an alpha fits a word
pub alpha_fits : (t : Noise) → SFits w64 (alpha_of t)
unfolding alpha_of
alpha_fits WhitePhase = record { sfits = omega arith }
alpha_fits FlickerPhase = record { sfits = omega arith }
alpha_fits WhiteFrequency = record { sfits = omega arith }
alpha_fits FlickerFrequency = record { sfits = omega arith }
alpha_fits RandomWalkFrequency = record { sfits = omega arith }

-- ---- bars by alpha are bars by type

-- the alpha of a type stands for it
pub type_by_alpha : (r : ℕ) (t : Noise) (m : ℕ) → bars_by_alpha r (alpha_of t) m ≡ bars_answer r t m
unfolding bars_by_alpha alpha_of
type_by_alpha r WhitePhase m = refl
type_by_alpha r FlickerPhase m = refl
type_by_alpha r WhiteFrequency m = refl
type_by_alpha r FlickerFrequency m = refl
type_by_alpha r RandomWalkFrequency m = refl

-- an alpha that no type has is told so
pub no_alpha : (r : ℕ) (alpha : ℤ) (m : ℕ) → ((t : Noise) → alpha ≡ alpha_of t → ⊥) → bars_by_alpha r alpha m ≡ no_such_type
unfolding bars_by_alpha alpha_of
no_alpha r (pos zero) m none = absurd (none WhiteFrequency refl)
no_alpha r (pos (suc zero)) m none = absurd (none FlickerPhase refl)
no_alpha r (pos (suc (suc zero))) m none = absurd (none WhitePhase refl)
no_alpha r (pos (suc (suc (suc n)))) m none = refl
no_alpha r (negsuc zero) m none = absurd (none FlickerFrequency refl)
no_alpha r (negsuc (suc zero)) m none = absurd (none RandomWalkFrequency refl)
no_alpha r (negsuc (suc (suc n))) m none = refl

-- which is refused 3 at place 0
pub alpha_of_none : (r : ℕ) (alpha : ℤ) (m : ℕ) → ((t : Noise) → alpha ≡ alpha_of t → ⊥) →
    ((bars_by_alpha r alpha m).number ≡ 3) × ((bars_by_alpha r alpha m).place ≡ 0)
unfolding no_such_type
alpha_of_none r alpha m none = rw (no_alpha r alpha m none) (refl, refl)
