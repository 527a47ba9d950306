-- `readings::reading::counted` meets its contract.
use mathlib.Core.Path.{◌≡◌, refl, sym, subst, ap, ◌∙◌}
use mathlib.Core.Bool.{Bool, true, false, cond}
use Prim.Native.Nat.{ℕ}
use lib.Dec.{T}
use lib.Ieee.{binary64, fits}
use mir.Val.{bool_byte}
use Rattle.readings.specs.Readings.{has_fraction}
use Rattle.readings.proofs.BitLaws.{by_fields, is_number, fields_in_range}
use Rattle.readings.proofs.reading.counted.Goals as goal
use Rattle.readings.proofs.reading.counted.Goals.{After-has_fraction, Start}

-- the format holds what an `f64` has
held : (c : Start) → T (fits binary64 c.args.x)
held c = subst T (sym c.well_formed.0.1) tt

-- the test's result is the definition's
tested : (c : After-has_fraction) → has_fraction c.args.x ≡ c.has_fraction.result
tested c = ap has_fraction (by_fields _ (held c.before)) ∙ c.has_fraction.ensures _

pub float_to_bits-bits : goal.float_to_bits-bits
float_to_bits-bits c = is_number _ (held (goal.at.float_to_bits-bits c).Start) c.requires

pub has_fraction-requires : goal.has_fraction-requires
has_fraction-requires c = fields_in_range _ (held (goal.at.has_fraction-requires c).Start) c.requires

-- a test told as 1 or 0
told : (t : Bool) → bool_byte t ≡ cond t 1 0
told true = refl
told false = refl

pub returns : goal.returns
returns c = c.from.ensures ∙ told _ ∙ sym (ap (λ (t : Bool). cond {A = ℕ} t 1 0) (tested (goal.at.returns c).After-has_fraction))
