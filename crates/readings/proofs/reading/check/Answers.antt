-- `readings::reading::check` meets its contract.
use mathlib.Core.Path.{sym, subst, ◌∙◌}
use native.Mathlib.Omega.{arith}
use lib.Dec.{T}
use lib.Ieee.{binary64, fits}
use Rattle.readings.proofs.ReadingLaws.{nan_is_four, not_nan_is_number}
use Rattle.readings.proofs.BitLaws.{bits_beyond, bits_within}
use Rattle.readings.proofs.reading.check.Goals as goal
use Rattle.readings.proofs.reading.check.Goals.{Start}

-- the format holds what an `f64` has
held : (c : Start) → T (fits binary64 c.args.x)
held c = subst T (sym c.well_formed.0.1) tt

pub returns-then-is_nan : goal.returns-then-is_nan
returns-then-is_nan c = sym (nan_is_four _ (sym c.is_nan.ensures.value ∙ c.if-is_nan.true))

pub returns-then-x-gt-END : goal.returns-then-x-gt-END
returns-then-x-gt-END c =
    let number = not_nan_is_number _ (sym c.is_nan.ensures.value ∙ c.if-is_nan.false) in
    sym (bits_beyond _ (held (goal.at.returns-then-x-gt-END c).Start) number (omega arith))

pub returns : goal.returns
returns c = sym (bits_within _ (held (goal.at.returns c).Start) (omega arith))
