-- `readings::reading::sample_of` meets its contract.
use mathlib.Core.Path.{sym, subst}
use native.Mathlib.Omega.{arith}
use lib.Dec.{T}
use lib.IntN.{pos}
use lib.Ieee.{binary64, fits}
use mir.Syntax.{w64}
use Rattle.laws.proofs.Expressions.{◌∋◌, ⊝◌}
use Rattle.laws.proofs.Machine.{operation_fits}
use Rattle.readings.proofs.BitLaws.{is_number, fields_in_range, size_fits, negated_fits, above_nought, below_nought}
use Rattle.readings.proofs.reading.sample_of.Goals as goal
use Rattle.readings.proofs.reading.sample_of.Goals.{Start}

-- the format holds what an `f64` has
held : (c : Start) → T (fits binary64 c.args.x)
held c = subst T (sym c.well_formed.0.1) tt

pub float_to_bits-bits : goal.float_to_bits-bits
float_to_bits-bits c = is_number _ (held (goal.at.float_to_bits-bits c).Start) c.requires

pub nearest-size-requires : goal.nearest-size-requires
nearest-size-requires c = fields_in_range _ (held (goal.at.nearest-size-requires c).Start) c.requires

pub overflow_cast-size : goal.overflow_cast-size
overflow_cast-size c = size_fits _ (held (goal.at.overflow_cast-size c).Start) c.requires c.nearest-size.result c.nearest-size.ensures

pub returns-then-bits-lt-SIGN : goal.returns-then-bits-lt-SIGN
returns-then-bits-lt-SIGN c = above_nought _ (held (goal.at.returns-then-bits-lt-SIGN c).Start) c.requires c.nearest-size.result c.nearest-size.ensures (omega arith)

pub overflow_sub-result : goal.overflow_sub-result
overflow_sub-result c =
    let r = c.nearest-size.result in
    operation_fits w64 (⊝ (r ∋ pos r)) (negated_fits _ (held (goal.at.overflow_sub-result c).Start) c.requires r c.nearest-size.ensures)

pub returns : goal.returns
returns c = below_nought _ (held (goal.at.returns c).Start) c.requires c.nearest-size.result c.nearest-size.ensures (omega arith)
