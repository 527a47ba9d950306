-- `readings::reading::nearest` meets its contract.
use mathlib.Core.Path.{sym, ap, ◌∙◌}
use native.Mathlib.Omega.{arith}
use Rattle.laws.specs.Nearest.{with_sign}
use Rattle.readings.proofs.BitLaws.{small_sample, large_sample}
use Rattle.readings.proofs.reading.nearest.Goals as goal

pub returns-then-field-lt-FIELD_OF_A_HALF : goal.returns-then-field-lt-FIELD_OF_A_HALF
returns-then-field-lt-FIELD_OF_A_HALF c s = small_sample s _ _ c.requires.1 (omega arith)

pub returns : goal.returns
returns c s =
    large_sample s _ _ c.requires.1 _ (omega arith) (omega arith) ∙ ap (with_sign s) (sym c.rounded.ensures)
