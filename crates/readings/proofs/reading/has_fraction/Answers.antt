-- `readings::reading::has_fraction` meets its contract.
use mathlib.Core.Path.{sym, ap, ◌∙◌}
use mathlib.Core.Bool.{not}
use Prim.Native.Nat.{ℕ}
use native.Mathlib.Omega.{arith}
use lib.Dec.{eqb}
use lib.Pow.{pow_pos}
use Rattle.readings.proofs.BitLaws.{small_fraction, large_fraction}
use Rattle.readings.proofs.reading.has_fraction.Goals as goal

pub returns-then-field-lt-FIELD_OF_A_HALF : goal.returns-then-field-lt-FIELD_OF_A_HALF
returns-then-field-lt-FIELD_OF_A_HALF c s = small_fraction s _ _ c.requires.1 (omega arith)

pub returns : goal.returns
returns c s =
    large_fraction s _ _ c.requires.1 _ (omega arith) (omega arith) (pow_pos _) ∙ ap (λ (n : ℕ). not (eqb n 0)) (sym c.rest.ensures)
