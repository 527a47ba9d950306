-- The contract of spelled leaves one answer and one content of the lent array.
use mathlib.Core.Path.{◌≡◌, sym, ap, ◌∙◌}
use mathlib.Core.List.{◌++◌}
use Prim.Native.Nat.{ℕ}
use lib.ListN.{take}
use Rattle.laws.specs.Single.{Single}
use Rattle.wide.specs.Wide.{value}
use Rattle.decimal.specs.Decimal.{decimal}
use Rattle.decimal.proofs.spelled.Reads as spelled
use Rattle.decimal.proofs.spelled.Kinds as spelled-kinds

pub spelled_single : Single 1 spelled-kinds.ps spelled-kinds.r spelled.Post
spelled_single κs args z z' w w' first second =
    let same : z ≡ z' = first.0 ∙ sym second.0 in
    (same, λ i. (tt, ((first.1 ∙ ap (λ (n : ℕ). take n args.1.0.now ++ decimal (value args.0)) same ∙ sym second.1) i, tt)))
