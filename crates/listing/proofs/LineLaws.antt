-- The lines that have words in them, piece by piece.
use mathlib.Core.Path.{◌≡◌}
use mathlib.Core.List.{[], ◌∷◌, ◌++◌, append_assoc}
use Prim.Native.Nat.{ℕ}
use Rattle.record.specs.Refusals.{refused}
use Rattle.decimal.specs.Decimal.{decimal}
use Rattle.listing.specs.Columns.{line}
use Rattle.listing.specs.Sheet.{refused_line, total_line}
use Rattle.listing.specs.declared.Totals.{Totals}

pub refused_line_is : (number place : ℕ) →
    (0x72 ∷ 0x65 ∷ 0x66 ∷ 0x75 ∷ 0x73 ∷ 0x65 ∷ 0x64 ∷ 0x20 ∷ []) ++ ((decimal number ++ (0x20 ∷ [])) ++ ((0x61 ∷ 0x74 ∷ 0x20 ∷ []) ++ (decimal place ++ (0x0A ∷ [])))) ≡ refused_line (refused number place)
unfolding refused_line line
refused_line_is number place = simp append_assoc

pub total_line_is : (t : Totals) → (0x74 ∷ 0x6F ∷ 0x74 ∷ 0x61 ∷ 0x6C ∷ 0x20 ∷ []) ++ ((decimal t.k ++ (0x20 ∷ [])) ++ (decimal t.c ++ (0x0A ∷ []))) ≡ total_line t
unfolding total_line line
total_line_is t = simp append_assoc
