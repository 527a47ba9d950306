-- What it means that a call is refused, and, where a value has parts, that it is nought beside the refusal. The place is part of the refusal: an index,
-- a byte offset, or 0.
use Rattle.std.specs.Prelude.{◌≡◌, List, [], ℕ, ℤ}
use Rattle.std.specs.Borrow.{Bor}
use Rattle.wide.specs.Wide.{value}
use Rattle.wide.specs.declared.Wide.{Wide}
use Rattle.sums.specs.declared.Part.{Part}
use Rattle.plot.specs.Drawn.{plus_zero}
use Rattle.plot.specs.Dots.{dot_number, dot_value}
use Rattle.plot.specs.declared.dots.Dot.{Dot}
use Rattle.plot.specs.declared.dots.Dot.TheVariants.{Nought}
use Rattle.noise.specs.declared.bars.BarsAnswer.{BarsAnswer}

-- a call is refused where the answer's number is any but 0
abbrev pub Refused : ℕ → Type 0
Refused number = number ≡ 0 → ⊥

-- a slice that is handed back is one of the two that were lent, or the empty part of the first: it lies where the first begins and holds nothing
pub data OneOf (first second : Bor (List ℤ)) : Bor (List ℤ) → Type 0 where
  the_first : OneOf first second first
  the_second : OneOf first second second
  empty : {z : Bor (List ℤ)} → z.ref_ptr ≡ first.ref_ptr → z.now ≡ [] → OneOf first second z

-- a sum and its count, or a fraction; a number in two halves is nought where both halves are
abbrev pub SumNought : Wide → ℕ → Type 0
SumNought sum count = (value sum ≡ 0) × (count ≡ 0)

-- both parts of an answer that is refused as a whole, and the values of a part that alone is refused 1
abbrev pub PartsNought : Part → Part → Type 0
PartsNought a b = ((a.number ≡ 0) × SumNought a.sum a.count) × ((b.number ≡ 0) × SumNought b.sum b.count)

abbrev pub PartsApart : Part → Part → Type 0
PartsApart a b = (Refused a.number → SumNought a.sum a.count) × (Refused b.number → SumNought b.sum b.count)

-- the dot is nought, and the number and the value that it stands for are noughts; the nought of a double is plus zero
abbrev pub DotNought : Dot → Type 0
DotNought d = (d ≡ Nought) × (dot_number d ≡ 0) × (dot_value d ≡ plus_zero)

abbrev pub BarsNought : BarsAnswer → Type 0
BarsNought z = (z.bar.low ≡ plus_zero) × (z.bar.mid ≡ plus_zero) × (z.bar.high ≡ plus_zero)
