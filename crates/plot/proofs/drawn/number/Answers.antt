-- `plot::drawn::number` meets its contract.
use Rattle.std.proofs.Common.{inl, inr, sym, ap, ◌∙◌, arith}
use Rattle.plot.proofs.DrawnLaws.{given_number, nought_refused, above_refused, drawn_given}
use Rattle.plot.proofs.drawn.number.Goals as goal

pub returns-then-r-lt1 : goal.returns-then-r-lt1
returns-then-r-lt1 c =
    rw c.at.ensures (sym (elim c.then-r-lt1.either [ inl nought ↦ nought_refused _ (omega arith) | inr above ↦ above_refused _ (omega arith) ]))

pub returns : goal.returns
returns c = ap given_number c.draw.ensures ∙ sym (drawn_given _ (omega arith) (omega arith))
