-- `ploegelster::drawing::plg_bars` meets its contract.
use Rattle.std.proofs.Common.{sym, ◌∙◌, w64}
use mir.Facts.{to_z-of_z}
use Rattle.ploegelster.specs.Boundary.{no_such_type}
use Rattle.ploegelster.proofs.Told.{type_by_alpha, no_alpha}
use Rattle.ploegelster.proofs.drawing.plg_bars.Goals as goal

pub returns-in-Ok : goal.returns-in-Ok
returns-in-Ok c =
    let alpha = rw (to_z-of_z {w = w64} c.ranges.alpha) at c.in-Ok.ensures in
    c.bars.ensures ∙ sym (rw alpha at (type_by_alpha c.args.r c.in-Ok.noise c.args.intervals))

pub returns-in-Err : goal.returns-in-Err
unfolding no_such_type
returns-in-Err c =
    (rw c.at.ensures at c.from.ensures) ∙ sym (no_alpha _ c.args.alpha _ (λ t is. c.in-Err.ensures.1 t (sym is ∙ sym (to_z-of_z {w = w64} c.ranges.alpha))))
