-- `plot::dots::of_units` meets its contract.
use Rattle.std.proofs.Common.{sym, ap, ◌∙◌, refl}
use lib.Ieee.{Float}
use Rattle.plot.specs.declared.dots.Dot.TheVariants.{Drawn}
use Rattle.plot.proofs.DotLaws.{given_dot, nought_dot, drawn_dot}
use Rattle.plot.proofs.dots.of_units.Goals as goal

pub returns-then-r-eq0 : goal.returns-then-r-eq0
returns-then-r-eq0 c = sym (nought_dot _ refl c.if-r-eq0.true)

pub returns : goal.returns
returns c = ap (λ (x : Float). given_dot (Drawn x)) c.draw.ensures ∙ sym (drawn_dot _ refl c.if-r-eq0.false)
