-- `noise::bars::draw` meets its contract: a number in range is drawn.
use Rattle.std.proofs.Common.{◌≡◌, Ok, refl, ◌∙◌}
use Rattle.plot.specs.Drawn.{drawn_number}
use Rattle.plot.proofs.DrawnLaws.{drawn_given}
use Rattle.plot.proofs.Unique.{same_drawn}
use Rattle.noise.proofs.bars.draw.Goals as goal
use Rattle.noise.proofs.bars.draw.Goals.{After-number}

drawn : (c : After-number) → c.number.result ≡ Ok (drawn_number c.args.r)
drawn c = same_drawn c.number.result (Ok (drawn_number c.args.r)) (c.number.ensures ∙ drawn_given _ c.requires.0 c.requires.1)

pub unwrap-requires : goal.unwrap-requires
unwrap-requires c = rw (drawn (goal.at.unwrap-requires c).After-number) refl

pub returns : goal.returns
returns c = cc (drawn (goal.at.returns c).After-number)
