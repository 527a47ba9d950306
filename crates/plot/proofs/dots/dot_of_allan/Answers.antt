-- `plot::dots::dot_of_allan` meets its contract.
use Rattle.std.proofs.Common.{ap, ◌∙◌}
use Rattle.plot.specs.Dots.{dot_answer}
use Rattle.plot.proofs.DotLaws.{allan_at_most}
use Rattle.plot.proofs.dots.dot_of_allan.Goals as goal

pub dot_of-requires : goal.dot_of-requires
dot_of-requires c = rw c.allan_root.ensures (allan_at_most _ _ _)

pub returns : goal.returns
returns c = c.dot_of.ensures ∙ ap dot_answer c.allan_root.ensures
