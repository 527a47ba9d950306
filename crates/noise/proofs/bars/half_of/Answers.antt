-- `noise::bars::half_of` meets its contract: there is a quotient by a number of intervals, and its root is the half.
use Rattle.std.proofs.Common.{refl, sym, ◌∙◌}
use Rattle.wide.specs.Wide.{value}
use Rattle.wide.proofs.Divisions.{division_given}
use Rattle.noise.proofs.BarLaws.{half_of_words}
use Rattle.noise.proofs.bars.half_of.Goals as goal

pub unwrap-requires : goal.unwrap-requires
unwrap-requires c = rw (c.divided.ensures, division_given (value c.product-square.result) c.args.intervals c.requires) refl

pub returns : goal.returns
returns c = half_of_words c.args.width c.args.intervals c.requires c.product-square.ensures (sym c.divided.ensures ∙ c.unwrap.ensures) c.root.ensures
