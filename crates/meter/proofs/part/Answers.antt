-- `meter::part` meets its contract.
use native.Mathlib.Omega.{arith}
use Rattle.meter.proofs.AnswerLaws.{part_given, part_refused}
use Rattle.meter.proofs.part.Goals as goal

pub returns-then-count-lt1 : goal.returns-then-count-lt1
returns-then-count-lt1 c = part_refused c.args.total c.args.count (omega arith)

pub returns : goal.returns
returns c = part_given c.args.total c.args.count (omega arith) (omega (arith, c.well_formed))
