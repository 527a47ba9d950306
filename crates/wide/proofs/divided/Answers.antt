-- `wide::divided` meets its contract: the high half by the machine, and its remainder before the low half.
use Rattle.std.proofs.Common.{rules, arith}
use Rattle.wide.specs.Wide.{division_of}
use Rattle.wide.proofs.Divisions.{division_by_halves}
use Rattle.wide.proofs.divided.Goals as goal

pub returns-then-d-eq0 : goal.returns-then-d-eq0
unfolding division_of
returns-then-d-eq0 c = search rules

pub returns : goal.returns
returns c =
    let low = c.low_word-low in
    division_by_halves c.args.a c.args.d (omega arith) (omega arith) low.ensures.0 low.ensures.1
