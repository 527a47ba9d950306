-- `sums::squares::joined` meets its contract.
use native.Mathlib.Omega.{arith}
use Rattle.sums.proofs.SquareLaws.{parts_joined}
use Rattle.sums.proofs.squares.joined.Goals as goal

pub returns : goal.returns
returns c =
    let p = c.args.parts in
    parts_joined p.high p.cross p.low (omega arith) (omega arith) (omega arith)
    c.product.ensures c.product-2.ensures c.sum-upper.ensures c.from.ensures c.sum.ensures
