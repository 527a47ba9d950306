-- `wide::three_words::times` meets its contract.
use Rattle.std.proofs.Common.{arith}
use Rattle.wide.proofs.ThreeWordLaws.{three_words_of_product}
use Rattle.wide.proofs.three_words.times.Goals as goal

pub returns : goal.returns
returns c =
    let x = c.args in
    three_words_of_product x.a c.product.result c.product-low.result c.from.result c.sum-upper.result x.y
    (omega (arith, c.well_formed)) (omega (arith, c.well_formed)) (omega (arith, c.well_formed))
    c.product.ensures c.product-low.ensures c.from.ensures c.sum-upper.ensures
