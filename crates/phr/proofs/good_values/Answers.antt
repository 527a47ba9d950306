-- `phr::good_values` meets its contract.
use Rattle.std.proofs.Common.{◌/◌, Bool, length, ℤ, sym, ap, ◌∙◌}
use Rattle.laws.specs.Lists.{first_failing}
use Rattle.phr.specs.Bytes.{values_from}
use Rattle.phr.proofs.KindLaws.{range_but_nought}
use Rattle.phr.proofs.good_values.Goals as goal

pub returns : goal.returns
returns c =
    let bytes = c.args.bytes.now in
    c.good-2.ensures ∙ ap (λ (good : ℤ → Bool). first_failing good (values_from 0 (length bytes / 8) bytes)) (sym (range_but_nought c.args.kind c.if-kind-eq0.false))
