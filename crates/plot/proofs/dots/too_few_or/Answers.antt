-- `plot::dots::too_few_or` meets its contract.
use Rattle.std.proofs.Common.{sym, ap}
use Rattle.record.specs.Told.{number_of}
use Rattle.record.specs.declared.grounds.Ground.TheVariants.{TooFew}
use Rattle.record.proofs.ToldLaws.{answered_not, same_number}
use Rattle.plot.proofs.DotLaws.{too_few_dot, refused_dot}
use Rattle.plot.proofs.dots.too_few_or.Goals as goal

pub returns-in-TooFew : goal.returns-in-TooFew
returns-in-TooFew c = sym (too_few_dot _ (ap number_of c.in-TooFew.is))

pub returns-in_default : goal.returns-in_default
returns-in_default c = sym (refused_dot _ (answered_not c.args.refused) (λ few. c.in_default.not-TooFew (same_number c.args.refused.why TooFew few)))
