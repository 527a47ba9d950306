-- `record::check_size` meets its contract.
use Rattle.std.proofs.Common.{sym, arith}
use Rattle.record.proofs.RefusalLaws.{factor_nought, factor_too_large, too_many, too_few, fewest_below, sized_none}
use Rattle.record.proofs.check_size.Goals as goal

pub returns-then-m-lt1 : goal.returns-then-m-lt1
returns-then-m-lt1 c = rw c.at.ensures (sym (factor_nought _ _ _ (omega arith)))

pub returns-then-largest-m : goal.returns-then-largest-m
returns-then-largest-m c = rw c.at-then-largest-m.ensures (sym (factor_too_large _ _ _ (omega arith)))

pub returns-then-n-gt-MOST_SAMPLES : goal.returns-then-n-gt-MOST_SAMPLES
returns-then-n-gt-MOST_SAMPLES c = rw c.at-then-n-gt-MOST_SAMPLES.ensures (sym (too_many _ _ _ (omega arith) (omega arith) (omega arith)))

pub overflow_mul-demand : goal.overflow_mul-demand
overflow_mul-demand c =
    let a = c.args in
    omega (arith, fewest_below a.demand.each a.m a.demand.besides (omega arith) (omega arith) (omega arith))

pub overflow_add-demand : goal.overflow_add-demand
overflow_add-demand c =
    let a = c.args in
    omega (arith, fewest_below a.demand.each a.m a.demand.besides (omega arith) (omega arith) (omega arith))

pub returns-then-n-demand : goal.returns-then-n-demand
returns-then-n-demand c = rw c.at-then-n-demand.ensures (sym (too_few _ _ _ (omega arith) (omega arith) (omega arith) (omega arith)))

pub returns : goal.returns
returns c = sym (sized_none _ _ _ (record { factor_least = omega arith; factor_most = omega arith; not_too_many = omega arith; enough = omega arith }))
