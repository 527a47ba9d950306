-- `compare::compared` meets its contract.
use mathlib.Core.Path.{◌≡◌, refl}
use mathlib.Core.Bool.{cond}
use Prim.Native.Nat.{ℕ}
use Rattle.std.proofs.lemmas.Result.{err_from_is_err_and}
use Rattle.record.proofs.ToldLaws.{answered_not}
use Rattle.compare.specs.Quieter.{quieter_answer}
use Rattle.compare.proofs.QuieterLaws.{first_refused, second_refused, sums_within, record_chosen}
use Rattle.compare.proofs.compared.Goals as goal
use Rattle.compare.proofs.compared.Goals.{After-not_above}

-- what is answered by the test
chosen : (c : After-not_above) (which : ℕ) → cond c.not_above.result 1 2 ≡ which →
    record { number = 0; place = 0; which = which } ≡ quieter_answer c.args.m c.args.first.now c.args.second.now
chosen c which is =
    record_chosen _ _ _ c.in_ok-one.ensures c.in_ok-two.ensures refl refl which c.not_above.ensures is

pub returns-in_err-one : goal.returns-in_err-one
returns-in_err-one c =
    let p = err_from_is_err_and c.from_residual.result c.from_residual.ensures.1 in
    rw (p.1, p.2) (first_refused _ _ _ c.in_err-one.ensures (answered_not c.in_err-one.field-0.0))

pub returns-in_err-two : goal.returns-in_err-two
returns-in_err-two c =
    let p = err_from_is_err_and c.from_residual-in_err-two.result c.from_residual-in_err-two.ensures.1 in
    rw (p.1, p.2) (second_refused _ _ _ c.in_ok-one.ensures c.in_err-two.ensures refl (answered_not c.in_err-two.field-0.0))

pub not_above-requires : goal.not_above-requires
not_above-requires c = sums_within _ _ _ c.in_ok-one.ensures c.in_ok-two.ensures refl refl

pub returns-then-not_above : goal.returns-then-not_above
returns-then-not_above c = chosen (goal.at.returns-then-not_above c).After-not_above 1 (rw c.if-not_above.true refl)

pub returns : goal.returns
returns c = chosen (goal.at.returns c).After-not_above 2 (rw c.if-not_above.false refl)
