-- `meter::tests::holds_together` meets its contract.
use mathlib.Core.Path.{sym, ◌∙◌}
use native.Mathlib.Omega.{arith}
use Rattle.meter.proofs.TestLaws.{factor_nought_fails, factor_too_large_fails, too_many_fails, counts_fail, window_decided, window_and_halves_decide}
use Rattle.meter.proofs.tests.holds_together.Goals as goal

pub returns-then-m-lt1 : goal.returns-then-m-lt1
returns-then-m-lt1 c = sym (factor_nought_fails _ (omega arith))

pub returns-then-m-gt-LARGEST_FACTOR : goal.returns-then-m-gt-LARGEST_FACTOR
returns-then-m-gt-LARGEST_FACTOR c = sym (factor_too_large_fails _ (omega arith) (omega arith))

pub returns-then-n-gt-MOST_SAMPLES : goal.returns-then-n-gt-MOST_SAMPLES
returns-then-n-gt-MOST_SAMPLES c = sym (too_many_fails _ (omega arith) (omega arith) (omega arith))

pub returns-then-window_within : goal.returns-then-window_within
returns-then-window_within c =
    let x = c.args.meter in
    let within = window_decided x.window (omega (arith, c.well_formed)) _ c.window_within.ensures c.if-window_within.true in
    c.high_halves_hold.ensures
    ∙ sym (window_and_halves_decide x (omega arith) (omega arith) (omega arith) (sym c.counts_fit.ensures ∙ c.if-not-counts_fit.false) within)

pub returns-else-window_within : goal.returns-else-window_within
returns-else-window_within c =
    let x = c.args.meter in
    let beyond = window_decided x.window (omega (arith, c.well_formed)) _ c.window_within.ensures c.if-window_within.false in
    c.if-window_within.false
    ∙ sym (window_and_halves_decide x (omega arith) (omega arith) (omega arith) (sym c.counts_fit.ensures ∙ c.if-not-counts_fit.false) beyond)

pub returns-then-not-counts_fit : goal.returns-then-not-counts_fit
returns-then-not-counts_fit c = sym (counts_fail _ (omega arith) (omega arith) (omega arith) (sym c.counts_fit.ensures ∙ c.if-not-counts_fit.true))
