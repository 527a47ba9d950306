-- `readings::check_readings` meets its contract, what its invariant leaves to show.
use mathlib.Core.Path.{sym, ap, ◌∙◌}
use Prim.Native.Nat.{ℕ}
use native.Mathlib.Omega.{arith}
use borrow.Author.Tests.{eq-eqb, ne_eqb}
use lib.Ieee.{nan}
use Rattle.laws.proofs.ListLaws.{search_goes_on, search_ends_here, search_ends}
use Rattle.record.specs.Refusals.{refused}
use Rattle.record.proofs.ToldLaws.{numbered}
use Rattle.readings.proofs.RefusalLaws.{is_sample, no_sample_at, all_samples}
use Rattle.readings.proofs.check_readings.Goals as goal

pub returns-in-Err : goal.returns-in-Err
returns-in-Err c =
    let number = c.in-Err.ensures in
    let ends = search_ends_here is_sample nan _ c.loop-i.i (omega arith) c.loop-i.invariant.1 (ne_eqb _ 0 (λ z. omega (arith, number, z, numbered c.in-Err.why))) in
    rw c.at.ensures (ap (λ (n : ℕ). refused n c.loop-i.i) number ∙ sym (no_sample_at _ c.loop-i.i (omega arith) ends))

pub loop-i-preserved : goal.loop-i-preserved
loop-i-preserved c =
    (omega arith, search_goes_on is_sample nan _ c.loop-i.i (omega arith) c.loop-i.invariant.1 (eq-eqb _ 0 (sym c.in_default.ensures)))

pub returns : goal.returns
returns c = sym (all_samples _ (search_ends is_sample _ c.loop-i.i (omega arith) c.loop-i.invariant.1))
