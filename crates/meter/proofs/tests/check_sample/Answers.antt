-- `meter::tests::check_sample` meets its contract.
use borrow.Author.Tests.{eq-eqb, ne_eqb}
use mathlib.Core.Path.{◌≡◌, refl, sym, ◌∙◌}
use mathlib.Core.Bool.{true, ◌&&◌}
use mir.Syntax.{w64}
use mir.Facts.{to_z-of_z}
use Rattle.record.specs.Refusals.{in_range}
use Rattle.meter.proofs.tests.check_sample.Goals as goal
use Rattle.meter.proofs.tests.check_sample.Goals.{Else-not-in_range, Else-n-eq-MOST_SAMPLES}

-- three old samples in range
good : (c : Else-not-in_range) → (in_range c.args.one && (in_range c.args.two && in_range c.args.three)) ≡ true
good c =
    rw (to_z-of_z {w = w64} c.ranges.one, to_z-of_z {w = w64} c.ranges.two, to_z-of_z {w = w64} c.ranges.three) at
    (sym c.in_range.ensures ∙ c.if-not-in_range.false)

pub returns-then-not-in_range : goal.returns-then-not-in_range
returns-then-not-in_range c =
    let bad = rw (to_z-of_z {w = w64} c.ranges.one, to_z-of_z {w = w64} c.ranges.two, to_z-of_z {w = w64} c.ranges.three) at
    (sym c.in_range.ensures ∙ c.if-not-in_range.true) in
    rw (c.at.ensures, bad) refl

pub returns-then-n-eq-MOST_SAMPLES : goal.returns-then-n-eq-MOST_SAMPLES
returns-then-n-eq-MOST_SAMPLES c =
    rw (c.at-then-n-eq-MOST_SAMPLES.ensures, good (goal.at.returns-then-n-eq-MOST_SAMPLES c).Else-not-in_range, eq-eqb _ 32768 c.if-n-eq-MOST_SAMPLES.true) refl

pub returns-then-not-in_range-2 : goal.returns-then-not-in_range-2
returns-then-not-in_range-2 c =
    let outside = rw (to_z-of_z {w = w64} c.ranges.x) at (sym c.in_range-2.ensures ∙ c.if-not-in_range-2.true) in
    rw (c.at-then-not-in_range-2.ensures, good (goal.at.returns-then-not-in_range-2 c).Else-not-in_range, ne_eqb _ 32768 c.if-n-eq-MOST_SAMPLES.false, outside) refl

pub returns : goal.returns
returns c =
    let inside = rw (to_z-of_z {w = w64} c.ranges.x) at (sym c.in_range-2.ensures ∙ c.if-not-in_range-2.false) in
    rw (good (goal.at.returns c).Else-not-in_range, ne_eqb _ 32768 c.if-n-eq-MOST_SAMPLES.false, inside) refl
