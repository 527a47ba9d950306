-- `frequency::first_leaving` meets its contract, what its invariant leaves to show.
use mathlib.Core.Path.{sym}
use native.Mathlib.Omega.{arith}
use lib.ListN.{length}
use mathlib.Core.Path.{◌≡◌}
use mir.Syntax.{w64}
use mir.Facts.{to_z-of_z, of_z-to_z, Fits-of_z}
use Rattle.frequency.proofs.FrequencyLaws.{NoneLeft, none_left_yet, reading_tells, staying_fits, stays_on, leaves_here, none_leaves}
use Rattle.frequency.proofs.first_leaving.Goals as goal
use Rattle.frequency.proofs.first_leaving.Goals.{At-loop-i}

-- the invariant, of the start and of the bits of the phase
known : (c : At-loop-i) → NoneLeft c.args.start c.args.readings.now c.loop-i.phase-bits c.loop-i.i
known c = rw (to_z-of_z {w = w64} c.ranges.start, of_z-to_z c.loop-i.auto.phase) at c.loop-i.invariant

pub loop-i-init : goal.loop-i-init
loop-i-init c = rw (to_z-of_z {w = w64} c.ranges.start) (none_left_yet c.args.start c.args.readings.now c.requires)

pub overflow_add-phase : goal.overflow_add-phase
overflow_add-phase c =
    let here = known (goal.at.overflow_add-phase c).At-loop-i in
    staying_fits here (reading_tells here (omega arith) c.stays.ensures c.if-not-stays.false)

pub loop-i-preserved : goal.loop-i-preserved
loop-i-preserved c =
    let here = known (goal.at.loop-i-preserved c).At-loop-i in
    let stays = reading_tells here (omega arith) c.stays.ensures c.if-not-stays.false in
    rw (to_z-of_z {w = w64} c.ranges.start, of_z-to_z (Fits-of_z (staying_fits here stays))) (stays_on here (omega arith) stays)

pub returns-then-not-stays : goal.returns-then-not-stays
returns-then-not-stays c =
    let here = known (goal.at.returns-then-not-stays c).At-loop-i in
    sym (leaves_here here (omega arith) (reading_tells here (omega arith) c.stays.ensures c.if-not-stays.true))

pub returns : goal.returns
returns c =
    let here = known (goal.at.returns c).At-loop-i in
    let end : c.loop-i.i ≡ length c.args.readings.now = omega (arith, here.within) in
    rw end at (sym (none_leaves here end))
