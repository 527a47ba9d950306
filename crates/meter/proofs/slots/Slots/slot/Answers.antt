-- `meter::slots::Slots::slot` meets its contract: one remainder and one comparison give the slot of an earlier sample.
use mathlib.Core.Path.{◌≡◌, refl, ap, ◌∙◌}
use Prim.Native.Nat.{◌-◌, ◌*◌, ◌%◌, ◌<◌}
use native.Mathlib.Nat.{mod-lt}
use native.Mathlib.Omega.{arith}
use lib.ListN.{length}
use mir.Syntax.{w64}
use Rattle.laws.specs.Lists.{at}
use Rattle.laws.proofs.Machine.{read_back}
use Rattle.laws.proofs.RingLaws.{slot_before}
use Rattle.meter.specs.Meter.{slot}
use Rattle.meter.proofs.TestLaws.{holds_together_lem, slot_inside}
use Rattle.meter.proofs.slots.Slots.slot.Goals as goal
use Rattle.meter.proofs.slots.Slots.slot.Goals.{After-earlier-at}

is_slot : (c : After-earlier-at) → c.earlier-at.result ≡ (c.args.self.now.meter.stretch - c.args.back) % (3 * c.args.self.now.meter.m)
is_slot c =
    c.earlier-at.ensures ∙ rw c.args.self.now.own_is (slot_before (3 * c.args.self.now.meter.m) c.args.back c.args.self.now.meter.stretch (omega (arith, (holds_together_lem _ c.args.self.now.together).factor_least)) c.requires.1 c.requires.0)

inside : (c : After-earlier-at) → c.earlier-at.result < length c.args.self.now.ring.now
inside c = rw (is_slot c) (slot_inside c.args.self.now.meter.m (c.args.self.now.meter.stretch - c.args.back) (length c.args.self.now.ring.now) (holds_together_lem _ c.args.self.now.together).factor_least c.args.self.now.long)

pub earlier-at-requires : goal.earlier-at-requires
earlier-at-requires c =
    let meter = holds_together_lem _ c.args.self.now.together in
    (rw c.args.self.now.own_is (mod-lt c.args.self.now.meter.stretch (omega (arith, meter.factor_least))), omega (arith, meter.factor_most), omega arith)

pub offset_bounds-self-at : goal.offset_bounds-self-at
offset_bounds-self-at c = omega (arith, inside (goal.at.offset_bounds-self-at c).After-earlier-at)

pub bounds-self-at : goal.bounds-self-at
bounds-self-at c = inside (goal.at.bounds-self-at c).After-earlier-at

pub returns : goal.returns
unfolding slot
returns c = read_back {w = w64} refl (record { sfits = c.result-1.given }) ∙ ap (at c.args.self.now.ring.now) (is_slot (goal.at.returns c).After-earlier-at)

pub overflow_mul-self : goal.overflow_mul-self
overflow_mul-self c = omega (arith, (holds_together_lem _ c.args.self.now.together).factor_most)
