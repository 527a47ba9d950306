-- `meter::Meter::with_sample` meets its contract: the old slots are read before the sample's own is written.
use mathlib.Core.Path.{◌≡◌, refl, ap}
use mathlib.Core.Bool.{true}
use Prim.Native.Nat.{◌*◌, ◌%◌, ◌≤◌, ◌<◌}
use native.Mathlib.Omega.{arith}
use lib.ListN.{length}
use Rattle.std.proofs.lemmas.Result.{err_from_is_err_and}
use Rattle.record.specs.declared.Refusal.{Refusal}
use Rattle.record.proofs.ToldLaws.{answered_not}
use Rattle.meter.proofs.TestLaws.{holds_together_lem, slot_inside, slots_lie, slots_lie_lem}
use Rattle.meter.proofs.AnswerLaws.{bad_meter_refused, SampleCall, sample_call}
use Rattle.meter.proofs.Meter.with_sample.Goals as goal
use Rattle.meter.proofs.Meter.with_sample.Goals.{In_ok-check_slots, In_ok-check_sample}

-- the tests passed, so that the meter and the slots to be read are in order
lies : (c : In_ok-check_slots) → slots_lie c.args.self c.args.ring.now ≡ true
lies c = c.in_ok-check_slots.ensures

inside : (c : In_ok-check_slots) → let s = c.args.self in
    (1 ≤ s.m) × (s.m ≤ 10922) × (3 * s.m ≤ length c.args.ring.now) × (s.stretch % (3 * s.m) < length c.args.ring.now)
inside c =
    let known = slots_lie_lem c.args.self c.args.ring.now (lies c) in
    let meter = holds_together_lem _ known.0 in
    (meter.factor_least, meter.factor_most, known.1, slot_inside c.args.self.m c.args.self.stretch (length c.args.ring.now) meter.factor_least known.1)

-- what the call does where the tests found nothing
tested : (c : In_ok-check_sample) →
    SampleCall c.args.self c.args.ring.now c.args.x c.old-one.result c.old-two.result c.old-three.result 0
tested c =
    sample_call c.args.self c.args.ring.now c.args.x c.ranges.x c.in_ok-check_slots.ensures c.old-one.ensures c.old-two.ensures c.old-three.ensures
    (record { sfits = c.old-one.type_inv }) (record { sfits = c.old-two.type_inv }) (record { sfits = c.old-three.type_inv })
    (ap (λ (r : Refusal). r.number) c.in_ok-check_sample.ensures)

pub overflow_mul-own : goal.overflow_mul-own
overflow_mul-own c = omega (arith, inside (goal.at.overflow_mul-own c).In_ok-check_slots)

pub nonzero_rem-own : goal.nonzero_rem-own
nonzero_rem-own c = omega (arith, inside (goal.at.nonzero_rem-own c).In_ok-check_slots)

pub overflow_mul-m : goal.overflow_mul-m
overflow_mul-m c = omega (arith, inside (goal.at.overflow_mul-m c).In_ok-check_slots)

pub overflow_mul-m-2 : goal.overflow_mul-m-2
overflow_mul-m-2 c = omega (arith, inside (goal.at.overflow_mul-m-2 c).In_ok-check_slots)

pub overflow_mul-m-3 : goal.overflow_mul-m-3
overflow_mul-m-3 c = omega (arith, inside (goal.at.overflow_mul-m-3 c).In_ok-check_slots)

pub overflow_mul-m-4 : goal.overflow_mul-m-4
overflow_mul-m-4 c = omega (arith, inside (goal.at.overflow_mul-m-4 c).In_ok-check_slots)

pub overflow_mul-m-5 : goal.overflow_mul-m-5
overflow_mul-m-5 c = omega (arith, inside (goal.at.overflow_mul-m-5 c).In_ok-check_slots)

pub invariant_of-slots : goal.invariant_of-slots
invariant_of-slots c =
    let known = slots_lie_lem c.args.self c.args.ring.now (lies (goal.at.invariant_of-slots c).In_ok-check_slots) in
    record { together = known.0; long = known.1; own_is = refl }

pub returns-in_err-check_slots : goal.returns-in_err-check_slots
returns-in_err-check_slots c =
    let p = err_from_is_err_and c.from_residual.result c.from_residual.ensures.1 in
    rw (p.1, p.2, c.in_err-check_slots.ensures.1) (bad_meter_refused c.args.self c.args.ring.now c.args.x c.in_err-check_slots.ensures.0)

pub returns-in_err-check_sample : goal.returns-in_err-check_sample
returns-in_err-check_sample c =
    let e = c.in_err-check_sample.field-0.0 in
    let p = err_from_is_err_and c.from_residual-in_err-check_sample.result c.from_residual-in_err-check_sample.ensures.1 in
    let call = sample_call c.args.self c.args.ring.now c.args.x c.ranges.x c.in_ok-check_slots.ensures
    c.old-one.ensures c.old-two.ensures c.old-three.ensures
    (record { sfits = c.old-one.type_inv }) (record { sfits = c.old-two.type_inv }) (record { sfits = c.old-three.type_inv })
    (ap (λ (r : Refusal). r.number) c.in_err-check_sample.ensures) in
    let answers = call.refuses (answered_not e) in
    let place : e.place ≡ 0 = ap (λ (r : Refusal). r.place) c.in_err-check_sample.ensures in
    (rw (p.1, p.2, place) answers.0, answers.1)

pub invariant_of-ready : goal.invariant_of-ready
invariant_of-ready c =
    let call = (tested (goal.at.invariant_of-ready c).In_ok-check_sample).lets_in refl in
    record { together = call.0; room = call.1 }

pub with_sample-next-requires : goal.with_sample-next-requires
with_sample-next-requires c =
    let call = (tested (goal.at.with_sample-next-requires c).In_ok-check_sample).lets_in refl in
    (call.2, call.3, call.4, call.5)

pub offset_bounds-ring-own : goal.offset_bounds-ring-own
offset_bounds-ring-own c =
    omega (arith, inside (goal.at.offset_bounds-ring-own c).In_ok-check_slots, c.well_formed)

pub bounds-ring-own : goal.bounds-ring-own
bounds-ring-own c = (inside (goal.at.bounds-ring-own c).In_ok-check_slots).3

pub returns : goal.returns
returns c = (tested (goal.at.returns c).In_ok-check_sample).gives refl c.with_sample-next.ensures
