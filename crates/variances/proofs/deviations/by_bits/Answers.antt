-- `variances::deviations::by_bits` meets its contract, what its invariant leaves to show.
use mathlib.Core.Path.{refl, ◌∙◌}
use Prim.Native.Nat.{◌^◌}
use native.Mathlib.Omega.{arith}
use Rattle.laws.proofs.GreatestLaws.{turn_leaves_room, turn_keeps_bits}
use Rattle.wide.specs.Wide.{value}
use Rattle.wide.proofs.Roots.{bit_is, bit_fits}
use Rattle.variances.specs.Deviations.{within}
use Rattle.variances.proofs.DeviationLaws.{found_by_bits}
use Rattle.variances.proofs.deviations.by_bits.Goals as goal

pub loop-bit-init : goal.loop-bit-init
loop-bit-init c = (omega arith, refl)

pub with_bit-r-requires : goal.with_bit-r-requires
with_bit-r-requires c =
    let h = c.loop-bit in
    bit_fits h.bit (omega arith) (omega arith) h.r (omega arith)

pub loop-bit-preserved : goal.loop-bit-preserved
loop-bit-preserved c =
    let h = c.loop-bit in
    let x = c.args in
    let test = within (value x.sum) x.d in
    let made = bit_is h.bit (omega arith) (omega arith) in (
      turn_leaves_room test h.bit (omega arith) h.r made c.with_bit-r.ensures (2 ^ 63) h.invariant.0,
      turn_keeps_bits test h.bit (omega arith) h.r made c.with_bit-r.ensures ∙ h.invariant.1,
    )

pub returns : goal.returns
returns c =
    let h = c.loop-bit in
    found_by_bits (value c.args.sum) c.args.d c.requires.0 c.requires.1 c.requires.2 h.bit h.r (omega arith) h.invariant.1
