-- `readings::write_samples` meets its contract, what its invariant leaves to show.
use mathlib.Core.Path.{ap, ◌∙◌}
use mathlib.Core.Bool.{Bool, true, false, cond}
use Prim.Native.Nat.{◌≤◌}
use native.Mathlib.Omega.{arith}
use lib.Ieee.{nan}
use lib.ListN.{length-set, get_or}
use Rattle.laws.proofs.ListLaws.{counted_one_more, all_counted}
use Rattle.record.specs.declared.Refusal.{Refusal}
use Rattle.readings.specs.Readings.{has_fraction}
use Rattle.readings.proofs.RefusalLaws.{unrefused_sample, sample_stored, all_samples_written}
use Rattle.readings.proofs.write_samples.Goals as goal

-- a reading is counted at most once
at_most_one : (t : Bool) → cond t 1 0 ≤ 1
at_most_one true = omega arith
at_most_one false = omega arith

pub sample_of-requires : goal.sample_of-requires
sample_of-requires c =
    unrefused_sample c.args.readings.now (ap (λ (r : Refusal). r.number) c.requires.0) c.loop-i.i (omega arith)

pub counted-changed-requires : goal.counted-changed-requires
counted-changed-requires c =
    unrefused_sample c.args.readings.now (ap (λ (r : Refusal). r.number) c.requires.0) c.loop-i.i (omega arith)

pub loop-i-preserved : goal.loop-i-preserved
loop-i-preserved c =
    let xs = c.args.readings.now in
    let one = at_most_one (has_fraction (get_or xs c.loop-i.i nan)) in (
      omega arith,
      simp length-set (omega arith),
      sample_stored xs c.requires.0 _ c.loop-i.i (omega arith) (omega arith) c.loop-i.invariant.2 c.sample_of.ensures,
      omega (arith, c.counted-changed.ensures, one),
      omega (arith, c.counted-changed.ensures, counted_one_more has_fraction xs nan c.loop-i.i c.loop-i.changed (omega arith) c.loop-i.invariant.4),
    )

pub returns : goal.returns
returns c =
    let xs = c.args.readings.now in record { value = all_counted has_fraction xs c.loop-i.i c.loop-i.changed (omega arith) c.loop-i.invariant.4; buffer_after = c.loop-i.invariant.2 ∙ all_samples_written xs _ c.loop-i.i (omega arith) }
