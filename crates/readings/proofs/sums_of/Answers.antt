-- `readings::sums_of` meets its contract: every refusal comes before the first entry is written.
use Rattle.std.proofs.Common.{rules, ◌≡◌, Ok, length, take, refl, sym, ap, ◌∙◌}
use Rattle.std.proofs.lemmas.Result.{err_from_is_err_and}
use Rattle.record.proofs.AnswerLaws.{error_left, left_answered}
use Rattle.sums.specs.Told.{part_told}
use Rattle.readings.proofs.RefusalLaws.{samples_of, samples_taken, readable}
use Rattle.readings.proofs.AnswerLaws.{allan_of, allan_given, modified_given, sums_error, sums_given}
use Rattle.readings.proofs.sums_of.Goals as goal
use Rattle.readings.proofs.sums_of.Goals.{After-write_samples-changed, After-allan}

pub returns-in_err-check : goal.returns-in_err-check
returns-in_err-check c =
    let refused = c.in_err-check.ensures in
    let p = err_from_is_err_and c.from_residual.result c.from_residual.ensures.1 in
    record { value = rw (p.1, p.2) (sums_error _ _ _ _ refused); buffer_after = error_left _ _ _ refused }

pub write_samples-changed-requires : goal.write_samples-changed-requires
write_samples-changed-requires c = search (rules, readable)

-- the samples at the buffer's front are those of the readings, and their Allan sum is not refused
taken : (c : After-write_samples-changed) → let x = c.args in take (length x.readings.now) c.write_samples-changed.new.buffer ≡ samples_of x.readings.now
taken c = samples_taken c.args.readings.now c.args.buffer.now c.write_samples-changed.ensures.buffer_after

allan : (c : After-allan) → let x = c.args in c.allan.result ≡ Ok (allan_of x.m x.readings.now)
allan c = allan_given _ _ _ c.in_ok-check.ensures (taken (goal.at.unwrap-requires c).After-write_samples-changed) c.allan.ensures

pub unwrap-requires : goal.unwrap-requires
unwrap-requires c = rw (allan c) refl

pub returns : goal.returns
returns c =
    let front = taken (goal.at.returns c).After-write_samples-changed in
    let nothing = c.in_ok-check.ensures in
    let allan-is : c.unwrap.result ≡ allan_of c.args.m c.args.readings.now = cc (allan (goal.at.returns c).After-allan) in
    let modified-is = ap part_told c.ok.ensures.value ∙ modified_given _ _ _ nothing c.modified.result front c.modified.ensures in
    record {
      value = sums_given _ _ _ nothing allan-is modified-is c.write_samples-changed.ensures.value;
      buffer_after = left_answered _ _ (sym nothing) c.write_samples-changed.ensures.buffer_after;
    }
