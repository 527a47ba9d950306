-- `phr::refusals::check_counted_header` meets its contract.
use Rattle.std.proofs.Common.{◌≡◌, ◌≤◌, length, sym, ◌∙◌, arith}
use Rattle.record.proofs.RefusalLaws.{refusal_stands}
use Rattle.phr.specs.Reading.{either_tests, header_refusal, counted_header_refusal}
use Rattle.std.proofs.lemmas.Result.{err_from_is_err_and}
use Rattle.record.proofs.ToldLaws.{refuses, refuses_nothing}
use Rattle.phr.proofs.KindLaws.{either_kind}
use Rattle.phr.proofs.ReadCases.{sound_within, unrefused_header, too_many_said, few_said}
use Rattle.phr.proofs.refusals.check_counted_header.Goals as goal
use Rattle.phr.proofs.refusals.check_counted_header.Goals.{In_ok-check_header}

-- what is known where the header is not refused
number_there : (c : In_ok-check_header) → (header_refusal c.args.bytes.now).number ≡ 0
number_there c = refuses_nothing c.in_ok-check_header.ensures

eight_there : (c : In_ok-check_header) → 8 ≤ length c.args.bytes.now
eight_there c = omega (arith, (unrefused_header _ (number_there c)).sound, sound_within either_tests c.args.bytes.now)

pub returns-in_err-check_header : goal.returns-in_err-check_header
unfolding counted_header_refusal
returns-in_err-check_header c =
    let r = c.in_err-check_header.ensures in
    let p = err_from_is_err_and c.from_residual.result c.from_residual.ensures.1 in
    rw (p.1, p.2) (r ∙ sym (refusal_stands _ _ (refuses _ r)))

pub kind_of-requires : goal.kind_of-requires
kind_of-requires c =
    let known = (goal.at.kind_of-requires c).In_ok-check_header in
    (eight_there known, either_kind _ (unrefused_header _ (number_there known)).sound)

pub count_of-requires : goal.count_of-requires
count_of-requires c = eight_there (goal.at.count_of-requires c).In_ok-check_header

pub returns-then-most_values-count_of : goal.returns-then-most_values-count_of
returns-then-most_values-count_of c =
    rw c.at.ensures (sym (too_many_said _ (number_there (goal.at.returns-then-most_values-count_of c).In_ok-check_header) (rw (← c.kind_of.ensures, ← c.most_values.ensures, ← c.count_of.ensures) c.if-most_values-count_of.true)))

pub returns : goal.returns
returns c =
    sym (few_said _ (number_there (goal.at.returns c).In_ok-check_header) (rw (← c.kind_of.ensures, ← c.most_values.ensures, ← c.count_of.ensures) c.if-most_values-count_of.false))
