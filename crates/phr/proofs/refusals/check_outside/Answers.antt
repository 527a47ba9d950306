-- `phr::refusals::check_outside` meets its contract.
use Rattle.std.proofs.Common.{◌≡◌, length, sym, ap, ◌∙◌, arith}
use Rattle.record.specs.Refusals.{refused}
use Rattle.phr.specs.Bytes.{values_from}
use Rattle.phr.specs.Reading.{kind_of, count_of}
use Rattle.phr.proofs.ValueCases.{first_outside, value_outside, none_outside}
use Rattle.phr.proofs.ValueLaws.{values_from_length}
use Rattle.phr.proofs.refusals.check_outside.Goals as goal
use Rattle.phr.proofs.refusals.check_outside.Goals.{After-first_outside-outside}

outside_there : (c : After-first_outside-outside) → let a = c.args in
    c.first_outside-outside.result ≡ first_outside (kind_of a.bytes.now) (values_from a.head (count_of a.bytes.now) a.bytes.now)
outside_there c = c.first_outside-outside.ensures ∙ rw (c.kind_of.ensures, c.count_of-count.ensures)

length_there : (c : After-first_outside-outside) → let a = c.args in
    c.count_of-count.result ≡ length (values_from a.head (count_of a.bytes.now) a.bytes.now)
length_there c = let a = c.args in c.count_of-count.ensures ∙ sym (values_from_length a.head _ a.bytes.now)

pub returns-then-outside-count : goal.returns-then-outside-count
returns-then-outside-count c =
    rw c.at.ensures (ap (refused 3) (outside_there (goal.at.returns-then-outside-count c).After-first_outside-outside) ∙ sym (value_outside _ _ (omega (arith, outside_there (goal.at.returns-then-outside-count c).After-first_outside-outside, length_there (goal.at.returns-then-outside-count c).After-first_outside-outside))))

pub returns : goal.returns
returns c = sym (none_outside _ _ (omega (arith, outside_there (goal.at.returns c).After-first_outside-outside, length_there (goal.at.returns c).After-first_outside-outside)))
