-- `phr::refusals::check_read_record` meets its contract.
use Rattle.std.proofs.Common.{◌≡◌, ◌≤◌, not, length, sym, ap, ◌∙◌, arith}
use Rattle.record.specs.Refusals.{refused_if, ◌then◌, in_range}
use Rattle.record.proofs.RefusalLaws.{refusal_stands, none_gives_way}
use Rattle.phr.specs.File.{values_refusal}
use Rattle.phr.specs.Reading.{kind_of, either_tests, count_refusal, head_length, start_of, record_values, read_record_refusal}
use Rattle.std.proofs.lemmas.Result.{err_from_is_err_and}
use Rattle.record.proofs.ToldLaws.{refuses, refuses_nothing}
use Rattle.phr.proofs.KindLaws.{either_kind}
use Rattle.phr.proofs.ReadCases.{SoundHeader, Counted, sound_within, head_length_bounded, unrefused_header, unrefused_counted, count_refuses}
use Rattle.phr.proofs.SignLaws.{loaded_value}
use Rattle.phr.proofs.refusals.check_read_record.Goals as goal
use Rattle.phr.proofs.refusals.check_read_record.Goals.{After-in_range, In_ok-check_header, In_ok-check_count}

-- what is known of the bytes where a test is left, and what is left to be tested
header_there : (c : In_ok-check_header) → SoundHeader c.args.bytes.now
header_there c = unrefused_header _ (refuses_nothing c.in_ok-check_header.ensures)

eight_there : (c : In_ok-check_header) → 8 ≤ length c.args.bytes.now
eight_there c = omega (arith, (header_there c).sound, sound_within either_tests c.args.bytes.now)

number_there : (c : In_ok-check_count) → let a = c.args in (count_refusal (head_length a.bytes.now) a.bytes.now a.room).number ≡ 0
number_there c = refuses_nothing (rw c.head_length-head.ensures at c.in_ok-check_count.ensures)

head_there : (c : In_ok-check_count) → c.head_length-head.result ≡ head_length c.args.bytes.now
head_there c = c.head_length-head.ensures

counted_there : (c : In_ok-check_count) → let a = c.args in Counted (head_length a.bytes.now) a.bytes.now a.room
counted_there c = unrefused_counted _ _ _ (number_there c)

after_count : (c : In_ok-check_count) → let a = c.args in read_record_refusal a.bytes.now a.room
    ≡ (refused_if (not (in_range (start_of a.bytes.now))) 3 0 then values_refusal (kind_of a.bytes.now) (record_values a.bytes.now))
unfolding read_record_refusal
after_count c =
    let after_header_here : let a = c.args in read_record_refusal a.bytes.now a.room
    ≡ (count_refusal (head_length a.bytes.now) a.bytes.now a.room then refused_if (not (in_range (start_of a.bytes.now))) 3 0
    then values_refusal (kind_of a.bytes.now) (record_values a.bytes.now)) = none_gives_way _ _ (refuses_nothing c.in_ok-check_header.ensures) in
    after_header_here ∙ none_gives_way _ _ (number_there c)

start_test : (c : After-in_range) → in_range (start_of c.args.bytes.now) ≡ c.in_range.result
start_test c = let s = c.start_of in ap in_range (sym (loaded_value _ s.type_inv ∙ s.ensures)) ∙ sym c.in_range.ensures

pub returns-in_err-check_header : goal.returns-in_err-check_header
unfolding read_record_refusal
returns-in_err-check_header c =
    let r = c.in_err-check_header.ensures in
    let p = err_from_is_err_and c.from_residual.result c.from_residual.ensures.1 in
    rw (p.1, p.2) (r ∙ sym (refusal_stands _ _ (refuses _ r)))

pub head_length-head-requires : goal.head_length-head-requires
head_length-head-requires c = eight_there (goal.at.head_length-head-requires c).In_ok-check_header

pub check_count-requires : goal.check_count-requires
check_count-requires c =
    let known = (goal.at.check_count-requires c).In_ok-check_header in
    (eight_there known, either_kind _ (header_there known).sound, omega (arith, c.head_length-head.ensures, head_length_bounded c.args.bytes.now))

pub returns-in_err-check_count : goal.returns-in_err-check_count
returns-in_err-check_count c =
    let r = rw c.head_length-head.ensures at c.in_err-check_count.ensures in
    let p = err_from_is_err_and c.from_residual-in_err-check_count.result c.from_residual-in_err-check_count.ensures.1 in
    rw (p.1, p.2) (r ∙ sym (count_refuses _ _ (header_there (goal.at.returns-in_err-check_count c).In_ok-check_header) (refuses _ r)))

pub start_of-requires : goal.start_of-requires
start_of-requires c = (eight_there (goal.at.start_of-requires c).In_ok-check_header, (header_there (goal.at.start_of-requires c).In_ok-check_header).present)

pub returns-then-not-in_range : goal.returns-then-not-in_range
returns-then-not-in_range c =
    let far = start_test (goal.at.returns-then-not-in_range c).After-in_range ∙ c.if-not-in_range.true in
    rw c.at.ensures (sym (after_count (goal.at.returns-then-not-in_range c).In_ok-check_count ∙ rw far))

pub check_outside-requires : goal.check_outside-requires
check_outside-requires c =
    (eight_there (goal.at.check_outside-requires c).In_ok-check_header, either_kind _ (header_there (goal.at.check_outside-requires c).In_ok-check_header).sound, omega (arith, head_there (goal.at.check_outside-requires c).In_ok-check_count, (counted_there (goal.at.check_outside-requires c).In_ok-check_count).whole))

pub returns : goal.returns
unfolding record_values
returns c =
    let near = start_test (goal.at.returns c).After-in_range ∙ c.if-not-in_range.false in
    c.check_outside.ensures ∙ rw (head_there (goal.at.returns c).In_ok-check_count) (sym (after_count (goal.at.returns c).In_ok-check_count ∙ rw near))
