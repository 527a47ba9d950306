-- `phr::refusals::check_write_record` meets its contract.
use Rattle.std.proofs.Common.{◌≡◌, not, length, sym, ap, ◌∙◌}
use Rattle.std.proofs.lemmas.Result.{err_from_is_err_and}
use Rattle.record.specs.Refusals.{refused_if, ◌then◌, in_range}
use Rattle.record.proofs.RefusalLaws.{refusal_stands, none_gives_way}
use Rattle.record.proofs.ToldLaws.{refuses, refuses_nothing}
use Rattle.phr.specs.File.{start_fits, values_refusal}
use Rattle.phr.specs.Kinds.{number_of_kind}
use Rattle.phr.specs.Writing.{room_refusal, write_record_refusal}
use Rattle.phr.proofs.KindLaws.{number_most}
use Rattle.phr.proofs.SignLaws.{loaded_value}
use Rattle.phr.proofs.WriteCases.{start_not_nought, start_allowed}
use Rattle.phr.proofs.refusals.check_write_record.Goals as goal
use Rattle.phr.proofs.refusals.check_write_record.Goals.{After-can_start, After-in_range, Else-not-can_start, In_ok-check_room}

-- the start as the machine hands it on to its two tests
start_test : (c : After-can_start) → start_fits (number_of_kind c.args.kind) c.args.start ≡ c.can_start.result
start_test c = ap (start_fits (number_of_kind c.args.kind)) (sym (loaded_value c.args.start c.ranges.start.sfits)) ∙ sym c.can_start.ensures

range_test : (c : After-in_range) → in_range c.args.start ≡ c.in_range.result
range_test c = ap in_range (sym (loaded_value c.args.start c.ranges.start.sfits)) ∙ sym c.in_range.ensures

-- what is left to be tested where the start is one that the kind can have, and where there is room too
after_start : (c : Else-not-can_start) → let a = c.args in write_record_refusal (number_of_kind a.kind) a.start a.values.now a.room
    ≡ (room_refusal 16 (number_of_kind a.kind) (length a.values.now) a.room then refused_if (not (in_range a.start)) 3 0 then values_refusal (number_of_kind a.kind) a.values.now)
after_start c =
    let a = c.args in
    let start_there = ap (start_fits (number_of_kind a.kind)) (sym (loaded_value a.start c.ranges.start.sfits)) ∙ sym c.can_start.ensures in
    start_allowed (number_of_kind a.kind) a.start a.values.now a.room (number_most a.kind) (start_there ∙ c.if-not-can_start.false)

after_room : (c : In_ok-check_room) → let a = c.args in write_record_refusal (number_of_kind a.kind) a.start a.values.now a.room
    ≡ (refused_if (not (in_range a.start)) 3 0 then values_refusal (number_of_kind a.kind) a.values.now)
after_room c =
    let a = c.args in
    let start_there = ap (start_fits (number_of_kind a.kind)) (sym (loaded_value a.start c.ranges.start.sfits)) ∙ sym c.can_start.ensures in
    start_allowed (number_of_kind a.kind) a.start a.values.now a.room (number_most a.kind) (start_there ∙ c.if-not-can_start.false)
    ∙ none_gives_way _ _ (refuses_nothing c.in_ok-check_room.ensures)

pub returns-then-not-can_start : goal.returns-then-not-can_start
returns-then-not-can_start c =
    let a = c.args in
    rw c.at.ensures (sym (start_not_nought (number_of_kind a.kind) a.start a.values.now a.room (number_most a.kind)
    (start_test (goal.at.returns-then-not-can_start c).After-can_start ∙ c.if-not-can_start.true)))

pub returns-in_err-check_room : goal.returns-in_err-check_room
returns-in_err-check_room c =
    let r = c.in_err-check_room.ensures in
    let p = err_from_is_err_and c.from_residual.result c.from_residual.ensures.1 in
    rw (p.1, p.2) (r ∙ sym (after_start (goal.at.returns-in_err-check_room c).Else-not-can_start ∙ refusal_stands _ _ (refuses _ r)))

pub returns-then-not-in_range : goal.returns-then-not-in_range
returns-then-not-in_range c =
    let far = range_test (goal.at.returns-then-not-in_range c).After-in_range ∙ c.if-not-in_range.true in
    rw c.at-then-not-in_range.ensures (sym (after_room (goal.at.returns-then-not-in_range c).In_ok-check_room ∙ rw far))

pub returns : goal.returns
returns c =
    let near = range_test (goal.at.returns c).After-in_range ∙ c.if-not-in_range.false in
    c.check_unfit.ensures ∙ sym (after_room (goal.at.returns c).In_ok-check_room ∙ rw near)
