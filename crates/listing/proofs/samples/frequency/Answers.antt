-- `listing::samples::frequency` meets its contract.
use Rattle.std.proofs.Common.{◌≡◌, ◌≤◌, length, take, refl, sym, ◌∙◌, arith, rules}
use Rattle.std.proofs.lemmas.Result.{err_from_is_err_and}
use lib.Seq.{length-take-le}
use Rattle.phr.specs.Reading.{record_values}
use Rattle.phr.proofs.SignLaws.{loaded_value}
use Rattle.listing.proofs.SheetCases.{told_none, error_first, ok_in_front, values_counted, values_in_front, start_told, phases_answered}
use Rattle.listing.proofs.samples.frequency.Goals as goal
use Rattle.listing.proofs.samples.frequency.Goals.{In_ok-contents}

-- the readings stand at the front of their buffer
readings_there : (c : In_ok-contents) → let count = c.in_ok-contents.contents.count in
    (count ≤ 4096) × (take count c.read_either.new.buffer ≡ record_values c.args.bytes.now)
readings_there c = let read = c.in_ok-contents.ensures in values_in_front _ 4096 read.value refl _ read.buffer_after

pub returns-in_err-contents-clause-value : goal.returns-in_err-contents-clause-value
returns-in_err-contents-clause-value c =
    let p = err_from_is_err_and c.from_residual.result c.from_residual.ensures.1 in
    rw (p.1, p.2) (error_first _ _ _ _ _ (values_counted _ 4096 c.in_err-contents.ensures.value))

pub slice_bounds-readings-end : goal.slice_bounds-readings-end
slice_bounds-readings-end c = search ((readings_there (goal.at.slice_bounds-readings-end c).In_ok-contents).0, rules)

pub slice_bounds-phases-end : goal.slice_bounds-phases-end
slice_bounds-phases-end c =
    let inside : c.in_ok-contents.contents.count ≤ length c.read_either.new.buffer = search ((readings_there (goal.at.slice_bounds-phases-end c).In_ok-contents).0, rules) in
    sym (length-take-le _ _ inside)

pub returns : goal.returns
returns c =
    let read = c.in_ok-contents.ensures.value in
    let unrefused = (told_none _ _ (values_counted _ 4096 read) refl).0 in
    let p = c.phases.ensures in
    let known = (goal.at.returns c).In_ok-contents in
    let answered = phases_answered _ unrefused (loaded_value _ (omega arith) ∙ start_told _ 4096 read unrefused) (readings_there known).1 c.requires p.value _ p.buffer_after in
    record { value = answered.0; in_front = ok_in_front _ _ _ answered.1 }
