-- `listing::samples::read` meets its contract.
use Rattle.std.proofs.Common.{◌≡◌, ◌≤◌, refl, sym, ap, ◌∙◌, arith}
use Rattle.std.proofs.lemmas.Result.{err_from_is_err_and}
use Rattle.record.proofs.AnswerLaws.{error_value, value_refused}
use Rattle.phr.specs.Kinds.{number_of_kind}
use Rattle.phr.specs.Reading.{kind_of, count_of}
use Rattle.listing.specs.Sheet.{sheet_most}
use Rattle.listing.proofs.SheetCases.{HeaderTold, header_there, header_error, first_refuses, too_many_on_sheet, phase_samples, frequency_samples, phase_answer, frequency_answer}
use Rattle.listing.proofs.samples.read.Goals as goal
use Rattle.listing.proofs.samples.read.Goals.{After-most}

told_there : (c : After-most) → HeaderTold c.args.bytes.now c.in_ok-header.header
told_there c = header_there _ c.in_ok-header.ensures

most_there : (c : After-most) → c.most.result ≡ sheet_most (kind_of c.args.bytes.now)
most_there c = c.most.ensures ∙ ap sheet_most (told_there c).kind

pub returns-in_err-header-clause-value : goal.returns-in_err-header-clause-value
returns-in_err-header-clause-value c =
    let p = err_from_is_err_and c.from_residual.result c.from_residual.ensures.1 in
    rw (p.1, p.2) (error_value _ _ (header_error _ _ c.in_err-header.ensures))

pub returns-then-most-header-clause-value : goal.returns-then-most-header-clause-value
returns-then-most-header-clause-value c =
    let known = (goal.at.returns-then-most-header-clause-value c).After-most in
    let many = too_many_on_sheet _ (told_there known).sound (omega (arith, c.if-most-header.true, most_there known, (told_there known).count)) in
    rw c.at.ensures (value_refused _ 2 0 (omega arith) (first_refuses _ _ 2 0 (omega arith) many) refl)

pub returns-in-Phase : goal.returns-in-Phase
returns-in-Phase c =
    let known = (goal.at.returns-in-Phase c).After-most in
    let told = told_there known in
    let kind : kind_of c.args.bytes.now ≡ 0 = sym told.kind ∙ ap number_of_kind c.in-Phase.is in
    let few : count_of c.args.bytes.now ≤ sheet_most (kind_of c.args.bytes.now) = omega (arith, c.if-most-header.false, most_there known, told.count) in
    let p = c.phase.ensures in
    record { value = p.value ∙ phase_answer _ told.sound few kind; in_front = rw (phase_samples _ kind) p.in_front }

pub returns-in-Frequency : goal.returns-in-Frequency
returns-in-Frequency c =
    let known = (goal.at.returns-in-Frequency c).After-most in
    let told = told_there known in
    let kind : kind_of c.args.bytes.now ≡ 1 = sym told.kind ∙ ap number_of_kind c.in-Frequency.is in
    let some : kind_of c.args.bytes.now ≡ 0 → ⊥ = λ z. omega arith in
    let few : count_of c.args.bytes.now ≤ sheet_most (kind_of c.args.bytes.now) = omega (arith, c.if-most-header.false, most_there known, told.count) in
    let p = c.frequency.ensures in
    record { value = p.value ∙ frequency_answer _ told.sound few some; in_front = rw (frequency_samples _ some) p.in_front }
