-- `listing::samples::samples_of` meets its contract.
use Rattle.std.proofs.Common.{◌≡◌, refl, sym, ap, ◌∙◌}
use Rattle.std.proofs.lemmas.Result.{err_from_is_err_and}
use Rattle.record.specs.Refusals.{none, record_refusal}
use Rattle.record.specs.declared.Refusal.{Refusal}
use Rattle.record.proofs.AnswerLaws.{error_value, value_answered}
use Rattle.record.proofs.ToldLaws.{answered_not}
use Rattle.sums.specs.Answers.{allan_demand}
use Rattle.listing.specs.Sheet.{sheet_refusal}
use Rattle.listing.proofs.SheetCases.{told_refused, told_none, read_refuses, allan_decides}
use Rattle.listing.proofs.samples.samples_of.Goals as goal

pub returns-in_err-count-clause-value : goal.returns-in_err-count-clause-value
returns-in_err-count-clause-value c =
    let p = err_from_is_err_and c.from_residual.result c.from_residual.ensures.1 in
    let e = c.in_err-count.field-0.0 in
    let told = told_refused _ _ c.in_err-count.ensures.value (answered_not e) in
    let whole = read_refuses c.args.bytes.now (λ z. answered_not e (sym (ap (λ (r : Refusal). r.number) told) ∙ z)) in
    rw (p.1, p.2) (error_value _ e (sym (whole ∙ told)))

pub returns-in_err-check_record-clause-value : goal.returns-in_err-check_record-clause-value
returns-in_err-check_record-clause-value c =
    let f = c.from_residual-in_err-check_record in
    let p = err_from_is_err_and f.result f.ensures.1 in
    let read = c.in_ok-count.ensures in
    let decides = allan_decides c.args.bytes.now (told_none _ _ read.value refl).0 in
    rw (p.1, p.2) (error_value _ _ (c.in_err-check_record.ensures ∙ ap (record_refusal allan_demand 1) read.in_front.1 ∙ sym decides))

pub returns-clause-value : goal.returns-clause-value
returns-clause-value c =
    let read = c.in_ok-count.ensures in
    let told = told_none _ _ read.value refl in
    let nothing : sheet_refusal c.args.bytes.now ≡ none = allan_decides c.args.bytes.now told.0 ∙ sym (c.in_ok-check_record.ensures ∙ ap (record_refusal allan_demand 1) read.in_front.1) in
    rw told.1 (value_answered _ nothing)
