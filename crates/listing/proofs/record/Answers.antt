-- `listing::record` meets its contract.
use Rattle.std.proofs.Common.{◌≡◌, refl, sym, ap, ◌∙◌, length}
use Rattle.std.proofs.lemmas.Result.{err_from_is_err_and}
use Rattle.record.specs.Refusals.{refused}
use Rattle.record.specs.Told.{number_of}
use Rattle.record.specs.declared.Refusal.{Refusal}
use Rattle.record.proofs.AnswerLaws.{error_left}
use Rattle.record.proofs.ToldLaws.{answered_not}
use Rattle.listing.specs.Sheet.{text_refusal}
use Rattle.listing.proofs.SheetCases.{told_refused, told_none}
use Rattle.listing.proofs.TextCases.{error_text, totals_refuse, room_decides, text_given, copied_left}
use Rattle.listing.proofs.record.Goals as goal

pub returns-in_err-check_totals : goal.returns-in_err-check_totals
returns-in_err-check_totals c =
    let p = err_from_is_err_and c.from_residual.result c.from_residual.ensures.1 in
    let a = c.args in
    let is = totals_refuse a.bytes.now a.totals (length a.text.now) _ c.in_err-check_totals.ensures in
    record { value = rw (p.1, p.2) (error_text _ _ _ _ is); text_after = error_left _ _ _ is }

pub returns-in_err-length : goal.returns-in_err-length
returns-in_err-length c =
    let f = c.from_residual-in_err-length in
    let p = err_from_is_err_and f.result f.ensures.1 in
    let a = c.args in
    let r = c.record_lines-after.ensures in
    let sound = c.in_ok-check_totals.ensures in
    let copied = c.in_err-length.ensures in
    let e = c.in_err-length.field-0.0 in
    let is : refused (number_of e.why) e.place ≡ text_refusal a.bytes.now a.totals (length a.text.now) =
    sym (told_refused _ _ copied.value (answered_not e)) ∙ room_decides _ _ _ sound r.text_after in
    record { value = rw (p.1, p.2) (error_text _ _ _ _ is); text_after = copied_left _ _ _ sound r.text_after _ copied.buffer_after }

pub returns : goal.returns
returns c =
    let r = c.record_lines-after.ensures in
    let sound = c.in_ok-check_totals.ensures in
    let copied = c.in_ok-length.ensures in
    let told = told_none _ _ copied.value refl in
    let nothing = ap (λ (q : Refusal). q.number) (sym (room_decides _ _ _ sound r.text_after)) ∙ told.0 in
    record { value = text_given _ _ _ nothing (told.1 ∙ ap length r.text_after) r.totals_value; text_after = copied_left _ _ _ sound r.text_after _ copied.buffer_after }
