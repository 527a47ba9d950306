-- `listing::lines::record_lines` meets its contract.
use Rattle.std.proofs.Common.{◌+◌, List, ℤ, length, refl, ap, ◌∙◌}
use Rattle.record.proofs.ToldLaws.{answered_not}
use Rattle.listing.specs.Sheet.{factors, lines_of, allan_counts, modified_counts}
use Rattle.listing.proofs.SheetCases.{told_refused, told_none}
use Rattle.listing.proofs.TextCases.{text_of_refused, totals_of_refused, text_of_lines, totals_of_lines}
use Rattle.listing.proofs.lines.record_lines.Goals as goal

pub returns-in-Err : goal.returns-in-Err
returns-in-Err c =
    let some = answered_not c.in-Err.refused in
    let a = c.args in
    let e = told_refused _ _ c.in-Err.ensures.value some in
    record { text_after = c.refused_line.ensures ∙ text_of_refused a.bytes.now _ _ some e; totals_value = totals_of_refused a.bytes.now _ _ some e a.totals }

pub returns-in-Ok : goal.returns-in-Ok
returns-in-Ok c =
    let read = c.in-Ok.ensures in
    let known = read.in_front.1 in
    let a = c.args in
    let nought = (told_none _ _ read.value refl).0 in
    let l = c.factor_lines.ensures in record { text_after = l.text_after ∙ ap (λ (xs : List ℤ). lines_of xs (factors (length xs))) known ∙ text_of_lines a.bytes.now nought; totals_value = l.totals_value ∙ ap (λ (xs : List ℤ). record { k = a.totals.k + allan_counts xs (factors (length xs)); c = a.totals.c + modified_counts xs (factors (length xs)) }) known ∙ totals_of_lines a.bytes.now nought a.totals }
