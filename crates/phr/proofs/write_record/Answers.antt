-- `phr::write_record` meets its contract where its kind is none.
use Rattle.std.proofs.Common.{◌∙◌}
use Rattle.record.proofs.AnswerLaws.{error_value, error_left}
use Rattle.phr.proofs.WriteCases.{no_kind_from}
use Rattle.phr.proofs.write_record.Goals as goal

pub returns-in-Err-clause-value : goal.returns-in-Err-clause-value
returns-in-Err-clause-value c = c.from-in-Err.ensures ∙ error_value _ c.in-Err.refused (no_kind_from _ _ _ _ c.in-Err.refused c.in-Err.ensures)

pub returns-in-Err-clause-buffer_after : goal.returns-in-Err-clause-buffer_after
returns-in-Err-clause-buffer_after c = error_left _ _ c.in-Err.refused (no_kind_from _ _ _ _ c.in-Err.refused c.in-Err.ensures)
