-- `mending::mended` meets its contract.
use Rattle.std.proofs.Common.{◌≡◌, ◌+◌, ◌-◌, ◌*◌, ◌≤◌, length, Ok, refl, w64, to_z, of_z, sym, ap, ◌∙◌, arith}
use Rattle.std.proofs.lemmas.Result.{err_from_is_err_and}
use Rattle.record.specs.Refusals.{none}
use Rattle.record.proofs.AnswerLaws.{error_left, left_answered}
use Rattle.record.proofs.ToldLaws.{refuses_nothing}
use Rattle.phr.specs.Reading.{head_length, start_of, counted_header_refusal, record_answer}
use Rattle.phr.specs.Told.{record_told}
use Rattle.phr.specs.declared.RecordAnswer.{RecordAnswer}
use Rattle.phr.proofs.AnswerCases.{header_told}
use Rattle.phr.proofs.ReadCases.{SoundHeader, head_length_bounded, unrefused_counted_header}
use Rattle.phr.proofs.SignLaws.{loaded_value}
use Rattle.mending.specs.Salvage.{first_bad}
use Rattle.mending.proofs.KeptLaws.{kept_length, salvaged_length, salvaged_within}
use Rattle.mending.proofs.SalvageCases.{header_error, new_refusal, salvage_error, salvage_value, unrefused_salvageable}
use Rattle.mending.proofs.StoredLaws.{salvaged_stored}
use Rattle.mending.proofs.mended.Goals as goal
use Rattle.mending.proofs.mended.Goals.{In_ok-contents}

-- what is known where the header is not refused
header_there : (c : In_ok-contents) → ((counted_header_refusal c.args.bytes.now).number ≡ 0) × (record_told (Ok c.in_ok-contents.contents) ≡ record_answer none c.args.bytes.now)
header_there c = header_told _ c.in_ok-contents.ensures refl

sound_there : (c : In_ok-contents) → SoundHeader c.args.bytes.now
sound_there c = (unrefused_counted_header _ (header_there c).0).0

start_there : (c : In_ok-contents) → to_z w64 (of_z w64 c.in_ok-contents.contents.start) ≡ start_of c.args.bytes.now
start_there c =
    let header_there_here : record_told (Ok c.in_ok-contents.contents) ≡ record_answer none c.args.bytes.now = (header_told _ c.in_ok-contents.ensures refl).1 in
    loaded_value _ (omega arith) ∙ ap (λ (a : RecordAnswer). a.start) header_there_here

pub returns-in_err-contents : goal.returns-in_err-contents
returns-in_err-contents c =
    let p = err_from_is_err_and c.from_residual.result c.from_residual.ensures.1 in
    let refused = header_error _ _ _ c.in_err-contents.ensures in
    record { value = rw (p.1, p.2) (salvage_error _ _ _ refused); buffer_after = error_left _ _ _ refused }

pub keep-kept-requires : goal.keep-kept-requires
keep-kept-requires c =
    let known = (goal.at.keep-kept-requires c).In_ok-contents in
    ((header_there known).1, (sound_there known).present)

pub returns-in_err-check_new : goal.returns-in_err-check_new
returns-in_err-check_new c =
    let known = (goal.at.returns-in_err-check_new c).In_ok-contents in
    let p = err_from_is_err_and c.from_residual-in_err-check_new.result c.from_residual-in_err-check_new.ensures.1 in
    let refused = c.in_err-check_new.ensures ∙ new_refusal _ _ (header_there known).0 (sound_there known).present c.keep-kept.ensures.left (start_there known) in
    record { value = rw (p.1, p.2) (salvage_error _ _ _ refused); buffer_after = error_left _ _ _ refused }

pub write-requires : goal.write-requires
write-requires c =
    let known = (goal.at.write-requires c).In_ok-contents in
    let there = (sound_there known).present in
    let nothing = c.in_ok-check_new.ensures ∙ new_refusal _ _ (header_there known).0 there c.keep-kept.ensures.left (start_there known) in
    let s = unrefused_salvageable c.args.bytes.now (length c.args.buffer.now) (refuses_nothing nothing) in
    omega (arith, c.keep-kept.ensures.left, s.enough, salvaged_within _ there, salvaged_length c.args.bytes.now, head_length_bounded c.args.bytes.now)

pub returns : goal.returns
returns c =
    let bytes = c.args.bytes.now in
    let known = (goal.at.returns c).In_ok-contents in
    let there = (sound_there known).present in
    let kept = c.keep-kept.ensures in
    let nothing = c.in_ok-check_new.ensures ∙ new_refusal _ _ (header_there known).0 there kept.left (start_there known) in
    let within : head_length bytes + 8 * first_bad bytes ≤ length bytes = omega (arith, salvaged_within bytes there, salvaged_length bytes) in
    let end : length bytes - c.keep-kept.result.left_over ≡ head_length bytes + 8 * first_bad bytes = omega (arith, kept.left, salvaged_length bytes) in
    let stored = salvaged_stored bytes (λ k. (c.type_inv.bytes k).fits) (sound_there known) within c.args.buffer.now end (kept.kept ∙ kept_length bytes) c.write.ensures in
    record { value = salvage_value _ _ nothing _ kept.old kept.kept kept.left kept.met; buffer_after = left_answered _ _ (sym nothing) stored }
