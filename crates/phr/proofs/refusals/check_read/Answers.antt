-- `phr::refusals::check_read` meets its contract.
use Rattle.std.proofs.Common.{◌≡◌, ◌≤◌, sym, ap, ◌∙◌, arith}
use Rattle.record.specs.Refusals.{refused}
use Rattle.record.proofs.RefusalLaws.{refusal_stands, none_gives_way}
use Rattle.phr.specs.Reading.{sound_up_to, count_refusal, header_tests, values_of}
use Rattle.std.proofs.lemmas.Result.{err_from_is_err_and}
use Rattle.record.proofs.ToldLaws.{refuses, refuses_nothing}
use Rattle.phr.proofs.KindLaws.{first_kind}
use Rattle.phr.proofs.HeaderLaws.{one_version}
use Rattle.phr.proofs.ReadCases.{Counted, sound_within, unrefused_counted, header_wrong, header_sound}
use Rattle.phr.proofs.refusals.check_read.Goals as goal
use Rattle.phr.proofs.refusals.check_read.Goals.{After-sound_up_to-sound, In_ok-check_count, Else-sound-lt8}

found : (c : After-sound_up_to-sound) → c.sound_up_to-sound.result ≡ sound_up_to header_tests c.args.bytes.now
found c = c.sound_up_to-sound.ensures ∙ ap (λ tests. sound_up_to tests c.args.bytes.now) one_version

sound_there : (c : Else-sound-lt8) → 8 ≤ sound_up_to header_tests c.args.bytes.now
sound_there c =
    let found_here : c.sound_up_to-sound.result ≡ sound_up_to header_tests c.args.bytes.now = c.sound_up_to-sound.ensures ∙ ap (λ tests. sound_up_to tests c.args.bytes.now) one_version in
    omega (arith, found_here)

number_there : (c : In_ok-check_count) → let a = c.args in (count_refusal 8 a.bytes.now a.room).number ≡ 0
number_there c = refuses_nothing c.in_ok-check_count.ensures

counted_there : (c : In_ok-check_count) → let a = c.args in Counted 8 a.bytes.now a.room
counted_there c = unrefused_counted 8 _ _ (number_there c)

pub returns-then-sound-lt8 : goal.returns-then-sound-lt8
returns-then-sound-lt8 c =
    let f = found (goal.at.returns-then-sound-lt8 c).After-sound_up_to-sound in
    rw c.at.ensures (ap (refused 9) f ∙ sym (header_wrong _ _ (omega (arith, f))))

pub check_count-requires : goal.check_count-requires
check_count-requires c =
    let sound = sound_there (goal.at.check_count-requires c).Else-sound-lt8 in
    (omega (arith, sound, sound_within header_tests c.args.bytes.now), first_kind _ sound, omega arith)

pub returns-in_err-check_count : goal.returns-in_err-check_count
returns-in_err-check_count c =
    let r = c.in_err-check_count.ensures in
    let p = err_from_is_err_and c.from_residual.result c.from_residual.ensures.1 in
    rw (p.1, p.2) (r ∙ sym (header_sound _ _ (sound_there (goal.at.returns-in_err-check_count c).Else-sound-lt8) ∙ refusal_stands _ _ (refuses _ r)))

pub check_outside-requires : goal.check_outside-requires
check_outside-requires c =
    let sound = sound_there (goal.at.check_outside-requires c).Else-sound-lt8 in
    (omega (arith, sound, sound_within header_tests c.args.bytes.now), first_kind _ sound, omega (arith, (counted_there (goal.at.check_outside-requires c).In_ok-check_count).whole))

pub returns : goal.returns
unfolding values_of
returns c =
    c.check_outside.ensures ∙ sym (header_sound _ _ (sound_there (goal.at.returns c).Else-sound-lt8) ∙ none_gives_way _ _ (number_there (goal.at.returns c).In_ok-check_count))
