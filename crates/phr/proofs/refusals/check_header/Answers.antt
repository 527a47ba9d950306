-- `phr::refusals::check_header` meets its contract: the start is read where the whole header is there.
use Rattle.std.proofs.Common.{◌≡◌, ◌≤◌, length, sym, ap, ◌∙◌, ap₂, arith}
use Rattle.record.specs.Refusals.{refused}
use Rattle.phr.specs.File.{start_fits}
use Rattle.phr.specs.Reading.{sound_up_to, kind_of, either_tests, head_length, start_of}
use Rattle.phr.proofs.ReadCases.{sound_within, first_eight_wrong, header_short, start_unfit, start_fit}
use Rattle.phr.proofs.KindLaws.{either_kind}
use Rattle.phr.proofs.SignLaws.{loaded_value}
use Rattle.phr.proofs.refusals.check_header.Goals as goal
use Rattle.phr.proofs.refusals.check_header.Goals.{After-sound_up_to-sound, After-can_start, Else-bytes-head_length, Else-sound-lt8}

found : (c : After-sound_up_to-sound) → c.sound_up_to-sound.result ≡ sound_up_to either_tests c.args.bytes.now
unfolding either_tests
found c = c.sound_up_to-sound.ensures

-- what is known of the bytes where a test is left
sound_there : (c : Else-sound-lt8) → 8 ≤ sound_up_to either_tests c.args.bytes.now
unfolding either_tests
sound_there c =
    let found_here : c.sound_up_to-sound.result ≡ sound_up_to either_tests c.args.bytes.now = c.sound_up_to-sound.ensures in
    omega (arith, found_here)

eight_there : (c : Else-sound-lt8) → 8 ≤ length c.args.bytes.now
eight_there c = omega (arith, sound_there c, sound_within either_tests c.args.bytes.now)

present_there : (c : Else-bytes-head_length) → let bytes = c.args.bytes.now in head_length bytes ≤ length bytes
present_there c = omega (arith, c.head_length.ensures)

fits_there : (c : After-can_start) → let bytes = c.args.bytes.now in
    c.can_start.result ≡ start_fits (kind_of bytes) (start_of bytes)
fits_there c = c.can_start.ensures ∙ ap₂ start_fits c.kind_of.ensures (loaded_value _ c.start_of.type_inv ∙ c.start_of.ensures)

pub returns-then-sound-lt8 : goal.returns-then-sound-lt8
returns-then-sound-lt8 c =
    rw c.at.ensures (ap (refused 9) (found (goal.at.returns-then-sound-lt8 c).After-sound_up_to-sound) ∙ sym (first_eight_wrong c.args.bytes.now (omega (arith, found (goal.at.returns-then-sound-lt8 c).After-sound_up_to-sound))))

pub head_length-requires : goal.head_length-requires
head_length-requires c = eight_there (goal.at.head_length-requires c).Else-sound-lt8

pub returns-then-bytes-head_length : goal.returns-then-bytes-head_length
returns-then-bytes-head_length c =
    rw c.at-then-bytes-head_length.ensures (sym (header_short c.args.bytes.now (sound_there (goal.at.returns-then-bytes-head_length c).Else-sound-lt8) (omega (arith, c.head_length.ensures))))

pub kind_of-requires : goal.kind_of-requires
kind_of-requires c = let c′ = (goal.at.kind_of-requires c).Else-sound-lt8 in (eight_there c′, either_kind _ (sound_there c′))

pub start_of-requires : goal.start_of-requires
start_of-requires c = (eight_there (goal.at.start_of-requires c).Else-sound-lt8, present_there (goal.at.start_of-requires c).Else-bytes-head_length)

pub returns-then-can_start : goal.returns-then-can_start
returns-then-can_start c =
    sym (start_fit _ (sound_there (goal.at.returns-then-can_start c).Else-sound-lt8) (present_there (goal.at.returns-then-can_start c).Else-bytes-head_length) (sym (fits_there (goal.at.returns-then-can_start c).After-can_start) ∙ c.if-can_start.true))

pub returns : goal.returns
returns c =
    rw c.at-2.ensures (sym (start_unfit _ (sound_there (goal.at.returns c).Else-sound-lt8) (present_there (goal.at.returns c).Else-bytes-head_length) (sym (fits_there (goal.at.returns c).After-can_start) ∙ c.if-can_start.false)))
