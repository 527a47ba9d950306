-- `phr::header::sound_up_to` meets its contract, what its invariant leaves to show.
use Rattle.std.proofs.Common.{◌≡◌, ◌<◌, min, length, sym, ◌∙◌, arith, length-take-le, get_or-take}
use Rattle.phr.specs.Reading.{tests_of}
use Rattle.phr.proofs.HeaderLaws.{tests_up_to, tests_go_on, wrong_here, sound_ends}
use Rattle.phr.proofs.header.sound_up_to.Goals as goal

pub loop-place-preserved : goal.loop-place-preserved
unfolding tests_of
loop-place-preserved c =
    let inside : c.loop-place.place < c.min.result = omega (arith, length-take-le c.min.result c.args.bytes.now (omega arith)) in
    let here = get_or-take c.min.result c.args.bytes.now c.loop-place.place 0 inside in
    tests_go_on (tests_up_to c.args.newest) _ c.loop-place.place c.loop-place.invariant (omega arith) (omega arith)
    (rw here at (sym c.header_byte.ensures ∙ c.if-not-header_byte.false))

pub returns-then-not-header_byte : goal.returns-then-not-header_byte
unfolding tests_of
returns-then-not-header_byte c =
    let inside : c.loop-place.place < c.min.result = omega (arith, length-take-le c.min.result c.args.bytes.now (omega arith)) in
    let here = get_or-take c.min.result c.args.bytes.now c.loop-place.place 0 inside in
    sym (wrong_here (tests_up_to c.args.newest) _ c.loop-place.place c.loop-place.invariant (omega arith) (omega arith)
    (rw here at (sym c.header_byte.ensures ∙ c.if-not-header_byte.true)))

pub returns : goal.returns
unfolding tests_of
returns c =
    let long = length-take-le c.min.result c.args.bytes.now (omega arith) in
    let whole : c.loop-place.place ≡ c.min.result = omega (arith, long) in
    let most : c.min.result ≡ min (length c.args.bytes.now) 8 = c.min.ensures in
    rw (long, most) (sym (sound_ends (tests_up_to c.args.newest) c.args.bytes.now (rw (whole, most) at c.loop-place.invariant)))
