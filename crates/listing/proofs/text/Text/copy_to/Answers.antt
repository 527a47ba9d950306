-- `listing::text::Text::copy_to` meets its contract.
use Rattle.std.proofs.Common.{◌≡◌, ◌<◌, ◌≤◌, length, refl, arith, lt-ltb, le-ltb}
use lib.Dec.{ltb}
use Rattle.record.specs.Refusals.{none, refused, refused_if}
use Rattle.record.proofs.AnswerLaws.{value_refused, value_answered, left_refused, left_answered}
use Rattle.listing.proofs.text.Text.copy_to.Goals as goal

pub returns-then-buffer-all : goal.returns-then-buffer-all
returns-then-buffer-all g c =
    let over : length c.args.buffer.now < length c.args.self.now = rw c.self.view_is at c.if-buffer-all.true in
    let refusal : refused_if (ltb (length c.args.buffer.now) (length c.args.self.now)) 6 0 ≡ refused 6 0 = rw (lt-ltb _ _ over) in
    record { value = rw c.at.ensures (value_refused _ 6 0 (omega arith) refusal refl); buffer_after = left_refused _ _ 6 0 (omega arith) refusal }

pub returns : goal.returns
returns g c =
    let within : length c.args.self.now ≤ length c.args.buffer.now = rw c.self.view_is at c.if-buffer-all.false in
    let nothing : refused_if (ltb (length c.args.buffer.now) (length c.args.self.now)) 6 0 ≡ none = rw (le-ltb _ _ within) in
    record { value = rw c.self.view_is (value_answered _ nothing); buffer_after = left_answered _ _ nothing (rw (c.copy_from_slice.ensures.after, c.self.view_is)) }
