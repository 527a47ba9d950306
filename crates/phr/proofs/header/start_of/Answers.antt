-- `phr::header::start_of` meets its contract.
use Rattle.std.proofs.Common.{sym, ◌∙◌, arith}
use Rattle.phr.specs.Reading.{version_of}
use Rattle.phr.proofs.ReadCases.{first_start, second_head, second_start}
use Rattle.phr.proofs.SignLaws.{loaded_value}
use Rattle.phr.proofs.header.start_of.Goals as goal

pub value_at-requires : goal.value_at-requires
unfolding version_of
value_at-requires c =
    omega (arith, second_head c.args.bytes.now c.if-bytes-eq2.true, c.requires.1)

pub returns-then-bytes-eq2 : goal.returns-then-bytes-eq2
unfolding version_of
returns-then-bytes-eq2 c = loaded_value _ c.value_at.type_inv ∙ c.value_at.ensures ∙ sym (second_start _ c.if-bytes-eq2.true)

pub returns : goal.returns
unfolding version_of
returns c = sym (first_start _ c.if-bytes-eq2.false)
