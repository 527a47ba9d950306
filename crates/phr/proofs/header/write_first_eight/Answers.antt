-- `phr::header::write_first_eight` meets its contract.
use Rattle.std.proofs.Common.{◌∙◌, arith}
use Rattle.phr.specs.Kinds.{number_of_kind}
use Rattle.phr.proofs.HeaderLaws.{first_eight_stored}
use Rattle.phr.proofs.header.write_first_eight.Goals as goal

pub returns : goal.returns
returns c = first_eight_stored c.args.version (number_of_kind c.args.kind) c.args.count c.args.buffer.now (omega arith) (c.copy_from_slice.ensures.after ∙ rw c.from-kind.ensures)
