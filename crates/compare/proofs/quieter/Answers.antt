-- `compare::quieter` meets its contract.
use Rattle.std.proofs.Common.{refl, arith}
use Rattle.compare.specs.Quieter.{empty_part}
use Rattle.compare.proofs.QuieterLaws.{first_handed, second_handed, none_handed}
use Rattle.compare.proofs.quieter.Goals as goal

pub returns-in-Ok-First : goal.returns-in-Ok-First
returns-in-Ok-First c = first_handed _ _ _ (rw c.in-Ok-First.field-0-is at c.in-Ok-First.ensures) refl

pub returns-in-Ok-Second : goal.returns-in-Ok-Second
returns-in-Ok-Second c = second_handed _ _ _ (rw c.in-Ok-Second.field-0-is at c.in-Ok-Second.ensures) refl

pub returns-in-Err : goal.returns-in-Err
unfolding empty_part
returns-in-Err c = none_handed _ _ _ c.in-Err.ensures (λ is. absurd (omega (arith, is))) (λ is. absurd (omega (arith, is)))
