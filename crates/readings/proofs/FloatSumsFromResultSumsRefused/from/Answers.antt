-- `readings::FloatSums::from` says what its impl does.
use Rattle.std.proofs.Common.{refl}
use Rattle.sums.specs.Answers.{no_part}
use Rattle.readings.proofs.FloatSumsFromResultSumsRefused.from.Goals as goal

pub returns-in-Err : goal.returns-in-Err
unfolding no_part
returns-in-Err c = rw (c.in-Err.is, c.into-in-Err.ensures) refl
