-- `ToldNoise::from` of `ploegelster::drawing` says what its impl does.
use Rattle.std.proofs.Common.{refl, w64, ne_eqb}
use Rattle.laws.proofs.Machine.{read_back}
use Rattle.record.specs.Told.{number_of}
use Rattle.record.proofs.ToldLaws.{answered_not}
use Rattle.noise.specs.Noise.{told_alpha}
use Rattle.ploegelster.specs.Boundary.{told_noise}
use Rattle.ploegelster.proofs.Told.{alpha_fits}
use Rattle.ploegelster.proofs.drawing.ToldNoiseFromResultNoiseRefused.from.Goals as goal

pub returns-in-Ok : goal.returns-in-Ok
unfolding told_noise told_alpha
returns-in-Ok c = rw (c.in-Ok.is, read_back {w = w64} c.into.ensures (alpha_fits c.in-Ok.noise)) refl

pub returns-in-Err : goal.returns-in-Err
unfolding told_noise told_alpha
returns-in-Err c = rw (c.in-Err.is, c.into-in-Err.ensures, ne_eqb (number_of c.in-Err.refused.why) 0 (answered_not c.in-Err.refused)) refl
