-- `noise::time_deviation` meets its contract: neither the sum nor its deviation is refused.
use Rattle.std.proofs.Common.{◌≡◌, Ok, refl}
use Rattle.noise.specs.Noise.{time_deviation}
use Rattle.noise.proofs.NoiseLaws.{sum_of, sum_given, deviation_given}
use Rattle.noise.proofs.time_deviation.Goals as goal
use Rattle.noise.proofs.time_deviation.Goals.{After-unwrap-modified, After-time_root}

sum : (c : After-unwrap-modified) → let x = c.args in c.unwrap-modified.result ≡ sum_of x.m x.samples.now
sum c = cc (sum_given _ _ c.requires c.modified.ensures)

deviation : (c : After-time_root) → let x = c.args in c.time_root.result ≡ Ok (time_deviation x.m x.samples.now)
deviation c = deviation_given _ _ c.requires (sum (goal.at.unwrap-requires c).After-unwrap-modified) c.time_root.ensures

pub unwrap-modified-requires : goal.unwrap-modified-requires
unwrap-modified-requires c = rw (sum_given _ _ c.requires c.modified.ensures) refl

pub unwrap-requires : goal.unwrap-requires
unwrap-requires c = rw (deviation c) refl

pub returns : goal.returns
returns c = cc (deviation (goal.at.returns c).After-time_root)
