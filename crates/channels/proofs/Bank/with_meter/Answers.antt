-- `channels::Bank::with_meter` meets its contract.
use Rattle.std.proofs.Common.{refl}
use Rattle.channels.specs.Shares.{with_meter}
use Rattle.channels.proofs.Bank.with_meter.Goals as goal

pub returns : goal.returns
unfolding with_meter
returns c = refl
