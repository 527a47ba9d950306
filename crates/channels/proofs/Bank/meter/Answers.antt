-- `channels::Bank::meter` meets its contract.
use Rattle.std.proofs.Common.{refl}
use Rattle.meter.specs.Meter.{started}
use Rattle.channels.specs.Shares.{meter_of}
use Rattle.channels.proofs.Bank.meter.Goals as goal

pub returns : goal.returns
unfolding meter_of started
returns c = refl
