-- How sixteen channels share one lent ring, and the bank that holds their meters.
use Rattle.std.specs.Prelude.{Bool, List, ◌++◌, ℕ, ◌+◌, ◌*◌, ◌/◌, leb, ℤ, length, take, drop, get_or, set}
use Rattle.meter.specs.Meter.{started}
use Rattle.meter.specs.declared.Meter.{Meter}
use Rattle.channels.specs.declared.Bank.{Bank}

-- the channels are numbered from 0 to 15
unfoldable pub is_channel : ℕ → Bool
is_channel c = leb c 15

-- the share: the whole part of a sixteenth of the ring's length
unfoldable pub share : List ℤ → ℕ
share ring = length ring / 16

-- channel c's part of the ring: the entries from c times the share up to the next channel's
unfoldable pub channel_part : ℕ → List ℤ → List ℤ
channel_part c ring = take (share ring) (drop (c * share ring) ring)

-- the ring with channel c's part as it is left; what lies before it and behind it is unchanged
unfoldable pub with_part : ℕ → List ℤ → List ℤ → List ℤ
with_part c ring left = take (c * share ring) ring ++ (left ++ drop (c * share ring + share ring) ring)

-- the meter of channel c; one of noughts where there is no such channel
unfoldable pub meter_of : Bank → ℕ → Meter
meter_of bank c = get_or bank.meters c (started 0)

-- the bank with another meter for channel c, and every other as it was
unfoldable pub with_meter : Bank → ℕ → Meter → Bank
with_meter bank c x = record { meters = set bank.meters c x }
