-- What a call on a channel answers: 11 for a channel above 15, before all else; then what the meter answers with the channel's part as its ring.
use Rattle.std.specs.Prelude.{cond, List, ℕ, eqb, ℤ}
use Rattle.sums.specs.Answers.{no_part}
use Rattle.meter.specs.Answers.{start_answer, sample_answer, ring_left, gap_answer, report_answer}
use Rattle.meter.specs.declared.Meter.{Meter}
use Rattle.meter.specs.declared.MeterAnswer.{MeterAnswer}
use Rattle.meter.specs.declared.Report.{Report}
use Rattle.channels.specs.Shares.{is_channel, channel_part, with_part, meter_of, with_meter}
use Rattle.channels.specs.declared.Bank.{Bank}
use Rattle.channels.specs.declared.BankAnswer.{BankAnswer}

-- ---- one meter, and its channel

-- 11 at place 0, and the meter as it came
unfoldable pub no_channel : Meter → MeterAnswer
no_channel x = record { number = 11; place = 0; meter = x }

-- 11, 5, then 6 if the share is shorter than 3m
unfoldable pub channel_start_answer : Meter → ℕ → ℕ → List ℤ → MeterAnswer
channel_start_answer old c m ring = cond (is_channel c) (start_answer old m (channel_part c ring)) (no_channel old)

-- 11, 7, 2, 3
unfoldable pub channel_sample_answer : Meter → ℕ → List ℤ → ℤ → MeterAnswer
channel_sample_answer x c ring v = cond (is_channel c) (sample_answer x (channel_part c ring) v) (no_channel x)

-- the ring as a sample call leaves it
unfoldable pub channel_ring_left : Meter → ℕ → List ℤ → ℤ → List ℤ
channel_ring_left x c ring v = cond (is_channel c) (with_part c ring (ring_left x (channel_part c ring) v)) ring

-- 11, 7
unfoldable pub channel_gap_answer : Meter → ℕ → MeterAnswer
channel_gap_answer x c = cond (is_channel c) (gap_answer x) (no_channel x)

-- 11, 7
unfoldable pub channel_report_answer : Meter → ℕ → Report
channel_report_answer x c = cond (is_channel c) (report_answer x) (record { number = 11; place = 0; allan = no_part; modified = no_part })

-- ---- the bank: the same, of the meter that it holds for the channel

-- the bank with the channel's new meter, or the refusal and the bank as it came
unfoldable pub bank_answer : Bank → ℕ → MeterAnswer → BankAnswer
bank_answer bank c z =
    cond (eqb z.number 0) (record { number = 0; place = 0; bank = with_meter bank c z.meter })
    (record { number = z.number; place = z.place; bank = bank })

unfoldable pub bank_start_answer : Bank → ℕ → ℕ → List ℤ → BankAnswer
bank_start_answer bank c m ring = bank_answer bank c (channel_start_answer (meter_of bank c) c m ring)

unfoldable pub bank_sample_answer : Bank → ℕ → List ℤ → ℤ → BankAnswer
bank_sample_answer bank c ring v = bank_answer bank c (channel_sample_answer (meter_of bank c) c ring v)

unfoldable pub bank_ring_left : Bank → ℕ → List ℤ → ℤ → List ℤ
bank_ring_left bank c ring v = channel_ring_left (meter_of bank c) c ring v

unfoldable pub bank_gap_answer : Bank → ℕ → BankAnswer
bank_gap_answer bank c = bank_answer bank c (channel_gap_answer (meter_of bank c) c)

unfoldable pub bank_report_answer : Bank → ℕ → Report
bank_report_answer bank c = channel_report_answer (meter_of bank c) c
