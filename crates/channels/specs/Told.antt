-- A bank as it is told.
use Rattle.std.specs.Prelude.{Result, Ok, Err}
use Rattle.record.specs.Told.{number_of}
use Rattle.record.specs.declared.grounds.Refused.{Refused}
use Rattle.channels.specs.declared.Bank.{Bank}
use Rattle.channels.specs.declared.BankAnswer.{BankAnswer}

-- the new bank, or the refusal and the bank as it came
abbrev pub bank_told : Bank → Result Bank Refused → BankAnswer
bank_told old (Ok new) = record { number = 0; place = 0; bank = new }
bank_told old (Err e) = record { number = number_of e.why; place = e.place; bank = old }
