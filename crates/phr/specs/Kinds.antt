-- The numbers of the kinds.
use Rattle.std.specs.Prelude.{◌≡◌, ℕ, ◌<◌, Result, Ok, Err}
use Rattle.record.specs.declared.grounds.Refused.{Refused}
use Rattle.record.specs.declared.grounds.Ground.TheVariants.{BadFile}
use Rattle.phr.specs.declared.kinds.Kind.{Kind}
use Rattle.phr.specs.declared.kinds.Kind.TheVariants.{Phase, Frequency}

-- 0 phase, 1 frequency
abbrev pub number_of_kind : Kind → ℕ
number_of_kind Phase = 0
number_of_kind Frequency = 1

-- the kind that has a number; 9 at place 5 where none has it
abbrev pub OfNumber : ℕ → Result Kind Refused → Type 0
OfNumber number (Ok kind) = number ≡ number_of_kind kind
OfNumber number (Err e) = (1 < number) × (e ≡ record { why = BadFile; place = 5 })
