-- `meter::Meter::new` meets its contract.
use mathlib.Core.Path.{sym}
use native.Mathlib.Omega.{arith}
use Rattle.meter.proofs.AnswerLaws.{start_at_nought, start_at_too_large, start_without_room, start_given}
use Rattle.meter.proofs.Meter.new.Goals as goal

pub returns-then-m-lt1 : goal.returns-then-m-lt1
returns-then-m-lt1 c old = rw c.at.ensures (sym (start_at_nought _ _ _ (omega arith)))

pub returns-then-m-gt-LARGEST_FACTOR : goal.returns-then-m-gt-LARGEST_FACTOR
returns-then-m-gt-LARGEST_FACTOR c old = rw c.at-then-m-gt-LARGEST_FACTOR.ensures (sym (start_at_too_large _ _ _ (omega arith)))

pub returns-then-ring-m : goal.returns-then-ring-m
returns-then-ring-m c old = rw c.at-then-ring-m.ensures (sym (start_without_room _ _ _ (omega arith) (omega arith) (omega arith)))

pub returns : goal.returns
returns c old = start_given _ _ _ (omega arith) (omega arith) (omega arith) c.fresh.ensures
