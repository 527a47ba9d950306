-- `listing::lines::factor_lines` meets its contract. The loop's invariant: the first i factors are done.
use Prim.Native.Nat.{◌^◌}
use Rattle.listing.proofs.FactorLaws.{Done}
use Rattle.listing.proofs.lines.factor_lines.Given as goal

abbrev pub invariant-loop-i : goal.invariant-loop-i
invariant-loop-i l = Done l.samples l.initial.totals.k l.initial.totals.c l.text l.totals.k l.totals.c (2 ^ l.i) l.i
