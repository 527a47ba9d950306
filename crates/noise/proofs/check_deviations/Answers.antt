-- `noise::check_deviations` meets its contract.
use mathlib.Core.Path.{sym}
use Rattle.std.proofs.Common.{inl, inr, arith}
use Rattle.noise.proofs.NoiseLaws.{first_too_large, second_too_large, first_nought, no_refusal}
use Rattle.noise.proofs.check_deviations.Goals as goal

pub returns-then-r1-gt-LARGEST_DEVIATION : goal.returns-then-r1-gt-LARGEST_DEVIATION
returns-then-r1-gt-LARGEST_DEVIATION c =
    rw c.at.ensures (sym (elim c.then-r1-gt-LARGEST_DEVIATION.either [
      | inl first ↦ first_too_large _ _ (omega arith)
      | inr second ↦ second_too_large _ _ (omega arith)
    ]))

pub returns-then-r1-eq0 : goal.returns-then-r1-eq0
returns-then-r1-eq0 c = rw c.at-then-r1-eq0.ensures (sym (first_nought _ _ (omega arith) (omega arith) (omega arith)))

pub returns : goal.returns
returns c = sym (no_refusal _ _ (omega arith) (omega arith) (λ e. omega arith))
