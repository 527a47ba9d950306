-- `wide::long_division::one_digit` meets its contract: the guess is two too large at most, and each step takes one off.
use Rattle.std.proofs.Common.{◌≡◌, ℕ, ◌-◌, ◌*◌, ◌/◌, ◌^◌, sym, ap, ◌∙◌, arith}
use Rattle.std.proofs.Math.Nat.{div-mul-le_self, mod-eq-sub-div-mul}
use Rattle.wide.proofs.Divisions.{guess_reaches, guess_lowered_twice}
use Rattle.wide.proofs.long_division.one_digit.Goals as goal

pub nearer-requires : goal.nearer-requires
nearer-requires c = (omega arith, guess_reaches (2 ^ 32) c.args.n c.args.d (omega arith) (omega arith) (omega arith))

quotient_is : (c : goal.After-nearer-quotient) → c.nearer-quotient.result ≡ c.args.n / c.args.d
quotient_is c =
    guess_lowered_twice (2 ^ 32) c.args.n c.args.d (omega arith) (omega arith) (omega arith)
    c.nearer.ensures.1 c.nearer-quotient.ensures.0 c.nearer-quotient.ensures.1

pub overflow_sub-result : goal.overflow_sub-result
overflow_sub-result c = omega (arith, ap (λ (t : ℕ). t * c.args.d) (quotient_is c), div-mul-le_self c.args.n c.args.d)

pub returns : goal.returns
returns c = (quotient_is c, ap (λ (t : ℕ). c.args.n - t * c.args.d) (quotient_is c) ∙ sym (mod-eq-sub-div-mul c.args.n c.args.d))
