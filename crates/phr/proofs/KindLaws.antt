-- The kind that sound bytes have is one of the two, and every number but 0 has the range of frequency values.
use Rattle.std.proofs.Common.{◌≡◌, ℕ, ◌^◌, ◌≤◌, Bool, cond, eqb, leb, List, ℤ, nat_abs, ap, arith, ne_eqb}
use Rattle.phr.specs.File.{value_in_range}
use Rattle.phr.specs.Kinds.{number_of_kind}
use Rattle.phr.specs.Reading.{sound_up_to, kind_of, header_tests, either_tests}
use Rattle.phr.specs.declared.kinds.Kind.{Kind}
use Rattle.phr.specs.declared.kinds.Kind.TheVariants.{Phase, Frequency}
use Rattle.phr.proofs.RoundTrip.{kind_passed}

pub first_kind : (bytes : List ℕ) → 8 ≤ sound_up_to header_tests bytes → kind_of bytes ≤ 1
unfolding header_tests
first_kind bytes sound = kind_passed (λ b. eqb b 1) bytes sound

pub either_kind : (bytes : List ℕ) → 8 ≤ sound_up_to either_tests bytes → kind_of bytes ≤ 1
unfolding either_tests
either_kind bytes sound = kind_passed _ bytes sound

pub number_most : (kind : Kind) → number_of_kind kind ≤ 1
number_most Phase = omega arith
number_most Frequency = omega arith

pub range_but_nought : (kind : ℕ) → (kind ≡ 0 → ⊥) → value_in_range kind ≡ value_in_range 1
unfolding value_in_range
range_but_nought kind some =
    let within : Bool → ℤ → Bool = λ phase z. leb (nat_abs z) (cond phase (2 ^ 40) (2 ^ 41)) in
    ap within (ne_eqb kind 0 some)
