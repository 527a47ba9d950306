-- A number that stands in a text, ended by a byte that is no digit, is read back from it; what is no digit is passed over.
use mathlib.Core.Path.{◌≡◌, refl, ◌∙◌}
use mathlib.Core.Bool.{true, false}
use mathlib.Core.List.{List, [], ◌∷◌, ◌++◌}
use Prim.Native.Nat.{ℕ, suc, ◌+◌, ◌-◌, ◌*◌, ◌^◌, ◌<◌}
use native.Mathlib.Omega.{arith}
use lib.ListN.{length, get_or}
use Rattle.decimal.specs.Decimal.{decimal, is_digit, worth, Decimal, runs, numbers_in}
use Rattle.decimal.proofs.Meaning.{decimal_is}

-- a number that has begun goes on with each digit
goes_on : (n : ℕ) (text rest : List ℕ) → ((i : ℕ) → i < length text → is_digit (get_or text i 0) ≡ true) → runs true n (text ++ rest) ≡ runs true (worth n text) rest
unfolding runs worth
goes_on n [] rest all = refl
goes_on n (b ∷ text) rest all =
    let first : is_digit b ≡ true = all 0 (omega arith) in
    rw first (goes_on (10 * n + (b - 0x30)) text rest (λ i h. all (suc i) (omega arith)))

module _ (b : ℕ) (rest : List ℕ) (none : is_digit b ≡ false) where
  pub other_passed : numbers_in (b ∷ rest) ≡ numbers_in rest
  unfolding numbers_in runs
  other_passed = rw none

  spelled_read : (n : ℕ) (text : List ℕ) → Decimal n text → numbers_in (text ++ (b ∷ rest)) ≡ n ∷ numbers_in rest
  unfolding numbers_in runs worth
  spelled_read n [] d = absurd (omega (arith, d.some))
  spelled_read n (c ∷ text) d =
      let first : is_digit c ≡ true = d.digits 0 (omega arith) in
      rw first (goes_on (10 * 0 + (c - 0x30)) text (b ∷ rest) (λ i h. d.digits (suc i) (omega arith)) ∙ rw (none, d.makes))

  pub number_read : (n : ℕ) → n < 10 ^ 39 → numbers_in (decimal n ++ (b ∷ rest)) ≡ n ∷ numbers_in rest
  number_read n h = spelled_read n (decimal n) (decimal_is n h)
