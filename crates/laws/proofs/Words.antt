-- Signed numbers as words of 64 bits: nought, the word that two tests and a cast make of a number, the word of a number that is moved up, and the bits
-- of many words gathered in one.
use mathlib.Core.Path.{◌≡◌, refl, sym, ap, ◌∙◌}
use mathlib.Core.Bool.{true, false}
use Prim.Native.Nat.{ℕ, suc, ◌+◌, ◌-◌, ◌*◌, ◌%◌, ◌^◌, ◌≤◌, ◌<◌}
use native.Mathlib.Nat.{le_trans}
use native.Mathlib.Omega.{arith}
use borrow.Author.Count.{below_more}
use borrow.Author.Tests.{ne_eqb}
use lib.Bits.{bit_or, or_add_and, and_le_l, and_le_r}
use lib.Dec.{T, eqb}
use lib.IntN.{ℤ, pos, negsuc, nat_abs}
use lib.Signed.{lt_z, non_neg}
use mir.Syntax.{w64}
use mir.Val.{SFits, Fits, to_z, of_z}
use Rattle.laws.proofs.Parts.{plus, minus, one_part, parts_of_fits}
use Rattle.laws.proofs.Expressions.{Expression, $◌, #◌, ◌⊕◌, ◌⊖◌, ◌⊏◌, ◌⊑◌}
use Rattle.laws.proofs.Machine.{Fit, machine, lt_taken, lt_left, cast_is, cast_fits}

-- ---- the word of a number by its parts

word_below : (z : ℤ) → plus z < minus z → of_z w64 z ≡ 2 ^ 64 - minus z
word_below (pos n) h = absurd (omega arith)
word_below (negsuc n) h = refl

word_above : (z : ℤ) → minus z ≤ plus z → plus z ≡ of_z w64 z
word_above (pos n) h = refl
word_above (negsuc n) h = absurd (omega arith)

-- ---- nought

-- a word is nought where its number is
pub nought_word : (z : ℤ) → SFits w64 z → eqb (of_z w64 z) 0 ≡ eqb (nat_abs z) 0
nought_word (pos n) f = refl
nought_word (negsuc n) f = ne_eqb (2 ^ 64 - suc n) 0 (λ e. omega (arith, f.sfits)) ∙ sym (ne_eqb (suc n) 0 (λ e. omega arith))

pub size_nought : (z : ℤ) → nat_abs z ≡ 0 → z ≡ pos 0
size_nought (pos n) e = ap pos e
size_nought (negsuc n) e = absurd (omega arith)

-- ---- the word of a number z below nought is 2^64 - 1 - (-(z + 1)), and of another the number itself

abbrev pub past_nought : ℤ → Expression
past_nought z = # 0 ⊖ ($ z ⊕ # 1)

module _ (z : ℤ) (fits : SFits w64 z) where
  module _ (below : lt_z (to_z w64 (of_z w64 z)) (pos 0) ≡ true) where
    under : $ z ⊏ # 0
    under = lt_taken w64 ($ z) (# 0) fits (omega arith) below

    pub past_nought_fits : Fit w64 (past_nought z)
    past_nought_fits = omega (arith, under, parts_of_fits fits)

    pub past_nought_cast : T (non_neg (machine w64 (past_nought z))) × Fits w64 (nat_abs (machine w64 (past_nought z)))
    past_nought_cast = cast_fits w64 w64 (past_nought z) past_nought_fits (omega (arith, under, parts_of_fits fits, one_part z))

    past_nought_is : nat_abs (machine w64 (past_nought z)) ≡ minus z - 1
    past_nought_is = cast_is w64 (past_nought z) (minus z - 1) past_nought_fits (omega (arith, under, one_part z))

    pub past_nought_within : nat_abs (machine w64 (past_nought z)) ≤ 2 ^ 64 - 1
    past_nought_within = omega (arith, past_nought_cast.1)

    pub below_nought_word : 2 ^ 64 - 1 - nat_abs (machine w64 (past_nought z)) ≡ of_z w64 z
    below_nought_word = omega (arith, past_nought_is, under, one_part z, word_below z (omega (arith, under)))

  module _ (above : lt_z (to_z w64 (of_z w64 z)) (pos 0) ≡ false) where
    over : # 0 ⊑ $ z
    over = lt_left w64 ($ z) (# 0) fits (omega arith) above

    pub above_nought_cast : T (non_neg (machine w64 ($ z))) × Fits w64 (nat_abs (machine w64 ($ z)))
    above_nought_cast = cast_fits w64 w64 ($ z) fits (omega (arith, over, parts_of_fits fits))

    pub above_nought_word : nat_abs (machine w64 ($ z)) ≡ of_z w64 z
    above_nought_word = cast_is w64 ($ z) (plus z) fits (omega (arith, over, one_part z)) ∙ word_above z (omega (arith, over))

-- ---- a number whose word, moved up by c modulo 2^64, is at most 2c lies within c

pub moved_up_within : (c : ℕ) → c ≤ 2 ^ 62 → (z : ℤ) → SFits w64 z → (of_z w64 z + c) % 2 ^ 64 ≤ 2 * c → nat_abs z ≤ c
moved_up_within c small (pos n) fits below = omega (arith, fits.sfits)
moved_up_within c small (negsuc n) fits below = omega (arith, fits.sfits)

-- ---- the bits of two words in one: it is at least either

or_reaches_left : (a b : ℕ) → a ≤ bit_or a b
or_reaches_left a b = omega (arith, or_add_and a b, and_le_r a b)

or_reaches_right : (a b : ℕ) → b ≤ bit_or a b
or_reaches_right a b = omega (arith, or_add_and a b, and_le_l a b)

-- the bits of the words before i, gathered, are at least each of them
abbrev pub Reached : (ℕ → ℕ) → ℕ → ℕ → Type 0
Reached words i reached = (k : ℕ) → k < i → words k ≤ reached

pub one_more_reached : (words : ℕ → ℕ) (i reached : ℕ) → Reached words i reached → {word : ℕ} → word ≡ words i → Reached words (i + 1) (bit_or reached word)
one_more_reached words i reached so_far {word} e =
    below_more (λ k. words k ≤ bit_or reached word) i (λ k below. le_trans (so_far k below) (or_reaches_left reached word)) (omega (arith, or_reaches_right reached word))
