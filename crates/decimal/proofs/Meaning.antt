-- The digits that are laid down are those of the number: some digits and nothing else, with no nought in front, that make it.
use mathlib.Core.Path.{◌≡◌, refl, sym, ap, ◌∙◌}
use mathlib.Core.Bool.{Bool, true, false}
use mathlib.Core.List.{List, [], ◌∷◌, ◌++◌}
use Prim.Native.Nat.{ℕ, zero, suc, ◌+◌, ◌-◌, ◌*◌, ◌/◌, ◌%◌, ◌^◌, ◌<◌}
use native.Mathlib.Nat.{div-add-mod}
use native.Mathlib.Omega.{arith}
use borrow.Author.Tests.{ltb-true, ltb-false, le-leb}
use lib.Dec.{ltb}
use lib.ListN.{length, get_or, length-append, get_or-append}
use lib.Seq.{get_or-append_seam}
use Rattle.decimal.specs.Decimal.{digits_within, decimal, is_digit, worth, Decimal}
use Rattle.decimal.proofs.DigitLaws.{one_digit, more_digits, tenth_below, some_digit}

pub digit_is : (d : ℕ) → d < 10 → is_digit (0x30 + d) ≡ true
unfolding is_digit
digit_is d h = rw (le-leb 0x30 (0x30 + d) (omega arith), le-leb (0x30 + d) 0x39 (omega arith))

-- one digit more at the end
worth_of_more : (before : ℕ) (text : List ℕ) (b : ℕ) → worth before (text ++ (b ∷ [])) ≡ 10 * worth before text + (b - 0x30)
unfolding worth
worth_of_more before [] b = refl
worth_of_more before (c ∷ text) b = worth_of_more (10 * before + (c - 0x30)) text b

-- an entry of some digits and one more
digit_of_more : (text : List ℕ) (b : ℕ) → ((i : ℕ) → i < length text → is_digit (get_or text i 0) ≡ true) → is_digit b ≡ true →
    (i : ℕ) → i < length (text ++ (b ∷ [])) → is_digit (get_or (text ++ (b ∷ [])) i 0) ≡ true
digit_of_more text b all last i h = by_place (ltb i (length text)) refl
  where
    by_place : (before : Bool) → ltb i (length text) ≡ before → is_digit (get_or (text ++ (b ∷ [])) i 0) ≡ true
    by_place true t = ap is_digit (get_or-append text (b ∷ []) 0 i (ltb-true i (length text) t)) ∙ all i (ltb-true i (length text) t)
    by_place false t =
        let there : i ≡ length text = omega (arith, ltb-false i (length text) t, length-append text (b ∷ [])) in
        ap is_digit (rw there (get_or-append_seam text b [] 0)) ∙ last

makes_number : (k n : ℕ) → n < 10 ^ k → worth 0 (digits_within k n) ≡ n
unfolding worth digits_within
makes_number zero n h = omega arith
makes_number (suc k) n h = by_size (ltb n 10) refl (makes_number k (n / 10) (tenth_below k n h))
  where
    by_size : (small : Bool) → ltb n 10 ≡ small → worth 0 (digits_within k (n / 10)) ≡ n / 10 → worth 0 (digits_within (suc k) n) ≡ n
    by_size true t tenth = rw (one_digit k n (ltb-true n 10 t)) (omega arith)
    by_size false t tenth = rw (more_digits k n (ltb-false n 10 t)) (worth_of_more 0 (digits_within k (n / 10)) (0x30 + n % 10) ∙ omega (arith, div-add-mod n 10))

all_digits : (k n : ℕ) (i : ℕ) → i < length (digits_within k n) → is_digit (get_or (digits_within k n) i 0) ≡ true
unfolding digits_within
all_digits zero n i h = absurd (omega arith)
all_digits (suc k) n i h = by_size (ltb n 10) refl (all_digits k (n / 10))
  where
    by_size : (small : Bool) → ltb n 10 ≡ small → ((j : ℕ) → j < length (digits_within k (n / 10)) → is_digit (get_or (digits_within k (n / 10)) j 0) ≡ true) →
        is_digit (get_or (digits_within (suc k) n) i 0) ≡ true
    by_size true t tenth =
        let one = one_digit k n (ltb-true n 10 t) in
        let first : i ≡ 0 = omega (arith, ap length one) in
        rw (one, first) (digit_is n (ltb-true n 10 t))
    by_size false t tenth =
        let more = more_digits k n (ltb-false n 10 t) in
        rw more (digit_of_more (digits_within k (n / 10)) (0x30 + n % 10) tenth (digit_is (n % 10) (omega arith)) i (rw more at h))

-- the first digit of a number that is not nought
first_digit : (k n : ℕ) → 0 < n → n < 10 ^ k → get_or (digits_within k n) 0 0 ≡ 0x30 → ⊥
first_digit zero n some h e = absurd (omega arith)
first_digit (suc zero) n some h e = let one : n < 10 = omega arith in omega (arith, rw (one_digit 0 n one) at e)
first_digit (suc (suc k)) n some h e = by_size (ltb n 10) refl (λ several. first_digit (suc k) (n / 10) several (tenth_below (suc k) n h))
  where
    by_size : (small : Bool) → ltb n 10 ≡ small → (0 < n / 10 → get_or (digits_within (suc k) (n / 10)) 0 0 ≡ 0x30 → ⊥) → ⊥
    by_size true t tenth = omega (arith, rw (one_digit (suc k) n (ltb-true n 10 t)) at e)
    by_size false t tenth =
        let more = rw (more_digits (suc k) n (ltb-false n 10 t)) at e in
        tenth (omega (arith, ltb-false n 10 t)) (sym (get_or-append (digits_within (suc k) (n / 10)) ((0x30 + n % 10) ∷ []) 0 0 (some_digit k (n / 10))) ∙ more)

pub decimal_is : (n : ℕ) → n < 10 ^ 39 → Decimal n (decimal n)
unfolding decimal
decimal_is n h = record {
  some = some_digit 38 n;
  digits = all_digits 39 n;
  no_nought = λ several. first_digit 39 n (above_nought several) h;
  makes = makes_number 39 n h;
}
  where
    above_nought : 1 < length (digits_within 39 n) → 0 < n
    above_nought several = by_size (ltb n 10) refl
      where
        by_size : (small : Bool) → ltb n 10 ≡ small → 0 < n
        by_size true t = absurd (omega (arith, ap length (one_digit 38 n (ltb-true n 10 t))))
        by_size false t = omega (arith, ltb-false n 10 t)
