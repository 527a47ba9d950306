-- Whole numbers as text: their decimal digits, and the numbers that stand in a text.
use Rattle.std.specs.Prelude.{◌≡◌, Bool, true, false, cond, ◌&&◌, List, [], ◌∷◌, ◌++◌, ℕ, zero, suc, ◌+◌, ◌-◌, ◌*◌, ◌/◌, ◌%◌, ◌<◌, leb, ltb, length, get_or}

-- the decimal digits of a number that has at most so many, the last one last; 0x30 is the digit 0. No nought stands in front, but nought itself is `0`
unfoldable pub digits_within : ℕ → ℕ → List ℕ
digits_within zero n = []
digits_within (suc more) n = cond (ltb n 10) ((0x30 + n) ∷ []) (digits_within more (n / 10) ++ ((0x30 + n % 10) ∷ []))

-- a number below 2^128 has at most 39
unfoldable pub decimal : ℕ → List ℕ
decimal n = digits_within 39 n

-- ---- what the digits of a number are

unfoldable pub is_digit : ℕ → Bool
is_digit b = leb 0x30 b && leb b 0x39

-- the number that digits make, read from the left: ten times what stands before, and the digit
unfoldable pub worth : ℕ → List ℕ → ℕ
worth before [] = before
worth before (b ∷ bs) = worth (10 * before + (b - 0x30)) bs

-- a text is a number's: some digits and nothing else, with no nought in front of others, that make the number
pub record Decimal (n : ℕ) (text : List ℕ) : Type 0 where
  pub some : 0 < length text
  pub digits : (i : ℕ) → i < length text → is_digit (get_or text i 0) ≡ true
  pub no_nought : 1 < length text → get_or text 0 0 ≡ 0x30 → ⊥
  pub makes : worth 0 text ≡ n

-- ---- the numbers in a text

-- whether a number has begun, the number so far, and the bytes that follow: each run of digits is a number
unfoldable pub runs : Bool → ℕ → List ℕ → List ℕ
runs begun n [] = cond begun (n ∷ []) []
runs begun n (b ∷ bs) =
    cond (is_digit b) (runs true (10 * n + (b - 0x30)) bs)
    (cond begun (n ∷ runs false 0 bs) (runs false 0 bs))

unfoldable pub numbers_in : List ℕ → List ℕ
numbers_in text = runs false 0 text
