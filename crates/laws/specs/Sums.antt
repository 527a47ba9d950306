-- Sums over a range, of naturals and of signed numbers, the total over a list, and the square of a signed number.
use Rattle.std.specs.Prelude.{List, [], ◌∷◌, ℕ, zero, suc, ◌+◌, ◌*◌, ℤ, pos, nat_abs, ◌+ℤ◌}

-- f 0 + f 1 + .. + f (n - 1), of naturals
unfoldable pub sum : ℕ → (ℕ → ℕ) → ℕ
sum zero f = 0
sum (suc n) f = sum n f + f n

-- f 0 + f 1 + .. + f (n - 1), of signed numbers
unfoldable pub sum_ℤ : ℕ → (ℕ → ℤ) → ℤ
sum_ℤ zero f = pos 0
sum_ℤ (suc n) f = sum_ℤ n f +ℤ f n

-- f x for each entry x of a list, added up
unfoldable pub total_over : {A : Type 0} → (A → ℕ) → List A → ℕ
total_over f [] = 0
total_over f (x ∷ xs) = f x + total_over f xs

-- z squared: no square is below nought
abbrev pub square : ℤ → ℕ
square z = nat_abs z * nat_abs z
