-- Lists as lent records and buffers: an entry, a list by its entries, the first entry that fails a test, how many pass one, a buffer with an output at
-- its front.
use Rattle.std.specs.Prelude.{ℕ, zero, suc, ◌+◌, Bool, cond, List, [], ◌∷◌, ◌++◌, ℤ, pos, length, drop, get_or}

-- x_i; nought past the end, which no formula reaches
abbrev pub at : List ℤ → ℕ → ℤ
at xs i = get_or xs i (pos 0)

-- f 0, f 1, .. f (n - 1)
unfoldable pub tabulate : {A : Type 0} → ℕ → (ℕ → A) → List A
tabulate zero f = []
tabulate (suc n) f = f 0 ∷ tabulate n (λ i. f (suc i))

-- the index of the first entry that fails the test; the length where none fails
unfoldable pub first_failing : {A : Type 0} → (A → Bool) → List A → ℕ
first_failing test [] = 0
first_failing test (x ∷ xs) = cond (test x) (suc (first_failing test xs)) 0

-- how many entries pass the test
unfoldable pub how_many : {A : Type 0} → (A → Bool) → List A → ℕ
how_many test [] = 0
how_many test (x ∷ xs) = cond (test x) 1 0 + how_many test xs

-- the buffer with an output written at its front: the entries past the output are unchanged
abbrev pub written : {A : Type 0} → List A → List A → List A
written out buffer = out ++ drop (length out) buffer
