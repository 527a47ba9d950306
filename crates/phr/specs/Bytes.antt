-- Numbers as bytes, low byte first, and the eight bytes of a value, alone and one after the other.
use Rattle.std.specs.Prelude.{ℕ, zero, suc, ◌+◌, ◌-◌, ◌*◌, ◌/◌, ◌%◌, ◌^◌, cond, List, [], ◌∷◌, ◌++◌, take, drop, ℤ, pos, negsuc, nat_lt}
use Rattle.laws.specs.Lists.{tabulate}

-- a number as so many bytes, low byte first
unfoldable pub low_first : ℕ → ℕ → List ℕ
low_first zero n = []
low_first (suc k) n = n % 256 ∷ low_first k (n / 256)

-- the number that bytes make, low byte first
unfoldable pub from_low_first : List ℕ → ℕ
from_low_first [] = 0
from_low_first (b ∷ bs) = b + 256 * from_low_first bs

-- two's complement in 64 bits
unfoldable pub twos_complement : ℤ → ℕ
twos_complement (pos n) = n
twos_complement (negsuc n) = 2 ^ 64 - suc n

-- the number that 64 bits stand for in two's complement
unfoldable pub signed : ℕ → ℤ
signed n = cond (nat_lt n (2 ^ 63)) (pos n) (negsuc (2 ^ 64 - 1 - n))

-- values one after the other, each as 8 bytes: two's complement, low byte first
unfoldable pub values_bytes : List ℤ → List ℕ
values_bytes [] = []
values_bytes (z ∷ zs) = low_first 8 (twos_complement z) ++ values_bytes zs

-- the value whose 8 bytes start at a place
unfoldable pub value_at : List ℕ → ℕ → ℤ
value_at bytes place = signed (from_low_first (take 8 (drop place bytes)))

-- so many values, the first of which starts at a place: a file's, where the place is the length of its header
abbrev pub values_from : ℕ → ℕ → List ℕ → List ℤ
values_from place count bytes = tabulate count (λ i. value_at bytes (place + 8 * i))
