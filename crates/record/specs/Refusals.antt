-- What a record is refused for: the refusal numbers in their order, and the checks that entries share.
use Rattle.std.specs.Prelude.{ℕ, ◌+◌, ◌*◌, ◌^◌, Bool, cond, not, ◌&&◌, List, length, ℤ, ◌==◌, nat_le, nat_lt, unsigned_abs}
use Rattle.laws.specs.Lists.{first_failing}
use Rattle.record.specs.declared.Refusal.{Refusal}
use Rattle.record.specs.declared.Demand.{Demand}

-- no refusal, and the refusal of a number at a place
abbrev pub none : Refusal
none = record { number = 0; place = 0 }

abbrev pub refused : ℕ → ℕ → Refusal
refused n p = record { number = n; place = p }

-- refused by a number at a place if a test holds
abbrev pub refused_if : Bool → ℕ → ℕ → Refusal
refused_if test n p = cond test (refused n p) none

-- an order of refusals: the first that refuses stands
abbrev pub ◌then◌ : Refusal → Refusal → Refusal
r then s = cond (r.number == 0) s r

infixr 2 ◌then◌
-- a phase sample is a whole number from -2^40 to 2^40, ends allowed
unfoldable pub in_range : ℤ → Bool
in_range x = nat_le (unsigned_abs x) (2 ^ 40)

-- 3: a sample outside its range, at the index of the first
unfoldable pub range_refusal : List ℤ → Refusal
range_refusal xs = refused_if (nat_lt (first_failing in_range xs) (length xs)) 3 (first_failing in_range xs)

-- 5: a factor outside its range; 2: over 32,768 samples; 1: too few samples for the factor
unfoldable pub size_refusal : Demand → ℕ → ℕ → Refusal
size_refusal d m n =
    refused_if (not (nat_le 1 m && nat_le m d.largest)) 5 0
    then refused_if (nat_lt 32768 n) 2 0
    then refused_if (nat_lt n (d.each * m + d.besides)) 1 0

-- a record: 5, 2, 1, then 3 at the lowest index
unfoldable pub record_refusal : Demand → ℕ → List ℤ → Refusal
record_refusal d m xs = size_refusal d m (length xs) then range_refusal xs
