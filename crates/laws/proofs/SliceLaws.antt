-- A part of a list that is replaced by a list as long: what stands in its place, and what stands elsewhere. And where equal parts of a list lie.
use mathlib.Core.Path.{◌≡◌, sym, ap, ◌∙◌}
use mathlib.Core.List.{List, ◌++◌, append_assoc}
use mathlib.Core.Logic.{◌⊎◌, inl, inr}
use Prim.Native.Nat.{ℕ, ◌+◌, ◌-◌, ◌*◌, ◌/◌, ◌≤◌, ◌<◌}
use native.Mathlib.Nat.{mul-le-mul_right, div-add-mod'}
use native.Mathlib.Omega.{arith}
use lib.ListN.{length, take, drop, get_or, length-append, length-drop, take-append-drop}
use lib.Seq.{length-take-le, take_at, drop_at, take-append-le, drop-append-le, drop-append-add, drop-drop, get_or-take, get_or-drop}

-- a part that lies in the front of two lists put together
front_part : {A : Type 0} (p q : List A) (b k : ℕ) → b + k ≤ length p → take k (drop b (p ++ q)) ≡ take k (drop b p)
front_part p q b k inside =
    ap (take k) (drop-append-le b p q (omega arith)) ∙ take-append-le k (drop b p) q (omega (arith, length-drop b p))

-- an entry is the first of the part that begins there
entry_by_part : {A : Type 0} (l : List A) (i : ℕ) (z : A) → get_or l i z ≡ get_or (take 1 (drop i l)) 0 z
entry_by_part l i z = sym (get_or-take 1 (drop i l) 0 z (omega arith) ∙ get_or-drop i l 0 z ∙ ap (λ (k : ℕ). get_or l k z) (omega arith))

module _ {A : Type 0} (xs left : List A) (a n : ℕ) (inside : a + n ≤ length xs) (same : length left ≡ n) where
  abbrev pub replaced : List A
  replaced = take a xs ++ (left ++ drop (a + n) xs)

  front_length : length (take a xs) ≡ a
  front_length = length-take-le a xs (omega arith)

  -- the front and the new part together
  head_length_lem : length (take a xs ++ left) ≡ a + n
  head_length_lem = length-append (take a xs) left ∙ omega (arith, front_length)

  regrouped : replaced ≡ (take a xs ++ left) ++ drop (a + n) xs
  regrouped = sym (append_assoc (take a xs) left (drop (a + n) xs))

  pub replaced_length : length replaced ≡ length xs
  replaced_length =
      ap length regrouped ∙ length-append (take a xs ++ left) (drop (a + n) xs) ∙ omega (arith, head_length_lem, length-drop (a + n) xs)

  -- in its place stands what was put there
  pub replaced_part : take n (drop a replaced) ≡ left
  replaced_part = ap (take n) (drop_at (take a xs) (left ++ drop (a + n) xs) a front_length) ∙ take_at left (drop (a + n) xs) n same

  -- every other part is as it was
  pub replaced_before : (b k : ℕ) → b + k ≤ a → take k (drop b replaced) ≡ take k (drop b xs)
  replaced_before b k apart =
      front_part (take a xs) (left ++ drop (a + n) xs) b k (omega (arith, front_length))
      ∙ sym (front_part (take a xs) (drop a xs) b k (omega (arith, front_length)))
      ∙ ap (λ (l : List A). take k (drop b l)) (take-append-drop a xs)

  drop_behind : (j : ℕ) → drop (a + n + j) replaced ≡ drop (a + n + j) xs
  drop_behind j =
      ap (drop (a + n + j)) regrouped
      ∙ rw (← head_length_lem) (drop-append-add (take a xs ++ left) (drop (length (take a xs ++ left)) xs) j ∙ drop-drop j (length (take a xs ++ left)) xs)

  pub replaced_behind : (b k : ℕ) → a + n ≤ b → take k (drop b replaced) ≡ take k (drop b xs)
  replaced_behind b k apart = let here : a + n + (b - (a + n)) ≡ b = omega arith in ap (take k) (rw here at (drop_behind (b - (a + n))))

  -- and so is every other entry
  pub replaced_entry : (i : ℕ) (z : A) → (i < a) ⊎ (a + n ≤ i) → get_or replaced i z ≡ get_or xs i z
  replaced_entry i z apart = entry_by_part replaced i z ∙ ap (λ (l : List A). get_or l 0 z) (by_side apart) ∙ sym (entry_by_part xs i z)
    where
      by_side : (i < a) ⊎ (a + n ≤ i) → take 1 (drop i replaced) ≡ take 1 (drop i xs)
      by_side (inl before) = replaced_before i 1 (omega arith)
      by_side (inr behind) = replaced_behind i 1 behind

-- a part that is put back as it was changes nothing
pub replaced_by_itself : {A : Type 0} (xs : List A) (a n : ℕ) → take a xs ++ (take n (drop a xs) ++ drop (a + n) xs) ≡ xs
replaced_by_itself {A} xs a n =
    ap (λ (l : List A). take a xs ++ (take n (drop a xs) ++ l)) (sym (drop-drop n a xs)) ∙ ap (λ (l : List A). take a xs ++ l) (take-append-drop n (drop a xs))
    ∙ take-append-drop a xs

-- ---- equal parts of n entries each, one after the other

-- one ends where a later one begins, or before
pub parts_apart : (j c n : ℕ) → j < c → j * n + n ≤ c * n
parts_apart j c n below = omega (arith, mul-le-mul_right n below)

-- part c of s lies within a list of s times n entries or more, n being the whole part of its length divided by s
pub part_within : (s c length : ℕ) → c < s → c * (length / s) + length / s ≤ length
part_within s c length below = omega (arith, parts_apart c s (length / s) below, div-add-mod' length s)
