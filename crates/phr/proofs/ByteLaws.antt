-- Bytes, low byte first, and the number that they make give each other back. Laws of any list stand first: a buffer that is written from a place
-- on, and a list's front by its entries.
use Rattle.std.proofs.Common.{◌≡◌, ℕ, zero, suc, ◌+◌, ◌*◌, ◌/◌, ◌%◌, ◌^◌, ◌<◌, ◌≤◌, List, [], ◌∷◌, ◌++◌, length, get_or, take, drop, refl, ap, append_assoc, add_assoc, pow-suc, arith, length-append, take-append-drop, length-take-le, get_or-drop, drop-drop, take_at, drop_at}
use Rattle.laws.specs.Lists.{written, tabulate}
use Rattle.laws.proofs.Halves.{high_part_below}
use Rattle.phr.specs.Bytes.{low_first, from_low_first}
use Rattle.phr.specs.File.{AreBytes}

-- ---- a buffer that is written from a place on

-- the buffer with an output from a place on: the entries before it and past it are unchanged
abbrev pub written_from : {A : Type 0} → ℕ → List A → List A → List A
written_from place out buffer = take place buffer ++ written out (drop place buffer)

pub written_from_none : {A : Type 0} (place : ℕ) (buffer : List A) → written_from place [] buffer ≡ buffer
written_from_none place buffer = take-append-drop place buffer

module _ {A : Type 0} (place : ℕ) (out buffer : List A) (room : place + length out ≤ length buffer) where
  front_length : length (take place buffer ++ out) ≡ place + length out
  front_length = omega (arith, length-append (take place buffer) out, length-take-le place buffer (omega arith))

  pub written_from_front : take (place + length out) (written_from place out buffer) ≡ take place buffer ++ out
  written_from_front = rw (← append_assoc, take_at (take place buffer ++ out) _ _ front_length)

  pub written_from_rest : drop (place + length out) (written_from place out buffer) ≡ drop (place + length out) buffer
  written_from_rest = rw (← append_assoc, drop_at (take place buffer ++ out) _ _ front_length, drop-drop)

  -- one output, and another where it ends
  pub written_from_next : (more : List A) → written_from (place + length out) more (written_from place out buffer) ≡ written_from place (out ++ more) buffer
  written_from_next more = rw (written_from_front, written_from_rest) (simp (append_assoc, length-append, drop-drop, add_assoc))

-- ---- the front of a list, by its entries

pub front_entries : {A : Type 0} (n : ℕ) (xs : List A) (z : A) → n ≤ length xs → take n xs ≡ tabulate n (λ i. get_or xs i z)
unfolding tabulate
front_entries zero xs z h = refl
front_entries (suc n) [] z h = absurd (omega arith)
front_entries (suc n) (x ∷ xs) z h = ap (λ t. x ∷ t) (front_entries n xs z (omega arith))

-- ---- lists of bytes

pub bytes_taken : (n : ℕ) (bytes : List ℕ) → AreBytes bytes → AreBytes (take n bytes)
bytes_taken zero bytes all i = omega arith
bytes_taken (suc n) [] all i = omega arith
bytes_taken (suc n) (b ∷ bytes) all zero = all 0
bytes_taken (suc n) (b ∷ bytes) all (suc i) = bytes_taken n bytes (λ k. all (suc k)) i

pub bytes_dropped : (n : ℕ) (bytes : List ℕ) → AreBytes bytes → AreBytes (drop n bytes)
bytes_dropped n bytes all i = rw get_or-drop (all (n + i))

pub bytes_more : (b : ℕ) (bytes : List ℕ) → b < 256 → AreBytes bytes → AreBytes (b ∷ bytes)
bytes_more b bytes h all zero = h
bytes_more b bytes h all (suc i) = all i

pub bytes_joined : (xs ys : List ℕ) → AreBytes xs → AreBytes ys → AreBytes (xs ++ ys)
bytes_joined [] ys first second i = second i
bytes_joined (x ∷ xs) ys first second zero = first 0
bytes_joined (x ∷ xs) ys first second (suc i) = bytes_joined xs ys (λ k. first (suc k)) second i

-- ---- a number and its bytes

pub low_first_length : (k n : ℕ) → length (low_first k n) ≡ k
unfolding low_first
low_first_length zero n = refl
low_first_length (suc k) n = ap suc (low_first_length k (n / 256))

pub low_first_bytes : (k n : ℕ) → AreBytes (low_first k n)
unfolding low_first
low_first_bytes zero n i = omega arith
low_first_bytes (suc k) n zero = omega arith
low_first_bytes (suc k) n (suc i) = low_first_bytes k (n / 256) i

pub low_first_back : (k n : ℕ) → n < 256 ^ k → from_low_first (low_first k n) ≡ n
unfolding low_first from_low_first
low_first_back zero n h = omega arith
low_first_back (suc k) n h =
    omega (arith, low_first_back k (n / 256) (high_part_below (256 ^ k) 256 n (omega arith) (rw pow-suc at h)))

pub from_low_first_below : (bytes : List ℕ) → AreBytes bytes → from_low_first bytes < 256 ^ length bytes
unfolding from_low_first
from_low_first_below [] all = omega arith
from_low_first_below (b ∷ bytes) all = rw pow-suc (omega (arith, all 0, from_low_first_below bytes (λ i. all (suc i))))

pub from_low_first_back : (bytes : List ℕ) → AreBytes bytes → low_first (length bytes) (from_low_first bytes) ≡ bytes
unfolding low_first from_low_first
from_low_first_back [] all = refl
from_low_first_back (b ∷ bytes) all =
    let low : (b + 256 * from_low_first bytes) % 256 ≡ b = omega (arith, all 0) in
    let rest : (b + 256 * from_low_first bytes) / 256 ≡ from_low_first bytes = omega (arith, all 0) in
    rw (low, rest, from_low_first_back bytes (λ i. all (suc i)))

pub from_low_first_append : (xs ys : List ℕ) → from_low_first (xs ++ ys) ≡ from_low_first xs + 256 ^ length xs * from_low_first ys
unfolding from_low_first
from_low_first_append [] ys = omega arith
from_low_first_append (x ∷ xs) ys = rw (pow-suc, from_low_first_append xs ys) (omega arith)
