-- Bytes in chunks of eight: the chunk of each value, and a chunk as the number that it makes and as the bytes of one.
use Rattle.std.proofs.Common.{◌≡◌, ℕ, zero, suc, ◌+◌, ◌-◌, ◌*◌, ◌/◌, ◌^◌, ◌<◌, ◌≤◌, List, [], ◌∷◌, length, get_or, take, drop, ℤ, sym, refl, ap, ap₂, ◌∙◌, arith, add-one, length-drop, drop-drop, get_or-drop, drop_of_length-le, take-take, length-take-le, w64, to_z, of_z}
use Rattle.std.proofs.lemmas.List.{drop-take}
use Rattle.std.specs.Int.{from_le_bytes, to_le_bytes}
use Rattle.std.specs.Simd.{first_chunks}
use native.Mathlib.Nat.{add-zero, div-div-eq-div-mul}
use lib.Signed.{mag}
use borrow.Rule.Slice.PartMut.{put_mid}
use Rattle.laws.specs.Lists.{at}
use Rattle.phr.specs.Bytes.{low_first, from_low_first, value_at, values_from}
use Rattle.phr.proofs.ByteLaws.{written_from}
use Rattle.phr.proofs.SignLaws.{twos_complement_is, signed_is, loaded_value}
use Rattle.phr.proofs.ValueLaws.{value_bytes, value_bytes_length, values_from_entry}

-- ---- the chunks from a place on

-- as many as a part of the list holds
part_chunks : (count : ℕ) (xs : List ℕ) → first_chunks 8 count (take (8 * count) xs) ≡ first_chunks 8 count xs
part_chunks zero xs = refl
part_chunks (suc count) xs =
    let next : 8 * suc count ≡ 8 + 8 * count = omega arith in
    ap₂ ◌∷◌ (take-take 8 (8 * suc count) xs (omega arith)) (ap (first_chunks 8 count) (ap (λ n. drop 8 (take n xs)) next ∙ drop-take 8 (8 * count) xs) ∙ part_chunks count (drop 8 xs))

pub chunks_of_part : (place count : ℕ) (bytes : List ℕ) → place + 8 * count ≤ length bytes →
    first_chunks 8 (length (take (place + 8 * count - place) (drop place bytes)) / 8) (take (place + 8 * count - place) (drop place bytes)) ≡ first_chunks 8 count (drop place bytes)
chunks_of_part place count bytes inside =
    let long : place + 8 * count - place ≡ 8 * count = omega arith in
    let many : length (take (8 * count) (drop place bytes)) / 8 ≡ count =
    omega (arith, length-take-le (8 * count) (drop place bytes) (omega (arith, length-drop place bytes))) in
    rw (long, many) (part_chunks count (drop place bytes))

pub chunk_there : (count place : ℕ) (bytes : List ℕ) (i : ℕ) → i < count → get_or (first_chunks 8 count (drop place bytes)) i [] ≡ take 8 (drop (place + 8 * i) bytes)
chunk_there zero place bytes i h = absurd (omega arith)
chunk_there (suc count) place bytes zero h = let here : place + 8 * 0 ≡ place = omega arith in rw here
chunk_there (suc count) place bytes (suc i) h =
    let next : place + 8 * suc i ≡ place + 8 + 8 * i = omega arith in
    rw (drop-drop, next) (chunk_there count (place + 8) bytes i (omega arith))

-- ---- the number that a chunk makes, and the chunk that a number makes

first_byte : (bytes : List ℕ) → from_low_first bytes ≡ get_or bytes 0 0 + 256 * from_low_first (drop 1 bytes)
unfolding from_low_first
first_byte [] = refl
first_byte (b ∷ bytes) = refl

next_byte : (k : ℕ) (bytes : List ℕ) → from_low_first (drop k bytes) ≡ get_or bytes k 0 + 256 * from_low_first (drop (suc k) bytes)
next_byte k bytes = rw (first_byte (drop k bytes), get_or-drop, drop-drop) (simp (add-zero, add-one))

pub chunk_makes : (chunk : List ℕ) → length chunk ≡ 8 → from_le_bytes w64 chunk ≡ from_low_first chunk
unfolding from_low_first
chunk_makes chunk long =
    let short : length chunk ≤ 8 = omega arith in
    let none : drop 8 chunk ≡ [] = drop_of_length-le chunk short in
    let past : from_low_first (drop 8 chunk) ≡ 0 = rw none in
    omega (arith, past, next_byte 0 chunk, next_byte 1 chunk, next_byte 2 chunk, next_byte 3 chunk, next_byte 4 chunk, next_byte 5 chunk, next_byte 6 chunk, next_byte 7 chunk)

pub chunk_of : (n : ℕ) → to_le_bytes w64 n ≡ low_first 8 n
unfolding low_first
chunk_of n = simp div-div-eq-div-mul

-- ---- the value of each chunk

module _ (place count : ℕ) (bytes : List ℕ) (inside : place + 8 * count ≤ length bytes) {chunks : List (List ℕ)}
    (split : chunks ≡ first_chunks 8 count (drop place bytes)) (i : ℕ) (there : i < count) where
  pub chunk_word : from_le_bytes w64 (get_or chunks i []) ≡ from_low_first (take 8 (drop (place + 8 * i) bytes))
  chunk_word =
      let long = length-take-le 8 (drop (place + 8 * i) bytes) (omega (arith, length-drop (place + 8 * i) bytes)) in
      rw (split, chunk_there count place bytes i there) (chunk_makes (take 8 (drop (place + 8 * i) bytes)) long)

  -- as the machine hands it on
  pub chunk_value : {v : ℤ} → v ≡ to_z w64 (from_le_bytes w64 (get_or chunks i [])) → mag v < 2 ^ 63 → to_z w64 (of_z w64 v) ≡ at (values_from place count bytes) i
  unfolding value_at
  chunk_value e fits = values_from_entry place count bytes i there (e ∙ rw (chunk_word, signed_is)) fits

-- the value at a place: the one chunk there
pub one_chunk_value : (place : ℕ) (bytes : List ℕ) → place + 8 ≤ length bytes → {chunks : List (List ℕ)} → chunks ≡ take 8 (drop place bytes) ∷ [] →
    {v : ℤ} → v ≡ to_z w64 (from_le_bytes w64 (get_or chunks 0 [])) → mag v < 2 ^ 63 → to_z w64 (of_z w64 v) ≡ value_at bytes place
unfolding value_at
one_chunk_value place bytes inside split e fits =
    let long = length-take-le 8 (drop place bytes) (omega (arith, length-drop place bytes)) in
    loaded_value _ fits ∙ e ∙ rw (split, chunk_makes (take 8 (drop place bytes)) long, signed_is)

-- a value's chunk as it is stored
pub chunk_stored : (buffer : List ℕ) (place : ℕ) (z : ℤ) {chunk : List ℕ} → chunk ≡ to_le_bytes w64 (of_z w64 z) →
    put_mid place (place + 8 - place) buffer chunk ≡ written_from place (value_bytes z) buffer
chunk_stored buffer place z e =
    let long : place + 8 - place ≡ length (value_bytes z) = omega (arith, value_bytes_length z) in
    let same = e ∙ chunk_of (of_z w64 z) ∙ ap (low_first 8) (sym (twos_complement_is z)) in
    rw (long, same)
