-- A value and its eight bytes give each other back at any place of a list, and so do values one after the other.
use Rattle.std.proofs.Common.{◌≡◌, ℕ, zero, suc, ◌+◌, ◌*◌, ◌^◌, ◌<◌, ◌≤◌, List, [], ◌∷◌, ◌++◌, length, take, drop, ℤ, pos, sym, refl, ap, ◌∙◌, ap₂, append_assoc, append-nil, add-one, arith, length-append, length-drop, take-append-drop, length-take-le, take-suc, drop-drop, take_at, take-add, drop_at, w64, SFits, to_z, of_z}
use lib.Seq.{take-length, take-append-le, drop-append-le}
use lib.Signed.{mag}
use Rattle.laws.specs.Lists.{at, tabulate}
use Rattle.laws.proofs.ListLaws.{tabulate_length, tabulate_entry, tabulate_equal, tabulate_front}
use Rattle.phr.specs.Bytes.{low_first, from_low_first, twos_complement, values_bytes, value_at, values_from}
use Rattle.phr.specs.File.{AreBytes}
use Rattle.phr.proofs.ByteLaws.{written_from, written_from_none, written_from_next, bytes_taken, bytes_dropped, bytes_joined, low_first_length, low_first_bytes, low_first_back, from_low_first_below, from_low_first_back}
use Rattle.phr.proofs.SignLaws.{twos_complement_below, twos_complement_back, signed_back, loaded_value}

-- ---- the number that bytes from a place on make

module _ (bytes : List ℕ) (place k : ℕ) (inside : place + k ≤ length bytes) where
  bytes_there : length (take k (drop place bytes)) ≡ k
  bytes_there = length-take-le k (drop place bytes) (omega (arith, length-drop place bytes))

  pub bytes_make_below : AreBytes bytes → from_low_first (take k (drop place bytes)) < 256 ^ k
  bytes_make_below all =
      rw bytes_there at (from_low_first_below (take k (drop place bytes)) (bytes_taken k (drop place bytes) (bytes_dropped place bytes all)))

-- ---- a value as 8 bytes

abbrev pub value_bytes : ℤ → List ℕ
value_bytes z = low_first 8 (twos_complement z)

pub value_bytes_length : (z : ℤ) → length (value_bytes z) ≡ 8
value_bytes_length z = low_first_length 8 (twos_complement z)

pub value_bytes_are_bytes : (z : ℤ) → AreBytes (value_bytes z)
value_bytes_are_bytes z = low_first_bytes 8 (twos_complement z)

pub value_back : (before after : List ℕ) (place : ℕ) (z : ℤ) → length before ≡ place → SFits w64 z → value_at (before ++ (value_bytes z ++ after)) place ≡ z
unfolding value_at
value_back before after place z e fits =
    rw (drop_at before _ place e, take_at (low_first 8 (twos_complement z)) after 8 (low_first_length 8 (twos_complement z)), low_first_back 8 (twos_complement z) (twos_complement_below z fits))
    (twos_complement_back z fits)

module _ (bytes : List ℕ) (place : ℕ) (all : AreBytes bytes) (inside : place + 8 ≤ length bytes) where
  pub value_bytes_back : value_bytes (value_at bytes place) ≡ take 8 (drop place bytes)
  unfolding value_at
  value_bytes_back =
      let eight = take 8 (drop place bytes) in
      let there : length eight ≡ 8 = bytes_there bytes place 8 inside in
      rw (signed_back (from_low_first eight) (bytes_make_below bytes place 8 inside all))
      (ap (λ (k : ℕ). low_first k (from_low_first eight)) (sym there) ∙ from_low_first_back eight (bytes_taken 8 (drop place bytes) (bytes_dropped place bytes all)))

-- ---- values one after the other

pub values_bytes_length : (zs : List ℤ) → length (values_bytes zs) ≡ 8 * length zs
unfolding values_bytes
values_bytes_length [] = omega arith
values_bytes_length (z ∷ zs) = omega (arith, length-append (value_bytes z) (values_bytes zs), value_bytes_length z, values_bytes_length zs)

pub values_bytes_are_bytes : (zs : List ℤ) → AreBytes (values_bytes zs)
unfolding values_bytes
values_bytes_are_bytes [] i = omega arith
values_bytes_are_bytes (z ∷ zs) i = bytes_joined (value_bytes z) (values_bytes zs) (value_bytes_are_bytes z) (values_bytes_are_bytes zs) i

pub values_bytes_append : (ys zs : List ℤ) → values_bytes (ys ++ zs) ≡ values_bytes ys ++ values_bytes zs
unfolding values_bytes
values_bytes_append [] zs = refl
values_bytes_append (y ∷ ys) zs = rw (values_bytes_append ys zs, append_assoc)

-- the first of them apart
values_from_first : (place count : ℕ) (bytes : List ℕ) → values_from place (suc count) bytes ≡ value_at bytes place ∷ values_from (place + 8) count bytes
unfolding tabulate
values_from_first place count bytes =
    ap₂ ◌∷◌
    (ap (value_at bytes) (omega arith))
    (tabulate_equal count (λ i. value_at bytes (place + 8 * suc i)) (λ i. value_at bytes (place + 8 + 8 * i)) (λ i h. ap (value_at bytes) (omega arith)))

pub values_back : (zs : List ℤ) (before after : List ℕ) (place : ℕ) → length before ≡ place → ((i : ℕ) → i < length zs → SFits w64 (at zs i)) →
    values_from place (length zs) (before ++ (values_bytes zs ++ after)) ≡ zs
unfolding tabulate values_bytes
values_back [] before after place e fits = refl
values_back (z ∷ zs) before after place e fits =
    let first = value_back before (values_bytes zs ++ after) place z e (fits 0 (omega arith)) in
    let past : length (before ++ value_bytes z) ≡ place + 8 = omega (arith, length-append before (value_bytes z), value_bytes_length z) in
    let rest = values_back zs (before ++ value_bytes z) after (place + 8) past (λ i h. fits (suc i) (omega arith)) in
    values_from_first place (length zs) (before ++ (values_bytes (z ∷ zs) ++ after))
    ∙ rw append_assoc (ap₂ ◌∷◌ first (rw append_assoc at rest))

pub values_bytes_back : (count place : ℕ) (bytes : List ℕ) → AreBytes bytes → place + 8 * count ≤ length bytes →
    values_bytes (values_from place count bytes) ≡ take (8 * count) (drop place bytes)
unfolding tabulate values_bytes
values_bytes_back zero place bytes all h = refl
values_bytes_back (suc count) place bytes all h =
    let next : 8 * suc count ≡ 8 + 8 * count = omega arith in
    ap values_bytes (values_from_first place count bytes)
    ∙ ap₂ ◌++◌ (value_bytes_back bytes place all (omega arith)) (values_bytes_back count (place + 8) bytes all (omega arith))
    ∙ rw (next, take-add 8 (8 * count) (drop place bytes), drop-drop)

-- ---- values that are read one by one, from a place on

module _ (place count : ℕ) (bytes : List ℕ) where
  pub values_from_length : length (values_from place count bytes) ≡ count
  values_from_length = tabulate_length count (λ i. value_at bytes (place + 8 * i))

  module _ (i : ℕ) (inside : i < count) where
    pub values_from_inside : i < length (values_from place count bytes)
    values_from_inside = rw values_from_length inside

    -- a value as the machine hands it on
    pub values_from_entry : {v : ℤ} → v ≡ value_at bytes (place + 8 * i) → mag v < 2 ^ 63 → to_z w64 (of_z w64 v) ≡ at (values_from place count bytes) i
    values_from_entry e fits =
        loaded_value _ fits ∙ e ∙ sym (tabulate_entry count (λ k. value_at bytes (place + 8 * k)) (pos 0) i inside)

-- ---- values of a part of the bytes

pub value_in_front : (front rest : List ℕ) (place : ℕ) → place + 8 ≤ length front → value_at front place ≡ value_at (front ++ rest) place
unfolding value_at
value_in_front front rest place h =
    rw (drop-append-le place front rest (omega arith), take-append-le 8 (drop place front) rest (omega (arith, length-drop place front)))

value_past : (bytes : List ℕ) (place next : ℕ) → value_at (drop place bytes) next ≡ value_at bytes (place + next)
unfolding value_at
value_past bytes place next = rw drop-drop

pub part_values : (place count : ℕ) (bytes : List ℕ) → place + 8 * count ≤ length bytes →
    values_from 0 count (take (8 * count) (drop place bytes)) ≡ values_from place count bytes
part_values place count bytes inside =
    let behind = drop place bytes in
    let part = take (8 * count) behind in
    let whole : length part ≡ 8 * count = length-take-le (8 * count) behind (omega (arith, length-drop place bytes)) in
    tabulate_equal count (λ i. value_at part (0 + 8 * i)) (λ i. value_at bytes (place + 8 * i)) (λ i h.
    ap (value_at part) (omega arith)
    ∙ value_in_front part (drop (8 * count) behind) (8 * i) (omega (arith, whole))
    ∙ ap (λ (xs : List ℕ). value_at xs (8 * i)) (take-append-drop (8 * count) behind)
    ∙ value_past bytes place (8 * i))

-- what follows them has no say
pub front_values : (place count : ℕ) (front rest : List ℕ) → place + 8 * count ≤ length front → values_from place count (front ++ rest) ≡ values_from place count front
front_values place count front rest inside =
    tabulate_equal count (λ i. value_at (front ++ rest) (place + 8 * i)) (λ i. value_at front (place + 8 * i))
    (λ i h. sym (value_in_front front rest (place + 8 * i) (omega arith)))

-- fewer of them are the first
pub fewer_values : (place few count : ℕ) (bytes : List ℕ) → few ≤ count → take few (values_from place count bytes) ≡ values_from place few bytes
fewer_values place few count bytes h = tabulate_front few count (λ i. value_at bytes (place + 8 * i)) h

-- ---- values that are written one by one, from a place on

values_bytes_one_more : (zs : List ℤ) (i : ℕ) → i < length zs → values_bytes (take (i + 1) zs) ≡ values_bytes (take i zs) ++ value_bytes (at zs i)
unfolding values_bytes
values_bytes_one_more zs i h = rw (add-one, take-suc zs i (pos 0) h, values_bytes_append (take i zs) (at zs i ∷ []), append-nil)

module _ (place : ℕ) (zs : List ℤ) (buffer : List ℕ) (room : place + 8 * length zs ≤ length buffer) where
  pub values_none_written : buffer ≡ written_from place (values_bytes (take 0 zs)) buffer
  unfolding values_bytes
  values_none_written = sym (written_from_none place buffer)

  module _ (i : ℕ) (inside : i < length zs) where
    so_far_length : length (values_bytes (take i zs)) ≡ 8 * i
    so_far_length = values_bytes_length (take i zs) ∙ ap (λ (k : ℕ). 8 * k) (length-take-le i zs (omega arith))

    pub values_one_more_written : {now next : List ℕ} {z : ℤ} → now ≡ written_from place (values_bytes (take i zs)) buffer → z ≡ at zs i →
        next ≡ written_from (place + 8 * i) (value_bytes z) now → next ≡ written_from place (values_bytes (take (i + 1) zs)) buffer
    values_one_more_written e f g =
        let next_place : place + 8 * i ≡ place + length (values_bytes (take i zs)) = omega (arith, so_far_length) in
        let one = value_bytes (at zs i) in
        let put : written_from (place + 8 * i) one (written_from place (values_bytes (take i zs)) buffer) ≡ written_from place (values_bytes (take i zs) ++ one) buffer =
        rw next_place (written_from_next place (values_bytes (take i zs)) buffer (omega (arith, so_far_length)) one) in
        g ∙ rw (e, f, values_bytes_one_more zs i inside) put

  pub values_all_written : (i : ℕ) → i ≡ length zs → written_from place (values_bytes (take i zs)) buffer ≡ written_from place (values_bytes zs) buffer
  values_all_written i e = rw (e, take-length)
