-- Reading gives back what writing wrote, and accepts nothing else: bytes are read exactly where they are the file of a kind and of values in
-- range. What is common to both versions stands first; then version 1.
use Rattle.std.proofs.Common.{◌≡◌, ℕ, ◌+◌, ◌*◌, ◌/◌, ◌%◌, ◌<◌, ◌≤◌, Bool, true, List, [], ◌∷◌, ◌++◌, length, get_or, take, drop, ℤ, sym, refl, ap, ◌∙◌, ap₂, append-nil, mod-eq_of_lt, arith, length-drop, take-append-drop, take_all, take_at, w64, SFits, eq-eqb, eqb-true, le-leb, leb-true}
use Rattle.laws.specs.Lists.{at, tabulate}
use Rattle.record.specs.Answers.{buffer_left}
use Rattle.record.specs.Refusals.{none}
use Rattle.record.specs.declared.Refusal.{Refusal}
use Rattle.phr.specs.Bytes.{low_first, values_bytes, value_at, values_from}
use Rattle.phr.specs.File.{first_eight, header, file_of, Proper, IsFile, AreBytes}
use Rattle.phr.specs.Reading.{tests_of, sound_up_to, kind_of, count_of, version_of, header_tests, values_of, read_refusal, read_answer}
use Rattle.phr.specs.Writing.{write_refusal}
use Rattle.phr.proofs.ByteLaws.{front_entries, low_first_bytes, bytes_more, bytes_joined}
use Rattle.phr.proofs.HeaderLaws.{passed_before}
use Rattle.phr.proofs.RangeCases.{in_range_fits}
use Rattle.phr.proofs.ReadCases.{Readable, readable_none, unrefused_readable, values_of_length, sound_within, most_values_bounded}
use Rattle.phr.proofs.WriteCases.{unrefused_writable}
use Rattle.phr.proofs.ValueLaws.{value_bytes, value_back, values_back, values_bytes_length, values_bytes_are_bytes, values_bytes_back}

-- ---- a value

-- the eight bytes of a value that fits 64 bits are read as the value, alone and in the middle of a list
pub value_comes_back : (z : ℤ) → SFits w64 z → value_at (value_bytes z) 0 ≡ z
value_comes_back z fits = ap (λ (bytes : List ℕ). value_at bytes 0) (sym (append-nil (value_bytes z))) ∙ value_back [] [] 0 z refl fits

pub value_between_comes_back : (before after : List ℕ) (z : ℤ) → SFits w64 z → value_at (before ++ (value_bytes z ++ after)) (length before) ≡ z
value_between_comes_back before after z fits = value_back before after (length before) z refl fits

-- ---- the first eight bytes, and whatever follows them

pub first_eight_bytes : (version kind count : ℕ) → kind ≤ 1 → AreBytes (first_eight version kind count)
unfolding first_eight
first_eight_bytes version kind count known =
    let past-mark = low_first 2 version ++ (kind ∷ low_first 2 count) in
    let rest = bytes_more kind (low_first 2 count) (omega arith) (low_first_bytes 2 count) in
    let numbered = bytes_joined (low_first 2 version) (kind ∷ low_first 2 count) (low_first_bytes 2 version) rest in
    bytes_more 80 (72 ∷ 82 ∷ past-mark) (omega arith) (bytes_more 72 (82 ∷ past-mark) (omega arith) (bytes_more 82 past-mark (omega arith) numbered))

module _ (version kind count : ℕ) (rest : List ℕ) where
  pub kind_there : kind_of (first_eight version kind count ++ rest) ≡ kind
  unfolding first_eight low_first kind_of
  kind_there = refl

  pub count_there : count ≤ 32768 → count_of (first_eight version kind count ++ rest) ≡ count
  unfolding first_eight low_first count_of
  count_there few = omega arith

  pub version_there : version < 256 → version_of (first_eight version kind count ++ rest) ≡ version
  unfolding first_eight low_first version_of
  version_there low = mod-eq_of_lt low

  pub first_eight_sound : (known : ℕ → Bool) → known version ≡ true → version < 256 → kind ≤ 1 → sound_up_to (tests_of known) (first_eight version kind count ++ rest) ≡ 8
  unfolding first_eight low_first sound_up_to tests_of
  first_eight_sound known e low k =
      let low_byte : version % 256 ≡ version = mod-eq_of_lt low in
      let high_byte : version / 256 % 256 ≡ 0 = omega arith in
      rw (low_byte, e, eq-eqb (version / 256 % 256) 0 high_byte, le-leb kind 1 k)

-- bytes that pass the tests begin with these eight
module _ (known : ℕ → Bool) (bytes : List ℕ) (sound : 8 ≤ sound_up_to (tests_of known) bytes) where
  pub eight_present : 8 ≤ length bytes
  eight_present = omega (arith, sound_within (tests_of known) bytes)

  pub passed : (i : ℕ) → i < 8 → get_or (tests_of known) i (λ _. true) (get_or bytes i 0) ≡ true
  passed i h = passed_before (tests_of known) bytes i (omega arith)

  pub kind_passed : kind_of bytes ≤ 1
  unfolding kind_of tests_of
  kind_passed = leb-true (get_or bytes 5 0) 1 (passed 5 (omega arith))

  pub eight_there : AreBytes bytes → {version : ℕ} → version < 256 → version_of bytes ≡ version → take 8 bytes ≡ first_eight version (kind_of bytes) (count_of bytes)
  unfolding first_eight low_first kind_of count_of version_of tests_of tabulate
  eight_there all {version} small is =
      let mark₀ : get_or bytes 0 0 ≡ 80 = eqb-true _ 80 (passed 0 (omega arith)) in
      let mark₁ : get_or bytes 1 0 ≡ 72 = eqb-true _ 72 (passed 1 (omega arith)) in
      let mark₂ : get_or bytes 2 0 ≡ 82 = eqb-true _ 82 (passed 2 (omega arith)) in
      let version₀ : version % 256 ≡ version = mod-eq_of_lt small in
      let version₁ : get_or bytes 4 0 ≡ version / 256 % 256 = omega (arith, eqb-true (get_or bytes 4 0) 0 (passed 4 (omega arith))) in
      let low : count_of bytes % 256 ≡ get_or bytes 6 0 = omega (arith, all 6) in
      let above : count_of bytes / 256 ≡ get_or bytes 7 0 = omega (arith, all 6) in
      let high : count_of bytes / 256 % 256 ≡ get_or bytes 7 0 = ap (λ (n : ℕ). n % 256) above ∙ mod-eq_of_lt (all 7) in
      front_entries 8 bytes 0 eight_present ∙ rw (mark₀, mark₁, mark₂, is, version₀, version₁, low, high)

-- ---- version 1: what was written is read

-- every byte of a file is below 256
pub file_bytes : (kind : ℕ) (values : List ℤ) → kind ≤ 1 → AreBytes (file_of kind values)
unfolding file_of header
file_bytes kind values known =
    bytes_joined (first_eight 1 kind (length values)) (values_bytes values) (first_eight_bytes 1 kind (length values) known) (values_bytes_are_bytes values)

-- a file is 8 bytes and 8 for each value
pub file_length : (kind : ℕ) (values : List ℤ) → length (file_of kind values) ≡ 8 + 8 * length values
unfolding file_of header first_eight low_first
file_length kind values = omega (arith, values_bytes_length values)

module _ (kind : ℕ) (values : List ℤ) (proper : Proper kind values) where
  file_sound : sound_up_to header_tests (file_of kind values) ≡ 8
  unfolding file_of header header_tests
  file_sound = first_eight_sound 1 kind (length values) (values_bytes values) _ refl (omega arith) proper.known

  -- reading a written file gives the kind, how many values there are, and the values
  pub kind_comes_back : kind_of (file_of kind values) ≡ kind
  unfolding file_of header
  kind_comes_back = kind_there 1 kind (length values) (values_bytes values)

  pub count_comes_back : count_of (file_of kind values) ≡ length values
  unfolding file_of header
  count_comes_back = count_there 1 kind (length values) (values_bytes values) (omega (arith, proper.few, most_values_bounded kind))

  pub values_come_back : values_of (file_of kind values) ≡ values
  unfolding file_of header first_eight low_first values_of
  values_come_back =
      rw count_comes_back
      (ap (λ (bytes : List ℕ). values_from 8 (length values) (header kind (length values) ++ bytes)) (sym (append-nil (values_bytes values)))
      ∙ values_back values (header kind (length values)) [] 8 refl (λ i h. in_range_fits kind (at values i) (proper.in_range i h)))

  file_readable : (room : ℕ) → length values ≤ room → Readable (file_of kind values) room
  file_readable room enough = record {
    sound = omega (arith, file_sound);
    counted = record {
      few = rw (kind_comes_back, count_comes_back) proper.few;
      whole = file_length kind values ∙ ap (λ (n : ℕ). 8 + 8 * n) (sym count_comes_back);
      enough = rw count_comes_back enough;
    };
    in_range = rw (kind_comes_back, values_come_back) proper.in_range;
  }

  -- and it is not refused, where the buffer has room for the values
  pub file_is_read : (room : ℕ) → length values ≤ room → read_refusal (file_of kind values) room ≡ none
  file_is_read room enough = readable_none (file_of kind values) room (file_readable room enough)

  pub file_answer : (room : ℕ) → length values ≤ room → read_answer (file_of kind values) room ≡ record { number = 0; place = 0; kind = kind; count = length values }
  unfolding read_answer
  file_answer room enough = rw (file_is_read room enough, kind_comes_back, count_comes_back)

-- what writing does not refuse is proper
pub unrefused_proper : (kind : ℕ) (values : List ℤ) (room : ℕ) → write_refusal kind values room ≡ none → Proper kind values
unrefused_proper kind values room unrefused =
    let w = unrefused_writable kind values room (ap (λ (r : Refusal). r.number) unrefused) in
    record { known = w.known; few = w.few; in_range = w.in_range }

-- and the front of the buffer that it leaves is the file
pub buffer_has_file : (kind : ℕ) (values : List ℤ) (buffer : List ℕ) → write_refusal kind values (length buffer) ≡ none →
    take (8 + 8 * length values) (buffer_left (write_refusal kind values (length buffer)) (file_of kind values) buffer) ≡ file_of kind values
unfolding buffer_left
buffer_has_file kind values buffer unrefused = rw unrefused (take_at (file_of kind values) _ _ (file_length kind values))

-- ---- version 1: what is read was written

-- the bytes past a header of so many are the values'
pub values_there : (head : ℕ) (bytes : List ℕ) → AreBytes bytes → length bytes ≡ head + 8 * count_of bytes → drop head bytes ≡ values_bytes (values_from head (count_of bytes) bytes)
values_there head bytes all whole =
    sym (take_all (8 * count_of bytes) (drop head bytes) (omega (arith, length-drop head bytes)))
    ∙ sym (values_bytes_back (count_of bytes) head bytes all (omega arith))

module _ (bytes : List ℕ) (all : AreBytes bytes) (room : ℕ) (accepted : read_refusal bytes room ≡ none) where
  readable : Readable bytes room
  readable = unrefused_readable bytes room (ap (λ (r : Refusal). r.number) accepted)

  header_there : take 8 bytes ≡ header (kind_of bytes) (count_of bytes)
  unfolding header header_tests version_of tests_of
  header_there =
      let sound = readable.sound in
      eight_there _ bytes sound all (omega arith) (eqb-true (get_or bytes 3 0) 1 (passed _ bytes sound 3 (omega arith)))

  -- bytes that are read are the file of their kind and values
  pub accepted_is_file : bytes ≡ file_of (kind_of bytes) (values_of bytes)
  unfolding file_of values_of
  accepted_is_file =
      sym (take-append-drop 8 bytes)
      ∙ ap₂ ◌++◌ (header_there ∙ ap (header (kind_of bytes)) (sym (values_of_length bytes))) (values_there 8 bytes all readable.counted.whole)

  -- which a file may hold: a known kind, not too many values, each in its range
  pub accepted_proper : Proper (kind_of bytes) (values_of bytes)
  unfolding header_tests
  accepted_proper = record {
    known = kind_passed _ bytes readable.sound;
    few = rw (values_of_length bytes) readable.counted.few;
    in_range = readable.in_range;
  }

-- ---- version 1: so reading accepts files and nothing else

-- bytes are read with room for so many values exactly where they are such a file
pub accepted_exactly : (bytes : List ℕ) (room : ℕ) → AreBytes bytes → (read_refusal bytes room ≡ none → IsFile bytes room) × (IsFile bytes room → read_refusal bytes room ≡ none)
accepted_exactly bytes room all = (is_file, is_read)
  where
    is_file : read_refusal bytes room ≡ none → IsFile bytes room
    is_file accepted = record {
      kind = kind_of bytes;
      values = values_of bytes;
      proper = accepted_proper bytes all room accepted;
      enough = rw (values_of_length bytes) (readable bytes all room accepted).counted.enough;
      same = accepted_is_file bytes all room accepted;
    }

    is_read : IsFile bytes room → read_refusal bytes room ≡ none
    is_read f = rw f.same (file_is_read f.kind f.values f.proper room f.enough)
