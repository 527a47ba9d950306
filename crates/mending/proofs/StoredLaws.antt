-- The new file as it is stored: the front of the damaged one, with another count.
use mathlib.Core.Path.{◌≡◌, refl, sym, ap₂, ◌∙◌}
use mathlib.Core.Bool.{Bool, true, false}
use mathlib.Core.List.{List, ◌++◌, append_assoc}
use Prim.Native.Nat.{ℕ, ◌+◌, ◌*◌, ◌/◌, ◌%◌, ◌≤◌}
use borrow.Author.Tests.{eqb-true, eqb-false}
use lib.Dec.{eqb}
use lib.ListN.{length, take, drop, set}
use lib.Seq.{take-add}
use Rattle.laws.specs.Lists.{written}
use Rattle.phr.specs.Bytes.{low_first, values_bytes}
use Rattle.phr.specs.File.{first_eight, header, file_of, header_from, file_from, AreBytes}
use Rattle.phr.specs.Reading.{kind_of, count_of, version_of, head_length, start_of}
use Rattle.phr.proofs.ReadCases.{SoundHeader, first_head, second_head}
use Rattle.phr.proofs.RecordRoundTrip.{first_header, second_header}
use Rattle.phr.proofs.ValueLaws.{value_bytes, values_bytes_back}
use Rattle.mending.specs.Salvage.{first_bad, kept_values, salvaged_file}
use Rattle.mending.proofs.KeptLaws.{kept_length, kept_from, salvaged_first, salvaged_second, salvaged_length}

-- bytes 6 and 7 are the count's
recounted : (version kind old new : ℕ) (rest : List ℕ) →
    set (set (first_eight version kind old ++ rest) 6 (new % 256)) 7 (new / 256 % 256) ≡ first_eight version kind new ++ rest
unfolding first_eight low_first
recounted version kind old new rest = refl

module _ (bytes : List ℕ) (all : AreBytes bytes) (sound : SoundHeader bytes) (inside : head_length bytes + 8 * first_bad bytes ≤ length bytes) (rest : List ℕ) where
  -- the bytes of the values kept
  kept_bytes : (head : ℕ) → head_length bytes ≡ head → take (8 * first_bad bytes) (drop head bytes) ≡ values_bytes (kept_values bytes)
  kept_bytes head e = sym (rw (kept_from bytes, e) (values_bytes_back (first_bad bytes) head bytes all (rw e at inside)))

  -- the front of the bytes, with the count of the values kept
  abbrev recounted_front : List ℕ
  recounted_front = set (set (take (head_length bytes + 8 * first_bad bytes) bytes ++ rest) 6 (first_bad bytes % 256)) 7 (first_bad bytes / 256 % 256)

  front_becomes : (version : ℕ) (tail : List ℕ) → take (head_length bytes + 8 * first_bad bytes) bytes ≡ first_eight version (kind_of bytes) (count_of bytes) ++ tail →
      salvaged_file bytes ≡ first_eight version (kind_of bytes) (first_bad bytes) ++ tail → recounted_front ≡ salvaged_file bytes ++ rest
  front_becomes version tail e f =
      rw (e, f, append_assoc (first_eight version (kind_of bytes) (count_of bytes)) tail rest, append_assoc (first_eight version (kind_of bytes) (first_bad bytes)) tail rest)
      (recounted version (kind_of bytes) (count_of bytes) (first_bad bytes) (tail ++ rest))

  first_becomes : (version_of bytes ≡ 2 → ⊥) → recounted_front ≡ salvaged_file bytes ++ rest
  unfolding header file_of
  first_becomes first =
      front_becomes 1 (values_bytes (kept_values bytes))
      (rw (first_head bytes first) (take-add 8 (8 * first_bad bytes) bytes ∙ ap₂ ◌++◌ (first_header bytes all sound first) (kept_bytes 8 (first_head bytes first))))
      (salvaged_first bytes first ∙ rw (kept_length bytes))

  second_becomes : version_of bytes ≡ 2 → recounted_front ≡ salvaged_file bytes ++ rest
  unfolding header_from file_from
  second_becomes second =
      let phase = value_bytes (start_of bytes) in
      let values = values_bytes (kept_values bytes) in
      front_becomes 2 (phase ++ values)
      (rw (second_head bytes second)
      (take-add 16 (8 * first_bad bytes) bytes
      ∙ ap₂ ◌++◌ (second_header bytes all sound second) (kept_bytes 16 (second_head bytes second))
      ∙ append_assoc (first_eight 2 (kind_of bytes) (count_of bytes)) phase values))
      (salvaged_second bytes second ∙ rw (kept_length bytes) (append_assoc (first_eight 2 (kind_of bytes) (first_bad bytes)) phase values))

  recounted_front_lem : recounted_front ≡ salvaged_file bytes ++ rest
  recounted_front_lem = by_version (eqb (version_of bytes) 2) refl
    where
      by_version : (second : Bool) → eqb (version_of bytes) 2 ≡ second → recounted_front ≡ salvaged_file bytes ++ rest
      by_version true t = second_becomes (eqb-true (version_of bytes) 2 t)
      by_version false t = first_becomes (eqb-false (version_of bytes) 2 t)

pub salvaged_stored : (bytes : List ℕ) → AreBytes bytes → SoundHeader bytes → head_length bytes + 8 * first_bad bytes ≤ length bytes → (buffer : List ℕ) {left : List ℕ} {end count : ℕ} →
    end ≡ head_length bytes + 8 * first_bad bytes → count ≡ first_bad bytes → left ≡ set (set (take end bytes ++ drop end buffer) 6 (count % 256)) 7 (count / 256 % 256) →
    left ≡ written (salvaged_file bytes) buffer
salvaged_stored bytes all sound inside buffer {end = end} e k l =
    l ∙ rw (e, k) (recounted_front_lem bytes all sound inside (drop (head_length bytes + 8 * first_bad bytes) buffer) ∙ rw (salvaged_length bytes))
