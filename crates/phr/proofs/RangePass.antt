-- The pass over all values that gathers the bits of their words, each moved up by the end of the range: where these reach at most twice the end, no
-- value lies outside its range.
use Rattle.std.proofs.Common.{◌≡◌, ℕ, ◌+◌, ◌*◌, ◌%◌, ◌^◌, ◌<◌, ◌≤◌, true, List, length, take, drop, pos, ◌∙◌, arith, w64, Fits, to_z, le-leb}
use mir.Facts.{sfits_to_z, of_z-to_z}
use Rattle.laws.specs.Lists.{at, first_failing}
use Rattle.laws.proofs.ListLaws.{tabulate_entry, none_fails}
use Rattle.laws.proofs.Words.{moved_up_within, Reached}
use Rattle.phr.specs.Bytes.{from_low_first, signed, value_at, values_from}
use Rattle.phr.specs.File.{value_in_range, AreBytes}
use Rattle.phr.proofs.RangeCases.{end_of, end_within}
use Rattle.phr.proofs.SignLaws.{signed_is}
use Rattle.phr.proofs.ValueLaws.{values_from_length, bytes_make_below}

-- ---- a value whose word, moved up by the end of its range, is at most twice the end

moved_up_in_range : (kind n : ℕ) → n < 2 ^ 64 → (n + end_of kind) % 2 ^ 64 ≤ 2 * end_of kind → value_in_range kind (signed n) ≡ true
unfolding value_in_range
moved_up_in_range kind n below low =
    let fits : Fits w64 n = record { fits = below } in
    let within = moved_up_within (end_of kind) (omega (arith, end_within kind)) (to_z w64 n) (sfits_to_z fits) (rw (of_z-to_z fits) low) in
    le-leb _ (end_of kind) (rw signed_is within)

-- ---- the words of values one after the other, moved up

abbrev pub moved_up : ℕ → ℕ → List ℕ → ℕ → ℕ
moved_up end place bytes i = (from_low_first (take 8 (drop (place + 8 * i) bytes)) + end) % 2 ^ 64

module _ (kind place count : ℕ) (bytes : List ℕ) (all : AreBytes bytes) (inside : place + 8 * count ≤ length bytes)
    {end : ℕ} (e : end ≡ end_of kind) (i reached : ℕ) (whole : count ≤ i) (passed : Reached (moved_up end place bytes) i reached) (low : reached ≤ 2 * end) where
  each_in_range : (k : ℕ) → k < length (values_from place count bytes) → value_in_range kind (at (values_from place count bytes) k) ≡ true
  unfolding value_at
  each_in_range k h =
      let there : k < count = omega (arith, values_from_length place count bytes) in
      let below = bytes_make_below bytes (place + 8 * k) 8 (omega arith) all in
      rw (tabulate_entry count (λ j. value_at bytes (place + 8 * j)) (pos 0) k there) (moved_up_in_range kind _ below (omega (arith, passed k (omega arith))))

  pub all_in_range : first_failing (value_in_range kind) (values_from place count bytes) ≡ count
  all_in_range = none_fails (value_in_range kind) (pos 0) (values_from place count bytes) each_in_range ∙ values_from_length place count bytes
