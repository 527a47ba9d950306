-- How many values are present and kept, where they stand, and how long the new file is; and that the values kept are the longest good beginning.
use mathlib.Core.Path.{◌≡◌, refl, sym, ap, ◌∙◌}
use mathlib.Core.Bool.{Bool, true, false, true≢false}
use mathlib.Core.List.{List}
use Prim.Native.Nat.{ℕ, ◌+◌, ◌-◌, ◌*◌, ◌/◌, ◌≤◌, ◌<◌, min}
use native.Mathlib.Omega.{arith}
use borrow.Author.Tests.{eq-eqb, ne_eqb, eqb-true, eqb-false}
use lib.Dec.{eqb}
use lib.IntN.{ℤ, pos}
use lib.ListN.{length, take, drop, length-take, length-drop}
use lib.Seq.{length-take-le, get_or-take}
use Rattle.laws.specs.Lists.{at, first_failing}
use Rattle.laws.proofs.ListLaws.{first_failing_within, passes_before, fails_there}
use Rattle.phr.specs.Bytes.{values_from}
use Rattle.phr.specs.File.{file_of, file_from, value_in_range}
use Rattle.phr.specs.Reading.{kind_of, count_of, version_of, head_length, start_of}
use Rattle.phr.proofs.ReadCases.{first_head, second_head}
use Rattle.phr.proofs.RoundTrip.{file_length}
use Rattle.phr.proofs.RecordRoundTrip.{file_from_length}
use Rattle.phr.proofs.ValueLaws.{values_from_length, fewer_values, part_values}
use Rattle.mending.specs.Salvage.{present_values, first_bad, kept_values, salvaged_file, LongestGood}

-- how many values are present
abbrev pub present_count : List ℕ → ℕ
present_count bytes = min (count_of bytes) ((length bytes - head_length bytes) / 8)

module _ (bytes : List ℕ) where
  pub present_length : length (present_values bytes) ≡ present_count bytes
  unfolding present_values
  present_length = values_from_length (head_length bytes) (present_count bytes) bytes

  pub first_bad_within : first_bad bytes ≤ present_count bytes
  unfolding first_bad
  first_bad_within = rw (← present_length) (first_failing_within (value_in_range (kind_of bytes)) (present_values bytes))

  pub kept_length : length (kept_values bytes) ≡ first_bad bytes
  unfolding kept_values
  kept_length = length-take-le (first_bad bytes) (present_values bytes) (omega (arith, first_bad_within, present_length))

  -- the values kept stand from the header's end on
  pub kept_from : kept_values bytes ≡ values_from (head_length bytes) (first_bad bytes) bytes
  unfolding kept_values present_values
  kept_from = fewer_values (head_length bytes) (first_bad bytes) (present_count bytes) bytes first_bad_within

  -- the first bad one is found in the part of the bytes that holds the values present
  pub first_bad_found : {part : List ℕ} → head_length bytes + 8 * present_count bytes ≤ length bytes → part ≡ take (8 * present_count bytes) (drop (head_length bytes) bytes) →
      first_failing (value_in_range (kind_of bytes)) (values_from 0 (length part / 8) part) ≡ first_bad bytes
  unfolding first_bad present_values
  first_bad_found {part} inside e =
      let behind = drop (head_length bytes) bytes in
      let long : length part ≡ 8 * present_count bytes = ap length e ∙ length-take-le (8 * present_count bytes) behind (omega (arith, length-drop (head_length bytes) bytes)) in
      let many : length part / 8 ≡ present_count bytes = omega arith in
      ap (first_failing (value_in_range (kind_of bytes))) (rw (many, e) (part_values (head_length bytes) (present_count bytes) bytes inside))

  -- ---- the new file

  pub salvaged_first : (version_of bytes ≡ 2 → ⊥) → salvaged_file bytes ≡ file_of (kind_of bytes) (kept_values bytes)
  unfolding salvaged_file
  salvaged_first first = rw (ne_eqb (version_of bytes) 2 first)

  pub salvaged_second : version_of bytes ≡ 2 → salvaged_file bytes ≡ file_from (kind_of bytes) (start_of bytes) (kept_values bytes)
  unfolding salvaged_file
  salvaged_second second = rw (eq-eqb (version_of bytes) 2 second)

  pub salvaged_length : length (salvaged_file bytes) ≡ head_length bytes + 8 * first_bad bytes
  salvaged_length = by_version (eqb (version_of bytes) 2) refl
    where
      by_version : (second : Bool) → eqb (version_of bytes) 2 ≡ second → length (salvaged_file bytes) ≡ head_length bytes + 8 * first_bad bytes
      by_version true t =
          let second = eqb-true (version_of bytes) 2 t in
          ap length (salvaged_second second) ∙ file_from_length (kind_of bytes) (start_of bytes) (kept_values bytes) ∙ rw (second_head bytes second, kept_length)
      by_version false t =
          let first = eqb-false (version_of bytes) 2 t in
          ap length (salvaged_first first) ∙ file_length (kind_of bytes) (kept_values bytes) ∙ rw (first_head bytes first, kept_length)

  -- it is no longer than the input, whose header is there
  pub salvaged_within : head_length bytes ≤ length bytes → length (salvaged_file bytes) ≤ length bytes
  salvaged_within present = omega (arith, salvaged_length, first_bad_within)

  -- ---- the longest good beginning

  pub kept_longest : LongestGood (kind_of bytes) (present_values bytes) (kept_values bytes)
  unfolding kept_values first_bad
  kept_longest = record {
    beginning = ap (λ (n : ℕ). take n (present_values bytes)) (sym kept_length);
    good = λ i h.
        let before : i < first_bad bytes = omega (arith, kept_length) in
        ap (value_in_range (kind_of bytes)) (get_or-take (first_bad bytes) (present_values bytes) i (pos 0) before) ∙ passes_before (value_in_range (kind_of bytes)) (pos 0) (present_values bytes) i before;
    longest = λ n within all.
        let not_before : first_bad bytes < n → ⊥ =
        λ h. true≢false (sym (all (first_bad bytes) h) ∙ fails_there (value_in_range (kind_of bytes)) (pos 0) (present_values bytes) (omega arith)) in
        omega (arith, kept_length);
  }

-- any two are equal
module _ (kind : ℕ) (values : List ℤ) where
  not_longer : (a b : List ℤ) → LongestGood kind values a → LongestGood kind values b → length a ≤ length b
  not_longer a b x y =
      let within : length a ≤ length values = omega (arith, ap length x.beginning ∙ length-take (length a) values) in
      y.longest (length a) within (λ i h.
      let entry : at a i ≡ at values i = ap (λ (zs : List ℤ). at zs i) x.beginning ∙ get_or-take (length a) values i (pos 0) h in
      sym (ap (value_in_range kind) entry) ∙ x.good i h)

  pub one_longest : (a b : List ℤ) → LongestGood kind values a → LongestGood kind values b → a ≡ b
  one_longest a b x y =
      let same : length a ≡ length b = omega (arith, not_longer a b x y, not_longer b a y x) in
      x.beginning ∙ ap (λ (n : ℕ). take n values) same ∙ sym y.beginning
