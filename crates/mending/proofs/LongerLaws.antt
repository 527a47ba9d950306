-- What stands behind the longest file has no say: the same bytes with more behind them are refused alike and salvaged alike, with so much more left over.
use mathlib.Core.Path.{◌≡◌, refl, sym, ap, ◌∙◌}
use mathlib.Core.Bool.{Bool, true, false}
use mathlib.Core.List.{List, ◌++◌}
use Prim.Native.Nat.{ℕ, ◌+◌, ◌*◌, ◌≤◌}
use native.Mathlib.Omega.{arith}
use borrow.Author.Tests.{eqb-true, eqb-false}
use lib.Dec.{eqb}
use lib.ListN.{length, length-append}
use Rattle.phr.specs.File.{most_values}
use Rattle.phr.specs.Reading.{kind_of, count_of, head_length, counted_header_refusal}
use Rattle.phr.proofs.FrontLaws.{kind_stays, count_stays, version_stays, head_stays, start_stays, header_stays}
use Rattle.phr.proofs.ReadCases.{head_length_bounded, most_values_bounded, unrefused_counted_header}
use Rattle.phr.proofs.ValueLaws.{front_values}
use Rattle.mending.specs.Salvage.{present_values, first_bad, kept_values, salvaged_file, salvage_refusal}
use Rattle.mending.proofs.KeptLaws.{present_count}
use Rattle.mending.proofs.SalvageCases.{header_refuses}

module _ (bytes rest : List ℕ) (long : 262160 ≤ length bytes) where
  short : 16 ≤ length bytes
  short = omega arith

  module _ (few : count_of bytes ≤ most_values (kind_of bytes)) where
    all_there : head_length bytes + 8 * count_of bytes ≤ length bytes
    all_there = omega (arith, head_length_bounded bytes, most_values_bounded (kind_of bytes))

    all_present : present_count bytes ≡ count_of bytes
    all_present = omega (arith, all_there)

    present_stay : present_values (bytes ++ rest) ≡ present_values bytes
    unfolding present_values
    present_stay =
        let longer = length-append bytes rest in
        let all_present_too : present_count (bytes ++ rest) ≡ count_of bytes = rw (count_stays bytes rest short, head_stays bytes rest short) (omega (arith, all_there)) in
        rw (all_present_too, head_stays bytes rest short, all_present) (front_values (head_length bytes) (count_of bytes) bytes rest all_there)

    pub first_bad_stays : first_bad (bytes ++ rest) ≡ first_bad bytes
    unfolding first_bad
    first_bad_stays = rw (kind_stays bytes rest short, present_stay)

    pub kept_stay : kept_values (bytes ++ rest) ≡ kept_values bytes
    unfolding kept_values
    kept_stay = rw (first_bad_stays, present_stay)

    pub salvaged_stays : salvaged_file (bytes ++ rest) ≡ salvaged_file bytes
    unfolding salvaged_file
    salvaged_stays = rw (version_stays bytes rest short, kind_stays bytes rest short, start_stays bytes rest short, kept_stay)

    pub present_length_stays : length (present_values (bytes ++ rest)) ≡ length (present_values bytes)
    present_length_stays = ap length present_stay

  pub refusal_stays : (room : ℕ) → salvage_refusal (bytes ++ rest) room ≡ salvage_refusal bytes room
  unfolding salvage_refusal
  refusal_stays room = by_header (eqb (counted_header_refusal bytes).number 0) refl
    where
      by_header : (sound : Bool) → eqb (counted_header_refusal bytes).number 0 ≡ sound → salvage_refusal (bytes ++ rest) room ≡ salvage_refusal bytes room
      by_header true t =
          let known = unrefused_counted_header bytes (eqb-true (counted_header_refusal bytes).number 0 t) in
          rw (header_stays bytes rest short, salvaged_stays known.1, start_stays bytes rest short)
      by_header false t =
          let some = eqb-false (counted_header_refusal bytes).number 0 t in
          let same = header_stays bytes rest short in
          header_refuses (bytes ++ rest) room (λ e. some (rw same at e)) ∙ same ∙ sym (header_refuses bytes room some)
