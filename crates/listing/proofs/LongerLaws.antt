-- What stands behind the longest file that a sheet takes has no say: the same bytes with more behind them are refused alike, with the same text and the same totals.
use mathlib.Core.Path.{◌≡◌, refl, sym, ap, ◌∙◌}
use mathlib.Core.Bool.{Bool, true, false, cond}
use mathlib.Core.List.{List, ◌++◌}
use Prim.Native.Nat.{ℕ, ◌+◌, ◌*◌, ◌≤◌}
use native.Mathlib.Omega.{arith}
use borrow.Author.Tests.{ltb-false, eqb-true}
use lib.Dec.{eqb}
use lib.ListN.{length, length-append}
use Rattle.record.specs.Refusals.{refused, ◌then◌}
use Rattle.record.specs.declared.Refusal.{Refusal}
use Rattle.record.proofs.RefusalLaws.{refusal_stands, rest_refuses_nothing, test_fails}
use Rattle.phr.specs.Reading.{kind_of, count_of, head_length, header_refusal, read_record_refusal}
use Rattle.phr.proofs.FrontLaws.{kind_stays, count_stays, head_stays, plain_header_stays}
use Rattle.phr.proofs.ReadCases.{head_length_bounded, file_too_long, unrefused_header, count_refuses}
use Rattle.listing.specs.Sheet.{sheet_most, reader_refusal, sheet_refusal, record_text, totals_with}
use Rattle.listing.specs.declared.Totals.{Totals}
use Rattle.listing.proofs.SheetCases.{sheet_most_within, too_many_refusal}
use Rattle.listing.proofs.TextCases.{text_of_refused, totals_of_refused}

-- where the first refuses nothing, only the rest counts
same_rest : (r s t : Refusal) → (r.number ≡ 0 → s ≡ t) → (r then s) ≡ (r then t)
same_rest r s t same = by_number (eqb r.number 0) refl
  where
    by_number : (nought : Bool) → eqb r.number 0 ≡ nought → (r then s) ≡ (r then t)
    by_number true e = rw (e, same (eqb-true r.number 0 e))
    by_number false e = rw e

sheet_most_bounded : (kind : ℕ) → sheet_most kind ≤ 4096
unfolding sheet_most
sheet_most_bounded kind = by_kind (eqb kind 0)
  where
    by_kind : (phase : Bool) → cond phase 4096 4095 ≤ 4096
    by_kind true = omega arith
    by_kind false = omega arith

-- ---- one file

module _ (bytes : List ℕ) where
  abbrev too_long_refusal : Refusal
  too_long_refusal = refused 9 (head_length bytes + 8 * count_of bytes)

  -- what a file longer than a sheet's longest is refused for, and it always is
  abbrev long_refusal : Refusal
  long_refusal = header_refusal bytes then too_many_refusal bytes then too_long_refusal

  long_refuses : long_refusal.number ≡ 0 → ⊥
  long_refuses e = omega (arith, rest_refuses_nothing (too_many_refusal bytes) too_long_refusal (rest_refuses_nothing (header_refusal bytes) (too_many_refusal bytes then too_long_refusal) e))

  module _ (long : 32785 ≤ length bytes) where
    length_refuses : (header_refusal bytes).number ≡ 0 → (too_many_refusal bytes).number ≡ 0 → read_record_refusal bytes 4096 ≡ too_long_refusal
    length_refuses sound few =
        let kind = kind_of bytes in
        let head = head_length_bounded bytes in
        let most = sheet_most_bounded kind in
        let count = ltb-false (sheet_most kind) (count_of bytes) (test_fails _ 2 0 (omega arith) few) in
        let counted = file_too_long (head_length bytes) bytes 4096 (omega (arith, sheet_most_within kind)) (omega arith) in
        count_refuses bytes 4096 (unrefused_header bytes sound) (λ e. omega (arith, sym (ap (λ (r : Refusal). r.number) counted) ∙ e)) ∙ counted

    reader_refuses : reader_refusal bytes ≡ long_refusal
    unfolding reader_refusal
    reader_refuses = same_rest (header_refusal bytes) _ _ (λ sound. same_rest (too_many_refusal bytes) _ _ (length_refuses sound))

    sheet_refuses : sheet_refusal bytes ≡ long_refusal
    unfolding sheet_refusal
    sheet_refuses = rw reader_refuses (refusal_stands long_refusal _ long_refuses)

-- ---- with more behind it

module _ (bytes rest : List ℕ) (long : 32785 ≤ length bytes) where
  long_stays : long_refusal (bytes ++ rest) ≡ long_refusal bytes
  long_stays =
      let header : 16 ≤ length bytes = omega arith in
      rw (plain_header_stays bytes rest header, kind_stays bytes rest header, count_stays bytes rest header, head_stays bytes rest header)

  pub refusal_stays : sheet_refusal (bytes ++ rest) ≡ sheet_refusal bytes
  refusal_stays = sheet_refuses (bytes ++ rest) (omega (arith, length-append bytes rest)) ∙ long_stays ∙ sym (sheet_refuses bytes long)

  sheet_refused : (sheet_refusal bytes).number ≡ 0 → ⊥
  sheet_refused e = long_refuses bytes (rw (sheet_refuses bytes long) at e)

  pub text_stays : record_text (bytes ++ rest) ≡ record_text bytes
  text_stays =
      let r = sheet_refusal bytes in
      sym (text_of_refused (bytes ++ rest) r.number r.place sheet_refused refusal_stays) ∙ text_of_refused bytes r.number r.place sheet_refused refl

  pub totals_stay : (t : Totals) → totals_with t (bytes ++ rest) ≡ totals_with t bytes
  totals_stay t =
      let r = sheet_refusal bytes in
      sym (totals_of_refused (bytes ++ rest) r.number r.place sheet_refused refusal_stays t) ∙ totals_of_refused bytes r.number r.place sheet_refused refl t
