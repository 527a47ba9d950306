-- What the two entries of a sheet promise, of their answers and of the buffer that they leave.
use mathlib.Core.Path.{◌≡◌, refl, sym, ap, ap₂, ◌∙◌}
use mathlib.Core.Bool.{Bool, true, false, cond, ◌&&◌}
use mathlib.Core.List.{List, [], ◌∷◌, ◌++◌, map}
use Prim.Native.Nat.{ℕ, suc, ◌+◌, ◌^◌, ◌<◌}
use native.Mathlib.Nat.{lt_of_lt_of_le}
use native.Mathlib.Omega.{arith}
use borrow.Author.Tests.{leb-true, eqb-true, eq-eqb}
use lib.Dec.{leb, ltb, eqb}
use lib.ListN.{length, take, get_or}
use lib.Seq.{take_at}
use Rattle.record.specs.Answers.{count_answer, buffer_left}
use Rattle.record.specs.Refusals.{refused_if}
use Rattle.record.specs.declared.Refusal.{Refusal}
use Rattle.record.specs.declared.CountAnswer.{CountAnswer}
use Rattle.decimal.specs.Decimal.{decimal, is_digit, runs, numbers_in}
use Rattle.decimal.proofs.ReadBack.{number_read, other_passed}
use Rattle.listing.specs.Columns.{line}
use Rattle.listing.specs.Sheet.{factors, AllFactors, lines_of, allan_counts, modified_counts, samples_of, sheet_refusal, record_text, totals_with, total_line, sheet_from, text_refusal, text_answer, total_refusal}
use Rattle.listing.specs.declared.Totals.{Totals}
use Rattle.listing.specs.declared.SheetAnswer.{SheetAnswer}
use Rattle.listing.proofs.TextCases.{text_of_refused, totals_of_refused, text_of_lines, totals_of_lines}
use Rattle.listing.proofs.FactorMeaning.{factors_are_all, one_list_of_factors}
use Rattle.acceptance.specs.Grounds.{NoRow, OfSheet}
use Rattle.acceptance.specs.Promises.{TextOf, TotalsOf}
use Rattle.acceptance.specs.Calls
use Rattle.acceptance.specs.Calls.{Printed}
use Rattle.acceptance.proofs.Grounding.{rowless_none}
use Rattle.acceptance.proofs.SheetGrounds.{sheet_agrees, samples_few}

-- ---- the text of a record, and the totals with it

module _ (bytes : List ℕ) where
  clear_number : NoRow (OfSheet bytes) → (sheet_refusal bytes).number ≡ 0
  clear_number rowless = ap (λ (r : Refusal). r.number) (rowless_none (sheet_agrees bytes) rowless)

  -- the one list of all factors
  all_factors : NoRow (OfSheet bytes) → (ms : List ℕ) → AllFactors (length (samples_of bytes)) ms → factors (length (samples_of bytes)) ≡ ms
  all_factors rowless ms all = one_list_of_factors _ _ _ (factors_are_all _ (samples_few bytes rowless)) all

  pub text_of : TextOf bytes (record_text bytes)
  text_of = record {
    line_of_refusal = λ row. let stands = (sheet_agrees bytes).stands row in sym (text_of_refused bytes _ _ stands.0 stands.1);
    lines = λ rowless ms all. sym (text_of_lines bytes (clear_number rowless)) ∙ ap (lines_of (samples_of bytes)) (all_factors rowless ms all);
  }

  pub totals_of : (t : Totals) → TotalsOf bytes t (totals_with t bytes)
  totals_of t = record {
    unchanged = λ row. let stands = (sheet_agrees bytes).stands row in sym (totals_of_refused bytes _ _ stands.0 stands.1 t);
    more = λ rowless ms all.
        let same = all_factors rowless ms all in
        let known = sym (totals_of_lines bytes (clear_number rowless) t) in (
          ap (λ (u : Totals). u.k) known ∙ ap (λ (fs : List ℕ). t.k + allan_counts (samples_of bytes) fs) same,
          ap (λ (u : Totals). u.c) known ∙ ap (λ (fs : List ℕ). t.c + modified_counts (samples_of bytes) fs) same,
        );
  }

-- ---- what an answered call wrote

module _ (bytes : List ℕ) (t : Totals) (buffer : List ℕ) where
  abbrev text_refusal_here : Refusal
  text_refusal_here = text_refusal bytes t (length buffer)

  module _ (answered : (text_answer bytes t (length buffer)).number ≡ 0) where
    nothing_refused : text_refusal_here.number ≡ 0
    unfolding text_answer
    nothing_refused = by_number (eqb text_refusal_here.number 0) refl answered
      where
        by_number : (nought : Bool) → eqb text_refusal_here.number 0 ≡ nought →
            (cond {A = SheetAnswer} nought (record { number = 0; place = 0; length = length (record_text bytes); totals = totals_with t bytes }) (record { number = text_refusal_here.number; place = text_refusal_here.place; length = 0; totals = t })).number ≡ 0 →
            text_refusal_here.number ≡ 0
        by_number true e n = eqb-true text_refusal_here.number 0 e
        by_number false e n = n

    pub text_written : take (text_answer bytes t (length buffer)).length (buffer_left text_refusal_here (record_text bytes) buffer) ≡ record_text bytes
    unfolding text_answer buffer_left
    text_written = rw (eq-eqb text_refusal_here.number 0 nothing_refused) (take_at (record_text bytes) _ _ refl)

    pub totals_handed_on : (text_answer bytes t (length buffer)).totals ≡ totals_with t bytes
    unfolding text_answer
    totals_handed_on = rw (eq-eqb text_refusal_here.number 0 nothing_refused)

module _ (t : Totals) (buffer : List ℕ) where
  abbrev total_refusal_here : Refusal
  total_refusal_here = total_refusal t (length buffer)

  pub total_written : (count_answer total_refusal_here (length (total_line t))).number ≡ 0 →
      take (count_answer total_refusal_here (length (total_line t))).count (buffer_left total_refusal_here (total_line t) buffer) ≡ total_line t
  unfolding total_refusal count_answer buffer_left
  total_written answered = by_room (ltb (length buffer) (length (total_line t))) answered
    where
      by_room : (short : Bool) → (count_answer (refused_if short 6 0) (length (total_line t))).number ≡ 0 →
          take (count_answer (refused_if short 6 0) (length (total_line t))).count (buffer_left (refused_if short 6 0) (total_line t) buffer) ≡ total_line t
      by_room true n = absurd (omega arith)
      by_room false n = take_at (total_line t) _ _ refl

-- ---- a line of numbers, read back

below_top : {n : ℕ} → n < 2 ^ 128 → n < 10 ^ 39
below_top h = lt_of_lt_of_le h (leb-true (2 ^ 128) (10 ^ 39) refl)

no_digits : (is_digit 0x20 ≡ false) × (is_digit 0x0A ≡ false)
unfolding is_digit
no_digits = (refl, refl)

-- each number of a line is below 2^128
pub line_read_back : (ns : List ℕ) → ((i : ℕ) → i < length ns → get_or ns i 0 < 2 ^ 128) → numbers_in (line (map decimal ns)) ≡ ns
unfolding line numbers_in runs
line_read_back [] small = refl
line_read_back (n ∷ []) small = number_read 0x0A [] no_digits.1 n (below_top (small 0 (omega arith)))
line_read_back (n ∷ m ∷ ns) small =
    number_read 0x20 (line (map decimal (m ∷ ns))) no_digits.0 n (below_top (small 0 (omega arith)))
    ∙ ap (λ (rest : List ℕ). n ∷ rest) (line_read_back (m ∷ ns) (λ i h. small (suc i) (omega arith)))

-- the closing line, and the line of a refusal, have two numbers
letter : (b : ℕ) → (leb 0x30 b && leb b 0x39) ≡ false → is_digit b ≡ false
unfolding is_digit
letter b e = e

module _ (n m : ℕ) (small : n < 2 ^ 128) (small' : m < 2 ^ 128) where
  two_read : numbers_in (decimal n ++ (0x20 ∷ (decimal m ++ (0x0A ∷ [])))) ≡ n ∷ m ∷ []
  unfolding numbers_in runs
  two_read = number_read 0x20 (decimal m ++ (0x0A ∷ [])) no_digits.0 n (below_top small) ∙ ap (λ (rest : List ℕ). n ∷ rest) (number_read 0x0A [] no_digits.1 m (below_top small'))

pub total_read_back : (t : Totals) → t.k < 2 ^ 128 → t.c < 2 ^ 128 → numbers_in (total_line t) ≡ t.k ∷ t.c ∷ []
unfolding total_line line
total_read_back t k c =
    let text = decimal t.k ++ (0x20 ∷ (decimal t.c ++ (0x0A ∷ []))) in
    other_passed 0x74 (0x6F ∷ 0x74 ∷ 0x61 ∷ 0x6C ∷ 0x20 ∷ text) (letter 0x74 refl)
    ∙ other_passed 0x6F (0x74 ∷ 0x61 ∷ 0x6C ∷ 0x20 ∷ text) (letter 0x6F refl)
    ∙ other_passed 0x74 (0x61 ∷ 0x6C ∷ 0x20 ∷ text) (letter 0x74 refl)
    ∙ other_passed 0x61 (0x6C ∷ 0x20 ∷ text) (letter 0x61 refl)
    ∙ other_passed 0x6C (0x20 ∷ text) (letter 0x6C refl)
    ∙ other_passed 0x20 text (letter 0x20 refl)
    ∙ two_read t.k t.c k c

-- ---- the whole sheet, by the calls that print it

pub printed_is : {t : Totals} {files : List (List ℕ)} {text : List ℕ} → Printed t files text → text ≡ sheet_from t files
unfolding sheet_from
printed_is (Calls.closed {t} {buffer} (Calls.by_contract κs place name is) answered) =
    ap₂ (λ (n : ℕ) (left : List ℕ). take n left) (ap (λ (z : CountAnswer). z.count) is.0) is.1
    ∙ total_written t buffer (sym (ap (λ (z : CountAnswer). z.number) is.0) ∙ answered)
printed_is (Calls.next {t} {bytes} {buffer} {files} (Calls.by_contract κs place other name is) answered more) =
    let here = sym (ap (λ (z : SheetAnswer). z.number) is.0) ∙ answered in
    let text = ap₂ (λ (n : ℕ) (left : List ℕ). take n left) (ap (λ (z : SheetAnswer). z.length) is.0) is.1 ∙ text_written bytes t buffer here in
    let totals = ap (λ (z : SheetAnswer). z.totals) is.0 ∙ totals_handed_on bytes t buffer here in
    ap₂ ◌++◌ text (printed_is more ∙ ap (λ (u : Totals). sheet_from u files) totals)
