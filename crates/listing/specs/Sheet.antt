-- The sheet: the factors of a record and their lines, what a record is refused for as a whole, the totals and the closing line.
use Rattle.std.specs.Prelude.{◌≡◌, cond, ◌||◌, List, [], ◌∷◌, ◌++◌, ℕ, zero, suc, ◌+◌, ◌*◌, ◌^◌, ◌<◌, ◌≤◌, leb, ltb, eqb, ℤ, length, get_or}
use Rattle.record.specs.Refusals.{none, refused_if, ◌then◌, record_refusal}
use Rattle.record.specs.declared.Refusal.{Refusal}
use Rattle.frequency.specs.Frequency.{phases_from, phase_refusal_from}
use Rattle.sums.specs.Answers.{allan_demand, allan_sum_answer, modified_sum_answer}
use Rattle.phr.specs.Reading.{kind_of, count_of, start_of, record_values, header_refusal, read_record_refusal}
use Rattle.decimal.specs.Decimal.{decimal}
use Rattle.listing.specs.Columns.{line, factor_line}
use Rattle.listing.specs.declared.Totals.{Totals}
use Rattle.listing.specs.declared.SheetAnswer.{SheetAnswer}

-- ---- a record's factors

-- m, 2m, 4m and so on, at most so many, while N is at least 2m+1
unfoldable pub factors_from : ℕ → ℕ → ℕ → List ℕ
factors_from zero m n = []
factors_from (suc more) m n = cond (leb (2 * m + 1) n) (m ∷ factors_from more (2 * m) n) []

-- 1, 2, 4, 8, ..: of 4,096 samples the eleventh, 1,024, is the last
unfoldable pub factors : ℕ → List ℕ
factors n = factors_from 11 1 n

-- these are the factors of N samples: powers of two in their order, from 1 on, each with N at least 2m+1, and the next one with N below it
pub record AllFactors (n : ℕ) (ms : List ℕ) : Type 0 where
  pub doubling : (i : ℕ) → i < length ms → get_or ms i 0 ≡ 2 ^ i
  pub due : (i : ℕ) → i < length ms → 2 * get_or ms i 0 + 1 ≤ n
  pub last : n < 2 * 2 ^ length ms + 1

-- the lines of some factors, one after the other
unfoldable pub lines_of : List ℤ → List ℕ → List ℕ
lines_of xs [] = []
lines_of xs (m ∷ ms) = factor_line xs m ++ lines_of xs ms

-- K and C, added up over some factors; a sum that is refused counts nought
unfoldable pub allan_counts : List ℤ → List ℕ → ℕ
allan_counts xs [] = 0
allan_counts xs (m ∷ ms) = (allan_sum_answer m xs).count + allan_counts xs ms

unfoldable pub modified_counts : List ℤ → List ℕ → ℕ
modified_counts xs [] = 0
modified_counts xs (m ∷ ms) = (modified_sum_answer m xs).count + modified_counts xs ms

-- ---- a record

-- a sheet takes at most 4,096 samples, or 4,095 readings
unfoldable pub sheet_most : ℕ → ℕ
sheet_most kind = cond (eqb kind 0) 4096 4095

-- the samples of a record: frequency is turned into phase, from its start
unfoldable pub samples_of : List ℕ → List ℤ
samples_of bytes = cond (eqb (kind_of bytes) 0) (record_values bytes) (phases_from (start_of bytes) (record_values bytes))

-- the reader's refusal, with room enough, the most being the sheet's own, after the whole header
unfoldable pub reader_refusal : List ℕ → Refusal
reader_refusal bytes =
    header_refusal bytes
    then refused_if (ltb (sheet_most (kind_of bytes)) (count_of bytes)) 2 0
    then read_record_refusal bytes 4096

-- the phases' refusal, of a frequency record
unfoldable pub phases_refusal : List ℕ → Refusal
phases_refusal bytes = cond (eqb (kind_of bytes) 0) none (phase_refusal_from (start_of bytes) (record_values bytes) 4096)

-- a record is refused as a whole by the reader, the phases, or the Allan sum at factor 1
unfoldable pub sheet_refusal : List ℕ → Refusal
sheet_refusal bytes = reader_refusal bytes then phases_refusal bytes then record_refusal allan_demand 1 (samples_of bytes)

-- then its line is `refused`, the number, `at`, the place
unfoldable pub refused_line : Refusal → List ℕ
refused_line r =
    line ((0x72 ∷ 0x65 ∷ 0x66 ∷ 0x75 ∷ 0x73 ∷ 0x65 ∷ 0x64 ∷ []) ∷ decimal r.number ∷ (0x61 ∷ 0x74 ∷ []) ∷ decimal r.place ∷ [])

-- the factors of a record that is not refused
unfoldable pub factors_of : List ℕ → List ℕ
factors_of bytes = cond (eqb (sheet_refusal bytes).number 0) (factors (length (samples_of bytes))) []

-- a record's text
unfoldable pub record_text : List ℕ → List ℕ
record_text bytes = cond (eqb (sheet_refusal bytes).number 0) (lines_of (samples_of bytes) (factors_of bytes)) (refused_line (sheet_refusal bytes))

-- the totals with a record's own
unfoldable pub totals_with : Totals → List ℕ → Totals
totals_with t bytes =
    record { k = t.k + allan_counts (samples_of bytes) (factors_of bytes); c = t.c + modified_counts (samples_of bytes) (factors_of bytes) }

-- ---- the whole sheet

-- the closing line: `total`, K, C
unfoldable pub total_line : Totals → List ℕ
total_line t = line ((0x74 ∷ 0x6F ∷ 0x74 ∷ 0x61 ∷ 0x6C ∷ []) ∷ decimal t.k ∷ decimal t.c ∷ [])

-- of several record files, from some totals on: each one's text, then the closing line
unfoldable pub sheet_from : Totals → List (List ℕ) → List ℕ
sheet_from t [] = total_line t
sheet_from t (bytes ∷ files) = record_text bytes ++ sheet_from (totals_with t bytes) files

-- the totals are noughts at first
unfoldable pub sheet : List (List ℕ) → List ℕ
sheet files = sheet_from (record { k = 0; c = 0 }) files

-- ---- what the entries answer

-- 2 for a total above 2^63; 6 for a buffer shorter than the record's text
unfoldable pub text_refusal : List ℕ → Totals → ℕ → Refusal
text_refusal bytes t room =
    refused_if (ltb (2 ^ 63) t.k || ltb (2 ^ 63) t.c) 2 0
    then refused_if (ltb room (length (record_text bytes))) 6 0

-- how many bytes of text, and the totals with the record's; or the refusal, nought, and the totals as they came
unfoldable pub text_answer : List ℕ → Totals → ℕ → SheetAnswer
text_answer bytes t room =
    let refusal : Refusal = text_refusal bytes t room in
    cond (eqb refusal.number 0) (record { number = 0; place = 0; length = length (record_text bytes); totals = totals_with t bytes })
    (record { number = refusal.number; place = refusal.place; length = 0; totals = t })

-- 6 for a buffer shorter than the closing line
unfoldable pub total_refusal : Totals → ℕ → Refusal
total_refusal t room = refused_if (ltb room (length (total_line t))) 6 0
