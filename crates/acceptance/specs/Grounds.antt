-- The ground of every refusal, a table for each family of entries, to be held against the rules (docs/RULES.md) row by row. A row says what must hold,
-- among it that no earlier row does, then the number and the place. Written from the rules, in bounds and relations, and not by the definitions of
-- refusals that the contracts cite.
use Rattle.std.specs.Prelude.{◌≡◌, Bool, List, ◌⊎◌, ℕ, ◌+◌, ◌-◌, ◌*◌, ◌%◌, ◌^◌, ◌≤◌, ◌<◌, Float, ℤ, pos, nat_abs, ◌+ℤ◌, length, get_or}
use Rattle.std.specs.Float.{nan, inf}
use Rattle.std.specs.Float.Ieee.Exact.{HasValue}
use Rattle.laws.specs.Greatest.{Greatest}
use Rattle.laws.specs.Lists.{at}
use Rattle.laws.specs.Sums.{sum_ℤ}
use Rattle.sums.specs.Published.{modified_sum}
use Rattle.variances.specs.Deviations.{within}
use Rattle.drift.specs.Drift.{without_drift}
use Rattle.meter.specs.declared.Meter.{Meter}
use Rattle.phr.specs.Bytes.{value_at}
use Rattle.phr.specs.Reading.{kind_of, count_of, head_length, start_of, record_values}
use Rattle.mending.specs.Salvage.{salvaged_file}
use Rattle.listing.specs.Sheet.{samples_of, record_text, total_line}
use Rattle.listing.specs.declared.Totals.{Totals}

-- ---- what a table says of an answer

-- no row of a table holds
abbrev pub NoRow : (ℕ → ℕ → Type 0) → Type 0
NoRow Row = (n p : ℕ) → Row n p → ⊥

-- an answer's number and place are n and p, n not nought, exactly when the row of n and p holds; they are noughts exactly when no row does
pub record Grounded (Row : ℕ → ℕ → Type 0) (number place : ℕ) : Type 0 where
  pub refused : (number ≡ 0 → ⊥) → Row number place
  pub row : (n p : ℕ) → Row n p → (n ≡ 0 → ⊥) × (number ≡ n) × (place ≡ p)
  pub answered : number ≡ 0 → (place ≡ 0) × NoRow Row
  pub no_row : NoRow Row → (number ≡ 0) × (place ≡ 0)

-- ---- words of the rules

-- from low to high, both ends allowed, and not so
abbrev pub Between : ℕ → ℕ → ℕ → Type 0
Between low high n = (low ≤ n) × (n ≤ high)

abbrev pub Outside : ℕ → ℕ → ℕ → Type 0
Outside low high n = (n < low) ⊎ (high < n)

-- of the indices below n, i is the first that is bad; none is bad
pub record First (n : ℕ) (Bad : ℕ → Type 0) (i : ℕ) : Type 0 where
  pub inside : i < n
  pub bad : Bad i
  pub before : (k : ℕ) → k < i → Bad k → ⊥

abbrev pub None : ℕ → (ℕ → Type 0) → Type 0
None n Bad = (k : ℕ) → k < n → Bad k → ⊥

-- sample k of a record is outside its range
abbrev pub OutOfRange : List ℤ → ℕ → Type 0
OutOfRange xs k = 2 ^ 40 < nat_abs (at xs k)

-- ---- records

-- range_refusal: a record's samples alone
pub data OfRange (xs : List ℤ) : ℕ → ℕ → Type 0 where
  range : {i : ℕ} → First (length xs) (OutOfRange xs) i → OfRange xs 3 i

-- size_refusal, and the first rows of what follows: a factor m of at most the largest; n samples, the fewest or more
module _ (largest fewest m : ℕ) where
  pub data OfSize (n : ℕ) : ℕ → ℕ → Type 0 where
    factor : Outside 1 largest m → OfSize n 5 0
    many : Between 1 largest m → 32768 < n → OfSize n 2 0
    few : Between 1 largest m → n ≤ 32768 → n < fewest → OfSize n 1 0

  -- record_refusal; allan_sum at factors up to 10,922, the fewest 2m+1; modified_sum the same, 3m
  pub data OfRecord (xs : List ℤ) : ℕ → ℕ → Type 0 where
    size : {n p : ℕ} → OfSize (length xs) n p → OfRecord xs n p
    range : {i : ℕ} → NoRow (OfSize (length xs)) → First (length xs) (OutOfRange xs) i → OfRecord xs 3 i

-- which_quieter: the first record's rows for its Allan sum, then the second's
pub data OfQuieter (m : ℕ) (xs ys : List ℤ) : ℕ → ℕ → Type 0 where
  first : {n p : ℕ} → OfRecord 10922 (2 * m + 1) m xs n p → OfQuieter m xs ys n p
  second : {n p : ℕ} → NoRow (OfRecord 10922 (2 * m + 1) m xs) → OfRecord 10922 (2 * m + 1) m ys n p → OfQuieter m xs ys n p

-- ---- fractions, deviations and dots, of a sum at factor m with its count

module _ (sum m count : ℕ) where
  -- allan_fraction, time_fraction
  pub data OfFraction : ℕ → ℕ → Type 0 where
    factor : Outside 1 10922 m → OfFraction 5 0
    no_count : Between 1 10922 m → count ≡ 0 → OfFraction 1 0
    many : Between 1 10922 m → 32768 < count → OfFraction 2 0
    large : Between 1 10922 m → Between 1 32768 count → 2 ^ 126 ≤ sum → OfFraction 3 0

  -- allan_deviation, time_deviation: r would be the deviation of the variance sum / d
  pub data OfDeviation (d : ℕ) : ℕ → ℕ → Type 0 where
    fraction : {n p : ℕ} → OfFraction n p → OfDeviation d n p
    above : {r : ℕ} → NoRow OfFraction → Greatest (within sum d) r → 2 ^ 62 < r → OfDeviation d 3 0

  -- allan_dot, time_dot: a count of 0, the one row of number 1, is no refusal but the dot too few
  pub data OfDot (d : ℕ) : ℕ → ℕ → Type 0 where
    deviation : {n p : ℕ} → (n ≡ 1 → ⊥) → OfDeviation d n p → OfDot d n p

-- ---- phase and frequency, with room for so many in the lent buffer

-- phase_from_frequency
pub data OfPhases (ys : List ℤ) (room : ℕ) : ℕ → ℕ → Type 0 where
  many : 32767 < length ys → OfPhases ys room 2 0
  no_room : length ys ≤ 32767 → room < length ys + 1 → OfPhases ys room 6 0
  leaves : {i : ℕ} → length ys ≤ 32767 → length ys + 1 ≤ room → First (length ys) (λ k. 2 ^ 40 < nat_abs (sum_ℤ (k + 1) (at ys))) i → OfPhases ys room 3 i

-- phase_from_start
pub data OfPhasesFrom (start : ℤ) (ys : List ℤ) (room : ℕ) : ℕ → ℕ → Type 0 where
  many : 32767 < length ys → OfPhasesFrom start ys room 2 0
  no_room : length ys ≤ 32767 → room < length ys + 1 → OfPhasesFrom start ys room 6 0
  outside : length ys ≤ 32767 → length ys + 1 ≤ room → 2 ^ 40 < nat_abs start → OfPhasesFrom start ys room 3 0
  leaves : {i : ℕ} → length ys ≤ 32767 → length ys + 1 ≤ room → nat_abs start ≤ 2 ^ 40 →
      First (length ys) (λ k. 2 ^ 40 < nat_abs (start +ℤ sum_ℤ (k + 1) (at ys))) i → OfPhasesFrom start ys room 3 i

-- frequency_from_phase
pub data OfDifferences (xs : List ℤ) (room : ℕ) : ℕ → ℕ → Type 0 where
  many : 32768 < length xs → OfDifferences xs room 2 0
  no_sample : length xs ≡ 0 → OfDifferences xs room 1 0
  no_room : Between 1 32768 (length xs) → room < length xs - 1 → OfDifferences xs room 6 0
  range : {i : ℕ} → Between 1 32768 (length xs) → length xs - 1 ≤ room → First (length xs) (OutOfRange xs) i → OfDifferences xs room 3 i

-- ---- drift

-- drift_figure
pub data OfDrift (xs : List ℤ) : ℕ → ℕ → Type 0 where
  many : 32768 < length xs → OfDrift xs 2 0
  few : length xs < 3 → OfDrift xs 1 0
  range : {i : ℕ} → Between 3 32768 (length xs) → First (length xs) (OutOfRange xs) i → OfDrift xs 3 i

-- remove_drift: all samples are tested first; what without_drift gives is pinned by results-published (proofs/Condition2.antt)
pub data OfRemoval (xs : List ℤ) (room : ℕ) : ℕ → ℕ → Type 0 where
  many : 32768 < length xs → OfRemoval xs room 2 0
  few : length xs < 3 → OfRemoval xs room 1 0
  no_room : Between 3 32768 (length xs) → room < length xs → OfRemoval xs room 6 0
  range : {i : ℕ} → Between 3 32768 (length xs) → length xs ≤ room → First (length xs) (OutOfRange xs) i → OfRemoval xs room 3 i
  result : {i : ℕ} → Between 3 32768 (length xs) → length xs ≤ room → None (length xs) (OutOfRange xs) →
      First (length xs) (OutOfRange (without_drift xs)) i → OfRemoval xs room 3 i

-- ---- float readings: a / c is the size of a reading's exact value

-- a reading that is infinite, or beyond the sample range before it is rounded
pub data TooFar (x : Float) : Type 0 where
  infinite : {s : Bool} → x ≡ inf s → TooFar x
  beyond : (s : Bool) (a c : ℕ) → 0 < c → HasValue x s a c → 2 ^ 40 * c < a → TooFar x

-- what is not a number
abbrev pub NotANumber : Float → Type 0
NotANumber x = x ≡ nan

-- reading k becomes no sample
abbrev pub NoSample : List Float → ℕ → Type 0
NoSample xs k = TooFar (get_or xs k nan) ⊎ NotANumber (get_or xs k nan)

-- float_sums
module _ (m : ℕ) (xs : List Float) (room : ℕ) where
  pub data OfReadings : ℕ → ℕ → Type 0 where
    size : {n p : ℕ} → OfSize 10922 (2 * m + 1) m (length xs) n p → OfReadings n p
    no_room : NoRow (OfSize 10922 (2 * m + 1) m (length xs)) → room < length xs → OfReadings 6 0
    far : {i : ℕ} → NoRow (OfSize 10922 (2 * m + 1) m (length xs)) → length xs ≤ room → First (length xs) (NoSample xs) i → TooFar (get_or xs i nan) → OfReadings 3 i
    no_number : {i : ℕ} → NoRow (OfSize 10922 (2 * m + 1) m (length xs)) → length xs ≤ room → First (length xs) (NoSample xs) i → NotANumber (get_or xs i nan) → OfReadings 4 i

-- ---- drawn numbers, noise types and bars

-- drawn_number
pub data OfDrawn (r : ℕ) : ℕ → ℕ → Type 0 where
  range : Outside 1 (2 ^ 63) r → OfDrawn r 3 0

-- noise_type
pub data OfType (r1 r2 : ℕ) : ℕ → ℕ → Type 0 where
  above : (2 ^ 62 < r1) ⊎ (2 ^ 62 < r2) → OfType r1 r2 3 0
  nought : r1 ≡ 0 → r2 ≤ 2 ^ 62 → OfType r1 r2 8 0

-- noise_of_record: at factors up to 5,461, the fewest 6m; then the deviation at m is nought
pub data OfRecordType (m : ℕ) (xs : List ℤ) : ℕ → ℕ → Type 0 where
  of_record : {n p : ℕ} → OfRecord 5461 (6 * m) m xs n p → OfRecordType m xs n p
  nought : NoRow (OfRecord 5461 (6 * m) m xs) → Greatest (within (modified_sum m xs) (6 * (m * m) * (length xs - 3 * m + 1))) 0 → OfRecordType m xs 8 0

-- bars, of a type by its alpha: the types are those of alpha -2 to 2
pub data OfBars (r : ℕ) (alpha : ℤ) (M : ℕ) : ℕ → ℕ → Type 0 where
  no_type : 2 < nat_abs alpha → OfBars r alpha M 3 0
  nought : nat_abs alpha ≤ 2 → r ≡ 0 → OfBars r alpha M 8 0
  above : nat_abs alpha ≤ 2 → 2 ^ 62 < r → OfBars r alpha M 3 0
  few : nat_abs alpha ≤ 2 → Between 1 (2 ^ 62) r → M < 10 → OfBars r alpha M 1 0
  many : nat_abs alpha ≤ 2 → Between 1 (2 ^ 62) r → 32767 < M → OfBars r alpha M 2 0

-- ---- the running meter

-- the meter does not hold together
pub data Broken (x : Meter) : Type 0 where
  factor : Outside 1 10922 x.m → Broken x
  accepted : 32768 < x.n → Broken x
  stretch : x.n < x.stretch → Broken x
  term_count_k : x.n < x.k → Broken x
  term_count_c : x.n < x.c → Broken x
  window : x.m * 2 ^ 42 < nat_abs x.window → Broken x
  high_of_a : 2 ^ 62 ≤ x.a.hi → Broken x
  high_of_b : 2 ^ 62 ≤ x.b.hi → Broken x

-- the same for a sample call, with its ring: sample number k of a stretch lies in slot k mod 3m
pub data BrokenWith (x : Meter) (ring : List ℤ) : Type 0 where
  meter : Broken x → BrokenWith x ring
  short : length ring < 3 * x.m → BrokenWith x ring
  once : 2 * x.m ≤ x.stretch → OutOfRange ring ((x.stretch - x.m) % (3 * x.m)) → BrokenWith x ring
  twice : 2 * x.m ≤ x.stretch → OutOfRange ring ((x.stretch - 2 * x.m) % (3 * x.m)) → BrokenWith x ring
  thrice : 3 * x.m ≤ x.stretch → OutOfRange ring ((x.stretch - 3 * x.m) % (3 * x.m)) → BrokenWith x ring

-- Meter::start; never 7
pub data OfStart (m : ℕ) (ring : List ℤ) : ℕ → ℕ → Type 0 where
  factor : Outside 1 10922 m → OfStart m ring 5 0
  short : Between 1 10922 m → length ring < 3 * m → OfStart m ring 6 0

-- Meter::sample
pub data OfSample (x : Meter) (ring : List ℤ) (v : ℤ) : ℕ → ℕ → Type 0 where
  broken : BrokenWith x ring → OfSample x ring v 7 0
  many : (BrokenWith x ring → ⊥) → x.n ≡ 32768 → OfSample x ring v 2 0
  range : (BrokenWith x ring → ⊥) → x.n < 32768 → 2 ^ 40 < nat_abs v → OfSample x ring v 3 0

-- Meter::gap
pub data OfGap (x : Meter) : ℕ → ℕ → Type 0 where
  broken : Broken x → OfGap x 7 0

-- Meter::report
pub data OfReport (x : Meter) : ℕ → ℕ → Type 0 where
  broken : Broken x → OfReport x 7 0

-- ---- a channel c: a call of the meter with a number of the channel

-- channel_start, channel_sample, channel_gap, channel_report, and those of a Bank: 11 before the rows of the meter's own call, in which the channel's part
-- stands for the ring
pub data OfChannel (c : ℕ) (Row : ℕ → ℕ → Type 0) : ℕ → ℕ → Type 0 where
  above : 15 < c → OfChannel c Row 11 0
  own : {n p : ℕ} → c ≤ 15 → Row n p → OfChannel c Row n p

-- ---- the record file, of kind 0 or 1

-- a count above the kind's
abbrev pub TooMany : ℕ → ℕ → Type 0
TooMany kind count = ((kind ≡ 0) × (32768 < count)) ⊎ ((kind ≡ 1) × (32767 < count))

-- a value outside the kind's range
abbrev pub FarValue : ℕ → ℤ → Type 0
FarValue kind z = ((kind ≡ 0) × (2 ^ 40 < nat_abs z)) ⊎ ((kind ≡ 1) × (2 ^ 41 < nat_abs z))

-- a byte b at place k of the first eight is right: "PHR", a version that is known in two bytes, the kind; a count's bytes always are
abbrev pub Right : (ℕ → Type 0) → ℕ → ℕ → Type 0
Right Known k b = (k ≡ 0 → b ≡ 0x50) × (k ≡ 1 → b ≡ 0x48) × (k ≡ 2 → b ≡ 0x52) × (k ≡ 3 → Known b) × (k ≡ 4 → b ≡ 0) × (k ≡ 5 → b ≤ 1)

-- a version that read_file knows, and one that read_record knows
abbrev pub FirstVersion : ℕ → Type 0
FirstVersion b = b ≡ 1

abbrev pub EitherVersion : ℕ → Type 0
EitherVersion b = (b ≡ 1) ⊎ (b ≡ 2)

-- byte k of the first eight is wrong
abbrev pub WrongByte : (ℕ → Type 0) → List ℕ → ℕ → Type 0
WrongByte Known bytes k = Right Known k (get_or bytes k 0) → ⊥

module _ (bytes : List ℕ) (room : ℕ) where
  abbrev pub Wrong : ℕ → Type 0
  Wrong k = WrongByte FirstVersion bytes k

  -- read_file, up to the count: among the header's bytes that are there, then the length if that is under 8
  pub data OfHeader : ℕ → ℕ → Type 0 where
    wrong : {i : ℕ} → First (length bytes) Wrong i → OfHeader 9 i
    short : None (length bytes) Wrong → length bytes < 8 → OfHeader 9 (length bytes)
    many : None (length bytes) Wrong → 8 ≤ length bytes → TooMany (kind_of bytes) (count_of bytes) → OfHeader 2 0

  -- read_file: 9 at the shorter of the true and the right length
  pub data OfFile : ℕ → ℕ → Type 0 where
    header : {n p : ℕ} → OfHeader n p → OfFile n p
    too_short : NoRow OfHeader → length bytes < 8 + 8 * count_of bytes → OfFile 9 (length bytes)
    too_long : NoRow OfHeader → 8 + 8 * count_of bytes < length bytes → OfFile 9 (8 + 8 * count_of bytes)
    no_room : NoRow OfHeader → length bytes ≡ 8 + 8 * count_of bytes → room < count_of bytes → OfFile 6 0
    range : {i : ℕ} → NoRow OfHeader → length bytes ≡ 8 + 8 * count_of bytes → count_of bytes ≤ room → First (count_of bytes) (λ k. FarValue (kind_of bytes) (value_at bytes (8 + 8 * k))) i → OfFile 3 i

module _ (bytes : List ℕ) where
  abbrev pub WrongEither : ℕ → Type 0
  WrongEither k = WrongByte EitherVersion bytes k

  -- read_header, and read_record up to the count: among the first eight bytes that are there, then the length if that is under the header's, 8 in
  -- version 1 and 16 in version 2, then the start, which is 0 where the kind is
  pub data OfRecordHeader : ℕ → ℕ → Type 0 where
    wrong : {i : ℕ} → First (length bytes) WrongEither i → OfRecordHeader 9 i
    short : None (length bytes) WrongEither → length bytes < head_length bytes → OfRecordHeader 9 (length bytes)
    started : None (length bytes) WrongEither → head_length bytes ≤ length bytes → kind_of bytes ≡ 0 → (start_of bytes ≡ pos 0 → ⊥) → OfRecordHeader 9 8
    many : None (length bytes) WrongEither → head_length bytes ≤ length bytes → (kind_of bytes ≡ 0 → start_of bytes ≡ pos 0) → TooMany (kind_of bytes) (count_of bytes) → OfRecordHeader 2 0

module _ (bytes : List ℕ) (room : ℕ) where
  -- read_record: 9 at the shorter of the true and the right length; 3 for the start before 3 for a value
  pub data OfRecordFile : ℕ → ℕ → Type 0 where
    header : {n p : ℕ} → OfRecordHeader bytes n p → OfRecordFile n p
    too_short : NoRow (OfRecordHeader bytes) → length bytes < head_length bytes + 8 * count_of bytes → OfRecordFile 9 (length bytes)
    too_long : NoRow (OfRecordHeader bytes) → head_length bytes + 8 * count_of bytes < length bytes → OfRecordFile 9 (head_length bytes + 8 * count_of bytes)
    no_room : NoRow (OfRecordHeader bytes) → length bytes ≡ head_length bytes + 8 * count_of bytes → room < count_of bytes → OfRecordFile 6 0
    far_start : NoRow (OfRecordHeader bytes) → length bytes ≡ head_length bytes + 8 * count_of bytes → count_of bytes ≤ room → 2 ^ 40 < nat_abs (start_of bytes) → OfRecordFile 3 0
    range : {i : ℕ} → NoRow (OfRecordHeader bytes) → length bytes ≡ head_length bytes + 8 * count_of bytes → count_of bytes ≤ room → nat_abs (start_of bytes) ≤ 2 ^ 40 →
        First (count_of bytes) (λ k. FarValue (kind_of bytes) (value_at bytes (head_length bytes + 8 * k))) i → OfRecordFile 3 i

  -- salvage: the header and the written count, as read_header refuses them; then the new file's room, and the start
  pub data OfSalvage : ℕ → ℕ → Type 0 where
    header : {n p : ℕ} → OfRecordHeader bytes n p → OfSalvage n p
    no_room : NoRow (OfRecordHeader bytes) → room < length (salvaged_file bytes) → OfSalvage 6 0
    far_start : NoRow (OfRecordHeader bytes) → length (salvaged_file bytes) ≤ room → 2 ^ 40 < nat_abs (start_of bytes) → OfSalvage 3 0

-- write_file
pub data OfWriting (kind : ℕ) (values : List ℤ) (room : ℕ) : ℕ → ℕ → Type 0 where
  no_kind : 1 < kind → OfWriting kind values room 9 5
  many : TooMany kind (length values) → OfWriting kind values room 2 0
  no_room : kind ≤ 1 → (TooMany kind (length values) → ⊥) → room < 8 + 8 * length values → OfWriting kind values room 6 0
  range : {i : ℕ} → kind ≤ 1 → (TooMany kind (length values) → ⊥) → 8 + 8 * length values ≤ room →
      First (length values) (λ k. FarValue kind (at values k)) i → OfWriting kind values room 3 i

-- write_record
pub data OfWritingFrom (kind : ℕ) (start : ℤ) (values : List ℤ) (room : ℕ) : ℕ → ℕ → Type 0 where
  no_kind : 1 < kind → OfWritingFrom kind start values room 9 5
  started : kind ≡ 0 → (start ≡ pos 0 → ⊥) → OfWritingFrom kind start values room 9 8
  many : (kind ≡ 0 → start ≡ pos 0) → TooMany kind (length values) → OfWritingFrom kind start values room 2 0
  no_room : kind ≤ 1 → (kind ≡ 0 → start ≡ pos 0) → (TooMany kind (length values) → ⊥) → room < 16 + 8 * length values → OfWritingFrom kind start values room 6 0
  far_start : kind ≤ 1 → (kind ≡ 0 → start ≡ pos 0) → (TooMany kind (length values) → ⊥) → 16 + 8 * length values ≤ room → 2 ^ 40 < nat_abs start →
      OfWritingFrom kind start values room 3 0
  range : {i : ℕ} → kind ≤ 1 → (kind ≡ 0 → start ≡ pos 0) → (TooMany kind (length values) → ⊥) → 16 + 8 * length values ≤ room → nat_abs start ≤ 2 ^ 40 →
      First (length values) (λ k. FarValue kind (at values k)) i → OfWritingFrom kind start values room 3 i

-- ---- the sheet

-- more values than a sheet takes
abbrev pub ManyOnSheet : ℕ → ℕ → Type 0
ManyOnSheet kind count = ((kind ≡ 0) × (4096 < count)) ⊎ ((kind ≡ 0 → ⊥) × (4095 < count))

-- a record on a sheet, refused as a whole: by its header; by a count of more values than a sheet takes; by the reader, with room for 4,096; by the phases
-- of a frequency record; by the Allan sum at factor 1
module _ (bytes : List ℕ) where
  abbrev pub FewOnSheet : Type 0
  FewOnSheet = ManyOnSheet (kind_of bytes) (count_of bytes) → ⊥

  pub data OfSheet : ℕ → ℕ → Type 0 where
    header : {n p : ℕ} → OfRecordHeader bytes n p → OfSheet n p
    many : NoRow (OfRecordHeader bytes) → ManyOnSheet (kind_of bytes) (count_of bytes) → OfSheet 2 0
    file : {n p : ℕ} → NoRow (OfRecordHeader bytes) → FewOnSheet → OfRecordFile bytes 4096 n p → OfSheet n p
    phases : {n p : ℕ} → NoRow (OfRecordFile bytes 4096) → FewOnSheet → (kind_of bytes ≡ 0 → ⊥) → OfPhasesFrom (start_of bytes) (record_values bytes) 4096 n p → OfSheet n p
    allan : {n p : ℕ} → NoRow (OfRecordFile bytes 4096) → FewOnSheet → ((kind_of bytes ≡ 0 → ⊥) → NoRow (OfPhasesFrom (start_of bytes) (record_values bytes) 4096)) →
        OfRecord 10922 3 1 (samples_of bytes) n p → OfSheet n p

-- sheet_record, with room for so much text
pub data OfText (bytes : List ℕ) (t : Totals) (room : ℕ) : ℕ → ℕ → Type 0 where
  large : (2 ^ 63 < t.k) ⊎ (2 ^ 63 < t.c) → OfText bytes t room 2 0
  no_room : t.k ≤ 2 ^ 63 → t.c ≤ 2 ^ 63 → room < length (record_text bytes) → OfText bytes t room 6 0

-- sheet_total
pub data OfTotal (t : Totals) (room : ℕ) : ℕ → ℕ → Type 0 where
  no_room : room < length (total_line t) → OfTotal t room 6 0
