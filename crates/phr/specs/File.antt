-- The record file: what the file of a kind and a list of values is, in version 1 and, with a starting phase, in version 2, apart from any reader.
use Rattle.std.specs.Prelude.{◌≡◌, ℕ, ◌^◌, ◌<◌, ◌≤◌, Bool, true, cond, List, ◌∷◌, ◌++◌, length, ℤ, pos, ◌==◌, nat_le, nat_lt, slice_index, unsigned_abs}
use Rattle.laws.specs.Lists.{at, first_failing}
use Rattle.record.specs.Refusals.{refused_if}
use Rattle.record.specs.declared.Refusal.{Refusal}
use Rattle.phr.specs.Bytes.{low_first, twos_complement, values_bytes}

-- bytes 50 48 52 ("PHR"); the version in 16 bits, low byte first; the kind, 0 phase or 1 frequency; the count in 16 bits, low byte first
unfoldable pub first_eight : ℕ → ℕ → ℕ → List ℕ
first_eight version kind count = 0x50 ∷ 0x48 ∷ 0x52 ∷ low_first 2 version ++ (kind ∷ low_first 2 count)

-- version 1: these 8 bytes are the header
unfoldable pub header : ℕ → ℕ → List ℕ
header kind count = first_eight 1 kind count

-- then each value
unfoldable pub file_of : ℕ → List ℤ → List ℕ
file_of kind values = header kind (length values) ++ values_bytes values

-- version 2: 16 bytes are the header, the last 8 of them the starting phase
unfoldable pub header_from : ℕ → ℤ → ℕ → List ℕ
header_from kind start count = first_eight 2 kind count ++ low_first 8 (twos_complement start)

-- then each value
unfoldable pub file_from : ℕ → ℤ → List ℤ → List ℕ
file_from kind start values = header_from kind start (length values) ++ values_bytes values

-- at most 32,768 samples, or 32,767 readings
unfoldable pub most_values : ℕ → ℕ
most_values kind = cond (kind == 0) 32768 32767

-- phase samples lie within 2^40 either way, frequency values within 2^41
unfoldable pub value_in_range : ℕ → ℤ → Bool
value_in_range kind z = nat_le (unsigned_abs z) (cond (kind == 0) (2 ^ 40) (2 ^ 41))

-- the start of phase samples is 0
unfoldable pub start_fits : ℕ → ℤ → Bool
start_fits kind start = cond (kind == 0) (unsigned_abs start == 0) true

-- 3: a value outside the range of its kind, at the index of the first
unfoldable pub values_refusal : ℕ → List ℤ → Refusal
values_refusal kind values = let first : ℕ = first_failing (value_in_range kind) values in refused_if (nat_lt first (length values)) 3 first

-- ---- which bytes are a file

-- a kind and values that a file may hold
pub record Proper (kind : ℕ) (values : List ℤ) : Type 0 where
  pub known : kind ≤ 1
  pub few : length values ≤ most_values kind
  pub in_range : (i : ℕ) → i < length values → value_in_range kind (at values i) ≡ true

-- the bytes are the file, version 1, of some kind and of values that a file may hold, with room for them
pub record IsFile (bytes : List ℕ) (room : ℕ) : Type 0 where
  pub kind : ℕ
  pub values : List ℤ
  pub proper : Proper kind values
  pub enough : length values ≤ room
  pub same : bytes ≡ file_of kind values

-- a start that a file of a kind may hold: a phase in the sample range, and 0 for phase samples
pub record ProperStart (kind : ℕ) (start : ℤ) : Type 0 where
  pub in_range : unsigned_abs start ≤ 2 ^ 40
  pub of_phase : kind ≡ 0 → start ≡ pos 0

-- the bytes are the file, version 2, of some kind, and of a start and values that a file may hold, with room for the values
pub record IsFileFrom (bytes : List ℕ) (room : ℕ) : Type 0 where
  pub kind : ℕ
  pub start : ℤ
  pub values : List ℤ
  pub proper : Proper kind values
  pub proper_start : ProperStart kind start
  pub enough : length values ≤ room
  pub same : bytes ≡ file_from kind start values

-- each entry is a byte; past the end stands nought, which is one too
abbrev pub AreBytes : List ℕ → Type 0
AreBytes bytes = (i : ℕ) → slice_index bytes i < 256
