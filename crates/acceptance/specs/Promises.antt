-- What conditions 2 and 3 promise of each figure, in the rules' words: the published figure, and nothing about how it is worked. Where a call is
-- answered at all is told by Grounds.antt.
use Rattle.std.specs.Prelude.{◌≡◌, true, false, List, [], ◌∷◌, ℕ, suc, ◌+◌, ◌-◌, ◌*◌, ◌/◌, ◌^◌, ◌≤◌, ◌<◌, leb, Float, ℤ, pos, negsuc, nat_abs, ◌+ℤ◌, ◌-ℤ◌, ◌*ℤ◌, length, take, ◌≤ℤ◌, ◌<ℤ◌}
use Rattle.std.specs.Int.{◌∣◌}
use Rattle.laws.specs.Greatest.{Greatest}
use Rattle.laws.specs.Lists.{at}
use Rattle.laws.specs.Sums.{total_over}
use Rattle.wide.specs.Wide.{value}
use Rattle.wide.specs.declared.Wide.{Wide}
use Rattle.record.specs.Refusals.{refused}
use Rattle.record.specs.declared.CountAnswer.{CountAnswer}
use Rattle.sums.specs.Published.{allan_sum, allan_count, modified_sum, modified_count}
use Rattle.sums.specs.declared.Part.{Part}
use Rattle.variances.specs.Deviations.{within}
use Rattle.readings.specs.Readings.{Exactly}
use Rattle.plot.specs.Drawn.{plus_zero, GreatestDouble}
use Rattle.plot.specs.Dots.{dot_number, dot_value}
use Rattle.plot.specs.declared.dots.Dot.{Dot}
use Rattle.plot.specs.declared.dots.Dot.TheVariants.{Drawn, Nought, TooFew}
use Rattle.noise.specs.declared.bars.BarsAnswer.{BarsAnswer}
use Rattle.phr.specs.File.{value_in_range}
use Rattle.phr.specs.Reading.{kind_of, count_of, version_of, head_length, start_of}
use Rattle.phr.specs.declared.ReadAnswer.{ReadAnswer}
use Rattle.phr.specs.declared.RecordAnswer.{RecordAnswer}
use Rattle.mending.specs.Salvage.{present_values, LongestGood}
use Rattle.mending.specs.declared.SalvageAnswer.{SalvageAnswer}
use Rattle.listing.specs.Sheet.{AllFactors, lines_of, allan_counts, modified_counts, samples_of, refused_line}
use Rattle.listing.specs.declared.Totals.{Totals}
use Rattle.acceptance.specs.Noughts.{DotNought}
use Rattle.acceptance.specs.Grounds.{NoRow, OfSheet}

-- ---- sums

-- a sum with its count
abbrev pub SumOf : ℕ → ℕ → Wide → ℕ → Type 0
SumOf total count sum n = (value sum ≡ total) × (n ≡ count)

-- both sums of N samples, each apart: A with N-2m from N = 2m+1 on, B with N-3m+1 from N = 3m on; 1 for one that is not yet due
pub record PartsOf (m : ℕ) (xs : List ℤ) (allan modified : Part) : Type 0 where
  pub allan_due : 2 * m + 1 ≤ length xs → (allan.number ≡ 0) × SumOf (allan_sum m xs) (length xs - 2 * m) allan.sum allan.count
  pub allan_not_due : length xs < 2 * m + 1 → allan.number ≡ 1
  pub modified_due : 3 * m ≤ length xs → (modified.number ≡ 0) × SumOf (modified_sum m xs) (length xs - 3 * m + 1) modified.sum modified.count
  pub modified_not_due : length xs < 3 * m → modified.number ≡ 1

-- the totals over stretches of samples, each worked alone: A with K and B with C, each apart; 1 for one that has no term
pub record StretchesOf (m : ℕ) (stretches : List (List ℤ)) (allan modified : Part) : Type 0 where
  pub allan_due : 1 ≤ total_over (allan_count m) stretches →
      (allan.number ≡ 0) × SumOf (total_over (allan_sum m) stretches) (total_over (allan_count m) stretches) allan.sum allan.count
  pub allan_not_due : total_over (allan_count m) stretches ≡ 0 → allan.number ≡ 1
  pub modified_due : 1 ≤ total_over (modified_count m) stretches →
      (modified.number ≡ 0) × SumOf (total_over (modified_sum m) stretches) (total_over (modified_count m) stretches) modified.sum modified.count
  pub modified_not_due : total_over (modified_count m) stretches ≡ 0 → modified.number ≡ 1

-- ---- float readings

-- how many readings were changed: those that are not their samples exactly
pub data Changed : List Float → List ℤ → ℕ → Type 0 where
  no_reading : Changed [] [] 0
  kept : {x : Float} {z : ℤ} {xs : List Float} {zs : List ℤ} {n : ℕ} → Exactly x z → Changed xs zs n → Changed (x ∷ xs) (z ∷ zs) n
  changed : {x : Float} {z : ℤ} {xs : List Float} {zs : List ℤ} {n : ℕ} → (Exactly x z → ⊥) → Changed xs zs n → Changed (x ∷ xs) (z ∷ zs) (suc n)

-- ---- fractions

-- a / d in lowest terms, nought is 0/1
pub record FractionOf (a d numerator denominator : ℕ) : Type 0 where
  pub same_value : numerator * d ≡ a * denominator
  pub lowest : (c : ℕ) → c ∣ numerator → c ∣ denominator → c ≡ 1
  pub nought : a ≡ 0 → (numerator ≡ 0) × (denominator ≡ 1)

-- ---- the quieter of two records

-- the first where its Allan variance A1 / (2 m^2 K1) is not above the second's, A2 / (2 m^2 K2), K being N-2m; else the second
pub record QuieterOf (m : ℕ) (first second : List ℤ) (which : ℕ) : Type 0 where
  pub not_above : allan_sum m first * (2 * (m * m) * (length second - 2 * m)) ≤ allan_sum m second * (2 * (m * m) * (length first - 2 * m)) → which ≡ 1
  pub above : allan_sum m second * (2 * (m * m) * (length first - 2 * m)) < allan_sum m first * (2 * (m * m) * (length second - 2 * m)) → which ≡ 2

-- ---- phase and frequency

-- phase, to frequency, to phase gives x_i - x_0 where all of these are in range; else 3 at the first that is not
pub record BackAndForth (xs left : List ℤ) (z : CountAnswer) : Type 0 where
  pub given : ((k : ℕ) → k + 1 < length xs → nat_abs (at xs (k + 1) -ℤ at xs 0) ≤ 2 ^ 40) →
      (z.number ≡ 0) × (z.count ≡ length xs) × ((i : ℕ) → i < length xs → at left i ≡ at xs i -ℤ at xs 0)
  pub refused_first : (i : ℕ) → i + 1 < length xs → ((k : ℕ) → k < i → nat_abs (at xs (k + 1) -ℤ at xs 0) ≤ 2 ^ 40) →
      2 ^ 40 < nat_abs (at xs (i + 1) -ℤ at xs 0) → (z.number ≡ 3) × (z.place ≡ i)

-- what is read back, from phase to frequency to phase with x_0 as the start or from frequency to phase to frequency, is what there was
abbrev pub GivenBack : List ℤ → List ℤ → CountAnswer → Type 0
GivenBack xs left z = (z.number ≡ 0) × (z.count ≡ length xs) × (take (length xs) left ≡ xs)

-- ---- dots

-- the dot of the variance a / d: r is its deviation. dot_number and dot_value are the number and the value that each dot stands for
pub record DotOf (a d : ℕ) (dot : Dot) : Type 0 where
  pub r : ℕ
  pub greatest : Greatest (within a d) r
  pub nought : r ≡ 0 → DotNought dot
  pub drawn : 1 ≤ r → (dot ≡ Drawn (dot_value dot)) × (dot_number dot ≡ 0) × GreatestDouble r (dot_value dot)

-- a dot as C has it: its kind, and the value that it stands for
pub data ToldAs : Dot → ℕ → Float → Type 0 where
  nought : ToldAs Nought 0 plus_zero
  drawn : {v : Float} → ToldAs (Drawn v) 1 v
  too_few : ToldAs TooFew 2 plus_zero

-- ---- noise types and bars

-- 4096 r2 against r1 times a bound
pub record TypeByTable (r1 r2 : ℕ) (alpha : ℤ) : Type 0 where
  pub white_phase : 4096 * r2 ≤ r1 * 3444 → alpha ≡ pos 2
  pub flicker_phase : r1 * 3444 < 4096 * r2 → 4096 * r2 ≤ r1 * 4871 → alpha ≡ pos 1
  pub white_frequency : r1 * 4871 < 4096 * r2 → 4096 * r2 ≤ r1 * 6889 → alpha ≡ pos 0
  pub flicker_frequency : r1 * 6889 < 4096 * r2 → 4096 * r2 ≤ r1 * 9742 → alpha ≡ negsuc 0
  pub random_walk_frequency : r1 * 9742 < 4096 * r2 → alpha ≡ negsuc 1

-- of a record: r1 and r2 are its time deviations at m and 2m
pub record NoiseOf (m : ℕ) (xs : List ℤ) (alpha : ℤ) : Type 0 where
  pub r1 : ℕ
  pub r2 : ℕ
  pub first : Greatest (within (modified_sum m xs) (6 * (m * m) * (length xs - 3 * m + 1))) r1
  pub second : Greatest (within (modified_sum (2 * m) xs) (6 * (2 * m * (2 * m)) * (length xs - 3 * (2 * m) + 1))) r2
  pub type : TypeByTable r1 r2 alpha

-- kappa in hundredths, by alpha
pub data Kappa : ℤ → ℕ → Type 0 where
  white_phase : Kappa (pos 2) 99
  flicker_phase : Kappa (pos 1) 99
  white_frequency : Kappa (pos 0) 87
  flicker_frequency : Kappa (negsuc 0) 77
  random_walk_frequency : Kappa (negsuc 1) 75

-- w is kappa times r divided by 100, floored; h the greatest whole number with h^2 M not above w^2
pub record HalfOf (r : ℕ) (alpha : ℤ) (M h : ℕ) : Type 0 where
  pub kappa : ℕ
  pub by_alpha : Kappa alpha kappa
  pub greatest : Greatest (λ k. leb (k * k * M) (kappa * r / 100 * (kappa * r / 100))) h

-- three doubles, drawn from r-h, r and r+h; h is below r
pub record BarsOf (r : ℕ) (alpha : ℤ) (M : ℕ) (z : BarsAnswer) : Type 0 where
  pub h : ℕ
  pub half : HalfOf r alpha M h
  pub below : h < r
  pub low : GreatestDouble (r - h) z.bar.low
  pub mid : GreatestDouble r z.bar.mid
  pub high : GreatestDouble (r + h) z.bar.high

-- ---- drift

-- y is sample x_i without the drift P over R: q = x_i - y is the floor of P i (i-1) / (2R) toward minus infinity, 2R q is not above P i (i-1), 2R (q+1) is
pub record DriftRemoved (P : ℤ) (R i : ℕ) (x y : ℤ) : Type 0 where
  pub not_above : ((x -ℤ y) *ℤ pos (2 * R)) ≤ℤ (P *ℤ pos (i * (i - 1)))
  pub next_above : (P *ℤ pos (i * (i - 1))) <ℤ (((x -ℤ y) +ℤ pos 1) *ℤ pos (2 * R))

-- a line and a constant drift: x_i = a + b i + c i (i-1) / 2
abbrev pub ConstantDrift : ℤ → ℤ → ℤ → List ℤ → Type 0
ConstantDrift a b c xs = (i : ℕ) → i < length xs → at xs i ≡ a +ℤ b *ℤ pos i +ℤ c *ℤ pos (i * (i - 1) / 2)

-- ---- the record file

-- what is read is the kind and the values
abbrev pub ReadsBack : ℕ → List ℤ → List ℤ → ReadAnswer → Type 0
ReadsBack kind values left z = (z.number ≡ 0) × (z.kind ≡ kind) × (z.count ≡ length values) × (take (length values) left ≡ values)

-- of a file of either version, the version, the kind, the start and the values
abbrev pub RecordReadsBack : ℕ → ℕ → ℤ → List ℤ → List ℤ → RecordAnswer → Type 0
RecordReadsBack version kind start values left z =
    (z.number ≡ 0) × (z.version ≡ version) × (z.kind ≡ kind) × (z.start ≡ start) × (z.count ≡ length values) × (take (length values) left ≡ values)

-- both readers answer alike, and leave alike buffers: the one of version 1 alone, and the one of either version, for which the start is 0
pub record ReadAlike (z : ReadAnswer) (left : List ℤ) (z' : RecordAnswer) (left' : List ℤ) : Type 0 where
  pub number : z'.number ≡ z.number
  pub place : z'.place ≡ z.place
  pub kind : z'.kind ≡ z.kind
  pub count : z'.count ≡ z.count
  pub start : z'.start ≡ pos 0
  pub buffer : left' ≡ left

-- ---- salvage

-- what was salvaged of a damaged file is read with the version, the kind and the start that the damaged one's header says, and its values, so many as
-- were kept, are the longest good beginning of those present
pub record ReadsSalvaged (bytes : List ℕ) (kept : ℕ) (left : List ℤ) (z : RecordAnswer) : Type 0 where
  pub number : z.number ≡ 0
  pub version : z.version ≡ version_of bytes
  pub kind : z.kind ≡ kind_of bytes
  pub start : z.start ≡ start_of bytes
  pub count : z.count ≡ kept
  pub longest : LongestGood (kind_of bytes) (present_values bytes) (take kept left)

-- the old count is the header's, no more are kept, and the bytes left over are those that are not of the new file
pub record AddsUp (bytes : List ℕ) (z : SalvageAnswer) : Type 0 where
  pub old : z.old_count ≡ count_of bytes
  pub fewer : z.new_count ≤ z.old_count
  pub whole : length bytes ≡ head_length bytes + 8 * z.new_count + z.left_over

-- a value outside its range was met, or every value present is in it
pub data MetBy (bytes : List ℕ) : ℕ → Type 0 where
  met : (i : ℕ) → i < length (present_values bytes) → value_in_range (kind_of bytes) (at (present_values bytes) i) ≡ false → MetBy bytes 1
  not_met : ((i : ℕ) → i < length (present_values bytes) → value_in_range (kind_of bytes) (at (present_values bytes) i) ≡ true) → MetBy bytes 0

-- a file of so many values comes back byte for byte, with nothing left over and no value outside its range met
pub record ComesBack (bytes : List ℕ) (count : ℕ) (left : List ℕ) (z : SalvageAnswer) : Type 0 where
  pub number : z.number ≡ 0
  pub old : z.old_count ≡ count
  pub new : z.new_count ≡ count
  pub left_over : z.left_over ≡ 0
  pub met : z.met ≡ 0
  pub same : take (length bytes) left ≡ bytes

-- the same bytes with so many more behind them: these are left over besides, and nothing else is other
pub record LeavesMore (more : ℕ) (z z' : SalvageAnswer) (left left' : List ℕ) : Type 0 where
  pub number : z'.number ≡ z.number
  pub place : z'.place ≡ z.place
  pub old : z'.old_count ≡ z.old_count
  pub new : z'.new_count ≡ z.new_count
  pub left_over : z.number ≡ 0 → z'.left_over ≡ z.left_over + more
  pub met : z'.met ≡ z.met
  pub buffer : left' ≡ left

-- ---- the sheet

-- the text of a record: the line of its refusal where it is refused as a whole, else the lines of all its factors
pub record TextOf (bytes text : List ℕ) : Type 0 where
  pub line_of_refusal : {n p : ℕ} → OfSheet bytes n p → text ≡ refused_line (refused n p)
  pub lines : NoRow (OfSheet bytes) → (ms : List ℕ) → AllFactors (length (samples_of bytes)) ms → text ≡ lines_of (samples_of bytes) ms

-- the totals with a record: as they were where it is refused as a whole, else with K and C of all its factors more
pub record TotalsOf (bytes : List ℕ) (before after : Totals) : Type 0 where
  pub unchanged : {n p : ℕ} → OfSheet bytes n p → after ≡ before
  pub more : NoRow (OfSheet bytes) → (ms : List ℕ) → AllFactors (length (samples_of bytes)) ms →
      (after.k ≡ before.k + allan_counts (samples_of bytes) ms) × (after.c ≡ before.c + modified_counts (samples_of bytes) ms)
