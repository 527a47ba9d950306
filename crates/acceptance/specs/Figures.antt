-- The starred figures of the rules, a row each, over what the entries answer, with the lent buffer as it is left.
use Rattle.std.specs.Prelude.{◌≡◌, false, List, [], ◌∷◌, ℕ, ◌-◌, ◌^◌, ℤ, pos, negsuc, length}
use Rattle.std.specs.Float.{fin}
use Rattle.laws.specs.Lists.{tabulate}
use Rattle.record.specs.Answers.{count_answer, buffer_left}
use Rattle.record.specs.declared.Refusal.{Refusal}
use Rattle.frequency.specs.Frequency.{phases_from, phases, phase_refusal, phase_refusal_from}
use Rattle.drift.specs.Drift.{drift_answer, without_drift, removal_refusal}
use Rattle.sums.specs.Answers.{allan_sum_answer, modified_sum_answer}
use Rattle.sums.specs.declared.SumAnswer.{SumAnswer}
use Rattle.variances.specs.Answers.{allan_fraction_answer, time_fraction_answer, allan_deviation_answer}
use Rattle.variances.specs.declared.FractionAnswer.{FractionAnswer}
use Rattle.noise.specs.Noise.{told_alpha, type_answer}
use Rattle.noise.specs.Bars.{bars_answer}
use Rattle.noise.specs.declared.Noise.TheVariants.{FlickerFrequency}
use Rattle.phr.specs.File.{file_of, file_from}
use Rattle.phr.specs.Writing.{write_refusal, write_record_refusal}
use Rattle.listing.specs.Sheet.{sheet}

-- ---- answers

-- a sum below 2^64 with its count, and a fraction in such numbers
abbrev pub sum_is : ℕ → ℕ → SumAnswer
sum_is total count = record { number = 0; place = 0; sum = record { hi = 0; lo = total }; count = count }

abbrev pub fraction_is : ℕ → ℕ → FractionAnswer
fraction_is above below = record { number = 0; place = 0; numerator = record { hi = 0; lo = above }; denominator = below }

-- a call that is not refused writes n entries, so that the buffer is left like this
abbrev pub Fills : {A : Type 0} → Refusal → ℕ → List A → List A → List A → Type 0
Fills r n out buffer left = (count_answer r n ≡ record { number = 0; place = 0; count = n }) × (buffer_left r out buffer ≡ left)

-- at factor m the record has the Allan sum A with count K, and the variance above / below
abbrev pub Allan : ℕ → List ℤ → ℕ → ℕ → ℕ → ℕ → Type 0
Allan m xs A K above below = (allan_sum_answer m xs ≡ sum_is A K) × (allan_fraction_answer A m K ≡ fraction_is above below)

-- at factor m the record has the modified sum B with count C, and the time variance above / below
abbrev pub Modified : ℕ → List ℤ → ℕ → ℕ → ℕ → ℕ → Type 0
Modified m xs B C above below = (modified_sum_answer m xs ≡ sum_is B C) × (time_fraction_answer B m C ≡ fraction_is above below)

-- the drift figure is P over R, and removal leaves this
abbrev pub Drift : List ℤ → ℤ → ℕ → List ℤ → Type 0
Drift xs P R left =
    (drift_answer xs ≡ record { number = 0; place = 0; p = P; r = R }) × Fills (removal_refusal xs (length xs)) (length xs) (without_drift xs) xs left

-- alpha of the type of two deviations
abbrev pub Typed : ℕ → ℕ → ℤ → Type 0
Typed r1 r2 alpha = ((type_answer r1 r2).number ≡ 0) × (told_alpha (type_answer r1 r2) ≡ alpha)

-- ---- the table

abbrev pub squares : List ℤ
squares = pos 0 ∷ pos 1 ∷ pos 4 ∷ pos 9 ∷ pos 16 ∷ pos 25 ∷ []

abbrev pub by_turns : List ℤ
by_turns = pos 0 ∷ pos 1 ∷ pos 0 ∷ pos 1 ∷ pos 0 ∷ []

abbrev pub spike : List ℤ
spike = pos 0 ∷ pos 0 ∷ pos 0 ∷ pos 1 ∷ pos 0 ∷ pos 0 ∷ pos 0 ∷ []

pub record Starred : Type 0 where
  pub squares_at_1 : Allan 1 squares 16 4 2 1
  pub squares_deviation : allan_deviation_answer 16 1 4 ≡ record { number = 0; place = 0; deviation = 1482910 }
  pub squares_at_2 : Allan 2 squares 128 2 8 1
  pub squares_modified : Modified 2 squares 256 1 32 3
  pub line_at_1 : Allan 1 (pos 5 ∷ pos 8 ∷ pos 11 ∷ pos 14 ∷ []) 0 2 0 1
  pub by_turns_at_1 : Allan 1 by_turns 12 3 2 1
  pub by_turns_at_2 : Allan 2 by_turns 0 1 0 1
  pub by_turns_modified : modified_sum_answer 2 by_turns ≡ record { number = 1; place = 0; sum = record { hi = 0; lo = 0 }; count = 0 }
  pub spike_at_1 : Allan 1 spike 6 5 3 5
  pub spike_at_2 : Allan 2 spike 4 3 1 6
  pub spike_modified : Modified 2 spike 8 2 1 6
  pub ends : allan_sum_answer 1 (pos (2 ^ 40) ∷ negsuc (2 ^ 40 - 1) ∷ pos (2 ^ 40) ∷ [])
      ≡ record { number = 0; place = 0; sum = record { hi = 2 ^ 20; lo = 0 }; count = 1 }
  -- the lent buffer held by_turns
  pub phased : let ys : List ℤ = pos 3 ∷ negsuc 0 ∷ pos 4 ∷ [] in Fills (phase_refusal ys 5) 4 (phases ys) by_turns (pos 0 ∷ pos 3 ∷ pos 2 ∷ pos 6 ∷ pos 0 ∷ [])
  pub phased_from : let ys : List ℤ = pos 3 ∷ negsuc 0 ∷ pos 4 ∷ [] in
      Fills (phase_refusal_from (pos 5) ys 5) 4 (phases_from (pos 5) ys) by_turns (pos 5 ∷ pos 8 ∷ pos 7 ∷ pos 11 ∷ pos 0 ∷ [])
  pub squares_drift : Drift squares (pos 8) 4 (pos 0 ∷ pos 1 ∷ pos 2 ∷ pos 3 ∷ pos 4 ∷ pos 5 ∷ [])
  pub last_fallen_drift : let xs : List ℤ = pos 0 ∷ pos 0 ∷ pos 0 ∷ negsuc 0 ∷ [] in Drift xs (pos 0) 1 xs
  pub falling_drift : Drift (pos 0 ∷ pos 0 ∷ pos 0 ∷ pos 0 ∷ negsuc 0 ∷ []) (negsuc 0) 4 (pos 0 ∷ pos 0 ∷ pos 1 ∷ pos 1 ∷ pos 1 ∷ [])
  -- h = 77,000: 923,000 and 1,000,000 and 1,077,000 over 2^20, each as a whole number times a power of two
  pub bar : bars_answer 1000000 FlickerFrequency 100
      ≡ record { number = 0; place = 0; bar = record { low = fin false 115375 (negsuc 16); mid = fin false 15625 (negsuc 13); high = fin false 134625 (negsuc 16) } }
  pub flicker_phase : Typed 4096 4096 (pos 1)
  pub at_the_bound : Typed 4096 3444 (pos 2)
  pub past_the_bound : Typed 4096 3445 (pos 1)
  -- the whole file of phase samples 1, -1
  pub file : let xs : List ℤ = pos 1 ∷ negsuc 0 ∷ [] in Fills (write_refusal 0 xs 24) 24 (file_of 0 xs) (tabulate 24 (λ k. 0))
      (0x50 ∷ 0x48 ∷ 0x52 ∷ 0x01 ∷ 0x00 ∷ 0x00 ∷ 0x02 ∷ 0x00
      ∷ 0x01 ∷ 0x00 ∷ 0x00 ∷ 0x00 ∷ 0x00 ∷ 0x00 ∷ 0x00 ∷ 0x00
      ∷ 0xFF ∷ 0xFF ∷ 0xFF ∷ 0xFF ∷ 0xFF ∷ 0xFF ∷ 0xFF ∷ 0xFF ∷ [])
  -- the whole file of frequency values 1, -1 from the start 5
  pub file_from_start : let ys : List ℤ = pos 1 ∷ negsuc 0 ∷ [] in Fills (write_record_refusal 1 (pos 5) ys 32) 32 (file_from 1 (pos 5) ys) (tabulate 32 (λ k. 0))
      (0x50 ∷ 0x48 ∷ 0x52 ∷ 0x02 ∷ 0x00 ∷ 0x01 ∷ 0x02 ∷ 0x00
      ∷ 0x05 ∷ 0x00 ∷ 0x00 ∷ 0x00 ∷ 0x00 ∷ 0x00 ∷ 0x00 ∷ 0x00
      ∷ 0x01 ∷ 0x00 ∷ 0x00 ∷ 0x00 ∷ 0x00 ∷ 0x00 ∷ 0x00 ∷ 0x00
      ∷ 0xFF ∷ 0xFF ∷ 0xFF ∷ 0xFF ∷ 0xFF ∷ 0xFF ∷ 0xFF ∷ 0xFF ∷ [])
  -- the whole sheet for 0 1 4 9 16 25: "1 2/1 4 1482910 2/3 4 856158 -2", "2 8/1 2 2965820 32/3 1 3424634 -", "total 6 5"
  pub squares_sheet : sheet (file_of 0 squares ∷ [])
      ≡ 0x31 ∷ 0x20 ∷ 0x32 ∷ 0x2F ∷ 0x31 ∷ 0x20 ∷ 0x34 ∷ 0x20 ∷ 0x31 ∷ 0x34 ∷ 0x38 ∷ 0x32 ∷ 0x39 ∷ 0x31 ∷ 0x30 ∷ 0x20
      ∷ 0x32 ∷ 0x2F ∷ 0x33 ∷ 0x20 ∷ 0x34 ∷ 0x20 ∷ 0x38 ∷ 0x35 ∷ 0x36 ∷ 0x31 ∷ 0x35 ∷ 0x38 ∷ 0x20 ∷ 0x2D ∷ 0x32 ∷ 0x0A
      ∷ 0x32 ∷ 0x20 ∷ 0x38 ∷ 0x2F ∷ 0x31 ∷ 0x20 ∷ 0x32 ∷ 0x20 ∷ 0x32 ∷ 0x39 ∷ 0x36 ∷ 0x35 ∷ 0x38 ∷ 0x32 ∷ 0x30 ∷ 0x20
      ∷ 0x33 ∷ 0x32 ∷ 0x2F ∷ 0x33 ∷ 0x20 ∷ 0x31 ∷ 0x20 ∷ 0x33 ∷ 0x34 ∷ 0x32 ∷ 0x34 ∷ 0x36 ∷ 0x33 ∷ 0x34 ∷ 0x20 ∷ 0x2D ∷ 0x0A
      ∷ 0x74 ∷ 0x6F ∷ 0x74 ∷ 0x61 ∷ 0x6C ∷ 0x20 ∷ 0x36 ∷ 0x20 ∷ 0x35 ∷ 0x0A ∷ []
