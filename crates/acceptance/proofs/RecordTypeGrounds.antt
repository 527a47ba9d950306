-- The refusal of a record's noise type agrees with its table of grounds: no deviation of a record is above 2^62, so that no 3 of two deviations stands.
use mathlib.Core.Path.{◌≡◌, ap, subst, ◌∙◌}
use mathlib.Core.List.{List}
use Prim.Native.Nat.{ℕ, ◌+◌, ◌-◌, ◌*◌, ◌^◌, ◌≤◌}
use native.Mathlib.Omega.{arith}
use borrow.Author.Tests.{eq-eqb, eqb-true, le-leb}
use lib.Dec.{eqb}
use lib.IntN.{ℤ}
use lib.ListN.{length}
use Rattle.laws.specs.Greatest.{Greatest}
use Rattle.laws.proofs.GreatestLaws.{one_greatest}
use Rattle.record.specs.Refusals.{none, refused_if, ◌then◌, record_refusal}
use Rattle.record.proofs.RefusalLaws.{Sound, none_sound}
use Rattle.sums.specs.Published.{modified_sum, modified_count, time_denominator}
use Rattle.sums.specs.Answers.{modified_demand}
use Rattle.variances.specs.Deviations.{within}
use Rattle.variances.proofs.DeviationLaws.{deviation_is_greatest}
use Rattle.variances.proofs.Bounds.{modified_allowed, time_denominator_above_nought, time_deviation_within}
use Rattle.noise.specs.Noise.{noise_refusal, time_deviation}
use Rattle.noise.proofs.NoiseLaws.{noise_demand, sound_at_factor, sound_at_double}
use Rattle.acceptance.specs.Grounds
use Rattle.acceptance.specs.Grounds.{OfRecord, OfRecordType}
use Rattle.acceptance.proofs.Grounding.{Decided, Stands, Agrees, decide_last, decide_after, decided_by, stands_first, stands_later, rowless_none, none_rowless}
use Rattle.acceptance.proofs.RecordGrounds.{multiple_agrees}

-- of two deviations that are not above 2^62 nothing but the nought is refused
small_refusal : (r1 r2 : ℕ) → r1 ≤ 2 ^ 62 → r2 ≤ 2 ^ 62 → noise_refusal r1 r2 ≡ refused_if (eqb r1 0) 8 0
unfolding noise_refusal
small_refusal r1 r2 first second = simp (le-leb r1 (2 ^ 62) first, le-leb r2 (2 ^ 62) second)

module _ (m : ℕ) (xs : List ℤ) where
  abbrev r1 : ℕ
  r1 = time_deviation m xs

  abbrev r2 : ℕ
  r2 = time_deviation (2 * m) xs

  -- the time variance is modified_sum m xs over this
  abbrev denominator : ℕ
  denominator = 6 * (m * m) * (length xs - 3 * m + 1)

  -- ---- where the record is not refused
  module _ (clear : record_refusal noise_demand m xs ≡ none) where
    abbrev sound : Sound noise_demand m xs
    sound = none_sound noise_demand m xs clear

    abbrev at_factor : record_refusal modified_demand m xs ≡ none
    at_factor = sound_at_factor m xs sound

    rest_is : noise_refusal r1 r2 ≡ refused_if (eqb r1 0) 8 0
    unfolding time_deviation
    rest_is = small_refusal r1 r2 (time_deviation_within m xs at_factor) (time_deviation_within (2 * m) xs (sound_at_double m xs sound))

    denominator_is : time_denominator m (modified_count m xs) ≡ denominator
    unfolding time_denominator modified_count
    denominator_is = ap (λ (c : ℕ). 6 * (m * m) * c) (omega (arith, sound.enough))

    greatest : Greatest (within (modified_sum m xs) denominator) r1
    unfolding time_deviation
    greatest =
        subst (λ (d : ℕ). Greatest (within (modified_sum m xs) d) r1) denominator_is
        (deviation_is_greatest _ _ (time_denominator_above_nought m xs at_factor) (modified_allowed m xs at_factor).sum_below)

  -- ---- the table
  abbrev of_record : Agrees (OfRecord 5461 (6 * m) m xs) (record_refusal noise_demand m xs)
  of_record = multiple_agrees 5461 6 m xs

  record_type_stands : {n p : ℕ} → OfRecordType m xs n p → Stands n p (record_refusal noise_demand m xs then noise_refusal r1 r2)
  record_type_stands (Grounds.of_record row) = stands_first _ _ (of_record.stands row)
  record_type_stands (Grounds.nought rowless is) =
      let clear = rowless_none of_record rowless in
      stands_later _ _ clear (λ e. omega arith, rest_is clear ∙ rw (eq-eqb r1 0 (one_greatest (greatest clear) is)))

  record_type_decided : Decided (OfRecordType m xs) (record_refusal noise_demand m xs then noise_refusal r1 r2)
  record_type_decided =
      decide_after _ _ (decided_by (λ n p. Grounds.of_record) of_record.decided)
      (λ clear. rw (rest_is clear) (decide_last _ 8 0 (omega arith)
      (λ t. Grounds.nought (none_rowless of_record (rw clear)) (subst (Greatest (within (modified_sum m xs) denominator)) (eqb-true r1 0 t) (greatest clear)))))

  pub record_type_agrees : Agrees (OfRecordType m xs) (record_refusal noise_demand m xs then noise_refusal r1 r2)
  record_type_agrees = record { stands = record_type_stands; decided = record_type_decided }
