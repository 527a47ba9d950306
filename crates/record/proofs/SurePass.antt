-- The pass over a record that has no way out: the word of each sample that was passed, moved up, is at most what was reached.
use Rattle.std.proofs.Common.{◌≡◌, ℕ, ◌+◌, ◌*◌, ◌%◌, ◌^◌, ◌<◌, ◌≤◌, List, length, ℤ, pos, ap, ◌∙◌, le_trans, arith, to_z-of_z, w64, SFits, to_z, of_z, below_more}
use lib.Bits.{bit_or}
use lib.Signed.{mag}
use Rattle.laws.specs.Lists.{at}
use Rattle.laws.proofs.ListLaws.{none_fails}
use Rattle.laws.proofs.Words.{moved_up_within, Reached, one_more_reached}
use Rattle.record.specs.Refusals.{none, in_range, range_refusal}
use Rattle.record.proofs.RangeLaws.{bounded_sample}
use Rattle.record.proofs.RefusalLaws.{all_in_range}

-- the word of a sample, moved up
abbrev moved_up : ℤ → ℕ
moved_up z = (of_z w64 z + 2 ^ 40) % 2 ^ 64

-- the samples before i were passed
abbrev pub Passed : ℕ → List ℤ → ℕ → Type 0
Passed reached xs i = ((k : ℕ) → k < i → SFits w64 (at xs k)) × Reached (λ k. moved_up (at xs k)) i reached

module _ (xs : List ℤ) (reached i : ℕ) (passed : Passed reached xs i) where
  -- one sample more, as the machine loads it
  pub one_more_passed : mag (at xs i) < 2 ^ 63 → {word : ℕ} → word ≡ moved_up (to_z w64 (of_z w64 (at xs i))) → Passed (bit_or reached word) xs (i + 1)
  one_more_passed loads word-is =
      let fits : SFits w64 (at xs i) = record { sfits = loads } in
      (below_more (λ k. SFits w64 (at xs k)) i passed.0 fits, one_more_reached (λ k. moved_up (at xs k)) i reached passed.1 (word-is ∙ ap moved_up (to_z-of_z fits)))

  -- nothing lies outside the range where what was reached is at most twice its end
  pub passed_in_range : i ≡ length xs → reached ≤ 2 * 2 ^ 40 → range_refusal xs ≡ none
  passed_in_range whole low =
      all_in_range xs (none_fails in_range (pos 0) xs (λ k below.
      let before : k < i = omega arith in
      bounded_sample (at xs k) (moved_up_within (2 ^ 40) (omega arith) (at xs k) (passed.0 k before) (le_trans (passed.1 k before) low))))
