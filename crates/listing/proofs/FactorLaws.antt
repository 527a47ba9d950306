-- The factors of a record one by one, with their lines and their counts.
use mathlib.Core.Path.{◌≡◌, refl, sym, ap, ◌∙◌}
use mathlib.Core.Bool.{Bool, true, false, cond}
use mathlib.Core.List.{List, [], ◌∷◌, ◌++◌, append_assoc, append-nil}
use Prim.Native.Nat.{ℕ, suc, ◌+◌, ◌-◌, ◌*◌, ◌%◌, ◌^◌, ◌≤◌, ◌<◌}
use native.Mathlib.Omega.{arith}
use borrow.Author.Tests.{le-leb, lt-leb}
use lib.Dec.{eqb}
use lib.IntN.{ℤ}
use lib.ListN.{length}
use Rattle.record.specs.Refusals.{record_refusal}
use Rattle.record.specs.declared.Refusal.{Refusal}
use Rattle.sums.specs.Published.{allan_sum, allan_count, modified_sum, modified_count}
use Rattle.sums.specs.Answers.{allan_demand, modified_demand, sum_answer, allan_sum_answer, modified_sum_answer}
use Rattle.sums.specs.declared.SumAnswer.{SumAnswer}
use Rattle.wide.specs.Wide.{halves}
use Rattle.wide.proofs.Roots.{bit_of_word}
use Rattle.listing.specs.Columns.{factor_line}
use Rattle.listing.specs.Sheet.{factors_from, factors, lines_of, allan_counts, modified_counts}

module _ (more m n : ℕ) where
  pub factor_due : 2 * m < n → factors_from (suc more) m n ≡ m ∷ factors_from more (2 * m) n
  unfolding factors_from
  factor_due h = rw (le-leb (2 * m + 1) n (omega arith))

  pub factor_not_due : n ≤ 2 * m → factors_from (suc more) m n ≡ []
  unfolding factors_from
  factor_not_due h = rw (lt-leb (2 * m + 1) n (omega arith))

-- a factor as the loop makes it
pub factor_word : (i : ℕ) → i < 11 → 1 * 2 ^ i % 2 ^ 64 ≡ 2 ^ i
factor_word i few = bit_of_word 64 i (omega arith)

-- ---- counts are not above the number of samples, and one

module _ (m : ℕ) (xs : List ℤ) where
  pub allan_count_within : (allan_sum_answer m xs).count ≤ length xs + 1
  unfolding allan_sum_answer sum_answer allan_count
  allan_count_within = by_number (eqb (record_refusal allan_demand m xs).number 0)
    where
      r : Refusal
      r = record_refusal allan_demand m xs

      by_number : (nought : Bool) → (cond {A = SumAnswer} nought (record { number = 0; place = 0; sum = halves (allan_sum m xs); count = length xs - 2 * m }) (record { number = r.number; place = r.place; sum = halves 0; count = 0 })).count ≤ length xs + 1
      by_number true = omega arith
      by_number false = omega arith

  pub modified_count_within : (modified_sum_answer m xs).count ≤ length xs + 1
  unfolding modified_sum_answer sum_answer modified_count
  modified_count_within = by_number (eqb (record_refusal modified_demand m xs).number 0)
    where
      r : Refusal
      r = record_refusal modified_demand m xs

      by_number : (nought : Bool) → (cond {A = SumAnswer} nought (record { number = 0; place = 0; sum = halves (modified_sum m xs); count = length xs + 1 - 3 * m }) (record { number = r.number; place = r.place; sum = halves 0; count = 0 })).count ≤ length xs + 1
      by_number true = omega arith
      by_number false = omega arith

-- ---- where i factors are done, the text and the totals so far

module _ (xs : List ℤ) (k₀ c₀ : ℕ) where
  abbrev left : ℕ → ℕ → List ℕ
  left i m = factors_from (11 - i) m (length xs)

  pub record Done (text : List ℕ) (k c m i : ℕ) : Type 0 where
    pub within : i ≤ 11
    pub factor : m ≤ 4096
    pub room : length text ≤ 405 * i
    pub k_within : k ≤ k₀ + 4097 * i
    pub c_within : c ≤ c₀ + 4097 * i
    pub lines : text ++ lines_of xs (left i m) ≡ lines_of xs (factors (length xs))
    pub ks : k + allan_counts xs (left i m) ≡ k₀ + allan_counts xs (factors (length xs))
    pub cs : c + modified_counts xs (left i m) ≡ c₀ + modified_counts xs (factors (length xs))

  pub none_done : Done [] k₀ c₀ 1 0
  unfolding factors
  none_done = record {
    within = omega arith;
    factor = omega arith;
    room = omega arith;
    k_within = omega arith;
    c_within = omega arith;
    lines = refl;
    ks = refl;
    cs = refl;
  }

  module _ {text : List ℕ} {k c m i : ℕ} (d : Done text k c m i) where
    -- one factor more
    pub one_more_done : i < 11 → 2 * m < length xs → length xs ≤ 4096 → {after : List ℕ} →
        after ≡ text ++ factor_line xs m → length after ≤ length text + 405 →
        Done after (k + (allan_sum_answer m xs).count) (c + (modified_sum_answer m xs).count) (2 * m) (i + 1)
    unfolding lines_of allan_counts modified_counts
    one_more_done h due few {after} line short =
        let next : 11 - i ≡ suc (11 - (i + 1)) = omega arith in
        let first : left i m ≡ m ∷ left (i + 1) (2 * m) = rw next (factor_due (11 - (i + 1)) m (length xs) due) in
        let rest = left (i + 1) (2 * m) in
        record {
          within = omega arith;
          factor = omega arith;
          room = omega (arith, d.room);
          k_within = omega (arith, d.k_within, allan_count_within m xs);
          c_within = omega (arith, d.c_within, modified_count_within m xs);
          lines =
              ap (λ (t : List ℕ). t ++ lines_of xs rest) line
              ∙ append_assoc text (factor_line xs m) (lines_of xs rest)
              ∙ ap (λ (ms : List ℕ). text ++ lines_of xs ms) (sym first)
              ∙ d.lines;
          ks = omega (arith, d.ks, ap (allan_counts xs) first);
          cs = omega (arith, d.cs, ap (modified_counts xs) first);
        }

    -- no factor more is due, or all eleven are done
    module _ (ended : left i m ≡ []) where
      pub lines_done : text ≡ lines_of xs (factors (length xs))
      unfolding lines_of
      lines_done = sym (append-nil text) ∙ ap (λ (ms : List ℕ). text ++ lines_of xs ms) (sym ended) ∙ d.lines

      pub ks_done : k ≡ k₀ + allan_counts xs (factors (length xs))
      unfolding allan_counts
      ks_done = omega (arith, d.ks, ap (allan_counts xs) ended)

      pub cs_done : c ≡ c₀ + modified_counts xs (factors (length xs))
      unfolding modified_counts
      cs_done = omega (arith, d.cs, ap (modified_counts xs) ended)

    pub none_due : i < 11 → length xs ≤ 2 * m → left i m ≡ []
    none_due h few = let next : 11 - i ≡ suc (11 - (i + 1)) = omega arith in rw next (factor_not_due (11 - (i + 1)) m (length xs) few)

    pub none_left : 11 ≤ i → left i m ≡ []
    unfolding factors_from
    none_left h = let over : 11 - i ≡ 0 = omega arith in rw over
