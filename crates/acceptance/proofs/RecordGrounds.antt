-- The refusals of records agree with their tables of grounds.
use mathlib.Core.Path.{◌≡◌, refl, sym, ap, subst, ◌∙◌}
use mathlib.Core.Bool.{Bool, true, false, ◌&&◌, true≢false}
use mathlib.Core.List.{List}
use mathlib.Core.Logic.{inl, inr}
use Prim.Native.Nat.{ℕ, ◌+◌, ◌*◌, ◌^◌, ◌<◌}
use native.Mathlib.Nat.{add-zero}
use native.Mathlib.Omega.{arith}
use borrow.Author.Tests.{ltb-true, ltb-false, leb-true, leb-false, lt-leb, not-false, not-true}
use lib.Dec.{leb, ltb}
use lib.IntN.{ℤ, pos, nat_abs}
use lib.ListN.{length, get_or}
use Rattle.laws.specs.Lists.{at, first_failing}
use Rattle.laws.proofs.Tests.{first_true, second_true, either_fails, never_false}
use Rattle.laws.proofs.ListLaws.{fails_there, passes_before, first_failing_is}
use Rattle.record.specs.Refusals.{none, in_range, range_refusal, size_refusal, record_refusal}
use Rattle.record.specs.declared.Demand.{Demand}
use Rattle.record.specs.declared.Refusal.{Refusal}
use Rattle.record.proofs.RefusalLaws.{factor_nought, factor_too_large, too_many, too_few, out_of_range, unrefused_in_range}
use Rattle.sums.specs.Answers.{sum_answer}
use Rattle.sums.specs.declared.SumAnswer.{SumAnswer}
use Rattle.sums.proofs.AnswerLaws.{given_sum, no_sum}
use Rattle.acceptance.specs.Grounds
use Rattle.acceptance.specs.Grounds.{NoRow, None, Grounded, Between, Outside, First, OutOfRange, OfRange, OfSize, OfRecord}
use Rattle.acceptance.proofs.Grounding.{Decided, Stands, Agrees, decide, decide_last, decide_after, decided_by, stands_first, stands_later, rowless_none, none_rowless, grounded_answer}

-- ---- the first that is bad: the first entry of a list that fails a test

module _ {A : Type 0} (test : A → Bool) (z : A) (xs : List A) {n : ℕ} (whole : length xs ≡ n) {Bad : ℕ → Type 0}
    (bad : (k : ℕ) → k < n → test (get_or xs k z) ≡ false → Bad k) (fails : (k : ℕ) → k < n → Bad k → test (get_or xs k z) ≡ false) where
  pub first_is : {i : ℕ} → First n Bad i → first_failing test xs ≡ i
  first_is {i} first =
      first_failing_is test z xs i (omega (arith, first.inside, whole))
      (λ k h. never_false _ (λ e. first.before k h (bad k (omega (arith, first.inside)) e)))
      (fails i first.inside first.bad)

  pub first_there : ltb (first_failing test xs) n ≡ true → First n Bad (first_failing test xs)
  first_there t =
      let inside : first_failing test xs < n = ltb-true _ n t in record {
        inside = inside;
        bad = bad _ inside (fails_there test z xs (omega (arith, whole)));
        before = λ k h b. true≢false (sym (passes_before test z xs k h) ∙ fails k (omega arith) b);
      }

-- ---- between and outside

module _ (low high n : ℕ) where
  pub test_between : (leb low n && leb n high) ≡ true → Between low high n
  test_between t = (leb-true low n (first_true _ _ t), leb-true n high (second_true (leb low n) _ t))

  pub test_outside : (leb low n && leb n high) ≡ false → Outside low high n
  test_outside = either_fails _ _ (λ e. inl (leb-false low n e)) (λ e. inr (leb-false n high e))

-- ---- 5, 2, 1

module _ (d : Demand) (m n : ℕ) where
  abbrev fewest : ℕ
  fewest = d.each * m + d.besides

  size_stands : {number place : ℕ} → OfSize d.largest fewest m n number place → Stands number place (size_refusal d m n)
  size_stands (Grounds.factor (inl below)) = (λ e. omega arith, factor_nought d m n below)
  size_stands (Grounds.factor (inr above)) = (λ e. omega arith, factor_too_large d m n above)
  size_stands (Grounds.many factor h) = (λ e. omega arith, too_many d m n factor.0 factor.1 h)
  size_stands (Grounds.few factor h k) = (λ e. omega arith, too_few d m n factor.0 factor.1 h k)

  size_decided : Decided (OfSize d.largest fewest m n) (size_refusal d m n)
  unfolding size_refusal
  size_decided =
      decide _ 5 0 (omega arith) (λ t. Grounds.factor (test_outside 1 d.largest m (not-true _ t))) _
      (λ f. let factor = test_between 1 d.largest m (not-false _ f) in
      decide _ 2 0 (omega arith) (λ t. Grounds.many factor (ltb-true 32768 n t)) _
      (λ g. decide_last _ 1 0 (omega arith) (λ t. Grounds.few factor (ltb-false 32768 n g) (ltb-true n fewest t))))

  pub size_agrees : Agrees (OfSize d.largest fewest m n) (size_refusal d m n)
  size_agrees = record { stands = size_stands; decided = size_decided }

-- ---- 3 at the first out of range

module _ (x : ℤ) where
  pub outside_fails : 2 ^ 40 < nat_abs x → in_range x ≡ false
  unfolding in_range
  outside_fails above = lt-leb (nat_abs x) (2 ^ 40) above

  pub failing_outside : in_range x ≡ false → 2 ^ 40 < nat_abs x
  unfolding in_range
  failing_outside e = leb-false (nat_abs x) (2 ^ 40) e

-- of a list of n entries that are known
module _ (xs : List ℤ) {n : ℕ} (whole : length xs ≡ n) (entry : ℕ → ℤ) (is : (k : ℕ) → k < n → at xs k ≡ entry k) where
  abbrev Beyond : ℕ → Type 0
  Beyond k = 2 ^ 40 < nat_abs (entry k)

  beyond : (k : ℕ) → k < n → in_range (at xs k) ≡ false → Beyond k
  beyond k inside e = failing_outside (entry k) (rw (sym (is k inside)) e)

  beyond_fails : (k : ℕ) → k < n → Beyond k → in_range (at xs k) ≡ false
  beyond_fails k inside above = rw (is k inside) (outside_fails (entry k) above)

  pub first_outside_lem : ltb (first_failing in_range xs) n ≡ true → First n Beyond (first_failing in_range xs)
  first_outside_lem = first_there in_range (pos 0) xs whole beyond beyond_fails

  pub outside_is : {i : ℕ} → First n Beyond i → first_failing in_range xs ≡ i
  outside_is = first_is in_range (pos 0) xs whole beyond beyond_fails

-- of a record
module _ (xs : List ℤ) where
  pub range_stands : {i : ℕ} → First (length xs) (OutOfRange xs) i → Stands 3 i (range_refusal xs)
  range_stands {i} first = (λ e. omega arith, out_of_range xs i first.inside (outside_is xs refl (at xs) (λ k h. refl) first))

  pub range_decided : {Row : ℕ → ℕ → Type 0} → ((i : ℕ) → First (length xs) (OutOfRange xs) i → Row 3 i) → Decided Row (range_refusal xs)
  unfolding range_refusal
  range_decided row = decide_last _ 3 _ (omega arith) (λ t. row _ (first_outside_lem xs refl (at xs) (λ k h. refl) t))

  pub range_agrees : Agrees (OfRange xs) (range_refusal xs)
  range_agrees = record { stands = stands; decided = range_decided (λ i. Grounds.range) }
    where
      stands : {n p : ℕ} → OfRange xs n p → Stands n p (range_refusal xs)
      stands (Grounds.range first) = range_stands first

  -- nothing is refused where none is out of range, and none is where nothing is refused
  pub none_outside_none : None (length xs) (OutOfRange xs) → range_refusal xs ≡ none
  none_outside_none inside = rowless_none range_agrees rowless
    where
      rowless : NoRow (OfRange xs)
      rowless n p (Grounds.range first) = inside _ first.inside first.bad

  pub none_none_outside : range_refusal xs ≡ none → None (length xs) (OutOfRange xs)
  none_none_outside clear k inside above =
      true≢false (sym (unrefused_in_range xs (ap (λ (r : Refusal). r.number) clear) k inside) ∙ outside_fails (at xs k) above)

-- ---- 5, 2, 1, then 3

module _ (d : Demand) (m : ℕ) (xs : List ℤ) where
  abbrev sized : Agrees (OfSize d.largest (d.each * m + d.besides) m (length xs)) (size_refusal d m (length xs))
  sized = size_agrees d m (length xs)

  pub record_agrees : Agrees (OfRecord d.largest (d.each * m + d.besides) m xs) (record_refusal d m xs)
  unfolding record_refusal
  record_agrees = record {
    stands = stands;
    decided = decide_after _ _ (decided_by (λ n p. Grounds.size) sized.decided) (λ clear. range_decided xs (λ i. Grounds.range (none_rowless sized (rw clear))));
  }
    where
      stands : {n p : ℕ} → OfRecord d.largest (d.each * m + d.besides) m xs n p → Stands n p (record_refusal d m xs)
      stands (Grounds.size row) = stands_first _ _ (sized.stands row)
      stands (Grounds.range rowless first) = stands_later _ _ (rowless_none sized rowless) (range_stands xs first)

-- a demand of so many samples for each of the factor, and none besides
module _ (largest each m : ℕ) (xs : List ℤ) where
  abbrev multiple : Demand
  multiple = record { largest = largest; each = each; besides = 0 }

  pub multiple_agrees : Agrees (OfRecord largest (each * m) m xs) (record_refusal multiple m xs)
  multiple_agrees =
      subst (λ (least : ℕ). Agrees (OfRecord largest least m xs) (record_refusal multiple m xs)) (add-zero (each * m)) (record_agrees multiple m xs)

-- ---- a sum's answer

pub sum_grounded : {Row : ℕ → ℕ → Type 0} {r : Refusal} → Agrees Row r → (s count : ℕ) → Grounded Row (sum_answer r s count).number (sum_answer r s count).place
unfolding sum_answer
sum_grounded agrees s count =
    grounded_answer agrees (λ (z : SumAnswer). z.number) (λ (z : SumAnswer). z.place) (given_sum s count) (no_sum _) (refl, refl) (refl, refl)
