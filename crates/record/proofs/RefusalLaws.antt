-- The cases of a record's refusal in their order, and what is known of a record that is not refused.
use Rattle.std.proofs.Common.{◌≡◌, ℕ, ◌+◌, ◌*◌, ◌^◌, ◌<◌, ◌≤◌, Bool, true, false, cond, not, ◌&&◌, eqb, ltb, leb, List, length, ℤ, pos, nat_abs, refl, ap, ◌∙◌, mul-le-mul, arith, ltb-false, ltb-true, le-ltb, lt-ltb, eq-eqb, ne_eqb, eqb-true, le-leb, leb-true}
use borrow.Author.Tests.{not-false, lt-leb}
use lib.ListN.{get_or-eq_default}
use Rattle.laws.specs.Lists.{at, first_failing}
use Rattle.laws.proofs.Tests.{choice_true, choice_false, first_true, second_true, second_fails}
use Rattle.laws.proofs.ListLaws.{first_failing_within, none_fails, all_pass}
use Rattle.record.specs.Refusals.{none, refused, refused_if, ◌then◌, in_range, range_refusal, size_refusal, record_refusal}
use Rattle.record.specs.declared.Refusal.{Refusal}
use Rattle.record.specs.declared.Demand.{Demand}
use Rattle.record.proofs.RangeLaws.{sample_bounded}

-- ---- an order of refusals

module _ (r s : Refusal) where
  pub refusal_stands : (r.number ≡ 0 → ⊥) → (r then s) ≡ r
  refusal_stands f = choice_false s r (ne_eqb r.number 0 f)

  pub none_gives_way : r.number ≡ 0 → (r then s) ≡ s
  none_gives_way e = choice_true s r (eq-eqb r.number 0 e)

-- where an order refuses nothing, neither part does
module _ (r s : Refusal) (unrefused : (r then s).number ≡ 0) where
  pub first_refuses_nothing : r.number ≡ 0
  first_refuses_nothing = by_number (eqb r.number 0) refl unrefused
    where
      by_number : (nought : Bool) → eqb r.number 0 ≡ nought → (cond nought s r).number ≡ 0 → r.number ≡ 0
      by_number true t e = eqb-true r.number 0 t
      by_number false t e = e

  pub rest_refuses_nothing : s.number ≡ 0
  rest_refuses_nothing = rw (none_gives_way r s first_refuses_nothing) at unrefused

pub test_fails : (test : Bool) (n p : ℕ) → 0 < n → (refused_if test n p).number ≡ 0 → test ≡ false
test_fails true n p h e = absurd (omega arith)
test_fails false n p h e = refl

-- ---- 5, 2, 1: the factor m and the number n of samples

-- what is known where these refuse nothing
pub record Sized (d : Demand) (m n : ℕ) : Type 0 where
  pub factor_least : 1 ≤ m
  pub factor_most : m ≤ d.largest
  pub not_too_many : n ≤ 32768
  pub enough : d.each * m + d.besides ≤ n

-- the fewest samples that are asked for stay far below a word
pub fewest_below : (each m besides : ℕ) → each ≤ 65535 → m ≤ 65535 → besides ≤ 65535 → each * m + besides < 2 ^ 32
fewest_below each m besides e k b = omega (arith, mul-le-mul e k)

module _ (d : Demand) (m n : ℕ) where
  pub factor_nought : m < 1 → size_refusal d m n ≡ refused 5 0
  unfolding size_refusal
  factor_nought h = simp (lt-leb 1 m h)

  pub factor_too_large : d.largest < m → size_refusal d m n ≡ refused 5 0
  unfolding size_refusal
  factor_too_large h = simp (lt-leb m d.largest h, second_fails (leb 1 m))

  module _ (least : 1 ≤ m) (most : m ≤ d.largest) where
    pub too_many : 32768 < n → size_refusal d m n ≡ refused 2 0
    unfolding size_refusal
    too_many h = simp (le-leb 1 m least, le-leb m d.largest most, lt-ltb 32768 n h)

    pub too_few : n ≤ 32768 → n < d.each * m + d.besides → size_refusal d m n ≡ refused 1 0
    unfolding size_refusal
    too_few h k = simp (le-leb 1 m least, le-leb m d.largest most, le-ltb 32768 n h, lt-ltb n (d.each * m + d.besides) k)

  pub sized_none : Sized d m n → size_refusal d m n ≡ none
  unfolding size_refusal
  sized_none s =
      simp (le-leb 1 m s.factor_least, le-leb m d.largest s.factor_most, le-ltb 32768 n s.not_too_many, le-ltb n (d.each * m + d.besides) s.enough)

  pub unrefused_sized : (size_refusal d m n).number ≡ 0 → Sized d m n
  unfolding size_refusal
  unrefused_sized e =
      let good = leb 1 m && leb m d.largest in
      let factor = refused_if (not good) 5 0 in
      let many = refused_if (ltb 32768 n) 2 0 in
      let few = refused_if (ltb n (d.each * m + d.besides)) 1 0 in
      let good-factor = not-false good (test_fails (not good) 5 0 (omega arith) (first_refuses_nothing factor (many then few) e)) in
      let counts = rest_refuses_nothing factor (many then few) e in record {
        factor_least = leb-true 1 m (first_true (leb 1 m) _ good-factor);
        factor_most = leb-true m d.largest (second_true (leb 1 m) _ good-factor);
        not_too_many = ltb-false 32768 n (test_fails _ 2 0 (omega arith) (first_refuses_nothing many few counts));
        enough = ltb-false n (d.each * m + d.besides) (test_fails _ 1 0 (omega arith) (rest_refuses_nothing many few counts));
      }

-- ---- 3: the first sample outside its range

module _ (xs : List ℤ) where
  pub out_of_range : (i : ℕ) → i < length xs → first_failing in_range xs ≡ i → range_refusal xs ≡ refused 3 i
  unfolding range_refusal
  out_of_range i h e = simp (e, lt-ltb i (length xs) h)

  pub all_in_range : first_failing in_range xs ≡ length xs → range_refusal xs ≡ none
  unfolding range_refusal
  all_in_range e = simp (e, le-ltb (length xs) (length xs) (omega arith))

  pub unrefused_in_range : (range_refusal xs).number ≡ 0 → (k : ℕ) → k < length xs → in_range (at xs k) ≡ true
  unfolding range_refusal
  unrefused_in_range e =
      let end : length xs ≤ first_failing in_range xs = ltb-false _ (length xs) (test_fails _ 3 _ (omega arith) e) in
      all_pass in_range (pos 0) xs (omega (arith, first_failing_within in_range xs))

  -- past the end stands nought, which is in range too
  pub in_range_bounded : ((k : ℕ) → k < length xs → in_range (at xs k) ≡ true) → (k : ℕ) → nat_abs (at xs k) ≤ 2 ^ 40
  in_range_bounded all k = by_place (ltb k (length xs)) refl
    where
      by_place : (inside : Bool) → ltb k (length xs) ≡ inside → nat_abs (at xs k) ≤ 2 ^ 40
      by_place true t = sample_bounded (at xs k) (all k (ltb-true k (length xs) t))
      by_place false t = rw (get_or-eq_default xs (pos 0) (ltb-false k (length xs) t)) (omega arith)

-- ---- a record

pub record Sound (d : Demand) (m : ℕ) (xs : List ℤ) : Type 0 where
  pub factor_least : 1 ≤ m
  pub factor_most : m ≤ d.largest
  pub not_too_many : length xs ≤ 32768
  pub enough : d.each * m + d.besides ≤ length xs
  pub in_range_lem : (k : ℕ) → k < length xs → in_range (at xs k) ≡ true
  pub bounded : (k : ℕ) → nat_abs (at xs k) ≤ 2 ^ 40

module _ (d : Demand) (m : ℕ) (xs : List ℤ) where
  pub size_refuses : ((size_refusal d m (length xs)).number ≡ 0 → ⊥) → record_refusal d m xs ≡ size_refusal d m (length xs)
  unfolding record_refusal
  size_refuses f = refusal_stands _ _ f

  pub size_gives_way : (size_refusal d m (length xs)).number ≡ 0 → record_refusal d m xs ≡ range_refusal xs
  unfolding record_refusal
  size_gives_way e = none_gives_way _ _ e

  pub unrefused_sound : (record_refusal d m xs).number ≡ 0 → Sound d m xs
  unfolding record_refusal
  unrefused_sound e =
      let sized = unrefused_sized d m (length xs) (first_refuses_nothing (size_refusal d m (length xs)) (range_refusal xs) e) in
      let all = unrefused_in_range xs (rest_refuses_nothing (size_refusal d m (length xs)) (range_refusal xs) e) in record {
        factor_least = sized.factor_least;
        factor_most = sized.factor_most;
        not_too_many = sized.not_too_many;
        enough = sized.enough;
        in_range_lem = all;
        bounded = in_range_bounded xs all;
      }

  pub none_sound : record_refusal d m xs ≡ none → Sound d m xs
  none_sound e = unrefused_sound (ap (λ (r : Refusal). r.number) e)

  pub sound_none : Sound d m xs → record_refusal d m xs ≡ none
  sound_none s =
      let sized : size_refusal d m (length xs) ≡ none = sized_none d m (length xs) (search s) in
      size_gives_way (ap (λ (r : Refusal). r.number) sized) ∙ all_in_range xs (none_fails in_range (pos 0) xs s.in_range_lem)

  pub unrefused_none : (record_refusal d m xs).number ≡ 0 → record_refusal d m xs ≡ none
  unrefused_none e = sound_none (unrefused_sound e)

-- ---- the range alone

-- a record that is not refused has no sample out of range
pub record_in_range : (d : Demand) (m : ℕ) (xs : List ℤ) → record_refusal d m xs ≡ none → range_refusal xs ≡ none
record_in_range d m xs e = all_in_range xs (none_fails in_range (pos 0) xs (none_sound d m xs e).in_range_lem)

-- no number refused is nothing refused
pub unrefused_range_none : (xs : List ℤ) → (range_refusal xs).number ≡ 0 → range_refusal xs ≡ none
unrefused_range_none xs e = all_in_range xs (none_fails in_range (pos 0) xs (unrefused_in_range xs e))

-- then every sample is small
pub range_bounded : (xs : List ℤ) → range_refusal xs ≡ none → (k : ℕ) → nat_abs (at xs k) ≤ 2 ^ 40
range_bounded xs e = in_range_bounded xs (unrefused_in_range xs (ap (λ (r : Refusal). r.number) e))
