-- The digits of a number: one digit or more, how many there are, and how they are laid down from the last one on.
use mathlib.Core.Path.{◌≡◌, refl, sym, ap, ap₂, ◌∙◌}
use mathlib.Core.Bool.{Bool, true, false, cond}
use mathlib.Core.List.{List, [], ◌∷◌, ◌++◌, append_assoc, append-nil}
use Prim.Native.Nat.{ℕ, zero, suc, ◌+◌, ◌-◌, ◌/◌, ◌%◌, ◌^◌, ◌≤◌, ◌<◌}
use native.Mathlib.Nat.{pow-suc}
use native.Mathlib.Omega.{arith}
use borrow.Author.Tests.{ltb-true, ltb-false, lt-ltb, le-ltb}
use lib.Dec.{ltb}
use lib.ListN.{length, take, drop, set, length-append, length-drop, length-set, drop_of_length-le}
use lib.Seq.{length-take-le, take-take, take-set-le, set_split, drop_at}
use Rattle.laws.proofs.Halves.{high_part_below}
use Rattle.wide.specs.Wide.{value}
use Rattle.wide.specs.declared.Wide.{Wide}
use Rattle.decimal.specs.Decimal.{digits_within, decimal}

-- ---- one digit, or more

module _ (more n : ℕ) where
  pub one_digit : n < 10 → digits_within (suc more) n ≡ (0x30 + n) ∷ []
  unfolding digits_within
  one_digit h = rw (lt-ltb n 10 h)

  pub more_digits : 10 ≤ n → digits_within (suc more) n ≡ digits_within more (n / 10) ++ ((0x30 + n % 10) ∷ [])
  unfolding digits_within
  more_digits h = rw (le-ltb n 10 h)

-- ---- how many there are

pub tenth_below : (k n : ℕ) → n < 10 ^ suc k → n / 10 < 10 ^ k
tenth_below k n h = high_part_below (10 ^ k) 10 n (omega arith) (rw (pow-suc 10 k) at h)

-- as many as are allowed, at most
pub digits_within_lem : (k n : ℕ) → length (digits_within k n) ≤ k
unfolding digits_within
digits_within_lem zero n = omega arith
digits_within_lem (suc k) n = by_size (ltb n 10) (digits_within_lem k (n / 10))
  where
    by_size : (small : Bool) → length (digits_within k (n / 10)) ≤ k → length (cond small ((0x30 + n) ∷ []) (digits_within k (n / 10) ++ ((0x30 + n % 10) ∷ []))) ≤ suc k
    by_size true h = omega arith
    by_size false h = omega (arith, length-append (digits_within k (n / 10)) ((0x30 + n % 10) ∷ []))

pub decimal_within : (n : ℕ) → length (decimal n) ≤ 39
unfolding decimal
decimal_within n = digits_within_lem 39 n

pub some_digit : (k n : ℕ) → 0 < length (digits_within (suc k) n)
some_digit k n = by_size (ltb n 10) refl
  where
    by_size : (small : Bool) → ltb n 10 ≡ small → 0 < length (digits_within (suc k) n)
    by_size true t = rw (one_digit k n (ltb-true n 10 t)) (omega arith)
    by_size false t = rw (more_digits k n (ltb-false n 10 t)) (omega (arith, length-append (digits_within k (n / 10)) ((0x30 + n % 10) ∷ [])))

-- every number of two halves has few enough
pub wide_below : (w : Wide) → w.hi < 2 ^ 64 → w.lo < 2 ^ 64 → value w < 10 ^ 39
wide_below w h l = omega arith

-- ---- laid down from the last one on

-- two digits or more need two places
places_left : (i n : ℕ) → 10 ≤ n → n < 10 ^ i → 1 < i
places_left zero n h below = absurd (omega arith)
places_left (suc zero) n h below = absurd (omega arith)
places_left (suc (suc i)) n h below = omega arith

-- the digits of `whole` from place i on are laid down in an array of 39 bytes, which was `first`; `rest` has those that are still to come
pub record Laid (whole : ℕ) (first digits : List ℕ) (rest i : ℕ) : Type 0 where
  pub some : 1 ≤ i
  pub within : i ≤ 39
  pub long : length digits ≡ 39
  pub below : rest < 10 ^ i
  pub front : take i digits ≡ take i first
  pub back : digits_within i rest ++ drop i digits ≡ decimal whole

pub none_laid : (whole : ℕ) (first : List ℕ) → whole < 10 ^ 39 → length first ≡ 39 → Laid whole first first whole 39
unfolding decimal
none_laid whole first below long = record {
  some = omega arith;
  within = omega arith;
  long = long;
  below = below;
  front = refl;
  back = let over : drop 39 first ≡ [] = drop_of_length-le first {i = 39} (omega arith) in rw over (append-nil (digits_within 39 whole));
}

module _ {whole : ℕ} {first digits : List ℕ} {rest i : ℕ} (l : Laid whole first digits rest i) where
  -- at the place before
  abbrev j : ℕ
  j = i - 1

  here : suc j ≡ i
  here = omega (arith, l.some)

  inside : j < length digits
  inside = omega (arith, l.some, l.within, l.long)

  drop_after_set : (v : ℕ) → drop j (set digits j v) ≡ v ∷ drop i digits
  drop_after_set v = rw (set_split digits j v inside, here) (drop_at (take j digits) (v ∷ drop i digits) j (length-take-le j digits (omega (arith, inside))))

  front_stays : (v : ℕ) → take j (set digits j v) ≡ take j first
  front_stays v =
      take-set-le j digits j v (omega arith)
      ∙ sym (take-take j i digits (omega arith))
      ∙ ap (take j) l.front
      ∙ take-take j i first (omega arith)

  pub one_more_laid : 10 ≤ rest → (1 < i) × Laid whole first (set digits j (0x30 + rest % 10)) (rest / 10) j
  one_more_laid h =
      let several = places_left i rest h l.below in
      let last : digits_within i rest ≡ digits_within j (rest / 10) ++ ((0x30 + rest % 10) ∷ []) = ap (λ (n : ℕ). digits_within n rest) (sym here) ∙ more_digits j rest h in (
        several,
        record {
          some = omega arith;
          within = omega (arith, l.within);
          long = length-set digits j (0x30 + rest % 10) ∙ l.long;
          below = tenth_below j rest (rw (sym here) at l.below);
          front = front_stays (0x30 + rest % 10);
          back =
              rw (drop_after_set (0x30 + rest % 10))
              (sym (append_assoc (digits_within j (rest / 10)) ((0x30 + rest % 10) ∷ []) (drop i digits)) ∙ ap (λ (ds : List ℕ). ds ++ drop i digits) (sym last) ∙ l.back);
        },
      )

  -- the last turn: one digit is left
  pub all_laid : rest < 10 → (j ≡ 39 - length (decimal whole)) × (set digits j (0x30 + rest % 10) ≡ take j first ++ decimal whole)
  all_laid h =
      let last : rest % 10 ≡ rest = omega arith in
      let one : digits_within i rest ≡ (0x30 + rest) ∷ [] = ap (λ (n : ℕ). digits_within n rest) (sym here) ∙ one_digit j rest h in
      let whole_is : (0x30 + rest) ∷ drop i digits ≡ decimal whole = ap (λ (ds : List ℕ). ds ++ drop i digits) (sym one) ∙ l.back in (
        omega (arith, ap length whole_is, length-drop i digits, l.long, l.within, l.some),
        rw last (set_split digits j (0x30 + rest) inside)
            ∙ ap₂ ◌++◌ (sym (take-set-le j digits j 0 (omega arith)) ∙ front_stays 0) (ap (λ (n : ℕ). (0x30 + rest) ∷ drop n digits) here ∙ whole_is),
      )
