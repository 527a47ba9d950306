-- The factors of a record are all factors that it allows, and there is one list of them.
use mathlib.Core.Path.{◌≡◌, refl, sym, ◌∙◌}
use mathlib.Core.Bool.{Bool, true, false}
use mathlib.Core.List.{List, ◌∷◌}
use Prim.Native.Nat.{ℕ, zero, suc, ◌+◌, ◌*◌, ◌^◌, ◌≤◌, ◌<◌}
use native.Mathlib.Nat.{pow-suc}
use native.Mathlib.Omega.{arith}
use borrow.Author.Tests.{ltb-true, ltb-false}
use lib.Dec.{ltb}
use lib.ListN.{length, get_or}
use lib.Seq.{ext_get_or}
use Rattle.listing.specs.Sheet.{factors_from, factors, AllFactors}
use Rattle.listing.proofs.FactorLaws.{factor_due, factor_not_due}

-- ---- from m on, doubling, as long as there are enough of them

record From (m n : ℕ) (ms : List ℕ) : Type 0 where
  pub doubling : (i : ℕ) → i < length ms → get_or ms i 0 ≡ m * 2 ^ i
  pub due : (i : ℕ) → i < length ms → 2 * get_or ms i 0 + 1 ≤ n
  pub last : n < 2 * (m * 2 ^ length ms) + 1

-- m doubled, then doubled so many times
doubled_again : (m i : ℕ) → 2 * m * 2 ^ i ≡ m * 2 ^ suc i
doubled_again m i = let once = pow-suc 2 i in rw once (omega arith)

from_next : (m n : ℕ) (ms : List ℕ) → 2 * m < n → From (2 * m) n ms → From m n (m ∷ ms)
from_next m n ms h f = record {
  doubling = doubles;
  due = dues;
  last = omega (arith, f.last, doubled_again m (length ms));
}
  where
    doubles : (i : ℕ) → i < suc (length ms) → get_or (m ∷ ms) i 0 ≡ m * 2 ^ i
    doubles zero k = omega arith
    doubles (suc i) k = f.doubling i (omega arith) ∙ doubled_again m i

    dues : (i : ℕ) → i < suc (length ms) → 2 * get_or (m ∷ ms) i 0 + 1 ≤ n
    dues zero k = omega arith
    dues (suc i) k = f.due i (omega arith)

factors_from_lem : (k m n : ℕ) → n ≤ 2 * (m * 2 ^ k) → From m n (factors_from k m n)
unfolding factors_from
factors_from_lem zero m n h = record { doubling = λ i k. absurd (omega arith); due = λ i k. absurd (omega arith); last = omega arith }
factors_from_lem (suc k) m n h = by_size (ltb (2 * m) n) refl (factors_from_lem k (2 * m) n (omega (arith, doubled_again m k)))
  where
    by_size : (due : Bool) → ltb (2 * m) n ≡ due → From (2 * m) n (factors_from k (2 * m) n) → From m n (factors_from (suc k) m n)
    by_size true t f = rw (factor_due k m n (ltb-true (2 * m) n t)) (from_next m n (factors_from k (2 * m) n) (ltb-true (2 * m) n t) f)
    by_size false t f =
        rw (factor_not_due k m n (ltb-false (2 * m) n t))
        (record { doubling = λ i k. absurd (omega arith); due = λ i k. absurd (omega arith); last = omega (arith, ltb-false (2 * m) n t) })

pub factors_are_all : (n : ℕ) → n ≤ 4096 → AllFactors n (factors n)
unfolding factors
factors_are_all n h =
    let f = factors_from_lem 11 1 n (omega arith) in
    record { doubling = λ i k. f.doubling i k ∙ omega arith; due = f.due; last = omega (arith, f.last) }

-- ---- any two are equal

module _ (n : ℕ) where
  not_longer : (a b : List ℕ) → AllFactors n a → AllFactors n b → length a ≤ length b
  not_longer a b x y = by_length (ltb (length b) (length a)) refl
    where
      by_length : (longer : Bool) → ltb (length b) (length a) ≡ longer → length a ≤ length b
      by_length true t =
          let more = ltb-true (length b) (length a) t in
          absurd (omega (arith, x.due (length b) more, x.doubling (length b) more, y.last))
      by_length false t = ltb-false (length b) (length a) t

  pub one_list_of_factors : (a b : List ℕ) → AllFactors n a → AllFactors n b → a ≡ b
  one_list_of_factors a b x y =
      let same : length a ≡ length b = omega (arith, not_longer a b x y, not_longer b a y x) in
      ext_get_or 0 a b same (λ i h. x.doubling i h ∙ sym (y.doubling i (omega arith)))
