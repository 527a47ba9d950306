-- Two polynomials over signed numbers are equal where no term is left of their difference, which computes: for equations with too many products
-- for `omega`.
use mathlib.Core.Path.{◌≡◌, refl, sym, ◌∙◌, ap₂}
use mathlib.Core.Bool.{Bool, true, false, ◌&&◌}
use mathlib.Core.List.{List, [], ◌∷◌}
use Prim.Native.Nat.{ℕ, zero, suc, ◌+◌}
use native.Mathlib.Nat.{zero-add, suc-add}
use native.Mathlib.Omega.{arith}
use lib.Dec.{T, eqb, eqb→eq}
use lib.IntN.{ℤ, pos, negsuc, ◌+ℤ◌, ◌-ℤ◌, ◌*ℤ◌, +ℤ_idl, +ℤ_assoc, zero-*ℤ, *ℤ-zero}
use mir.Facts.{and_yes}
use Rattle.laws.specs.Lists.{at}
use Rattle.laws.proofs.Parts.{equal_by_parts, parts_of_equal}
use Rattle.laws.proofs.Expressions.{Operation, add, sub, mul, apply, $◌, ±◌, #◌, ◌⊕◌, ◌⊖◌, ◌⊗◌, sound, equation}

-- a polynomial in the numbers of a list
pub data Polynomial : Type 0 where
  -- the number at an index of the list
  var : ℕ → Polynomial
  -- a number written out
  num : ℤ → Polynomial
  -- two polynomials joined
  both : Operation → Polynomial → Polynomial → Polynomial

infixl 6 ◌⊞◌ ◌⊟◌
infixl 7 ◌⊠◌
-- the sum of two polynomials
abbrev pub ◌⊞◌ : Polynomial → Polynomial → Polynomial
p ⊞ q = both add p q

-- the difference of two polynomials
abbrev pub ◌⊟◌ : Polynomial → Polynomial → Polynomial
p ⊟ q = both sub p q

-- the product of two polynomials
abbrev pub ◌⊠◌ : Polynomial → Polynomial → Polynomial
p ⊠ q = both mul p q

-- what a polynomial comes to at the numbers ρ
abbrev pub evaluate : (ℕ → ℤ) → Polynomial → ℤ
evaluate ρ (var i) = ρ i
evaluate ρ (num z) = z
evaluate ρ (both o p q) = apply o (evaluate ρ p) (evaluate ρ q)

-- ---- the normal form: a list of terms, no two with the same exponents and none with factor nought

-- a factor, and the exponent of each number of the list
abbrev pub Term : Type 0
Term = ℤ × List ℕ

-- the exponents of the number at an index alone
abbrev pub single : ℕ → List ℕ
single zero = 1 ∷ []
single (suc i) = 0 ∷ single i

-- the exponents of a product
abbrev pub together : List ℕ → List ℕ → List ℕ
together [] n = n
together (d ∷ m) [] = d ∷ m
together (d ∷ m) (e ∷ n) = (d + e) ∷ together m n

-- whether two products are the same
abbrev pub same : List ℕ → List ℕ → Bool
same [] [] = true
same [] (e ∷ n) = false
same (d ∷ m) [] = false
same (d ∷ m) (e ∷ n) = eqb d e && same m n

-- a term before others, unless its factor is nought
abbrev pub keep : ℤ → List ℕ → List Term → List Term
keep (pos zero) m p = p
keep (pos (suc n)) m p = (pos (suc n), m) ∷ p
keep (negsuc n) m p = (negsuc n, m) ∷ p

-- a term added to others
abbrev pub add_term : Term → List Term → List Term
add_term t [] = t ∷ []
add_term t (u ∷ p) = elim (same t.1 u.1) [ true ↦ keep (t.0 +ℤ u.0) u.1 p | false ↦ u ∷ add_term t p ]

-- the sum of two lists of terms
abbrev pub add_terms : List Term → List Term → List Term
add_terms [] q = q
add_terms (t ∷ p) q = add_term t (add_terms p q)

-- a term times a list of terms
abbrev pub times_term : Term → List Term → List Term
times_term t [] = []
times_term t (u ∷ p) = add_term (t.0 *ℤ u.0, together t.1 u.1) (times_term t p)

-- the product of two lists of terms
abbrev pub times_terms : List Term → List Term → List Term
times_terms [] q = []
times_terms (t ∷ p) q = add_terms (times_term t q) (times_terms p q)

-- an operation on lists of terms
abbrev pub apply_terms : Operation → List Term → List Term → List Term
apply_terms add p q = add_terms p q
apply_terms sub p q = add_terms p (times_term (negsuc 0, []) q)
apply_terms mul p q = times_terms p q

-- the terms of a polynomial
abbrev pub terms : Polynomial → List Term
terms (var i) = (pos 1, single i) ∷ []
terms (num z) = keep z [] []
terms (both o p q) = apply_terms o (terms p) (terms q)

-- whether no term is left
abbrev pub no_term : List Term → Bool
no_term [] = true
no_term (t ∷ p) = false

-- ---- the terms come to what the polynomial comes to

-- z to an exponent
abbrev power : ℤ → ℕ → ℤ
power z zero = pos 1
power z (suc d) = z *ℤ power z d

-- the product that exponents stand for
abbrev product : (ℕ → ℤ) → List ℕ → ℤ
product ρ [] = pos 1
product ρ (d ∷ m) = power (ρ 0) d *ℤ product (λ i. ρ (suc i)) m

-- the sum that terms stand for
abbrev total : (ℕ → ℤ) → List Term → ℤ
total ρ [] = pos 0
total ρ (t ∷ p) = t.0 *ℤ product ρ t.1 +ℤ total ρ p

power_together : (z : ℤ) (d e : ℕ) → power z (d + e) ≡ power z d *ℤ power z e
power_together z zero e = rw (zero-add e) (equation ($ power z e) (# 1 ⊗ $ power z e) (omega arith))
power_together z (suc d) e =
    let p = $ power z d in
    let q = $ power z e in
    rw (suc-add d e, power_together z d e) (equation ($ z ⊗ (p ⊗ q)) ($ z ⊗ p ⊗ q) (omega arith))

single_is : (ρ : ℕ → ℤ) (i : ℕ) → product ρ (single i) ≡ ρ i
single_is ρ zero = equation ($ ρ 0 ⊗ # 1 ⊗ # 1) ($ ρ 0) (omega arith)
single_is ρ (suc i) =
    rw (single_is (λ k. ρ (suc k)) i) (equation (# 1 ⊗ $ ρ (suc i)) ($ ρ (suc i)) (omega arith))

inner_swap : (a b c d : ℤ) → a *ℤ b *ℤ (c *ℤ d) ≡ a *ℤ c *ℤ (b *ℤ d)
inner_swap a b c d = equation ($ a ⊗ $ b ⊗ ($ c ⊗ $ d)) ($ a ⊗ $ c ⊗ ($ b ⊗ $ d)) (omega arith)

together_is : (ρ : ℕ → ℤ) (m n : List ℕ) → product ρ (together m n) ≡ product ρ m *ℤ product ρ n
together_is ρ [] n = equation ($ product ρ n) (# 1 ⊗ $ product ρ n) (omega arith)
together_is ρ (d ∷ m) [] = equation ($ product ρ (d ∷ m)) ($ product ρ (d ∷ m) ⊗ # 1) (omega arith)
together_is ρ (d ∷ m) (e ∷ n) =
    rw (power_together (ρ 0) d e, together_is (λ i. ρ (suc i)) m n) (inner_swap (power (ρ 0) d) (power (ρ 0) e) _ _)

same_is : (m n : List ℕ) → T (same m n) → m ≡ n
same_is [] [] t = refl
same_is [] (e ∷ n) t = absurd t
same_is (d ∷ m) [] t = absurd t
same_is (d ∷ m) (e ∷ n) t = let h = and_yes (eqb d e) (same m n) t in ap₂ ◌∷◌ (eqb→eq d e h.0) (same_is m n h.1)

module _ (ρ : ℕ → ℤ) where
  -- the product that a term stands for
  abbrev value : Term → ℤ
  value t = t.0 *ℤ product ρ t.1

  keep_is : (z : ℤ) (m : List ℕ) (p : List Term) → total ρ (keep z m p) ≡ z *ℤ product ρ m +ℤ total ρ p
  keep_is (pos zero) m p = equation ($ total ρ p) (# 0 ⊗ $ product ρ m ⊕ $ total ρ p) (omega arith)
  keep_is (pos (suc n)) m p = refl
  keep_is (negsuc n) m p = refl

  add_term_is : (t : Term) (p : List Term) → total ρ (add_term t p) ≡ value t +ℤ total ρ p
  add_term_is t [] = refl
  add_term_is t (u ∷ p) = by_test (same t.1 u.1) (same_is t.1 u.1) (add_term_is t p)
    where
      by_test : (b : Bool) → (T b → t.1 ≡ u.1) → total ρ (add_term t p) ≡ value t +ℤ total ρ p →
          total ρ (elim b [ true ↦ keep (t.0 +ℤ u.0) u.1 p | false ↦ u ∷ add_term t p ]) ≡ value t +ℤ (value u +ℤ total ρ p)
      by_test true e h =
          let m = $ product ρ u.1 in
          let s = $ total ρ p in
          rw (e tt) (keep_is (t.0 +ℤ u.0) u.1 p ∙ equation (($ t.0 ⊕ $ u.0) ⊗ m ⊕ s) ($ t.0 ⊗ m ⊕ ($ u.0 ⊗ m ⊕ s)) (omega arith))
      by_test false e h =
          rw h (equation ($ value u ⊕ ($ value t ⊕ $ total ρ p)) ($ value t ⊕ ($ value u ⊕ $ total ρ p)) (omega arith))

  add_terms_is : (p q : List Term) → total ρ (add_terms p q) ≡ total ρ p +ℤ total ρ q
  add_terms_is [] q = sym (+ℤ_idl (total ρ q))
  add_terms_is (t ∷ p) q = add_term_is t (add_terms p q) ∙ rw (add_terms_is p q) (sym (+ℤ_assoc (value t) (total ρ p) (total ρ q)))

  times_term_is : (t : Term) (p : List Term) → total ρ (times_term t p) ≡ value t *ℤ total ρ p
  times_term_is t [] = sym (*ℤ-zero (value t))
  times_term_is t (u ∷ p) =
      add_term_is (t.0 *ℤ u.0, together t.1 u.1) (times_term t p) ∙
      rw (together_is ρ t.1 u.1, times_term_is t p, inner_swap t.0 u.0)
      (equation ($ value t ⊗ $ value u ⊕ $ value t ⊗ $ total ρ p) ($ value t ⊗ ($ value u ⊕ $ total ρ p)) (omega arith))

  times_terms_is : (p q : List Term) → total ρ (times_terms p q) ≡ total ρ p *ℤ total ρ q
  times_terms_is [] q = sym (zero-*ℤ (total ρ q))
  times_terms_is (t ∷ p) q =
      let s = $ total ρ q in
      add_terms_is (times_term t q) (times_terms p q) ∙
      rw (times_term_is t q, times_terms_is p q) (equation ($ value t ⊗ s ⊕ $ total ρ p ⊗ s) (($ value t ⊕ $ total ρ p) ⊗ s) (omega arith))

  apply_terms_is : (o : Operation) (p q : List Term) → total ρ (apply_terms o p q) ≡ apply o (total ρ p) (total ρ q)
  apply_terms_is add p q = add_terms_is p q
  apply_terms_is sub p q =
      add_terms_is p (times_term (negsuc 0, []) q) ∙
      rw (times_term_is (negsuc 0, []) q) (equation ($ total ρ p ⊕ ± negsuc 0 ⊗ $ total ρ q) ($ total ρ p ⊖ $ total ρ q) (omega arith))
  apply_terms_is mul p q = times_terms_is p q

  terms_is : (p : Polynomial) → total ρ (terms p) ≡ evaluate ρ p
  terms_is (var i) = rw (single_is ρ i) (equation (# 1 ⊗ $ ρ i ⊕ # 0) ($ ρ i) (omega arith))
  terms_is (num z) = keep_is z [] [] ∙ equation ($ z ⊗ # 1 ⊕ # 0) ($ z) (omega arith)
  terms_is (both o p q) = apply_terms_is o (terms p) (terms q) ∙ ap₂ (apply o) (terms_is p) (terms_is q)

  no_term_is : (p : List Term) → T (no_term p) → total ρ p ≡ pos 0
  no_term_is [] t = refl
  no_term_is (u ∷ p) t = absurd t

-- two polynomials are equal, at whatever numbers, where their difference has no term: `identity (a ∷ b ∷ []) p q tt`
pub identity : (zs : List ℤ) (p q : Polynomial) → T (no_term (terms (p ⊟ q))) → evaluate (at zs) p ≡ evaluate (at zs) q
identity zs p q t =
    let a = evaluate (at zs) p in
    let b = evaluate (at zs) q in
    let nought : a -ℤ b ≡ pos 0 = sym (terms_is (at zs) (p ⊟ q)) ∙ no_term_is (at zs) (terms (p ⊟ q)) t in
    equal_by_parts a b (omega (arith, sound ($ a ⊖ $ b), parts_of_equal nought))
