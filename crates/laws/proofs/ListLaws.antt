-- A list by its entries, the first entry that fails a test, how many pass one, and a buffer that is written from its front.
use mathlib.Core.Path.{◌≡◌, refl, sym, ap, ap₂, ◌∙◌}
use mathlib.Core.Bool.{Bool, true, false, cond, true≢false}
use mathlib.Core.List.{List, [], ◌∷◌, ◌++◌, append-nil}
use Prim.Native.Nat.{ℕ, zero, suc, ◌+◌, ◌-◌, ◌≤◌, ◌<◌}
use native.Mathlib.Nat.{add-zero, le_of_lt}
use native.Mathlib.Numerals.{add-one}
use native.Mathlib.Omega.{arith}
use lib.ListN.{length, get_or, take, drop, set, length-append, length-drop, get_or-append}
use lib.Seq.{drop-cons, drop-length, length-take-le, take-length, take-suc, append_snoc, set_at, get_or-append-add, get_or-drop}
use Rattle.laws.specs.Lists.{tabulate, first_failing, how_many, written}
use Rattle.laws.proofs.Tests.{choice_true, choice_false}

-- ---- a list by its entries

pub tabulate_length : {A : Type 0} (n : ℕ) (f : ℕ → A) → length (tabulate n f) ≡ n
unfolding tabulate
tabulate_length zero f = refl
tabulate_length (suc n) f = ap suc (tabulate_length n (λ i. f (suc i)))

pub tabulate_entry : {A : Type 0} (n : ℕ) (f : ℕ → A) (z : A) (i : ℕ) → i < n → get_or (tabulate n f) i z ≡ f i
unfolding tabulate
tabulate_entry zero f z i h = absurd (omega arith)
tabulate_entry (suc n) f z zero h = refl
tabulate_entry (suc n) f z (suc i) h = tabulate_entry n (λ k. f (suc k)) z i (omega arith)

-- two lists by their entries are equal where the entries are
pub tabulate_equal : {A : Type 0} (n : ℕ) (f g : ℕ → A) → ((i : ℕ) → i < n → f i ≡ g i) → tabulate n f ≡ tabulate n g
unfolding tabulate
tabulate_equal zero f g h = refl
tabulate_equal (suc n) f g h = ap₂ ◌∷◌ (h 0 (omega arith)) (tabulate_equal n (λ i. f (suc i)) (λ i. g (suc i)) (λ i k. h (suc i) (omega arith)))

-- the first of them
pub tabulate_front : {A : Type 0} (k n : ℕ) (f : ℕ → A) → k ≤ n → take k (tabulate n f) ≡ tabulate k f
unfolding tabulate
tabulate_front zero n f h = refl
tabulate_front (suc k) zero f h = absurd (omega arith)
tabulate_front (suc k) (suc n) f h = ap (λ xs. f 0 ∷ xs) (tabulate_front k n (λ i. f (suc i)) (omega arith))

-- a list is the list of its entries
pub tabulate_of : {A : Type 0} (xs : List A) (z : A) → tabulate (length xs) (λ i. get_or xs i z) ≡ xs
unfolding tabulate
tabulate_of [] z = refl
tabulate_of (x ∷ xs) z = ap (λ t. x ∷ t) (tabulate_of xs z)

-- ---- the first entry that fails a test

pub first_failing_within : {A : Type 0} (test : A → Bool) (xs : List A) → first_failing test xs ≤ length xs
unfolding first_failing
first_failing_within test [] = omega arith
first_failing_within test (x ∷ xs) = step (test x) (first_failing_within test xs)
  where
    step : (b : Bool) → first_failing test xs ≤ length xs → cond b (suc (first_failing test xs)) 0 ≤ suc (length xs)
    step true tail = omega arith
    step false tail = omega arith

-- z stands past the end, and is never reached
module _ {A : Type 0} (test : A → Bool) (z : A) where
  -- one step along the list: the search stands at i and has found nothing so far
  module _ (xs : List A) (i : ℕ) (inside : i < length xs) (so_far : first_failing test xs ≡ i + first_failing test (drop i xs)) where
    rest : first_failing test (drop i xs) ≡ cond (test (get_or xs i z)) (suc (first_failing test (drop (suc i) xs))) 0
    unfolding first_failing
    rest = rw (drop-cons xs i z inside)

    pub search_goes_on : test (get_or xs i z) ≡ true → first_failing test xs ≡ i + 1 + first_failing test (drop (i + 1) xs)
    search_goes_on e = rw add-one (omega (arith, so_far, rest ∙ choice_true _ _ e))

    pub search_ends_here : test (get_or xs i z) ≡ false → first_failing test xs ≡ i
    search_ends_here e = omega (arith, so_far, rest ∙ choice_false _ _ e)

  pub passes_before : (xs : List A) (k : ℕ) → k < first_failing test xs → test (get_or xs k z) ≡ true
  unfolding first_failing
  passes_before [] k h = absurd (omega arith)
  passes_before (x ∷ xs) k h = step k (test x) refl (passes_before xs) h
    where
      step : (k : ℕ) (b : Bool) → test x ≡ b → ((j : ℕ) → j < first_failing test xs → test (get_or xs j z) ≡ true) →
          k < cond b (suc (first_failing test xs)) 0 → test (get_or (x ∷ xs) k z) ≡ true
      step k false e tail h = absurd (omega arith)
      step zero true e tail h = e
      step (suc k) true e tail h = tail k (omega arith)

  pub fails_there : (xs : List A) → first_failing test xs < length xs → test (get_or xs (first_failing test xs) z) ≡ false
  unfolding first_failing
  fails_there [] h = absurd (omega arith)
  fails_there (x ∷ xs) h = step (test x) refl (fails_there xs) h
    where
      step : (b : Bool) → test x ≡ b → (first_failing test xs < length xs → test (get_or xs (first_failing test xs) z) ≡ false) →
          cond b (suc (first_failing test xs)) 0 < suc (length xs) → test (get_or (x ∷ xs) (cond b (suc (first_failing test xs)) 0) z) ≡ false
      step false e tail h = e
      step true e tail h = tail (omega arith)

  -- an entry that fails after none that does is the first
  pub first_failing_is : (xs : List A) (i : ℕ) → i < length xs → ((k : ℕ) → k < i → test (get_or xs k z) ≡ true) → test (get_or xs i z) ≡ false →
      first_failing test xs ≡ i
  first_failing_is xs i inside before here =
      let not_below : first_failing test xs < i → ⊥ = λ h. true≢false (sym (before _ h) ∙ fails_there xs (omega arith)) in
      let not_above_lem : i < first_failing test xs → ⊥ = λ h. true≢false (sym (passes_before xs i h) ∙ here) in
      omega arith

  pub none_fails : (xs : List A) → ((k : ℕ) → k < length xs → test (get_or xs k z) ≡ true) → first_failing test xs ≡ length xs
  none_fails xs all =
      let not_below : first_failing test xs < length xs → ⊥ = λ h. true≢false (sym (all _ h) ∙ fails_there xs h) in
      omega (arith, first_failing_within test xs)

  pub all_pass : (xs : List A) → first_failing test xs ≡ length xs → (k : ℕ) → k < length xs → test (get_or xs k z) ≡ true
  all_pass xs e k h = passes_before xs k (omega arith)

pub search_ends : {A : Type 0} (test : A → Bool) (xs : List A) (i : ℕ) → i ≡ length xs → first_failing test xs ≡ i + first_failing test (drop i xs) →
    first_failing test xs ≡ length xs
unfolding first_failing
search_ends test xs i e so_far = so_far ∙ rw (e, drop-length xs, add-zero)

-- ---- how many entries pass a test

module _ {A : Type 0} (test : A → Bool) (xs : List A) where
  -- one step along the list: n were counted before i
  pub counted_one_more : (z : A) (i n : ℕ) → i < length xs → how_many test xs ≡ n + how_many test (drop i xs) →
      how_many test xs ≡ n + cond (test (get_or xs i z)) 1 0 + how_many test (drop (i + 1) xs)
  unfolding how_many
  counted_one_more z i n inside so_far =
      let rest : how_many test (drop i xs) ≡ cond (test (get_or xs i z)) 1 0 + how_many test (drop (suc i) xs) = rw (drop-cons xs i z inside) in
      rw add-one (omega (arith, so_far, rest))

  pub all_counted : (i n : ℕ) → i ≡ length xs → how_many test xs ≡ n + how_many test (drop i xs) → n ≡ how_many test xs
  unfolding how_many
  all_counted i n e so_far = sym (so_far ∙ rw (e, drop-length xs, add-zero))

-- ---- a buffer that is written from its front

-- i entries of the output are written
abbrev pub written_so_far : {A : Type 0} → ℕ → List A → List A → List A
written_so_far i out buffer = take i out ++ drop i buffer

module _ {A : Type 0} (out buffer : List A) where
  pub written_so_far_length : (i : ℕ) → i ≤ length out → i ≤ length buffer → length (written_so_far i out buffer) ≡ length buffer
  written_so_far_length i h k =
      omega (arith, length-append (take i out) (drop i buffer), length-take-le i out h, length-drop i buffer)

  -- the loop's list and the value that it stores are known by equations
  pub written_one_more : (i : ℕ) (z : A) → i < length out → i < length buffer → {now : List A} {v : A} →
      now ≡ written_so_far i out buffer → v ≡ get_or out i z → set now i v ≡ written_so_far (i + 1) out buffer
  written_one_more i z h k e f =
      let front : length (take i out) ≡ i = length-take-le i out (le_of_lt h) in
      rw (e, f, drop-cons buffer i z k, set_at (take i out), add-one, take-suc out i z, append_snoc)

  pub written_whole : (i : ℕ) → i ≡ length out → written_so_far i out buffer ≡ written out buffer
  written_whole i e = rw (e, take-length)

  -- a buffer of the output's own length is written over
  pub written_over : (i : ℕ) → i ≡ length buffer → length out ≡ length buffer → written_so_far i out buffer ≡ out
  written_over i e same =
      let whole : i ≡ length out = omega arith in
      written_whole i whole ∙ rw (same, drop-length buffer, append-nil)

  pub written_front : (i : ℕ) (z : A) → i < length out → get_or (written out buffer) i z ≡ get_or out i z
  written_front i z h = get_or-append out (drop (length out) buffer) z i h

  -- the entries past the output are as they were
  pub written_past : (i : ℕ) (z : A) → length out ≤ i → get_or (written out buffer) i z ≡ get_or buffer i z
  written_past i z h =
      let beyond : i ≡ length out + (i - length out) = omega arith in
      rw (beyond, get_or-append-add out (drop (length out) buffer) (i - length out) z, get_or-drop (length out) buffer (i - length out) z)
