-- The test of a start by its kind: it passes exactly where the start of phase samples is 0.
use Rattle.std.proofs.Common.{◌≡◌, ℕ, Bool, true, false, cond, eqb, ℤ, pos, nat_abs, refl, ap, true≢false, eq-eqb, ne_eqb, eqb-true}
use borrow.Author.Tests.{eqb-false}
use Rattle.laws.proofs.Words.{size_nought}
use Rattle.phr.specs.File.{start_fits}

module _ (kind : ℕ) (start : ℤ) where
  pub fit_passes : (kind ≡ 0 → start ≡ pos 0) → start_fits kind start ≡ true
  unfolding start_fits
  fit_passes fit = by_kind (eqb kind 0) refl
    where
      by_kind : (phase : Bool) → eqb kind 0 ≡ phase → cond phase (eqb (nat_abs start) 0) true ≡ true
      by_kind true t = rw (fit (eqb-true kind 0 t)) refl
      by_kind false t = refl

  pub passes_fit : start_fits kind start ≡ true → kind ≡ 0 → start ≡ pos 0
  unfolding start_fits
  passes_fit t phase = size_nought start (eqb-true (nat_abs start) 0 (rw (eq-eqb kind 0 phase) at t))

  pub unfit_fails : kind ≡ 0 → (start ≡ pos 0 → ⊥) → start_fits kind start ≡ false
  unfolding start_fits
  unfit_fails phase some = rw (eq-eqb kind 0 phase) (ne_eqb (nat_abs start) 0 (λ e. some (size_nought start e)))

  pub fails_unfit : start_fits kind start ≡ false → (kind ≡ 0) × (start ≡ pos 0 → ⊥)
  unfolding start_fits
  fails_unfit = by_kind (eqb kind 0) refl
    where
      by_kind : (phase : Bool) → eqb kind 0 ≡ phase → cond phase (eqb (nat_abs start) 0) true ≡ false → (kind ≡ 0) × (start ≡ pos 0 → ⊥)
      by_kind true e f = (eqb-true kind 0 e, λ nought. eqb-false (nat_abs start) 0 f (ap nat_abs nought))
      by_kind false e f = absurd (true≢false f)
