-- The cases of the refusal of values, 3 at the first that is outside the range of its kind, and what is known of values that are not refused.
use Rattle.std.proofs.Common.{◌≡◌, ℕ, ◌<◌, ◌≤◌, true, List, length, ℤ, pos, arith, ltb-false, le-ltb, lt-ltb}
use Rattle.laws.specs.Lists.{at, first_failing}
use Rattle.laws.proofs.ListLaws.{first_failing_within, none_fails, all_pass}
use Rattle.record.specs.Refusals.{none, refused}
use Rattle.record.proofs.RefusalLaws.{test_fails}
use Rattle.phr.specs.File.{value_in_range, values_refusal}

-- the first value outside the range of its kind; how many there are where there is none
abbrev pub first_outside : ℕ → List ℤ → ℕ
first_outside kind values = first_failing (value_in_range kind) values

abbrev pub AllInRange : ℕ → List ℤ → Type 0
AllInRange kind values = (i : ℕ) → i < length values → value_in_range kind (at values i) ≡ true

module _ (kind : ℕ) (values : List ℤ) where
  pub value_outside : first_outside kind values < length values → values_refusal kind values ≡ refused 3 (first_outside kind values)
  unfolding values_refusal
  value_outside h = simp (lt-ltb (first_outside kind values) (length values) h)

  pub none_outside : length values ≤ first_outside kind values → values_refusal kind values ≡ none
  unfolding values_refusal
  none_outside h = simp (le-ltb (first_outside kind values) (length values) h)

  pub in_range_none : AllInRange kind values → values_refusal kind values ≡ none
  in_range_none all = none_outside (omega (arith, none_fails (value_in_range kind) (pos 0) values all))

  pub unrefused_in_range : (values_refusal kind values).number ≡ 0 → AllInRange kind values
  unfolding values_refusal
  unrefused_in_range e =
      let end : length values ≤ first_outside kind values = ltb-false (first_outside kind values) (length values) (test_fails _ 3 (first_outside kind values) (omega arith) e) in
      all_pass (value_in_range kind) (pos 0) values (omega (arith, first_failing_within (value_in_range kind) values))
