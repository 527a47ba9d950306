-- The search for the first value outside its range.
use Rattle.std.proofs.Common.{◌≡◌, ℕ, ◌+◌, ◌<◌, Bool, true, false, List, length, drop, ℤ, pos, sym, ap, ◌∙◌}
use Rattle.laws.specs.Lists.{at, first_failing}
use Rattle.laws.proofs.ListLaws.{search_goes_on, search_ends_here, search_ends}
use Rattle.phr.specs.File.{value_in_range}

-- the search stands at i and has found nothing so far; the machine tests the value there as it hands it on
module _ (kind : ℕ) (values : List ℤ) (i : ℕ) (inside : i < length values)
    (so_far : first_failing (value_in_range kind) values ≡ i + first_failing (value_in_range kind) (drop i values))
    {v : ℤ} (entry : v ≡ at values i) {answer : Bool} (tested : answer ≡ value_in_range kind v) where
  test_of_entry : {b : Bool} → answer ≡ b → value_in_range kind (at values i) ≡ b
  test_of_entry t = ap (value_in_range kind) (sym entry) ∙ sym tested ∙ t

  pub value_passes : answer ≡ true → first_failing (value_in_range kind) values ≡ i + 1 + first_failing (value_in_range kind) (drop (i + 1) values)
  value_passes t = search_goes_on (value_in_range kind) (pos 0) values i inside so_far (test_of_entry t)

  pub value_fails : answer ≡ false → i ≡ first_failing (value_in_range kind) values
  value_fails t = sym (search_ends_here (value_in_range kind) (pos 0) values i inside so_far (test_of_entry t))

pub no_value_fails : (kind : ℕ) (values : List ℤ) (i : ℕ) → i ≡ length values →
    first_failing (value_in_range kind) values ≡ i + first_failing (value_in_range kind) (drop i values) → i ≡ first_failing (value_in_range kind) values
no_value_fails kind values i e so_far = e ∙ sym (search_ends (value_in_range kind) values i e so_far)
