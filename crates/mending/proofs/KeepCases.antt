-- What is found on the way to the values kept of a damaged file, whose header says its contents and is there.
use Rattle.std.proofs.Common.{◌≡◌, ℕ, ◌+◌, ◌-◌, ◌*◌, ◌/◌, ◌≤◌, min, cond, eqb, List, length, take, drop, Ok, ap, ap₂, ◌∙◌, arith}
use Rattle.laws.specs.Lists.{first_failing}
use Rattle.record.specs.Refusals.{none}
use Rattle.phr.specs.Bytes.{values_from}
use Rattle.phr.specs.File.{value_in_range}
use Rattle.phr.specs.Kinds.{number_of_kind}
use Rattle.phr.specs.Reading.{head_length, record_answer}
use Rattle.phr.specs.Told.{record_told}
use Rattle.phr.specs.declared.Contents.{Contents}
use Rattle.phr.specs.declared.RecordAnswer.{RecordAnswer}
use Rattle.mending.specs.Salvage.{first_bad, salvaged_file}
use Rattle.mending.proofs.KeptLaws.{present_count, first_bad_within, first_bad_found, salvaged_length}

module _ (bytes : List ℕ) (contents : Contents) (said : record_told (Ok contents) ≡ record_answer none bytes) (there : head_length bytes ≤ length bytes)
    {head : ℕ} (head_found : head ≡ cond (eqb contents.version 2) 16 8) where
  pub head_is : head ≡ head_length bytes
  unfolding head_length
  head_is = head_found ∙ ap (λ (a : RecordAnswer). cond (eqb a.version 2) 16 8) said

  pub head_inside : head ≤ length bytes
  head_inside = omega (arith, head_is)

  module _ {whole present : ℕ} (whole_found : whole ≡ (length bytes - head) / 8) (present_found : present ≡ min contents.count whole) where
    pub present_is : present ≡ present_count bytes
    present_is =
        present_found ∙ ap₂ min (ap (λ (a : RecordAnswer). a.count) said) (whole_found ∙ ap (λ (n : ℕ). (length bytes - n) / 8) head_is)

    values_inside : head_length bytes + 8 * present_count bytes ≤ length bytes
    values_inside = omega arith

    pub present_inside : head + 8 * present ≤ length bytes
    present_inside = omega (arith, values_inside, head_is, present_is)

    module _ {part : List ℕ} (read : part ≡ take (head + 8 * present - head) (drop head bytes))
        {kept : ℕ} (kept_found : kept ≡ first_failing (value_in_range (number_of_kind contents.kind)) (values_from 0 (length part / 8) part)) where
      pub kept_is : kept ≡ first_bad bytes
      kept_is =
          let long : head + 8 * present - head ≡ 8 * present_count bytes = omega (arith, present_is) in
          kept_found
          ∙ ap (λ (a : RecordAnswer). first_failing (value_in_range a.kind) (values_from 0 (length part / 8) part)) said
          ∙ first_bad_found bytes {part = part} values_inside (read ∙ ap₂ (λ (n m : ℕ). take n (drop m bytes)) long head_is)

      pub end_is : head + 8 * kept ≡ length (salvaged_file bytes)
      end_is = omega (arith, head_is, kept_is, salvaged_length bytes)

      pub end_inside : head + 8 * kept ≤ length bytes
      end_inside = omega (arith, head_is, kept_is, values_inside, first_bad_within bytes)
