-- The refusals of salvage agree with their table of grounds.
use mathlib.Core.Path.{refl, ap}
use mathlib.Core.Bool.{not}
use mathlib.Core.List.{List}
use Prim.Native.Nat.{ℕ}
use native.Mathlib.Omega.{arith}
use borrow.Author.Tests.{ltb-true, ltb-false, lt-ltb, le-ltb, not-true}
use lib.Dec.{ltb}
use lib.ListN.{length}
use Rattle.record.specs.Refusals.{refused_if, ◌then◌, in_range}
use Rattle.record.specs.declared.Refusal.{Refusal}
use Rattle.phr.specs.Reading.{start_of, counted_header_refusal}
use Rattle.mending.specs.Salvage.{salvaged_file, salvage_refusal, salvage_answer}
use Rattle.mending.specs.declared.SalvageAnswer.{SalvageAnswer}
use Rattle.acceptance.specs.Grounds
use Rattle.acceptance.specs.Grounds.{NoRow, Grounded, OfRecordHeader, OfSalvage}
use Rattle.acceptance.proofs.Grounding.{Decided, Stands, Agrees, decide, decide_last, decide_after, decided_by, stands_first, stands_later, rowless_none, none_rowless, grounded_answer}
use Rattle.acceptance.proofs.RecordGrounds.{outside_fails, failing_outside}
use Rattle.acceptance.proofs.VersionGrounds.{header_agrees}

module _ (bytes : List ℕ) (room : ℕ) where
  -- the order that is left after the header
  abbrev left : Refusal
  left = refused_if (ltb room (length (salvaged_file bytes))) 6 0 then refused_if (not (in_range (start_of bytes))) 3 0

  after_header : NoRow (OfRecordHeader bytes) → {n p : ℕ} → Stands n p left → Stands n p (salvage_refusal bytes room)
  unfolding salvage_refusal
  after_header rowless stands = stands_later (counted_header_refusal bytes) left (rowless_none (header_agrees bytes room) rowless) stands

  salvage_stands : {n p : ℕ} → OfSalvage bytes room n p → Stands n p (salvage_refusal bytes room)
  unfolding salvage_refusal
  salvage_stands (Grounds.header row) = stands_first (counted_header_refusal bytes) left ((header_agrees bytes room).stands row)
  salvage_stands (Grounds.no_room rowless h) = after_header rowless (λ e. omega arith, rw (lt-ltb room (length (salvaged_file bytes)) h))
  salvage_stands (Grounds.far_start rowless enough far) =
      after_header rowless (λ e. omega arith, rw (le-ltb room (length (salvaged_file bytes)) enough, outside_fails (start_of bytes) far))

  salvage_decided : Decided (OfSalvage bytes room) (salvage_refusal bytes room)
  unfolding salvage_refusal
  salvage_decided =
      decide_after _ _ (decided_by (λ n p. Grounds.header) (header_agrees bytes room).decided)
      (λ clear. let rowless = none_rowless (header_agrees bytes room) (ap (λ (r : Refusal). r.number) clear) in
      decide _ 6 0 (omega arith) (λ t. Grounds.no_room rowless (ltb-true _ _ t)) _
      (λ f. decide_last _ 3 0 (omega arith) (λ t. Grounds.far_start rowless (ltb-false _ _ f) (failing_outside (start_of bytes) (not-true _ t)))))

  pub salvage_agrees : Agrees (OfSalvage bytes room) (salvage_refusal bytes room)
  salvage_agrees = record { stands = salvage_stands; decided = salvage_decided }

  pub salvage_grounded : Grounded (OfSalvage bytes room) (salvage_answer bytes room).number (salvage_answer bytes room).place
  unfolding salvage_answer
  salvage_grounded = grounded_answer salvage_agrees (λ (a : SalvageAnswer). a.number) (λ a. a.place) _ _ (refl, refl) (refl, refl)
