-- Each contract of this crate leaves one answer: any two results that it allows of the same arguments are equal.
use Rattle.std.proofs.Common.{sym, refl, ◌∙◌}
use Rattle.laws.specs.Single.{Single}
use Rattle.record.proofs.in_range.Reads as in_range_lem
use Rattle.record.proofs.in_range.Kinds as in-range-kinds
use Rattle.record.proofs.range_refusal.Reads as range-refusal
use Rattle.record.proofs.range_refusal.Kinds as range-refusal-kinds
use Rattle.record.proofs.size_refusal.Reads as size-refusal
use Rattle.record.proofs.size_refusal.Kinds as size-refusal-kinds
use Rattle.record.proofs.record_refusal.Reads as record-refusal
use Rattle.record.proofs.record_refusal.Kinds as record-refusal-kinds
use Rattle.record.proofs.refused_count.Reads as refused-count
use Rattle.record.proofs.refused_count.Kinds as refused-count-kinds
use Rattle.record.proofs.check_range.Reads as check-range
use Rattle.record.proofs.check_range.Kinds as check-range-kinds
use Rattle.record.proofs.check_size.Reads as check-size
use Rattle.record.proofs.check_size.Kinds as check-size-kinds
use Rattle.record.proofs.check_record.Reads as check-record
use Rattle.record.proofs.check_record.Kinds as check-record-kinds
use Rattle.record.proofs.grounds.Ground.at.Reads as at_lem
use Rattle.record.proofs.grounds.Ground.at.Kinds as at-kinds
use Rattle.record.proofs.ToldLaws.{same_check}

pub in_range_single : Single 0 in-range-kinds.ps in-range-kinds.r in_range_lem.Post
in_range_single κs args z z' w w' first second = (first ∙ sym second, refl)

pub range_refusal_single : Single 1 range-refusal-kinds.ps range-refusal-kinds.r range-refusal.Post
range_refusal_single κs args z z' w w' first second = (first ∙ sym second, refl)

pub size_refusal_single : Single 0 size-refusal-kinds.ps size-refusal-kinds.r size-refusal.Post
size_refusal_single κs args z z' w w' first second = (first ∙ sym second, refl)

pub record_refusal_single : Single 1 record-refusal-kinds.ps record-refusal-kinds.r record-refusal.Post
record_refusal_single κs args z z' w w' first second = (first ∙ sym second, refl)

pub refused_count_single : Single 0 refused-count-kinds.ps refused-count-kinds.r refused-count.Post
refused_count_single κs args z z' w w' first second = (first ∙ sym second, refl)

pub check_range_single : Single 1 check-range-kinds.ps check-range-kinds.r check-range.Post
check_range_single κs args z z' w w' first second = (same_check z z' (first ∙ sym second), refl)

pub check_size_single : Single 0 check-size-kinds.ps check-size-kinds.r check-size.Post
check_size_single κs args z z' w w' first second = (same_check z z' (first ∙ sym second), refl)

pub check_record_single : Single 1 check-record-kinds.ps check-record-kinds.r check-record.Post
check_record_single κs args z z' w w' first second = (same_check z z' (first ∙ sym second), refl)

pub at_single : Single 0 at-kinds.ps at-kinds.r at_lem.Post
at_single κs args z z' w w' first second = (first ∙ sym second, refl)
