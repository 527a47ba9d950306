-- Each contract of this crate leaves one answer and one content of the lent buffer: any two that it allows of the same arguments are equal.
use Rattle.std.proofs.Common.{sym, refl, ◌∙◌}
use Rattle.laws.specs.Single.{Single}
use Rattle.std.proofs.Common.{◌≡◌, ℕ, cond, ◌==◌, Result, ap}
use Rattle.record.specs.declared.grounds.Refused.{Refused}
use Rattle.record.proofs.ToldLaws.{same_told, same_count}
use Rattle.phr.specs.Kinds.{number_of_kind}
use Rattle.phr.specs.Told.{read_told, record_told}
use Rattle.phr.specs.declared.Held.{Held}
use Rattle.phr.specs.declared.Contents.{Contents}
use Rattle.phr.specs.declared.kinds.Kind.{Kind}
use Rattle.phr.specs.declared.kinds.Kind.TheVariants.{Phase, Frequency}
use Rattle.phr.proofs.read.Reads as read_lem
use Rattle.phr.proofs.read.Kinds as read-kinds
use Rattle.phr.proofs.write.Reads as write_lem
use Rattle.phr.proofs.write.Kinds as write-kinds
use Rattle.phr.proofs.read_either.Reads as read-either
use Rattle.phr.proofs.read_either.Kinds as read-either-kinds
use Rattle.phr.proofs.write_from.Reads as write-from
use Rattle.phr.proofs.write_from.Kinds as write-from-kinds
use Rattle.phr.proofs.read_contents.Reads as read-contents
use Rattle.phr.proofs.read_contents.Kinds as read-contents-kinds
use Rattle.phr.proofs.good.Reads as good_lem
use Rattle.phr.proofs.good.Kinds as good-kinds
use Rattle.phr.proofs.read_file.Reads as read-file
use Rattle.phr.proofs.read_file.Kinds as read-file-kinds
use Rattle.phr.proofs.write_file.Reads as write-file
use Rattle.phr.proofs.write_file.Kinds as write-file-kinds
use Rattle.phr.proofs.read_record.Reads as read-record
use Rattle.phr.proofs.read_record.Kinds as read-record-kinds
use Rattle.phr.proofs.write_record.Reads as write-record
use Rattle.phr.proofs.write_record.Kinds as write-record-kinds
use Rattle.phr.proofs.read_header.Reads as read-header
use Rattle.phr.proofs.read_header.Kinds as read-header-kinds
use Rattle.phr.proofs.good_values.Reads as good-values
use Rattle.phr.proofs.good_values.Kinds as good-values-kinds

-- the kind of a number
kind_back : ℕ → Kind
kind_back n = cond (n == 0) Phase Frequency

numbered_back : (kind : Kind) → kind_back (number_of_kind kind) ≡ kind
unfolding kind_back
numbered_back Phase = refl
numbered_back Frequency = refl

-- two readings that are told alike are one
same_read : (x y : Result Held Refused) → read_told x ≡ read_told y → x ≡ y
unfolding kind_back
same_read =
    same_told read_told (λ z. z.number) (λ z. z.place) (λ z. record { kind = kind_back z.kind; count = z.count })
    (λ _. refl) (λ h. ap (λ (kind : Kind). record { kind = kind; count = h.count }) (numbered_back h.kind)) (λ _. refl) (λ _. refl)

same_record : (x y : Result Contents Refused) → record_told x ≡ record_told y → x ≡ y
same_record =
    same_told record_told (λ z. z.number) (λ z. z.place) (λ z. record { version = z.version; kind = kind_back z.kind; start = z.start; count = z.count })
    (λ _. refl) (λ h. ap (λ (kind : Kind). record { version = h.version; kind = kind; start = h.start; count = h.count }) (numbered_back h.kind)) (λ _. refl) (λ _. refl)

pub read_single : Single 2 read-kinds.ps read-kinds.r read_lem.Post
read_single κs args z z' w w' first second = (same_read z z' (first.0 ∙ sym second.0), λ i. (tt, ((first.1 ∙ sym second.1) i, tt)))

pub write_single : Single 2 write-kinds.ps write-kinds.r write_lem.Post
write_single κs args z z' w w' first second = (same_count z z' (first.0 ∙ sym second.0), λ i. (tt, (tt, ((first.1 ∙ sym second.1) i, tt))))

pub read_either_single : Single 2 read-either-kinds.ps read-either-kinds.r read-either.Post
read_either_single κs args z z' w w' first second = (same_record z z' (first.0 ∙ sym second.0), λ i. (tt, ((first.1 ∙ sym second.1) i, tt)))

pub write_from_single : Single 2 write-from-kinds.ps write-from-kinds.r write-from.Post
write_from_single κs args z z' w w' first second = (same_count z z' (first.0 ∙ sym second.0), λ i. (tt, (tt, (tt, ((first.1 ∙ sym second.1) i, tt)))))

pub read_contents_single : Single 1 read-contents-kinds.ps read-contents-kinds.r read-contents.Post
read_contents_single κs args z z' w w' first second = (same_record z z' (first ∙ sym second), refl)

pub good_single : Single 1 good-kinds.ps good-kinds.r good_lem.Post
good_single κs args z z' w w' first second = (first ∙ sym second, refl)

pub read_file_single : Single 2 read-file-kinds.ps read-file-kinds.r read-file.Post
read_file_single κs args z z' w w' first second = (first.0 ∙ sym second.0, λ i. (tt, ((first.1 ∙ sym second.1) i, tt)))

pub write_file_single : Single 2 write-file-kinds.ps write-file-kinds.r write-file.Post
write_file_single κs args z z' w w' first second = (first.0 ∙ sym second.0, λ i. (tt, (tt, ((first.1 ∙ sym second.1) i, tt))))

pub read_record_single : Single 2 read-record-kinds.ps read-record-kinds.r read-record.Post
read_record_single κs args z z' w w' first second = (first.0 ∙ sym second.0, λ i. (tt, ((first.1 ∙ sym second.1) i, tt)))

pub write_record_single : Single 2 write-record-kinds.ps write-record-kinds.r write-record.Post
write_record_single κs args z z' w w' first second = (first.0 ∙ sym second.0, λ i. (tt, (tt, (tt, ((first.1 ∙ sym second.1) i, tt)))))

pub read_header_single : Single 1 read-header-kinds.ps read-header-kinds.r read-header.Post
read_header_single κs args z z' w w' first second = (first ∙ sym second, refl)

pub good_values_single : Single 1 good-values-kinds.ps good-values-kinds.r good-values.Post
good_values_single κs args z z' w w' first second = (first ∙ sym second, refl)
