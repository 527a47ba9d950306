-- What salvage promises, of its answer and of the buffer that it leaves.
use mathlib.Core.Path.{◌≡◌, refl, sym, ap}
use mathlib.Core.Bool.{Bool, true, false, cond}
use mathlib.Core.List.{List, ◌++◌}
use Prim.Native.Nat.{ℕ, ◌-◌, ◌≤◌}
use native.Mathlib.Omega.{arith}
use borrow.Author.Tests.{ltb-true, ltb-false, eqb-true, eqb-false}
use lib.Dec.{ltb, eqb}
use lib.IntN.{ℤ, pos}
use lib.ListN.{length, take, length-append}
use lib.Seq.{take_at}
use Rattle.laws.proofs.ListLaws.{first_failing_within, fails_there, all_pass}
use Rattle.record.specs.Answers.{buffer_left}
use Rattle.record.specs.Refusals.{none}
use Rattle.record.specs.declared.Refusal.{Refusal}
use Rattle.phr.specs.File.{value_in_range, AreBytes}
use Rattle.phr.specs.Reading.{kind_of, count_of, read_record_refusal, read_record_answer}
use Rattle.phr.proofs.AnswerCases.{record_buffer}
use Rattle.phr.proofs.FrontLaws.{count_stays}
use Rattle.mending.specs.Salvage.{present_values, first_bad, kept_values, salvaged_file, salvage_refusal, salvage_answer}
use Rattle.mending.proofs.KeptLaws.{first_bad_within, kept_length, kept_longest, salvaged_length, salvaged_within}
use Rattle.mending.proofs.SalvageCases.{Salvageable, unrefused_salvageable}
use Rattle.mending.proofs.Salvaged.{salvaged_read, salvaged_bytes, sound_unchanged, sound_unrefused, sound_answer}
use Rattle.mending.proofs.LongerLaws.{first_bad_stays, kept_stay, salvaged_stays, present_length_stays, refusal_stays}
use Rattle.acceptance.specs.Promises.{ReadsSalvaged, AddsUp, MetBy, ComesBack, LeavesMore}

-- the buffer as salvage leaves it
abbrev salvage_buffer : List ℕ → List ℕ → List ℕ
salvage_buffer bytes buffer = buffer_left (salvage_refusal bytes (length buffer)) (salvaged_file bytes) buffer

-- ---- where nothing is refused

module _ (bytes buffer : List ℕ) (nothing : salvage_refusal bytes (length buffer) ≡ none) where
  known : Salvageable bytes (length buffer)
  known = unrefused_salvageable bytes (length buffer) (ap (λ (r : Refusal). r.number) nothing)

  pub new_count_is : (salvage_answer bytes (length buffer)).new_count ≡ length (kept_values bytes)
  unfolding salvage_answer
  new_count_is = rw nothing

  -- the new file is at the front
  pub salvaged_left : take (length bytes - (salvage_answer bytes (length buffer)).left_over) (salvage_buffer bytes buffer) ≡ salvaged_file bytes
  unfolding salvage_answer buffer_left
  salvaged_left =
      let whole : length (salvaged_file bytes) ≡ length bytes - (length bytes - length (salvaged_file bytes)) = omega (arith, salvaged_within bytes known.header.present) in
      rw nothing (take_at (salvaged_file bytes) _ _ whole)

  pub adds_up : AddsUp bytes (salvage_answer bytes (length buffer))
  unfolding salvage_answer
  adds_up = rw nothing (record {
    old = refl;
    fewer = omega (arith, kept_length bytes, first_bad_within bytes);
    whole = omega (arith, kept_length bytes, salvaged_length bytes, salvaged_within bytes known.header.present);
  })

  pub met_by : MetBy bytes (salvage_answer bytes (length buffer)).met
  unfolding salvage_answer first_bad
  met_by = rw nothing (by_first (ltb (first_bad bytes) (length (present_values bytes))) refl)
    where
      by_first : (bad : Bool) → ltb (first_bad bytes) (length (present_values bytes)) ≡ bad → MetBy bytes (cond bad 1 0)
      by_first true t =
          let inside = ltb-true (first_bad bytes) (length (present_values bytes)) t in
          MetBy.met (first_bad bytes) inside (fails_there (value_in_range (kind_of bytes)) (pos 0) (present_values bytes) inside)
      by_first false t =
          let end = ltb-false (first_bad bytes) (length (present_values bytes)) t in
          MetBy.not_met (all_pass (value_in_range (kind_of bytes)) (pos 0) (present_values bytes) (omega (arith, first_failing_within (value_in_range (kind_of bytes)) (present_values bytes))))

  -- read again
  pub reads_salvaged : (values : List ℤ) → length (kept_values bytes) ≤ length values →
      ReadsSalvaged bytes (length (kept_values bytes)) (record_buffer (salvaged_file bytes) values) (read_record_answer (salvaged_file bytes) (length values))
  unfolding read_record_answer buffer_left
  reads_salvaged values room =
      let again = salvaged_read bytes (length buffer) known in
      rw (again.unrefused (length values) room, again.version_is, again.kind_is, again.start_is, again.count_is, again.values_are) (record {
        number = refl;
        version = refl;
        kind = refl;
        start = refl;
        count = refl;
        longest = rw (take_at (kept_values bytes) _ (length (kept_values bytes)) refl) (kept_longest bytes);
      })

-- ---- a sound file

pub comes_back : (bytes : List ℕ) → AreBytes bytes → (room : ℕ) → read_record_refusal bytes room ≡ none → (buffer : List ℕ) → length bytes ≤ length buffer →
    ComesBack bytes (count_of bytes) (salvage_buffer bytes buffer) (salvage_answer bytes (length buffer))
unfolding buffer_left
comes_back bytes all room accepted buffer enough =
    rw (sound_answer bytes all room accepted (length buffer) enough, sound_unrefused bytes all room accepted (length buffer) enough, sound_unchanged bytes all room accepted)
    (record { number = refl; old = refl; new = refl; left_over = refl; met = refl; same = take_at bytes _ (length bytes) refl })

-- and so what was salvaged comes back
pub salvaged_comes_back : (bytes buffer : List ℕ) → salvage_refusal bytes (length buffer) ≡ none → (space : List ℕ) → length (salvaged_file bytes) ≤ length space →
    ComesBack (salvaged_file bytes) (length (kept_values bytes)) (salvage_buffer (salvaged_file bytes) space) (salvage_answer (salvaged_file bytes) (length space))
salvaged_comes_back bytes buffer nothing space enough =
    let here = known bytes buffer nothing in
    let again = salvaged_read bytes (length buffer) here in
    let most = length (kept_values bytes) in
    rw (sym again.count_is)
    (comes_back (salvaged_file bytes) (salvaged_bytes bytes (length buffer) here) most (again.unrefused most (omega arith)) space enough)

-- ---- bytes behind the longest file

pub leaves_more : (bytes rest : List ℕ) → 262160 ≤ length bytes → (buffer : List ℕ) →
    LeavesMore (length rest) (salvage_answer bytes (length buffer)) (salvage_answer (bytes ++ rest) (length buffer)) (salvage_buffer bytes buffer) (salvage_buffer (bytes ++ rest) buffer)
unfolding salvage_answer buffer_left
leaves_more bytes rest long buffer = by_number (eqb r.number 0) refl
  where
    r : Refusal
    r = salvage_refusal bytes (length buffer)

    same : salvage_refusal (bytes ++ rest) (length buffer) ≡ r
    same = refusal_stays bytes rest long (length buffer)

    by_number : (nought : Bool) → eqb r.number 0 ≡ nought →
        LeavesMore (length rest) (salvage_answer bytes (length buffer)) (salvage_answer (bytes ++ rest) (length buffer)) (salvage_buffer bytes buffer) (salvage_buffer (bytes ++ rest) buffer)
    by_number true t =
        let here = unrefused_salvageable bytes (length buffer) (eqb-true r.number 0 t) in
        let few = here.few in
        rw (same, t, count_stays bytes rest (omega arith), kept_stay bytes rest long few, salvaged_stays bytes rest long few, first_bad_stays bytes rest long few, present_length_stays bytes rest long few)
        (record {
          number = refl;
          place = refl;
          old = refl;
          new = refl;
          left_over = λ answered. omega (arith, length-append bytes rest, salvaged_within bytes here.header.present);
          met = refl;
          buffer = refl;
        })
    by_number false t = rw (same, t) (record {
      number = refl;
      place = refl;
      old = refl;
      new = refl;
      left_over = λ answered. absurd (eqb-false r.number 0 t answered);
      met = refl;
      buffer = refl;
    })
