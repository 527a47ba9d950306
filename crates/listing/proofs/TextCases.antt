-- The cases of a record's text and of the totals with it, and of the two calls that fill a lent buffer with text.
use mathlib.Core.Path.{◌≡◌, refl, sym, ap₂, ◌∙◌}
use mathlib.Core.Bool.{Bool, true, false, ◌||◌, true≢false}
use mathlib.Core.List.{List, ◌++◌}
use Prim.Native.Nat.{ℕ, ◌+◌, ◌^◌, ◌≤◌, ◌<◌}
use native.Mathlib.Nat.{add-zero}
use native.Mathlib.Omega.{arith}
use borrow.Author.Tests.{lt-ltb, le-ltb, ltb-false, eq-eqb, ne_eqb}
use lib.Dec.{ltb}
use lib.ListN.{length, take, drop}
use Rattle.std.proofs.Common.{Err}
use Rattle.laws.specs.Lists.{written}
use Rattle.record.specs.Answers.{buffer_left}
use Rattle.record.specs.Refusals.{none, refused, refused_if}
use Rattle.record.specs.Told.{number_of}
use Rattle.record.specs.declared.Refusal.{Refusal}
use Rattle.record.specs.declared.grounds.Refused.{Refused}
use Rattle.record.proofs.RefusalLaws.{none_gives_way}
use Rattle.record.proofs.ToldLaws.{numbered, refuses_nothing}
use Rattle.listing.specs.Sheet.{factors, lines_of, allan_counts, modified_counts, samples_of, sheet_refusal, refused_line, factors_of, record_text, totals_with, total_line, text_refusal, text_answer, total_refusal}
use Rattle.listing.specs.declared.Totals.{Totals}
use Rattle.listing.specs.Told.{text_told}
use Rattle.listing.proofs.AppendLaws.{Appended, all_appended}
use Rattle.listing.proofs.SheetCases.{first_refuses}

-- ---- a record's text

module _ (bytes : List ℕ) where
  module _ (number place : ℕ) (some : number ≡ 0 → ⊥) (e : sheet_refusal bytes ≡ refused number place) where
    pub text_of_refused : refused_line (refused number place) ≡ record_text bytes
    unfolding record_text
    text_of_refused = rw (e, ne_eqb number 0 some)

    pub totals_of_refused : (t : Totals) → t ≡ totals_with t bytes
    unfolding totals_with factors_of allan_counts modified_counts
    totals_of_refused t = rw (e, ne_eqb number 0 some) (ap₂ (λ (k c : ℕ). record { k = k; c = c }) (sym (add-zero t.k)) (sym (add-zero t.c)))

  module _ (nought : (sheet_refusal bytes).number ≡ 0) where
    pub text_of_lines : lines_of (samples_of bytes) (factors (length (samples_of bytes))) ≡ record_text bytes
    unfolding record_text factors_of
    text_of_lines = rw (eq-eqb (sheet_refusal bytes).number 0 nought)

    pub totals_of_lines : (t : Totals) →
        record { k = t.k + allan_counts (samples_of bytes) (factors (length (samples_of bytes))); c = t.c + modified_counts (samples_of bytes) (factors (length (samples_of bytes))) } ≡ totals_with t bytes
    unfolding totals_with factors_of
    totals_of_lines t = rw (eq-eqb (sheet_refusal bytes).number 0 nought)

-- ---- text that is copied to the front of a buffer

pub text_copied : {out before after : List ℕ} {end : ℕ} → Appended out before 0 after end → (buffer : List ℕ) {left : List ℕ} →
    left ≡ take end after ++ drop (length (take end after)) buffer → left ≡ written out buffer
text_copied x buffer e = e ∙ rw (all_appended x).1

-- ---- 2, 6

module _ (bytes : List ℕ) (t : Totals) (room : ℕ) where
  pub total_too_large : (ltb (2 ^ 63) t.k || ltb (2 ^ 63) t.c) ≡ true → text_refusal bytes t room ≡ refused 2 0
  unfolding text_refusal
  total_too_large e = rw e

  module _ (small : (ltb (2 ^ 63) t.k || ltb (2 ^ 63) t.c) ≡ false) where
    pub no_room_for_text : room < length (record_text bytes) → text_refusal bytes t room ≡ refused 6 0
    unfolding text_refusal
    no_room_for_text h = rw (small, lt-ltb room (length (record_text bytes)) h)

    pub room_for_text : length (record_text bytes) ≤ room → text_refusal bytes t room ≡ none
    unfolding text_refusal
    room_for_text h = rw (small, le-ltb room (length (record_text bytes)) h)

module _ (t : Totals) (room : ℕ) where
  pub no_room_for_total : room < length (total_line t) → total_refusal t room ≡ refused 6 0
  unfolding total_refusal
  no_room_for_total h = rw (lt-ltb room (length (total_line t)) h)

  pub room_for_total : length (total_line t) ≤ room → total_refusal t room ≡ none
  unfolding total_refusal
  room_for_total h = rw (le-ltb room (length (total_line t)) h)

-- ---- what is written of a record, as it is told

-- a total that is too large, before the room is looked at
abbrev totals_refusal : Totals → Refusal
totals_refusal t = refused_if (ltb (2 ^ 63) t.k || ltb (2 ^ 63) t.c) 2 0

-- the room for a text
abbrev room_refusal : List ℕ → ℕ → Refusal
room_refusal text room = refused_if (ltb room (length text)) 6 0

module _ (bytes : List ℕ) (t : Totals) (room : ℕ) where
  -- an error is told as it is
  pub error_text : (e : Refused) → refused (number_of e.why) e.place ≡ text_refusal bytes t room → text_told t (Err e) ≡ text_answer bytes t room
  unfolding text_answer
  error_text e is = rw (sym is, ne_eqb (number_of e.why) 0 (λ z. omega (arith, numbered e.why)))

  -- totals that are too large
  pub totals_refuse : (e : Refused) → refused (number_of e.why) e.place ≡ totals_refusal t → refused (number_of e.why) e.place ≡ text_refusal bytes t room
  unfolding text_refusal
  totals_refuse e is = sym (first_refuses (totals_refusal t) (room_refusal (record_text bytes) room) (number_of e.why) e.place (numbered e.why) (sym is))

  -- the room decides where the totals are not
  pub room_decides : none ≡ totals_refusal t → {text : List ℕ} → text ≡ record_text bytes → room_refusal text room ≡ text_refusal bytes t room
  unfolding text_refusal
  room_decides is {text} e = rw e (sym (none_gives_way (totals_refusal t) (room_refusal (record_text bytes) room) (refuses_nothing is)))

  -- the answer where nothing refuses
  pub text_given : (text_refusal bytes t room).number ≡ 0 → {n : ℕ} → n ≡ length (record_text bytes) → {after : Totals} → after ≡ totals_with t bytes →
      record { number = 0; place = 0; length = n; totals = after } ≡ text_answer bytes t room
  unfolding text_answer
  text_given nothing l a = rw (eq-eqb (text_refusal bytes t room).number 0 nothing, l, a)

  -- what a copy of the text leaves in the buffer
  pub copied_left : none ≡ totals_refusal t → {text : List ℕ} → text ≡ record_text bytes → (buffer : List ℕ) {left : List ℕ} →
      left ≡ buffer_left (room_refusal text room) text buffer → left ≡ buffer_left (text_refusal bytes t room) (record_text bytes) buffer
  copied_left is e buffer l = l ∙ ap₂ (λ (r : Refusal) (out : List ℕ). buffer_left r out buffer) (room_decides is e) e

-- totals that are not too large
neither_first : (a b : Bool) → (a || b) ≡ false → a ≡ false
neither_first true b e = e
neither_first false b e = refl

neither_second : (a b : Bool) → (a || b) ≡ false → b ≡ false
neither_second true b e = absurd (true≢false e)
neither_second false b e = e

pub totals_within : (t : Totals) → (ltb (2 ^ 63) t.k || ltb (2 ^ 63) t.c) ≡ false → (t.k ≤ 2 ^ 63) × (t.c ≤ 2 ^ 63)
totals_within t e =
    let k = ltb (2 ^ 63) t.k in
    let c = ltb (2 ^ 63) t.c in
    (ltb-false (2 ^ 63) t.k (neither_first k c e), ltb-false (2 ^ 63) t.c (neither_second k c e))
