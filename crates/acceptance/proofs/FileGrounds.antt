-- The refusals of reading and writing record files of version 1 agree with their tables of grounds. What the versions have in common stands first.
use mathlib.Core.Path.{◌≡◌, refl, sym, ap, ◌∙◌}
use mathlib.Core.Bool.{Bool, true, false, cond, true≢false}
use mathlib.Core.List.{List, [], ◌∷◌}
use mathlib.Core.Logic.{inl, inr}
use Prim.Native.Nat.{ℕ, zero, suc, ◌+◌, ◌*◌, ◌^◌, ◌≤◌, ◌<◌, min}
use native.Mathlib.Nat.{min-eq_left, min-eq_right}
use native.Mathlib.Omega.{arith}
use borrow.Author.Tests.{ltb-true, ltb-false, leb-true, leb-false, lt-leb, le-leb, not-false, not-true, eqb-true, eqb-false, eq-eqb}
use lib.Dec.{ltb, eqb}
use lib.IntN.{ℤ, pos, nat_abs}
use lib.ListN.{length, get_or}
use Rattle.laws.specs.Lists.{at, first_failing}
use Rattle.laws.proofs.ListLaws.{tabulate_entry}
use Rattle.record.specs.Refusals.{refused, ◌then◌}
use Rattle.record.specs.declared.Refusal.{Refusal}
use Rattle.phr.specs.Bytes.{value_at, values_from}
use Rattle.phr.specs.File.{most_values, value_in_range, values_refusal}
use Rattle.phr.specs.Reading.{tests_of, sound_up_to, kind_of, count_of, count_refusal, header_tests, values_of, read_refusal, read_answer}
use Rattle.phr.specs.Writing.{room_refusal, write_refusal}
use Rattle.phr.specs.declared.ReadAnswer.{ReadAnswer}
use Rattle.phr.proofs.HeaderLaws.{no_test_past_kind, passed_before}
use Rattle.phr.proofs.ReadCases.{sound_within, values_of_length, too_many_values, file_too_short, file_too_long, no_room_for_values, room_for_values, unrefused_counted, header_wrong, header_sound}
use Rattle.phr.proofs.ValueCases.{value_outside}
use Rattle.phr.proofs.WriteCases.{too_many_to_write, no_room_for_file, room_for_file, unrefused_room, no_such_kind, kind_passes}
use Rattle.acceptance.specs.Grounds
use Rattle.acceptance.specs.Grounds.{NoRow, Grounded, First, None, TooMany, FarValue, Right, FirstVersion, WrongByte, Wrong, OfHeader, OfFile, OfWriting}
use Rattle.acceptance.proofs.Grounding.{Decided, Stands, Agrees, decide, decide_last, decide_after, stands_first, stands_later, grounded_answer}
use Rattle.acceptance.proofs.RecordGrounds.{first_is, first_there}

-- ---- what a kind allows

pub too_many_above : (kind count : ℕ) → TooMany kind count → (kind ≤ 1) × (most_values kind < count)
unfolding most_values
too_many_above kind count (inl (phase, h)) = rw phase (omega arith, h)
too_many_above kind count (inr (frequency, h)) = rw frequency (omega arith, h)

pub above_too_many : (kind count : ℕ) → kind ≤ 1 → most_values kind < count → TooMany kind count
unfolding most_values
above_too_many zero count known h = inl (refl, h)
above_too_many (suc zero) count known h = inr (refl, h)
above_too_many (suc (suc kind)) count known h = absurd (omega arith)

pub few_enough : (kind count : ℕ) → kind ≤ 1 → (TooMany kind count → ⊥) → count ≤ most_values kind
few_enough kind count known few = let never : most_values kind < count → ⊥ = λ h. few (above_too_many kind count known h) in omega arith

far_fails : (kind : ℕ) (z : ℤ) → FarValue kind z → value_in_range kind z ≡ false
unfolding value_in_range
far_fails kind z (inl (phase, h)) = rw phase (lt-leb (nat_abs z) (2 ^ 40) h)
far_fails kind z (inr (frequency, h)) = rw frequency (lt-leb (nat_abs z) (2 ^ 41) h)

fails_far : (kind : ℕ) (z : ℤ) → kind ≤ 1 → value_in_range kind z ≡ false → FarValue kind z
unfolding value_in_range
fails_far zero z known e = inl (refl, leb-false (nat_abs z) (2 ^ 40) e)
fails_far (suc zero) z known e = inr (refl, leb-false (nat_abs z) (2 ^ 41) e)
fails_far (suc (suc kind)) z known e = absurd (omega arith)

-- ---- the first value that is far: of n values, each known by its entry

module _ (kind : ℕ) (values : List ℤ) (n : ℕ) (entry : ℕ → ℤ) (known : kind ≤ 1) (whole : length values ≡ n)
    (same : (k : ℕ) → k < n → at values k ≡ entry k) where
  abbrev Far : ℕ → Type 0
  Far k = FarValue kind (entry k)

  abbrev found : ℕ
  found = first_failing (value_in_range kind) values

  far_entry_fails : (k : ℕ) → k < n → Far k → value_in_range kind (at values k) ≡ false
  far_entry_fails k inside far = rw (same k inside) (far_fails kind (entry k) far)

  entry_fails_far : (k : ℕ) → k < n → value_in_range kind (at values k) ≡ false → Far k
  entry_fails_far k inside e = fails_far kind (entry k) known (rw (same k inside) at e)

  pub values_stand : {i : ℕ} → First n Far i → Stands 3 i (values_refusal kind values)
  values_stand first =
      let is = first_is (value_in_range kind) (pos 0) values whole entry_fails_far far_entry_fails first in
      (λ e. omega arith, value_outside kind values (omega (arith, first.inside)) ∙ ap (refused 3) is)

  pub values_decided : {Row : ℕ → ℕ → Type 0} → ((i : ℕ) → First n Far i → Row 3 i) → Decided Row (values_refusal kind values)
  unfolding values_refusal
  values_decided row =
      decide_last _ 3 _ (omega arith)
      (λ t. row found (first_there (value_in_range kind) (pos 0) values whole entry_fails_far far_entry_fails (ap (ltb found) (sym whole) ∙ t)))

-- ---- the first eight bytes, for a reader that knows some versions

-- where the search ends among the bytes and the tests, a byte fails its test
fails_where_it_ends : (tests : List (ℕ → Bool)) (bytes : List ℕ) → sound_up_to tests bytes < length tests → sound_up_to tests bytes < length bytes →
    get_or tests (sound_up_to tests bytes) (λ _. true) (get_or bytes (sound_up_to tests bytes) 0) ≡ false
unfolding sound_up_to
fails_where_it_ends [] bytes tested inside = absurd (omega arith)
fails_where_it_ends (test ∷ tests) [] tested inside = absurd (omega arith)
fails_where_it_ends (test ∷ tests) (b ∷ bytes) tested inside = step (test b) refl (sound_up_to tests bytes) (fails_where_it_ends tests bytes) tested inside
  where
    step : (passes : Bool) → test b ≡ passes → (i : ℕ) → (i < length tests → i < length bytes → get_or tests i (λ _. true) (get_or bytes i 0) ≡ false) →
        cond passes (suc i) 0 < suc (length tests) → cond passes (suc i) 0 < suc (length bytes) →
        get_or (test ∷ tests) (cond passes (suc i) 0) (λ _. true) (get_or (b ∷ bytes) (cond passes (suc i) 0) 0) ≡ false
    step true e i tail tested inside = tail (omega arith) (omega arith)
    step false e i tail tested inside = e

module _ (known : ℕ → Bool) (Known : ℕ → Type 0) (knows : (b : ℕ) → known b ≡ true → Known b) (known-there : (b : ℕ) → Known b → known b ≡ true) where
  -- a byte is right where it passes its test
  passes_right : (k b : ℕ) → get_or (tests_of known) k (λ _. true) b ≡ true → Right Known k b
  unfolding tests_of
  passes_right k b t = (
    λ e. eqb-true b 0x50 (rw e at t),
    λ e. eqb-true b 0x48 (rw e at t),
    λ e. eqb-true b 0x52 (rw e at t),
    λ e. knows b (rw e at t),
    λ e. eqb-true b 0 (rw e at t),
    λ e. leb-true b 1 (rw e at t),
  )

  right_passes : (k b : ℕ) → Right Known k b → get_or (tests_of known) k (λ _. true) b ≡ true
  unfolding tests_of
  right_passes zero b right = eq-eqb b 0x50 (right.0 refl)
  right_passes (suc zero) b right = eq-eqb b 0x48 (right.1 refl)
  right_passes (suc (suc zero)) b right = eq-eqb b 0x52 (right.2 refl)
  right_passes (suc (suc (suc zero))) b right = known-there b (right.3 refl)
  right_passes (suc (suc (suc (suc zero)))) b right = eq-eqb b 0 (right.4 refl)
  right_passes (suc (suc (suc (suc (suc zero))))) b right = le-leb b 1 (right.5 refl)
  right_passes (suc (suc (suc (suc (suc (suc k)))))) b right = no_test_past_kind known (suc (suc (suc (suc (suc (suc k)))))) b (omega arith)

  module _ (bytes : List ℕ) where
    -- the place where the search ends
    abbrev end : ℕ
    end = sound_up_to (tests_of known) bytes

    abbrev Bad : ℕ → Type 0
    Bad = WrongByte Known bytes

    right_before : (k : ℕ) → k < end → Bad k → ⊥
    right_before k earlier wrong = wrong (passes_right k _ (passed_before (tests_of known) bytes k earlier))

    right_past_kind : (k : ℕ) → 6 ≤ k → Bad k → ⊥
    right_past_kind k past wrong = wrong (passes_right k _ (no_test_past_kind known k _ past))

    wrong_at_end : end < 8 → end < length bytes → Bad end
    unfolding tests_of
    wrong_at_end tested inside right = true≢false (sym (right_passes end _ right) ∙ fails_where_it_ends (tests_of known) bytes tested inside)

    -- eight sound bytes
    pub none_wrong : 8 ≤ end → None (length bytes) Bad
    none_wrong sound k inside wrong = right_past_kind k (let later : k < end → ⊥ = λ h. right_before k h wrong in omega arith) wrong

    pub kind_known : 8 ≤ end → kind_of bytes ≤ 1
    unfolding kind_of
    kind_known sound = (passes_right 5 _ (passed_before (tests_of known) bytes 5 (omega arith))).5 refl

    pub eight_sound : None (length bytes) Bad → 8 ≤ length bytes → 8 ≤ end
    eight_sound right present = let never : end < 8 → ⊥ = λ h. right end (omega arith) (wrong_at_end h (omega arith)) in omega arith

    -- the first wrong byte, or too few bytes, is where the search ends
    pub first_wrong : {i : ℕ} → First (length bytes) Bad i → (end < 8) × (end ≡ i)
    first_wrong {i} first =
        let near : 6 ≤ i → ⊥ = λ h. right_past_kind i h first.bad in
        let not_after : i < end → ⊥ = λ h. right_before i h first.bad in
        let not_before : end < i → ⊥ = λ h. first.before end h (wrong_at_end (omega arith) (omega (arith, first.inside))) in
        omega arith

    pub too_few_bytes : None (length bytes) Bad → length bytes < 8 → (end < 8) × (end ≡ length bytes)
    too_few_bytes right brief =
        let never : end < length bytes → ⊥ = λ h. right end h (wrong_at_end (omega arith) h) in
        omega (arith, sound_within (tests_of known) bytes)

    -- and where it ends early, one of the two is there
    pub unsound_row : (Row : ℕ → ℕ → Type 0) → ((i : ℕ) → First (length bytes) Bad i → Row 9 i) →
        (None (length bytes) Bad → length bytes < 8 → Row 9 (length bytes)) → end < 8 → Row 9 end
    unsound_row Row wrong short unsound = by_length (ltb end (length bytes)) refl
      where
        by_length : (inside : Bool) → ltb end (length bytes) ≡ inside → Row 9 end
        by_length true t = let inside = ltb-true end (length bytes) t in wrong end (record { inside = inside; bad = wrong_at_end unsound inside; before = right_before })
        by_length false t =
            let whole : end ≡ length bytes = omega (arith, ltb-false end (length bytes) t, sound_within (tests_of known) bytes) in
            rw whole (short (λ k h. right_before k (omega arith)) (omega arith))

-- ---- 2, 9, 6: the count, after a header of so many bytes

module _ (head : ℕ) (bytes : List ℕ) (room : ℕ) (known : kind_of bytes ≤ 1) where
  -- the length that the count asks for
  abbrev asked : ℕ
  asked = head + 8 * count_of bytes

  pub few_values : (TooMany (kind_of bytes) (count_of bytes) → ⊥) → count_of bytes ≤ most_values (kind_of bytes)
  few_values = few_enough (kind_of bytes) (count_of bytes) known

  pub count_decided : {Row : ℕ → ℕ → Type 0} → (TooMany (kind_of bytes) (count_of bytes) → Row 2 0) →
      ((TooMany (kind_of bytes) (count_of bytes) → ⊥) → (length bytes < asked → Row 9 (length bytes)) × (asked < length bytes → Row 9 asked)
      × (length bytes ≡ asked → room < count_of bytes → Row 6 0)) →
      Decided Row (count_refusal head bytes room)
  unfolding count_refusal
  count_decided {Row} many after =
      decide _ 2 0 (omega arith) (λ t. many (above_too_many (kind_of bytes) (count_of bytes) known (ltb-true _ _ t))) _
      (λ f. let most = ltb-false (most_values (kind_of bytes)) (count_of bytes) f in
      let few : TooMany (kind_of bytes) (count_of bytes) → ⊥ = λ too_many. omega (arith, too_many_above (kind_of bytes) (count_of bytes) too_many) in
      decide _ 9 _ (omega arith) (λ t. wrong_length (after few) (eqb-false (length bytes) asked (not-true _ t))) _
      (λ g. decide_last _ 6 0 (omega arith) (λ t. (after few).2 (eqb-true (length bytes) asked (not-false _ g)) (ltb-true room (count_of bytes) t))))
    where
      wrong_length : (length bytes < asked → Row 9 (length bytes)) × (asked < length bytes → Row 9 asked) × (length bytes ≡ asked → room < count_of bytes → Row 6 0) →
          (length bytes ≡ asked → ⊥) → Row 9 (min (length bytes) asked)
      wrong_length rows wrong = by_length (ltb (length bytes) asked) refl
        where
          by_length : (short : Bool) → ltb (length bytes) asked ≡ short → Row 9 (min (length bytes) asked)
          by_length true t =
              let short = ltb-true (length bytes) asked t in
              let least : min (length bytes) asked ≡ length bytes = min-eq_left (omega arith) in
              rw least (rows.0 short)
          by_length false t =
              let long = ltb-false (length bytes) asked t in
              let least : min (length bytes) asked ≡ asked = min-eq_right (omega arith) in
              rw least (rows.1 (omega arith))

  -- the values, each by its entry
  pub record_entry : (k : ℕ) → k < count_of bytes → at (values_from head (count_of bytes) bytes) k ≡ value_at bytes (head + 8 * k)
  record_entry k inside = tabulate_entry (count_of bytes) (λ i. value_at bytes (head + 8 * i)) (pos 0) k inside

-- ---- reading version 1: 9, 2, 9, 6, 3

module _ (bytes : List ℕ) (room : ℕ) where
  abbrev first_known : ℕ → Bool
  first_known b = eqb b 1

  abbrev Row : ℕ → ℕ → Type 0
  Row = OfFile bytes room

  -- a header that is sound
  module _ (sound : 8 ≤ sound_up_to header_tests bytes) where
    known_kind : kind_of bytes ≤ 1
    unfolding header_tests
    known_kind = kind_known first_known FirstVersion (λ b. eqb-true b 1) (λ b. eq-eqb b 1) bytes sound

    none_bad : None (length bytes) (Wrong bytes room)
    unfolding header_tests
    none_bad = none_wrong first_known FirstVersion (λ b. eqb-true b 1) (λ b. eq-eqb b 1) bytes sound

    present : 8 ≤ length bytes
    present = omega (arith, sound_within header_tests bytes)

    sound_rowless : (TooMany (kind_of bytes) (count_of bytes) → ⊥) → NoRow (OfHeader bytes room)
    sound_rowless few n p (Grounds.wrong first) = none_bad p first.inside first.bad
    sound_rowless few n p (Grounds.short right brief) = omega (arith, present)
    sound_rowless few n p (Grounds.many right there many) = few many

  unsound : sound_up_to header_tests bytes < 8 → OfHeader bytes room 9 (sound_up_to header_tests bytes)
  unfolding header_tests
  unsound = unsound_row first_known FirstVersion (λ b. eqb-true b 1) (λ b. eq-eqb b 1) bytes (OfHeader bytes room) (λ i. Grounds.wrong) Grounds.short

  sound_there : None (length bytes) (Wrong bytes room) → 8 ≤ length bytes → 8 ≤ sound_up_to header_tests bytes
  unfolding header_tests
  sound_there = eight_sound first_known FirstVersion (λ b. eqb-true b 1) (λ b. eq-eqb b 1) bytes

  rowless_sound : NoRow (OfHeader bytes room) → 8 ≤ sound_up_to header_tests bytes
  rowless_sound rowless = let never : sound_up_to header_tests bytes < 8 → ⊥ = λ h. rowless 9 _ (unsound h) in omega arith

  rowless_few : (rowless : NoRow (OfHeader bytes room)) → count_of bytes ≤ most_values (kind_of bytes)
  rowless_few rowless =
      let sound = rowless_sound rowless in
      few_values 8 bytes room (known_kind sound) (λ many. rowless 2 0 (Grounds.many (none_bad sound) (present sound) many))

  after_header : (sound : 8 ≤ sound_up_to header_tests bytes) {n p : ℕ} → Stands n p (count_refusal 8 bytes room then values_refusal (kind_of bytes) (values_of bytes)) →
      Stands n p (read_refusal bytes room)
  after_header sound stands = (stands.0, header_sound bytes room sound ∙ stands.1)

  header_stands : {n p : ℕ} → OfHeader bytes room n p → Stands n p (read_refusal bytes room)
  unfolding header_tests
  header_stands (Grounds.wrong first) =
      let there = first_wrong first_known FirstVersion (λ b. eqb-true b 1) (λ b. eq-eqb b 1) bytes first in
      (λ e. omega arith, header_wrong bytes room there.0 ∙ ap (refused 9) there.1)
  header_stands (Grounds.short right brief) =
      let there = too_few_bytes first_known FirstVersion (λ b. eqb-true b 1) (λ b. eq-eqb b 1) bytes right brief in
      (λ e. omega arith, header_wrong bytes room there.0 ∙ ap (refused 9) there.1)
  header_stands (Grounds.many right there many) =
      after_header (sound_there right there) (stands_first _ _ (λ e. omega arith, too_many_values 8 bytes room (too_many_above _ _ many).1))

  reading_stands : {n p : ℕ} → OfFile bytes room n p → Stands n p (read_refusal bytes room)
  unfolding values_of
  reading_stands (Grounds.header row) = header_stands row
  reading_stands (Grounds.too_short rowless h) =
      after_header (rowless_sound rowless) (stands_first _ _ (λ e. omega arith, file_too_short 8 bytes room (rowless_few rowless) h))
  reading_stands (Grounds.too_long rowless h) =
      after_header (rowless_sound rowless) (stands_first _ _ (λ e. omega arith, file_too_long 8 bytes room (rowless_few rowless) h))
  reading_stands (Grounds.no_room rowless whole h) =
      after_header (rowless_sound rowless) (stands_first _ _ (λ e. omega arith, no_room_for_values 8 bytes room (rowless_few rowless) whole h))
  reading_stands (Grounds.range rowless whole enough first) =
      let sound = rowless_sound rowless in
      let known = known_kind sound in
      after_header sound
      (stands_later _ _ (room_for_values 8 bytes room (rowless_few rowless) whole enough)
      (values_stand (kind_of bytes) (values_of bytes) (count_of bytes) (λ k. value_at bytes (8 + 8 * k)) known (values_of_length bytes) (record_entry 8 bytes room known) first))

  reading_decided : Decided (OfFile bytes room) (read_refusal bytes room)
  unfolding read_refusal values_of
  reading_decided =
      decide _ 9 _ (omega arith) (λ t. Grounds.header (unsound (ltb-true _ 8 t))) _
      (λ f. let sound = ltb-false (sound_up_to header_tests bytes) 8 f in
      let known = known_kind sound in
      decide_after _ _
      (count_decided 8 bytes room known (λ many. Grounds.header (Grounds.many (none_bad sound) (present sound) many))
      (λ few. let rowless = sound_rowless sound few in (Grounds.too_short rowless, Grounds.too_long rowless, Grounds.no_room rowless)))
      (λ clear. let counted = unrefused_counted 8 bytes room (ap (λ (r : Refusal). r.number) clear) in
      let few : TooMany (kind_of bytes) (count_of bytes) → ⊥ = λ many. omega (arith, too_many_above (kind_of bytes) (count_of bytes) many, counted.few) in
      values_decided (kind_of bytes) (values_of bytes) (count_of bytes) (λ k. value_at bytes (8 + 8 * k)) known (values_of_length bytes) (record_entry 8 bytes room known)
      (λ i first. Grounds.range (sound_rowless sound few) counted.whole counted.enough first)))

  pub reading_agrees : Agrees (OfFile bytes room) (read_refusal bytes room)
  reading_agrees = record { stands = reading_stands; decided = reading_decided }

  pub reading_grounded : Grounded (OfFile bytes room) (read_answer bytes room).number (read_answer bytes room).place
  unfolding read_answer
  reading_grounded = grounded_answer reading_agrees (λ (a : ReadAnswer). a.number) (λ a. a.place) _ _ (refl, refl) (refl, refl)

-- ---- 2, 6: so many values to write, after a header of so many bytes

pub room_decided : (head kind count room : ℕ) → kind ≤ 1 → {Row : ℕ → ℕ → Type 0} → (TooMany kind count → Row 2 0) →
    ((TooMany kind count → ⊥) → room < head + 8 * count → Row 6 0) → Decided Row (room_refusal head kind count room)
unfolding room_refusal
room_decided head kind count room known many cramped =
    decide _ 2 0 (omega arith) (λ t. many (above_too_many kind count known (ltb-true _ _ t))) _
    (λ f. let most = ltb-false (most_values kind) count f in
    decide_last _ 6 0 (omega arith) (λ t. cramped (λ too_many. omega (arith, too_many_above kind count too_many)) (ltb-true room _ t)))

-- ---- writing version 1: 9, 2, 6, 3

module _ (kind : ℕ) (values : List ℤ) (room : ℕ) where
  after_kind : kind ≤ 1 → {n p : ℕ} → Stands n p (room_refusal 8 kind (length values) room then values_refusal kind values) → Stands n p (write_refusal kind values room)
  after_kind known stands = (stands.0, kind_passes kind values room known ∙ stands.1)

  writing_stands : {n p : ℕ} → OfWriting kind values room n p → Stands n p (write_refusal kind values room)
  writing_stands (Grounds.no_kind h) = (λ e. omega arith, no_such_kind kind values room h)
  writing_stands (Grounds.many many) =
      let above = too_many_above kind (length values) many in
      after_kind above.0 (stands_first _ _ (λ e. omega arith, too_many_to_write 8 kind (length values) room above.1))
  writing_stands (Grounds.no_room known few h) =
      after_kind known (stands_first _ _ (λ e. omega arith, no_room_for_file 8 kind (length values) room (few_enough kind _ known few) h))
  writing_stands (Grounds.range known few enough first) =
      after_kind known
      (stands_later _ _ (room_for_file 8 kind (length values) room (few_enough kind _ known few) enough)
      (values_stand kind values (length values) (at values) known refl (λ k h. refl) first))

  writing_decided : Decided (OfWriting kind values room) (write_refusal kind values room)
  unfolding write_refusal
  writing_decided =
      decide _ 9 5 (omega arith) (λ t. Grounds.no_kind (leb-false kind 1 (not-true _ t))) _
      (λ f. let known = leb-true kind 1 (not-false _ f) in
      decide_after _ _ (room_decided 8 kind (length values) room known Grounds.many (Grounds.no_room known))
      (λ clear. let fits = unrefused_room 8 kind (length values) room (ap (λ (r : Refusal). r.number) clear) in
      let few : TooMany kind (length values) → ⊥ = λ many. omega (arith, too_many_above kind (length values) many, fits.0) in
      values_decided kind values (length values) (at values) known refl (λ k h. refl) (λ i first. Grounds.range known few fits.1 first)))

  pub writing_agrees : Agrees (OfWriting kind values room) (write_refusal kind values room)
  writing_agrees = record { stands = writing_stands; decided = writing_decided }
