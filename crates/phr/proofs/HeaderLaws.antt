-- The first eight bytes: the tests of each place, the search for the first that fails, and the bytes as they are stored.
use Rattle.std.proofs.Common.{◌≡◌, ℕ, min, inl, inr, zero, suc, ◌+◌, ◌/◌, ◌%◌, ◌<◌, ◌≤◌, Bool, true, false, cond, ◌||◌, eqb, List, [], ◌∷◌, ◌++◌, length, get_or, drop, ℤ, refl, ap, ◌∙◌, add-one, arith, drop_of_length-le, drop-cons}
use Rattle.std.proofs.lemmas.Bool.{cases_lt}
use Rattle.laws.specs.Lists.{written}
use Rattle.laws.proofs.Tests.{choice_true, choice_false}
use Rattle.phr.specs.Bytes.{low_first, twos_complement, values_bytes}
use Rattle.phr.specs.File.{first_eight, header, file_of, header_from, file_from}
use Rattle.phr.specs.Reading.{tests_of, header_tests, sound_up_to}
use Rattle.phr.proofs.ByteLaws.{written_from, written_from_next}

-- ---- the test of each place

-- past the kind no byte is wrong
pub no_test_past_kind : (known : ℕ → Bool) (place b : ℕ) → 6 ≤ place → get_or (tests_of known) place (λ _. true) b ≡ true
unfolding tests_of
no_test_past_kind known zero b h = absurd (omega arith)
no_test_past_kind known (suc zero) b h = absurd (omega arith)
no_test_past_kind known (suc (suc zero)) b h = absurd (omega arith)
no_test_past_kind known (suc (suc (suc zero))) b h = absurd (omega arith)
no_test_past_kind known (suc (suc (suc (suc zero)))) b h = absurd (omega arith)
no_test_past_kind known (suc (suc (suc (suc (suc zero))))) b h = absurd (omega arith)
no_test_past_kind known (suc (suc (suc (suc (suc (suc zero)))))) b h = refl
no_test_past_kind known (suc (suc (suc (suc (suc (suc (suc zero))))))) b h = refl
no_test_past_kind known (suc (suc (suc (suc (suc (suc (suc (suc place)))))))) b h = refl

-- the tests of a reader that knows version 1 and the newest
abbrev pub tests_up_to : ℕ → List (ℕ → Bool)
tests_up_to newest = tests_of (λ b. eqb b 1 || eqb b newest)

-- where 1 is the newest, it is the one that is known
pub one_version : tests_up_to 1 ≡ header_tests
unfolding header_tests
one_version = ap tests_of (λ i b. twice (eqb b 1) i)
  where
    twice : (is : Bool) → (is || is) ≡ is
    twice true = refl
    twice false = refl

-- ---- the first byte that fails its test

sound_of_none : (tests : List (ℕ → Bool)) → sound_up_to tests [] ≡ 0
unfolding sound_up_to
sound_of_none [] = refl
sound_of_none (test ∷ tests) = refl

-- the search stands at a place and has found nothing so far
module _ (tests : List (ℕ → Bool)) (bytes : List ℕ) (place : ℕ) (so_far : sound_up_to tests bytes ≡ place + sound_up_to (drop place tests) (drop place bytes)) where
  module _ (tested : place < length tests) (inside : place < length bytes) where
    rest : sound_up_to (drop place tests) (drop place bytes)
        ≡ cond (get_or tests place (λ _. true) (get_or bytes place 0)) (suc (sound_up_to (drop (suc place) tests) (drop (suc place) bytes))) 0
    unfolding sound_up_to
    rest = rw (drop-cons tests place (λ _. true) tested, drop-cons bytes place 0 inside)

    pub tests_go_on : get_or tests place (λ _. true) (get_or bytes place 0) ≡ true →
        sound_up_to tests bytes ≡ place + 1 + sound_up_to (drop (place + 1) tests) (drop (place + 1) bytes)
    tests_go_on e = rw add-one (omega (arith, so_far, rest ∙ choice_true _ _ e))

    pub wrong_here : get_or tests place (λ _. true) (get_or bytes place 0) ≡ false → sound_up_to tests bytes ≡ place
    wrong_here e = omega (arith, so_far, rest ∙ choice_false _ _ e)

  pub bytes_end : length bytes ≤ place → sound_up_to tests bytes ≡ place
  bytes_end h = let none : sound_up_to (drop place tests) (drop place bytes) ≡ 0 = rw (drop_of_length-le bytes h) (sound_of_none (drop place tests)) in omega (arith, so_far)

  pub tests_end : length tests ≤ place → sound_up_to tests bytes ≡ place
  unfolding sound_up_to
  tests_end h = let none : sound_up_to (drop place tests) (drop place bytes) ≡ 0 = rw (drop_of_length-le tests h) in omega (arith, so_far)

-- the search stands where the bytes or the tests end
pub sound_ends : (tests : List (ℕ → Bool)) (bytes : List ℕ) → let place = min (length bytes) (length tests) in
    sound_up_to tests bytes ≡ place + sound_up_to (drop place tests) (drop place bytes) → sound_up_to tests bytes ≡ place
sound_ends tests bytes so_far =
    elim (cases_lt (length bytes) (length tests)) [
      | inl short ↦ bytes_end tests bytes (min (length bytes) (length tests)) so_far (omega arith)
      | inr long ↦ tests_end tests bytes (min (length bytes) (length tests)) so_far (omega arith)
    ]

pub passed_before : (tests : List (ℕ → Bool)) (bytes : List ℕ) (i : ℕ) → i < sound_up_to tests bytes → get_or tests i (λ _. true) (get_or bytes i 0) ≡ true
unfolding sound_up_to
passed_before [] bytes i h = refl
passed_before (test ∷ tests) [] i h = absurd (omega arith)
passed_before (test ∷ tests) (b ∷ bytes) i h = step i (test b) refl (passed_before tests bytes) h
  where
    step : (i : ℕ) (passes : Bool) → test b ≡ passes → ((k : ℕ) → k < sound_up_to tests bytes → get_or tests k (λ _. true) (get_or bytes k 0) ≡ true) →
        i < cond passes (suc (sound_up_to tests bytes)) 0 → get_or (test ∷ tests) i (λ _. true) (get_or (b ∷ bytes) i 0) ≡ true
    step i false e tail h = absurd (omega arith)
    step zero true e tail h = e
    step (suc i) true e tail h = tail i (omega arith)

-- ---- the first eight bytes as they are stored

pub first_eight_stored : (version kind count : ℕ) (buffer : List ℕ) → version < 256 → {eight : List ℕ} →
    eight ≡ 80 ∷ 72 ∷ 82 ∷ version ∷ 0 ∷ kind ∷ count % 256 ∷ count / 256 % 256 ∷ [] → eight ++ drop 8 buffer ≡ written (first_eight version kind count) buffer
unfolding first_eight low_first
first_eight_stored version kind count buffer v e =
    let low : version % 256 ≡ version = omega arith in
    let high : version / 256 % 256 ≡ 0 = omega arith in
    rw (e, low, high)

-- ---- a file as it is stored

-- the header, and the values' bytes where it ends, are the file
pub file_written : (kind : ℕ) (values : List ℤ) (buffer : List ℕ) → 8 ≤ length buffer → {first left : List ℕ} →
    first ≡ written (first_eight 1 kind (length values)) buffer → left ≡ written_from 8 (values_bytes values) first → left ≡ written (file_of kind values) buffer
unfolding first_eight low_first header file_of
file_written kind values buffer room e f = f ∙ rw e (written_from_next 0 (first_eight 1 kind (length values)) buffer room (values_bytes values))

-- in version 2 the start stands between
pub file_from_written : (kind : ℕ) (start : ℤ) (values : List ℤ) (buffer : List ℕ) → 16 ≤ length buffer → {handed : ℤ} {first second left : List ℕ} →
    handed ≡ start → first ≡ written (first_eight 2 kind (length values)) buffer → second ≡ written_from 8 (low_first 8 (twos_complement handed)) first →
    left ≡ written_from 16 (values_bytes values) second → left ≡ written (file_from kind start values) buffer
unfolding first_eight low_first header_from file_from
file_from_written kind start values buffer room {second = second} h e f g =
    let eight = first_eight 2 kind (length values) in
    let phase = low_first 8 (twos_complement start) in
    let whole : second ≡ written_from 0 (eight ++ phase) buffer = f ∙ rw (h, e) (written_from_next 0 eight buffer (omega arith) phase) in
    g ∙ rw whole (written_from_next 0 (eight ++ phase) buffer room (values_bytes values))
