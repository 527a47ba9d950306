-- What stands behind a header has no say in it: the same 16 bytes or more with others behind them have the same header, refused alike.
use Rattle.std.proofs.Common.{◌≡◌, ℕ, suc, ◌+◌, ◌*◌, ◌<◌, ◌≤◌, Bool, cond, List, [], ◌∷◌, ◌++◌, length, get_or, refl, ap, ap₂, arith, length-append, le-ltb}
use lib.ListN.{get_or-append}
use Rattle.phr.specs.Reading.{sound_up_to, kind_of, count_of, tests_of, either_tests, version_of, head_length, start_of, header_refusal, counted_header_refusal}
use Rattle.phr.proofs.ReadCases.{head_length_bounded}
use Rattle.phr.proofs.ValueLaws.{value_in_front}

sound_stays : (tests : List (ℕ → Bool)) (bytes rest : List ℕ) → length tests ≤ length bytes → sound_up_to tests (bytes ++ rest) ≡ sound_up_to tests bytes
unfolding sound_up_to
sound_stays [] bytes rest h = refl
sound_stays (test ∷ tests) [] rest h = absurd (omega arith)
sound_stays (test ∷ tests) (b ∷ bytes) rest h = ap (λ (n : ℕ). cond (test b) (suc n) 0) (sound_stays tests bytes rest (omega arith))

module _ (bytes rest : List ℕ) (long : 16 ≤ length bytes) where
  entry_stays : (i : ℕ) → i < length bytes → get_or (bytes ++ rest) i 0 ≡ get_or bytes i 0
  entry_stays i h = get_or-append bytes rest 0 i h

  pub kind_stays : kind_of (bytes ++ rest) ≡ kind_of bytes
  unfolding kind_of
  kind_stays = entry_stays 5 (omega arith)

  pub count_stays : count_of (bytes ++ rest) ≡ count_of bytes
  unfolding count_of
  count_stays = ap₂ (λ (a b : ℕ). a + 256 * b) (entry_stays 6 (omega arith)) (entry_stays 7 (omega arith))

  pub version_stays : version_of (bytes ++ rest) ≡ version_of bytes
  unfolding version_of
  version_stays = entry_stays 3 (omega arith)

  pub head_stays : head_length (bytes ++ rest) ≡ head_length bytes
  unfolding head_length
  head_stays = rw version_stays

  pub start_stays : start_of (bytes ++ rest) ≡ start_of bytes
  unfolding start_of
  start_stays = rw (version_stays, ← (value_in_front bytes rest 8 (omega arith)))

  pub plain_header_stays : header_refusal (bytes ++ rest) ≡ header_refusal bytes
  unfolding header_refusal either_tests tests_of
  plain_header_stays =
      let head = head_length_bounded bytes in
      let there = le-ltb (length bytes) (head_length bytes) (omega arith) in
      let there-too = le-ltb (length (bytes ++ rest)) (head_length bytes) (omega (arith, length-append bytes rest)) in
      rw (sound_stays either_tests bytes rest (omega arith), head_stays, there, there-too, kind_stays, start_stays)

  -- with its count
  pub header_stays : counted_header_refusal (bytes ++ rest) ≡ counted_header_refusal bytes
  unfolding counted_header_refusal
  header_stays = rw (plain_header_stays, kind_stays, count_stays)
