-- A wide number times a word, in three words.
use Rattle.std.proofs.Common.{◌≡◌, ℕ, ◌+◌, ◌*◌, ◌/◌, ◌%◌, ◌^◌, ◌<◌, ap, ◌∙◌, ap₂}
use Rattle.laws.proofs.Halves.{two_digits_times, upper_digits_below}
use Rattle.wide.specs.Wide.{value, halves, wide_sum}
use Rattle.wide.specs.declared.Wide.{Wide}
use Rattle.wide.proofs.WideLaws.{value_of_halves, value_of_sum}

module _ (a p q carry upper : Wide) (y : ℕ) (a-high : a.hi < 2 ^ 64) (a-low : a.lo < 2 ^ 64) (times : y < 2 ^ 64) where
  pub three_words_of_product :
      p ≡ halves (a.hi * y) → q ≡ halves (a.lo * y) → carry ≡ halves q.hi → upper ≡ wide_sum p carry →
      value upper * 2 ^ 64 + q.lo ≡ value a * y
  three_words_of_product p-is q-is carry-is upper_is =
      let high : q.hi ≡ a.lo * y / 2 ^ 64 = ap (λ (w : Wide). w.hi) q-is in
      let low : q.lo ≡ a.lo * y % 2 ^ 64 = ap (λ (w : Wide). w.lo) q-is in
      let carried : value carry ≡ q.hi = ap value carry-is ∙ value_of_halves q.hi in
      let parts : value p + value carry ≡ a.hi * y + a.lo * y / 2 ^ 64 = ap₂ ◌+◌ (ap value p-is ∙ value_of_halves (a.hi * y)) (carried ∙ high) in
      let below : value p + value carry < 2 ^ 128 = rw parts (upper_digits_below (2 ^ 64) a.hi a.lo y a-high a-low times) in
      ap (λ (t : ℕ). value upper * 2 ^ 64 + t) low
      ∙ two_digits_times (2 ^ 64) a.hi a.lo y (value upper) (ap value upper_is ∙ value_of_sum p carry below ∙ parts)
