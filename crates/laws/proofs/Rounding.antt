-- A fraction a / d to the nearest whole number, on a tie to the even one: its three cases, how one test decides, what it means, and that one number is
-- meant.
use mathlib.Core.Path.{◌≡◌, refl, ap, ◌∙◌, subst}
use mathlib.Core.Bool.{Bool, true, false, not}
use Prim.Native.Nat.{ℕ, zero, suc, ◌+◌, ◌-◌, ◌*◌, ◌/◌, ◌%◌, ◌≤◌, ◌<◌, compare, Ordering}
use native.Mathlib.Nat.{mod-lt, mul-pos, mul-le-mul_right, div-add-mod'}
use native.Mathlib.Decide.{dec_le}
use native.Mathlib.Omega.{arith}
use lib.Arith.{lt_of_le-ne}
use lib.Dec.{T, is_le, compare_is_eq, eqb, leb→le, nleb→lt, eqb→eq, eqb_refl}
use lib.IntN.{ℤ, pos, negsuc, neg_ℤ, nat_abs, ◌-ℤ◌, ◌*ℤ◌}
use lib.Ieee.{nearest}
use lib.Ieee.Nearest.{closest}
use Rattle.laws.specs.Nearest.{with_sign, distance, NearestTo}
use Rattle.laws.proofs.Parts.{plus, minus, +ℤ_parts, neg_ℤ_parts, size_is, one_part, neg_ℤ_size}

-- ---- the three cases: twice the rest is below the divisor, equal to it, or above it

pub closest_by : (a d : ℕ) (P : ℕ → Type 0) → (a % d * 2 < d → P (a / d)) → (a % d * 2 ≡ d → P (a / d + a / d % 2)) → (d < a % d * 2 → P (suc (a / d))) →
    P (closest a d)
closest_by a d P below tie above =
    by_order (compare (a % d * 2) d) (leb→le (a % d * 2) d) (nleb→lt (a % d * 2) d) (eqb→eq (a % d * 2) d)
    (λ e. subst (λ (x : ℕ). T (eqb (a % d * 2) x)) e (eqb_refl (a % d * 2)))
  where
    by_order : (o : Ordering) → (T (is_le o) → a % d * 2 ≤ d) → (T (not (is_le o)) → d < a % d * 2) → (T (compare_is_eq o) → a % d * 2 ≡ d) →
        (a % d * 2 ≡ d → T (compare_is_eq o)) → P (nearest (a / d) o)
    by_order Ordering.lt le lt eq same = below (lt_of_le-ne (le tt) same)
    by_order Ordering.eq le lt eq same = tie (eq tt)
    by_order Ordering.gt le lt eq same = above (lt tt)

-- a fraction without a rest is its own quotient
pub closest_whole : (a d : ℕ) → 0 < d → a % d ≡ 0 → closest a d * d ≡ a
closest_whole a d some none =
    let split : a / d * d + a % d ≡ a = div-add-mod' a d in
    closest_by a d (λ n. n * d ≡ a) (λ below. omega arith) (λ tie. absurd (omega arith)) (λ above. absurd (omega arith))

-- ---- by one test: the rest and the half of the divisor, scaled alike by u; a half passes where the whole part is odd

module _ (a d half u : ℕ) (twice : d ≡ 2 * half) (whole : 0 < half) (some : 0 < u) where
  pub closest_above : half * u - a / d % 2 < a % d * u → a / d + 1 ≡ closest a d
  closest_above test =
      closest_by a d (λ n. a / d + 1 ≡ n)
      (λ below. let less : a % d + 1 ≤ half = omega arith in absurd (omega (arith, mul-le-mul_right u less)))
      (λ tie. let same : a % d ≡ half = omega arith in omega (arith, ap (λ (t : ℕ). t * u) same))
      (λ above. omega arith)

  pub closest_not_above : a % d * u ≤ half * u - a / d % 2 → a / d ≡ closest a d
  closest_not_above test =
      closest_by a d (λ n. a / d ≡ n)
      (λ below. refl)
      (λ tie. let same : a % d ≡ half = omega arith in omega (arith, ap (λ (t : ℕ). t * u) same, mul-pos whole some))
      (λ above. let more : half + 1 ≤ a % d = omega arith in absurd (omega (arith, mul-le-mul_right u more)))

-- ---- what it means, of numbers without a sign: twice the distance from n * d is at most d, and n is even where it is exactly d

-- the distance of two numbers, whichever is greater
abbrev pub apart : ℕ → ℕ → ℕ
apart x y = (x - y) + (y - x)

module _ (a d : ℕ) (some : 0 < d) where
  rest_under : a % d < d
  rest_under = mod-lt a some

  pub closest_near : (2 * apart (closest a d * d) a ≤ d) × (2 * apart (closest a d * d) a ≡ d → closest a d % 2 ≡ 0)
  closest_near =
      let split : a / d * d + a % d ≡ a = div-add-mod' a d in
      closest_by a d (λ n. (2 * apart (n * d) a ≤ d) × (2 * apart (n * d) a ≡ d → n % 2 ≡ 0))
      (λ below. (omega arith, λ exact. absurd (omega arith)))
      (λ tie. tied tie (a / d % 2) refl (omega arith) split)
      (λ above. (omega (arith, rest_under), λ exact. absurd (omega (arith, rest_under))))
    where
      tied : a % d * 2 ≡ d → (odd : ℕ) → a / d % 2 ≡ odd → odd < 2 → a / d * d + a % d ≡ a →
          (2 * apart ((a / d + odd) * d) a ≤ d) × (2 * apart ((a / d + odd) * d) a ≡ d → (a / d + odd) % 2 ≡ 0)
      tied tie zero even h split = (omega arith, λ exact. omega arith)
      tied tie (suc zero) odd h split = (omega arith, λ exact. omega arith)
      tied tie (suc (suc k)) none h split = absurd (omega arith)

  -- one number is meant
  pub near_is_closest : (n : ℕ) → 2 * apart (n * d) a ≤ d → (2 * apart (n * d) a ≡ d → n % 2 ≡ 0) → n ≡ closest a d
  near_is_closest n near even =
      let split : a / d * d + a % d ≡ a = div-add-mod' a d in
      elim (dec_le n (a / d)) [
        | yes under ↦ not_above_lem (a / d - n) (omega arith) split
        | no over ↦ above (n - suc (a / d)) (omega arith) split
      ]
    where
      not_above_lem : (less : ℕ) → n + less ≡ a / d → a / d * d + a % d ≡ a → n ≡ closest a d
      not_above_lem zero gap split =
          let whole : (n + 0) * d ≡ a / d * d = ap (λ (t : ℕ). t * d) gap in
          closest_by a d (λ c. n ≡ c) (λ below. omega arith) (λ tie. omega (arith, even (omega arith))) (λ more. absurd (omega arith))
      not_above_lem (suc less) gap split = let whole : (n + suc less) * d ≡ a / d * d = ap (λ (t : ℕ). t * d) gap in absurd (omega arith)

      above : (more : ℕ) → n ≡ suc (a / d) + more → a / d * d + a % d ≡ a → n ≡ closest a d
      above zero gap split =
          let whole : n * d ≡ (suc (a / d) + 0) * d = ap (λ (t : ℕ). t * d) gap in
          closest_by a d (λ c. n ≡ c) (λ below. absurd (omega arith)) (λ tie. omega (arith, even (omega (arith, rest_under)))) (λ half. omega arith)
      above (suc more) gap split =
          let whole : n * d ≡ (suc (a / d) + suc more) * d = ap (λ (t : ℕ). t * d) gap in
          absurd (omega (arith, rest_under))

-- ---- the same of signed numbers

difference_size : (z w : ℤ) → nat_abs (z -ℤ w) ≡ apart (plus z + minus w) (minus z + plus w)
difference_size z w = omega (arith, +ℤ_parts z (neg_ℤ w), neg_ℤ_parts w, size_is (z -ℤ w), one_part (z -ℤ w))

pub with_sign_size : (s : Bool) (n : ℕ) → nat_abs (with_sign s n) ≡ n
with_sign_size false n = refl
with_sign_size true n = neg_ℤ_size (pos n)

-- of one sign, two numbers are as far apart as their sizes; of two, as far as their sizes together
like_distance : (s : Bool) (n d a : ℕ) → distance s a d (with_sign s n) ≡ apart (n * d) a
like_distance false n d a = difference_size (pos n *ℤ pos d) (pos a) ∙ omega arith
like_distance true zero d a = difference_size (pos 0 *ℤ pos d) (neg_ℤ (pos a)) ∙ omega (arith, neg_ℤ_parts (pos a))
like_distance true (suc n) d a = difference_size (negsuc n *ℤ pos d) (neg_ℤ (pos a)) ∙ omega (arith, neg_ℤ_parts (pos a), neg_ℤ_parts (pos (suc n * d)))

unlike_distance : (n d a : ℕ) → (distance false a d (negsuc n) ≡ suc n * d + a) × (distance true a d (pos n) ≡ n * d + a)
unlike_distance n d a = (
  difference_size (negsuc n *ℤ pos d) (pos a) ∙ omega (arith, neg_ℤ_parts (pos (suc n * d))),
  difference_size (pos n *ℤ pos d) (neg_ℤ (pos a)) ∙ omega (arith, neg_ℤ_parts (pos a)),
)

module _ (s : Bool) (a d : ℕ) where
  pub closest_is_nearest : 0 < d → NearestTo s a d (with_sign s (closest a d))
  closest_is_nearest some =
      let apart-is = like_distance s (closest a d) d a in
      let near = closest_near a d some in record {
        some = some;
        near = omega (arith, apart-is, near.0);
        tie = λ exact. ap (λ (n : ℕ). n % 2) (with_sign_size s (closest a d)) ∙ near.1 (omega (arith, apart-is));
      }

-- one number is nearest
pub nearest_is_closest : (s : Bool) (a d : ℕ) (z : ℤ) → NearestTo s a d z → z ≡ with_sign s (closest a d)
nearest_is_closest false a d (pos n) z =
    let apart-is = like_distance false n d a in
    ap pos (near_is_closest a d z.some n (omega (arith, apart-is, z.near)) (λ exact. z.tie (omega (arith, apart-is))))
nearest_is_closest false a d (negsuc n) z = absurd (omega (arith, (unlike_distance n d a).0, z.near, z.some))
nearest_is_closest true a d (negsuc n) z =
    let apart-is = like_distance true (suc n) d a in
    ap (λ (k : ℕ). neg_ℤ (pos k)) (near_is_closest a d z.some (suc n) (omega (arith, apart-is, z.near)) (λ exact. z.tie (omega (arith, apart-is))))
nearest_is_closest true a d (pos zero) z =
    let apart-is = (unlike_distance 0 d a).1 in
    ap (λ (k : ℕ). neg_ℤ (pos k)) (near_is_closest a d z.some 0 (omega (arith, apart-is, z.near)) (λ exact. refl))
nearest_is_closest true a d (pos (suc n)) z = absurd (omega (arith, (unlike_distance (suc n) d a).1, z.near, z.some))
