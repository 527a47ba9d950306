-- Two's complement is what the machine reads and writes, so that a signed number of 64 bits and its word give each other back.
use Rattle.std.proofs.Common.{◌≡◌, ℕ, suc, ◌-◌, ◌^◌, ◌<◌, Bool, true, false, cond, ltb, ℤ, pos, negsuc, refl, ap, arith, to_z-of_z, w64, SFits, to_z, of_z}
use lib.Signed.{mag}
use mir.Val.{sel}
use mir.Facts.{Fits-of_z, of_z-to_z}
use Rattle.phr.specs.Bytes.{twos_complement, signed}

-- ---- two's complement, as the machine reads and writes it

pub twos_complement_is : (z : ℤ) → twos_complement z ≡ of_z w64 z
unfolding twos_complement
twos_complement_is (pos n) = refl
twos_complement_is (negsuc n) = refl

pub signed_is : (n : ℕ) → signed n ≡ to_z w64 n
unfolding signed
signed_is n =
    let same : 2 ^ 64 - 1 - n ≡ 2 ^ 64 - suc n = omega arith in
    by_top_bit (ltb n (2 ^ 63)) same
  where
    by_top_bit : (low : Bool) {m : ℕ} → 2 ^ 64 - 1 - n ≡ m → cond low (pos n) (negsuc (2 ^ 64 - 1 - n)) ≡ sel low (pos n) (negsuc m)
    by_top_bit true e = refl
    by_top_bit false e = ap negsuc e

pub twos_complement_below : (z : ℤ) → SFits w64 z → twos_complement z < 2 ^ 64
twos_complement_below z f = rw twos_complement_is (Fits-of_z f).fits

pub twos_complement_back : (z : ℤ) → SFits w64 z → signed (twos_complement z) ≡ z
twos_complement_back z f = rw (twos_complement_is, signed_is) (to_z-of_z f)

pub signed_back : (n : ℕ) → n < 2 ^ 64 → twos_complement (signed n) ≡ n
signed_back n h = rw (twos_complement_is, signed_is) (of_z-to_z {w = w64} (record { fits = h }))

-- ---- a value that the machine loads is the value

pub loaded_value : (z : ℤ) → mag z < 2 ^ 63 → to_z w64 (of_z w64 z) ≡ z
loaded_value z h = to_z-of_z {w = w64} (record { sfits = h })
